-- The cost of a rule and the room counts, over the predicates that a book keeps. Assumes nothing: these are definitions.
use Rattle.std.specs.Prelude.{List, ℕ}
use Rattle.predicates.specs.Predicate.{Predicate, predicate_cost, list_length}
use Rattle.predicates.proofs.Deciding.{predicate?}
use Rattle.ast.specs.Trees.{Flat}
use Rattle.ast.specs.Parts.{cost}
use Rattle.ast.specs.Room.{Counts, counts_of}

abbrev pub rule_cost : Flat Predicate → ℕ
rule_cost = cost predicate_cost

abbrev pub room_of : List (Flat Predicate) → Counts
room_of = counts_of predicate? list_length
