-- The report of demand 2: the ids of the live rules that are true, ascending and once each. `truth` is what a sheet is worth on the event.
-- Laws in `ReportLaws`. Assumes nothing: these are definitions.
use Rattle.std.specs.Prelude.{◌≡◌, ◌↔◌, List, map, ℕ, ◌<◌}
use Rattle.evaluation.specs.declared.Truth.{Truth}
use Rattle.evaluation.specs.declared.Truth.TheVariants.{True}
use Rattle.lists.specs.Places.{Any}
use Rattle.lists.specs.Ascending.{Ascending}
use Rattle.predicates.specs.Predicate.{Predicate}
use Rattle.ast.specs.Trees.{Flat}
use Rattle.model.specs.Parts.{flat_at}
use Rattle.model.specs.Rules.{Rule, moved}
use Rattle.model.specs.Book.{Book}

pub record Report {S : Type 0} (truth : S → Truth) (live : List (Rule S)) (ids : List ℕ) : Type 0 where
  pub ascending : Ascending ◌<◌ ids
  pub exact : (i : ℕ) → Any (λ j. i ≡ j) ids ↔ Any (λ r. (i ≡ r.id) × (truth r.root ≡ True)) live

-- the rules that a book reads as, each a flattened tree under its id
abbrev pub rules_read : Book → List (Rule (Flat Predicate))
rules_read b = map (moved (flat_at b.parts)) b.rules
