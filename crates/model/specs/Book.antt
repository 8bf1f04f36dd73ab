-- The book: its parts, and its live rules, each an id with the number of its root part. The room counts as a book keeps them are sums over
-- its parts. Assumes nothing: these are definitions.
use Rattle.std.specs.Prelude.{List, [], map, ℕ, length}
use Rattle.lists.specs.Places.{sum}
use Rattle.predicates.specs.Predicate.{Predicate}
use Rattle.ast.specs.Trees.{Flat}
use Rattle.ast.specs.Room.{Counts}
use Rattle.model.specs.Parts.{Part, flat_at, part_places, part_elements}
use Rattle.model.specs.Rules.{Rule}

pub record Book : Type 0 where
  pub parts : List Part
  pub rules : List (Rule ℕ)

abbrev pub fresh : Book
fresh = record { parts = []; rules = [] }

-- a rule as a flattened tree, over the parts
abbrev pub tree_of : List Part → Rule ℕ → Flat Predicate
tree_of ps r = flat_at ps r.root

abbrev pub live_trees : Book → List (Flat Predicate)
live_trees b = map (tree_of b.parts) b.rules

-- the four room counts as they are kept
abbrev pub counts_in : Book → Counts
counts_in b = record {
  rules = length b.rules;
  parts = length b.parts;
  places = sum part_places b.parts;
  elements = sum part_elements b.parts;
}
