-- Which tree the entries of a sheet spell. A leaf of the tree is the number of its entry. Assumes nothing: these are definitions.
use Rattle.std.specs.Prelude.{◌≡◌, cond, List, ℕ, ◌+◌, eqb, ℤ}
use Rattle.evaluation.specs.declared.Operator.TheVariants.{And, Or}
use Rattle.ast.specs.Trees.{Tree, Join, Not, Value}
use Rattle.sheets.specs.declared.Shape.{Shape}
use Rattle.sheets.specs.declared.Shape.TheVariants.{Joins, Negates, Stands}
use Rattle.sheets.specs.Entries.{kind_of}

-- And = 1, Or = 2, Not = 3
unfoldable pub shape_of : ℕ → Shape
shape_of kind = cond (eqb kind 1) (Joins And) (cond (eqb kind 2) (Joins Or) (cond (eqb kind 3) Negates Stands))

-- the entries from number i up to j, in prefix order, are the tree t
unfoldable pub Spells : ℕ → List ℤ → Tree ℕ → ℕ → ℕ → Type 0
Spells first s (Value p) i j = (p ≡ i) × (j ≡ i + 1) × (shape_of (kind_of first s i) ≡ Stands)
Spells first s (Not a) i j = (shape_of (kind_of first s i) ≡ Negates) × Spells first s a (i + 1) j
Spells first s (Join o a b) i j =
    (m : ℕ) × (shape_of (kind_of first s i) ≡ Joins o) × Spells first s a (i + 1) m × Spells first s b m j
