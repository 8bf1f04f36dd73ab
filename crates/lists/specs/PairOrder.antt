-- The lexicographic order of pairs of numbers: by the first, and of equal firsts by the second. With a cost first and a number second it is
-- the order of children by cost, equal costs by number. Laws in `PairOrderLaws`. Assumes nothing: these are definitions.
use Rattle.std.specs.Prelude.{Bool, ℕ, leb, ltb}
use Rattle.std.proofs.Math.Bool.{cond}
use Rattle.std.proofs.Math.Dec.{eqb}

-- x stands at or before y
unfoldable pub pair_before : ℕ × ℕ → ℕ × ℕ → Bool
pair_before x y = cond (eqb x.0 y.0) (leb x.1 y.1) (ltb x.0 y.0)

-- numbers by what each costs, and of equal costs the smaller first
abbrev pub by_cost : (ℕ → ℕ) → ℕ → ℕ → Bool
by_cost cost x y = pair_before (cost x, x) (cost y, y)
