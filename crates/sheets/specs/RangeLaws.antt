-- What holds of each number from one up to another, put together from its parts. Assumes nothing.
use Rattle.std.proofs.Common.{sym, subst, arith}
use Rattle.std.specs.Prelude.{ℕ, ◌+◌, ◌≤◌, ◌<◌}
use Rattle.std.proofs.Math.Decide.{ℕ_discrete, dec_lt}

-- P from i up to j
abbrev pub Range : (ℕ → Type 0) → ℕ → ℕ → Type 0
Range P i j = (k : ℕ) → i ≤ k → k < j → P k

module _ {P : ℕ → Type 0} where
  -- one number, and those after it
  pub range_more : (i j : ℕ) → P i → Range P (i + 1) j → Range P i j
  range_more i j here later k l u =
      elim (ℕ_discrete k i) [ yes e ↦ subst P (sym e) here | no ne ↦ later k (omega (arith, ne)) u ]

  -- two ranges, one after the other
  pub range_join : (i m j : ℕ) → Range P i m → Range P m j → Range P i j
  range_join i m j front back k l u = elim (dec_lt k m) [ yes v ↦ front k l v | no nv ↦ back k (omega (arith, nv)) u ]

pub range_one : (P : ℕ → Type 0) (i : ℕ) → P i → Range P i (i + 1)
range_one P i here = range_more i (i + 1) here (λ k l u. absurd (omega arith))
