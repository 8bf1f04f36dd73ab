-- A signed number read as a natural one: what the tests on its sign say, and what the conversion that fails below 0 gives.
use Rattle.std.specs.Prelude.{◌≡◌, refl, ℕ, Result, Ok, Err, ℤ, pos, negsuc, FitsSigned}
use Rattle.std.proofs.Common.{ap, arith, w64}
use Rattle.std.specs.Result.{OkIff, result_unwrap_or}
use Rattle.std.specs.Int.{FitsUnsignedBits}
use Rattle.std.proofs.lemmas.Result.{Ok-from_Ok_iff, OkIff-at_ok}
use lib.IntN.{nat_abs}
use Rattle.sheets.specs.Entries.{natural_of}
use mathlib.Core.Bool.{true, false}
use borrow.Author.Tests.{ltb-true}
use lib.Signed.{lt_z}

-- a number below zero is one that fits nowhere, and any other is its own size
pub below_zero : (z : ℤ) → lt_z z (pos 0) ≡ true → 18446744073709551615 ≡ natural_of z
unfolding natural_of
below_zero (pos n) h = absurd (let l = ltb-true n 0 h in omega arith)
below_zero (negsuc n) h = refl

pub not_below_natural_of : (z : ℤ) → lt_z z (pos 0) ≡ false → nat_abs z ≡ natural_of z
unfolding natural_of
not_below_natural_of (pos n) h = refl
not_below_natural_of (negsuc n) h = absurd (let l : ◌≡◌ {A = ℕ} 0 1 = cc in omega arith)

pub converted : {E : Type 0} (z : ℤ) (r : Result ℕ E) → FitsSigned w64 z → OkIff r (FitsUnsignedBits 64 z) (nat_abs z)
    → result_unwrap_or r 18446744073709551615 ≡ natural_of z
unfolding natural_of
converted {E = E} (pos n) r f h = ap (λ q. result_unwrap_or q 18446744073709551615) (Ok-from_Ok_iff r _ _ h (omega arith))
converted {E = E} (negsuc n) (Ok x) f h =
    absurd (OkIff-at_ok {E = E} (Ok x) (FitsUnsignedBits 64 (negsuc n)) (nat_abs (negsuc n)) x h refl).0
converted {E = E} (negsuc n) (Err e) f h = refl
