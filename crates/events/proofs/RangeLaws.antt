-- What the library's test of a range from 0 tells, as `is_up_to` has it.
-- Assumes nothing.
use Rattle.std.proofs.Common.{◌≡◌, ℤ, pos, negsuc, Bool, false, cond, ◌&&◌, ap₂, ◌∙◌, arith}
use Rattle.std.specs.Int.Signed.{le_z}
use Rattle.std.specs.Ordering.{int_cmp, is_le, is_lt}
use Rattle.std.proofs.lemmas.Bool.Decides.{nat_tests}
use Rattle.attributes.proofs.RangeLaws.{both}
use Rattle.events.specs.Values.{is_up_to}

at_most : (x y : ℤ) → is_le (int_cmp x y) ≡ le_z x y
at_most (pos m) (pos n) = grind (arith, nat_tests)
at_most (pos m) (negsuc n) = grind (arith, nat_tests)
at_most (negsuc m) (pos n) = grind (arith, nat_tests)
at_most (negsuc m) (negsuc n) = grind (arith, nat_tests)

-- `(0..=limit).contains(&x)`, of a range from a to b that no loop has gone through
pub contained : (x limit a b : ℤ) (spent r : Bool) → a ≡ pos 0 → b ≡ limit → spent ≡ false
    → r ≡ is_le (int_cmp a x) && cond spent (is_lt (int_cmp x b)) (is_le (int_cmp x b)) → r ≡ is_up_to x limit
unfolding is_up_to
contained x limit a b spent r d e f h =
    let g : r ≡ is_le (int_cmp (pos 0) x) && is_le (int_cmp x limit) = rw (d, e, f) at h in
    g ∙ ap₂ ◌&&◌ (at_most (pos 0) x) (at_most x limit) ∙ both (le_z (pos 0) x) (le_z x limit)
