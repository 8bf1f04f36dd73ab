-- What the library's test of a range tells, as `is_between` has it.
-- Assumes nothing.
use Rattle.std.proofs.Common.{◌≡◌, ℕ, Bool, true, false, cond, ◌&&◌, leb, refl, ap₂, ◌∙◌, arith}
use Rattle.std.specs.Ordering.{nat_cmp, is_le, is_lt}
use Rattle.std.proofs.lemmas.Bool.Decides.{nat_tests}
use Rattle.lists.specs.And.{◌and◌}
use Rattle.attributes.specs.Table.{is_between}

at_most : (x y : ℕ) → is_le (nat_cmp x y) ≡ leb x y
at_most x y = grind (arith, nat_tests)

pub both : (a b : Bool) → a && b ≡ a and b
unfolding ◌and◌
both true b = refl
both false b = refl

-- `(low..=high).contains(&n)`, of a range from a to b that no loop has gone through
pub contained : (low n high a b : ℕ) (spent r : Bool) → a ≡ low → b ≡ high → spent ≡ false
    → r ≡ is_le (nat_cmp a n) && cond spent (is_lt (nat_cmp n b)) (is_le (nat_cmp n b)) → r ≡ is_between low n high
unfolding is_between
contained low n high a b spent r d e f h =
    let g : r ≡ is_le (nat_cmp low n) && is_le (nat_cmp n high) = rw (d, e, f) at h in
    g ∙ ap₂ ◌&&◌ (at_most low n) (at_most n high) ∙ both (leb low n) (leb n high)
