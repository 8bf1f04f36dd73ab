-- The tests that a check of a sheet makes, each with what it tells: the check needs no more to see that the code tests what a definition
-- says. Assumes nothing.
use Rattle.std.specs.Prelude.{◌≡◌, refl, Bool, true, false, ◌⊎◌, ℕ, ◌≤◌}
use Rattle.std.proofs.Common.{arith, inl, inr}
use Rattle.std.proofs.lemmas.Bool.Decides.{nat_tests}
use Rattle.std.proofs.lemmas.Int.{to_z-of_z}
use Rattle.lists.specs.And.{◌and◌}
use Rattle.attributes.specs.Table.{is_between}

pub and_tells : (a b : Bool)
    → ((a and b ≡ true) × (a ≡ true) × (b ≡ true)) ⊎ ((a and b ≡ false) × ((a ≡ false) ⊎ (b ≡ false)))
unfolding ◌and◌
and_tells true true = inl (refl, refl, refl)
and_tells true false = inr (refl, inr refl)
and_tells false b = inr (refl, inl refl)

pub between_tells : (low n high : ℕ)
    → ((is_between low n high ≡ true) × (low ≤ n) × (n ≤ high)) ⊎ ((is_between low n high ≡ false) × (low ≤ n → n ≤ high → ⊥))
unfolding is_between ◌and◌
between_tells low n high = grind (arith, nat_tests)

pub ruleset sheet_tests = (nat_tests, and_tells, between_tells)

-- a signed number as the machine reads it back
pub ruleset signed_tests = (sheet_tests, to_z-of_z)
