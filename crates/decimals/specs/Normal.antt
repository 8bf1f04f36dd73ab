-- The normal form of a decimal: as long as it has a scale and its number ends in 0, that zero goes and the scale falls by one.
-- The value stays; zero itself ends with scale 0.
-- Assumes nothing.
use Rattle.std.specs.Prelude.{◌≡◌, Bool, cond, not, ◌||◌, ℕ, zero, suc, ◌%◌, eqb, ℤ, pos, nat_abs}
use Rattle.std.specs.Int.Signed.{quot_z}
use Rattle.decimals.specs.declared.Decimal.{Decimal}

-- the last digit is 0
abbrev pub ends_in_zero : ℤ → Bool
ends_in_zero x = eqb (nat_abs x % 10) 0

-- x with scale y, shortened; the division leaves no remainder where it is made
unfoldable pub shortened : ℤ → ℕ → Decimal
shortened x zero = record { number = x; scale = 0 }
shortened x (suc y) = cond (ends_in_zero x) (shortened (quot_z x (pos 10)) y) (record { number = x; scale = suc y })

unfoldable pub normal_of : Decimal → Decimal
normal_of d = shortened d.number d.scale

-- what a stored decimal satisfies
abbrev pub Normal : Decimal → Type 0
Normal d = normal_of d ≡ d

-- the test of it: nothing is left to take off
unfoldable pub is_normal : Decimal → Bool
is_normal d = eqb d.scale 0 || not (ends_in_zero d.number)
