-- What a decimal is worth, and how two compare. The value x over 10 to the y is counted in units of 10 to the −28, the finest
-- step that a scale allows, and so is an integer.
-- Assumes nothing.
use Rattle.std.specs.Prelude.{ℕ, ◌-◌, ◌^◌, ℤ, pos, ◌*ℤ◌}
use Rattle.decimals.specs.declared.Decimal.{Decimal}
use Rattle.std.specs.declared.cmp.Ordering.{Ordering}
use Rattle.std.specs.Ordering.{int_cmp}

-- scales are 0 to 28
abbrev pub scale_limit : ℕ
scale_limit = 28

-- x · 10^(28 − y)
unfoldable pub units : Decimal → ℤ
units d = d.number *ℤ pos (10 ^ (scale_limit - d.scale))

unfoldable pub compare_of : Decimal → Decimal → Ordering
compare_of left right = int_cmp (units left) (units right)
