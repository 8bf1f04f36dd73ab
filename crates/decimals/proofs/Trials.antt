-- Decimals compared by the definition itself: trial P9.
-- Assumes nothing.
use mathlib.Core.Path.{◌≡◌, refl}
use lib.IntN.{pos, negsuc}
use Rattle.std.specs.declared.cmp.Ordering.TheVariants.{Less, Equal}
use Rattle.decimals.specs.Decimals.{units, compare_of}

-- 85 against 85.00
pub scales_apart_equal : compare_of (record { number = pos 85; scale = 0 }) (record { number = pos 8500; scale = 2 }) ≡ Equal
unfolding compare_of units
scales_apart_equal = refl

-- the finest negative step against zero
pub finest_step_below_zero : compare_of (record { number = negsuc 0; scale = 28 }) (record { number = pos 0; scale = 0 }) ≡ Less
unfolding compare_of units
finest_step_below_zero = refl
