-- Integers and words, as decimals of scale 0, stand as their numbers do.
-- Assumes nothing.
use mathlib.Core.Path.{◌≡◌, refl, sym}
use lib.IntN.{ℤ}
use Rattle.std.specs.Ordering.{int_cmp}
use Rattle.decimals.specs.Decimals.{compare_of}
use Rattle.decimals.proofs.ScaleLaws.{same_scale}
use Rattle.predicates.specs.Meaning.{whole}

pub whole_order : (x y : ℤ) → compare_of (whole x) (whole y) ≡ int_cmp x y
whole_order x y = sym (same_scale (whole x) (whole y) refl)
