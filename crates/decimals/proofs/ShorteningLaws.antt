-- Trailing zeros taken off one by one: a step, where there is none left, and what all of them keep.
-- Assumes nothing.
use mathlib.Core.Path.{◌≡◌, refl, ap, ◌∙◌}
use mathlib.Core.Bool.{Bool, true, false, cond}
use Prim.Native.Nat.{ℕ, zero, suc, ◌+◌, ◌*◌, ◌-◌, ◌/◌, ◌%◌, ◌^◌, ◌<◌, ◌≤◌}
use native.Mathlib.Nat.{pow-succ', div-add-mod'}
use native.Mathlib.Omega.{arith}
use borrow.Author.Tests.{eqb-true, not-true, not-false}
use lib.Dec.{eqb-suc-zero}
use lib.IntN.{ℤ, pos, negsuc, neg_ℤ, ◌*ℤ◌}
use lib.Signed.{quot_z}
use Rattle.decimals.specs.declared.Decimal.{Decimal}
use Rattle.decimals.specs.Decimals.{scale_limit, units}
use Rattle.decimals.specs.Normal.{ends_in_zero, shortened, normal_of, is_normal}
use Rattle.decimals.proofs.ScaleLaws.{neg_times, times_times}

-- the decimal of a number and a scale
abbrev pub decimal : ℤ → ℕ → Decimal
decimal x y = record { number = x; scale = y }

-- by the test: there is nothing to take off, or there is
module _ (d : Decimal) where
  pub normal_stop : is_normal d ≡ true → normal_of d ≡ d
  unfolding normal_of shortened is_normal
  normal_stop = go d.number d.scale
    where
      go : (x : ℤ) (y : ℕ) → is_normal (decimal x y) ≡ true → shortened x y ≡ decimal x y
      go x zero e = refl
      go x (suc y) e = rw (not-true (ends_in_zero x) (rw (eqb-suc-zero y) at e))

  pub normal_step : is_normal d ≡ false → (0 < d.scale) × (normal_of d ≡ normal_of (decimal (quot_z d.number (pos 10)) (d.scale - 1)))
  unfolding normal_of shortened is_normal
  normal_step = go d.number d.scale
    where
      go : (x : ℤ) (y : ℕ) → is_normal (decimal x y) ≡ false → (0 < y) × (shortened x y ≡ shortened (quot_z x (pos 10)) (y - 1))
      go x zero e = absurd (cc)
      go x (suc y) e =
          let s : suc y - 1 ≡ y = omega arith in
          (omega arith, rw (not-false (ends_in_zero x) (rw (eqb-suc-zero y) at e), s))

-- a zero taken off keeps the value
tenth : (n : ℕ) → n % 10 ≡ 0 → n / 10 * 10 ≡ n
tenth n e = let d : n / 10 * 10 + n % 10 ≡ n = div-add-mod' n 10 in omega arith

exact : (x : ℤ) → ends_in_zero x ≡ true → quot_z x (pos 10) *ℤ pos 10 ≡ x
exact (pos n) e = ap pos (tenth n (eqb-true (n % 10) 0 e))
exact (negsuc n) e = neg_times (suc n / 10) 10 ∙ ap (λ (k : ℕ). neg_ℤ (pos k)) (tenth (suc n) (eqb-true (suc n % 10) 0 e))

step_units : (x : ℤ) (y : ℕ) → ends_in_zero x ≡ true → suc y ≤ scale_limit
    → units (decimal (quot_z x (pos 10)) y) ≡ units (decimal x (suc y))
unfolding units
step_units x y e h =
    let s : scale_limit - y ≡ suc (scale_limit - suc y) = omega arith in
    rw (s, pow-succ' 10 (scale_limit - suc y), ← times_times (quot_z x (pos 10)) 10 (10 ^ (scale_limit - suc y)), exact x e)

-- what all steps together come to
pub record Shortened (x : ℤ) (y : ℕ) (d : Decimal) : Type 0 where
  pub within : d.scale ≤ y
  pub bare : is_normal d ≡ true
  pub value : y ≤ scale_limit → units d ≡ units (decimal x y)

pub shortened_is : (x : ℤ) (y : ℕ) → Shortened x y (shortened x y)
unfolding shortened is_normal
shortened_is x zero = record { within = omega arith; bare = refl; value = λ h. refl }
shortened_is x (suc y) = go (ends_in_zero x) refl (shortened_is (quot_z x (pos 10)) y)
  where
    go : (t : Bool) → ends_in_zero x ≡ t → Shortened (quot_z x (pos 10)) y (shortened (quot_z x (pos 10)) y)
        → Shortened x (suc y) (cond t (shortened (quot_z x (pos 10)) y) (decimal x (suc y)))
    go true e k =
        record {
          within = omega (arith, k.within);
          bare = k.bare;
          value = λ h. k.value (omega arith) ∙ step_units x y e h;
        }
    go false e k = record { within = omega arith; bare = rw (e, eqb-suc-zero y); value = λ h. refl }
