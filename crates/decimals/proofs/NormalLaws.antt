-- The normal form has the decimal's value, and two decimals have the same one exactly when their values are equal: so equality by
-- value is equality of fields.
-- Assumes nothing.
use mathlib.Core.Path.{◌≡◌, refl, sym, ap, ap₂, ◌∙◌}
use mathlib.Core.Bool.{true, false}
use mathlib.Core.Logic.{◌↔◌}
use Prim.Native.Nat.{ℕ, zero, suc, ◌*◌, ◌-◌, ◌%◌, ◌^◌, ◌<◌, ◌≤◌}
use native.Mathlib.Nat.{mul_assoc, pow-suc, mul-mod_left}
use native.Mathlib.Omega.{arith}
use borrow.Author.Tests.{eq-eqb, ne_eqb}
use lib.IntN.{ℤ, pos, nat_abs, ◌*ℤ◌}
use Rattle.decimals.specs.declared.Decimal.{Decimal}
use Rattle.std.specs.declared.cmp.Ordering.TheVariants.{Equal}
use Rattle.std.specs.Ordering.{int_cmp}
use Rattle.decimals.specs.Decimals.{scale_limit, units, compare_of}
use Rattle.decimals.specs.Normal.{ends_in_zero, shortened, normal_of, Normal, is_normal}
use Rattle.decimals.proofs.OrderLaws.{one_of_three, order_equal_iff}
use Rattle.decimals.proofs.ScaleLaws.{times_abs, same_scale, lesser_scale}
use Rattle.decimals.proofs.ShorteningLaws.{decimal, normal_stop, shortened_is}

-- two decimals compare as equal exactly when their values are
pub compare_equal_iff : (d e : Decimal) → (compare_of d e ≡ Equal) ↔ (units d ≡ units e)
unfolding compare_of
compare_equal_iff d e = order_equal_iff (units d) (units e)

-- the normal form: its scale, its value, and that it is one
module _ (d : Decimal) where
  pub normal_scale : (normal_of d).scale ≤ d.scale
  unfolding normal_of
  normal_scale = (shortened_is d.number d.scale).within

  pub normal_units : d.scale ≤ scale_limit → units (normal_of d) ≡ units d
  unfolding normal_of
  normal_units = (shortened_is d.number d.scale).value

  pub normal_is_normal : is_normal (normal_of d) ≡ true
  unfolding normal_of
  normal_is_normal = (shortened_is d.number d.scale).bare

-- the test decides it
pub is_normal_iff : (d : Decimal) → (is_normal d ≡ true) ↔ Normal d
is_normal_iff d = (normal_stop d, λ e. rw e at (normal_is_normal d))

pub normal_idempotent : (d : Decimal) → Normal (normal_of d)
normal_idempotent d = (is_normal_iff (normal_of d)).0 (normal_is_normal d)

-- 0 has scale 0
pub zero_normal : (y : ℕ) → normal_of (decimal (pos 0) y) ≡ decimal (pos 0) 0
unfolding normal_of shortened
zero_normal zero = refl
zero_normal (suc y) = zero_normal y

-- a normal decimal has the value of none of a lesser scale: that would leave it a zero to take off
zeros : (x : ℤ) (k : ℕ) → 0 < k → ends_in_zero (x *ℤ pos (10 ^ k)) ≡ true
zeros x zero h = absurd (omega arith)
zeros x (suc k) h = eq-eqb _ 0 ten
  where
    ten : nat_abs (x *ℤ pos (10 ^ suc k)) % 10 ≡ 0
    ten = rw (times_abs x (10 ^ suc k), pow-suc 10 k, ← mul_assoc (nat_abs x) (10 ^ k) 10) (mul-mod_left (nat_abs x * 10 ^ k) 10)

apart : (d e : Decimal) → d.scale < e.scale → e.scale ≤ scale_limit → is_normal e ≡ true → units d ≡ units e → ⊥
unfolding is_normal
apart d e l h t u =
    let raised : d.number *ℤ pos (10 ^ (e.scale - d.scale)) ≡ e.number
    = (order_equal_iff _ _).0 (lesser_scale d e (omega arith) h ∙ (compare_equal_iff d e).1 u) in
    let z : ends_in_zero e.number ≡ true = rw raised at (zeros d.number (e.scale - d.scale) (omega arith)) in
    let f : false ≡ true = rw (ne_eqb e.scale 0 (λ s. omega arith), z) at t in
    absurd (cc)

unique : (d e : Decimal) → d.scale ≤ scale_limit → e.scale ≤ scale_limit → is_normal d ≡ true → is_normal e ≡ true
    → units d ≡ units e → d ≡ e
unique d e hd he nd ne u =
    one_of_three d.scale e.scale
    (λ l. absurd (apart d e l he ne u))
    (λ g. absurd (apart e d g hd nd (sym u)))
    (λ s. ap₂ decimal ((order_equal_iff d.number e.number).0 (same_scale d e s ∙ (compare_equal_iff d e).1 u)) s)

-- equal by value, equal by fields
module _ (d e : Decimal) (hd : d.scale ≤ scale_limit) (he : e.scale ≤ scale_limit) where
  pub same_value_same_normal : units d ≡ units e → normal_of d ≡ normal_of e
  same_value_same_normal u =
      unique (normal_of d) (normal_of e)
      (omega (arith, normal_scale d)) (omega (arith, normal_scale e)) (normal_is_normal d) (normal_is_normal e)
      (normal_units d hd ∙ u ∙ sym (normal_units e he))

  pub same_normal_same_value : normal_of d ≡ normal_of e → units d ≡ units e
  same_normal_same_value n = sym (normal_units d hd) ∙ ap units n ∙ normal_units e he

-- a normal form compares as the decimal does
pub compare_normal_right : (d e : Decimal) → e.scale ≤ scale_limit → compare_of d (normal_of e) ≡ compare_of d e
unfolding compare_of
compare_normal_right d e h = ap (int_cmp (units d)) (normal_units e h)

pub compare_normal : (d e : Decimal) → d.scale ≤ scale_limit → e.scale ≤ scale_limit
    → compare_of (normal_of d) (normal_of e) ≡ compare_of d e
unfolding compare_of
compare_normal d e hd he = ap₂ int_cmp (normal_units d hd) (normal_units e he)
