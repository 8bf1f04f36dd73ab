-- Multiplying by a positive number keeps the order, so two decimals compare as their numbers do once the lesser scale is brought
-- to the greater one.
-- Assumes nothing.
use mathlib.Core.Path.{◌≡◌, refl, sym, ap, ◌∙◌}
use Prim.Native.Nat.{ℕ, zero, suc, ◌+◌, ◌*◌, ◌-◌, ◌^◌, ◌<◌, ◌≤◌}
use native.Mathlib.Nat.{mul_assoc, mul-lt-mul_of_pos_right, one-le-pow}
use native.Mathlib.Omega.{arith}
use lib.IntN.{ℤ, pos, negsuc, neg_ℤ, nat_abs, ◌*ℤ◌}
use lib.Pow.{pow-add}
use Rattle.decimals.specs.declared.Decimal.{Decimal}
use Rattle.std.specs.declared.cmp.Ordering.TheVariants.{Less}
use Rattle.std.specs.Ordering.{nat_cmp, int_cmp, ordering_reverse}
use Rattle.decimals.specs.Decimals.{scale_limit, units, compare_of}
use Rattle.std.proofs.lemmas.Cmp.{int_cmp_total}
use Rattle.decimals.proofs.OrderLaws.{order_n_alike, order_pos, order_neg, order_below, order_above}

pub ten_pos : (k : ℕ) → 0 < 10 ^ k
ten_pos k = one-le-pow k 10 (omega arith)

-- a number below zero, multiplied
pub neg_times : (k c : ℕ) → neg_ℤ (pos k) *ℤ pos c ≡ neg_ℤ (pos (k * c))
neg_times zero c = zeros (0 * c) (omega arith)
  where
    zeros : (m : ℕ) → m ≡ 0 → pos m ≡ neg_ℤ (pos m)
    zeros m e = rw e
neg_times (suc k) c = refl

pub times_times : (a : ℤ) (c e : ℕ) → a *ℤ pos c *ℤ pos e ≡ a *ℤ pos (c * e)
times_times (pos n) c e = ap pos (mul_assoc n c e)
times_times (negsuc n) c e = neg_times (suc n * c) e ∙ ap (λ (k : ℕ). neg_ℤ (pos k)) (mul_assoc (suc n) c e)

pub times_abs : (a : ℤ) (c : ℕ) → nat_abs (a *ℤ pos c) ≡ nat_abs a * c
times_abs (pos n) c = refl
times_abs (negsuc n) c = whole (suc n * c)
  where
    whole : (k : ℕ) → nat_abs (neg_ℤ (pos k)) ≡ k
    whole zero = refl
    whole (suc k) = refl

-- below zero it stays so
pub times_below : (n c b : ℕ) → 0 < c → int_cmp (negsuc n *ℤ pos c) (pos b) ≡ Less
times_below n c b h = go (suc n * c) (let e : suc n * c ≡ n * c + c = omega arith in omega arith)
  where
    go : (k : ℕ) → 0 < k → int_cmp (neg_ℤ (pos k)) (pos b) ≡ Less
    go zero p = absurd (omega arith)
    go (suc k) p = order_below k b

-- a positive factor keeps the order
module _ (c : ℕ) (h : 0 < c) where
  times_n : (a b : ℕ) → nat_cmp (a * c) (b * c) ≡ nat_cmp a b
  times_n a b =
      sym (order_n_alike a b (a * c) (b * c) (λ l. mul-lt-mul_of_pos_right l h) (λ g. mul-lt-mul_of_pos_right g h) (λ e. rw e))

  pub times_order : (a b : ℤ) → int_cmp (a *ℤ pos c) (b *ℤ pos c) ≡ int_cmp a b
  times_order (pos a) (pos b) = order_pos (a * c) (b * c) ∙ times_n a b ∙ sym (order_pos a b)
  times_order (pos a) (negsuc b) =
      (int_cmp_total).antisymm (pos (a * c)) (negsuc b *ℤ pos c) ∙ ap ordering_reverse (times_below b c (a * c) h) ∙ sym (order_above a b)
  times_order (negsuc a) (pos b) = times_below a c (b * c) h ∙ sym (order_below a b)
  times_order (negsuc a) (negsuc b) =
      order_neg (suc a * c) (suc b * c) ∙ times_n (suc b) (suc a) ∙ sym (order_neg (suc a) (suc b))

-- two decimals of one scale
pub same_scale : (d e : Decimal) → d.scale ≡ e.scale → int_cmp d.number e.number ≡ compare_of d e
unfolding compare_of units
same_scale d e s = rw s (sym (times_order (10 ^ (scale_limit - e.scale)) (ten_pos (scale_limit - e.scale)) d.number e.number))

-- two decimals, the second of the greater scale
pub lesser_scale : (d e : Decimal) → d.scale ≤ e.scale → e.scale ≤ scale_limit
    → int_cmp (d.number *ℤ pos (10 ^ (e.scale - d.scale))) e.number ≡ compare_of d e
unfolding compare_of units
lesser_scale d e h k =
    sym (times_order c (ten_pos (scale_limit - e.scale)) (d.number *ℤ pos (10 ^ (e.scale - d.scale))) e.number)
    ∙ ap (λ (z : ℤ). int_cmp z (e.number *ℤ pos c)) (times_times d.number (10 ^ (e.scale - d.scale)) c ∙ whole)
  where
    c : ℕ
    c = 10 ^ (scale_limit - e.scale)

    whole : d.number *ℤ pos (10 ^ (e.scale - d.scale) * c) ≡ d.number *ℤ pos (10 ^ (scale_limit - d.scale))
    whole =
        let s : scale_limit - d.scale ≡ (e.scale - d.scale) + (scale_limit - e.scale) = omega arith in
        rw (s, pow-add 10 (e.scale - d.scale) (scale_limit - e.scale))

-- and the first
pub greater_scale : (d e : Decimal) → e.scale ≤ d.scale → d.scale ≤ scale_limit
    → ordering_reverse (int_cmp (e.number *ℤ pos (10 ^ (d.scale - e.scale))) d.number) ≡ compare_of d e
unfolding compare_of
greater_scale d e h k = ap ordering_reverse (lesser_scale e d h k) ∙ sym ((int_cmp_total).antisymm (units d) (units e))
