-- A product compared without being made: a times t stands to b as a stands to the quotient of b by t and, where these are equal,
-- as 0 stands to the remainder.
-- Assumes nothing.
use mathlib.Core.Path.{◌≡◌, refl, sym, ap, ap₂, ◌∙◌}
use Prim.Native.Nat.{ℕ, zero, suc, ◌+◌, ◌*◌, ◌/◌, ◌%◌, ◌^◌, ◌<◌, ◌≤◌}
use native.Mathlib.Nat.{mul-le-mul_right, div-add-mod', div-lt_iff_lt-mul, div-eq_of_lt, mod-eq_of_lt, pow-le-pow_right}
use native.Mathlib.Omega.{arith}
use lib.IntN.{ℤ, pos, negsuc, neg_ℤ, nat_abs, ◌*ℤ◌}
use lib.Signed.{quot_z, rem_z, nat_abs-le}
use mir.Syntax.{w64}
use mir.Val.{SFits}
use Rattle.std.specs.declared.cmp.Ordering.{Ordering}
use Rattle.std.specs.declared.cmp.Ordering.TheVariants.{Less, Equal, Greater}
use Rattle.std.specs.Ordering.{nat_cmp, int_cmp, ordering_reverse, ordering_then}
use Rattle.std.proofs.lemmas.Cmp.{nat_cmp_total}
use Rattle.decimals.proofs.OrderLaws.{
  one_of_three,
  order_n_less,
  order_n_greater,
  order_n_equal,
  order_n_alike,
  order_pos,
  order_neg,
  order_below,
  order_above,
}
use Rattle.decimals.proofs.ScaleLaws.{times_below}

-- natural numbers
divided_n : (t p q : ℕ) → 0 < t → nat_cmp (p * t) q ≡ ordering_then (nat_cmp p (q / t)) (nat_cmp 0 (q % t))
divided_n t p q h =
    let d : q / t * t + q % t ≡ q = div-add-mod' q t in
    one_of_three p (q / t)
    (λ l.
    let m : suc p * t ≤ q / t * t = mul-le-mul_right t l in
    let e : suc p * t ≡ p * t + t = omega arith in
    rw (order_n_less p (q / t) l) (order_n_less (p * t) q (omega arith)))
    (λ g. rw (order_n_greater p (q / t) g) (order_n_greater (p * t) q ((div-lt_iff_lt-mul h).0 g)))
    (λ s.
    let e : p * t ≡ q / t * t = ap (λ (n : ℕ). n * t) s in
    rw (order_n_equal p (q / t) s)
    (order_n_alike (p * t) q 0 (q % t) (λ l. omega arith) (λ g. omega arith) (λ k. omega arith)))

-- two keys, the other way round
then_turned : (o p : Ordering) → ordering_reverse (ordering_then o p) ≡ ordering_then (ordering_reverse o) (ordering_reverse p)
then_turned Less p = refl
then_turned Equal p = refl
then_turned Greater p = refl

-- what is not negative is above what is, by the quotient or else by the remainder
above : (t n m k r : ℕ) → k * t + r ≡ suc n → ordering_then (int_cmp (pos m) (neg_ℤ (pos k))) (int_cmp (pos 0) (neg_ℤ (pos r))) ≡ Greater
above t n m (suc k) r e = refl
above t n (suc m) zero r e = rw (order_pos (suc m) 0, order_n_greater (suc m) 0 (omega arith))
above t n zero zero zero e = absurd (omega arith)
above t n zero zero (suc r) e = refl

-- integers
module _ (t : ℕ) (h : 0 < t) where
  pub divided : (a b : ℤ) → int_cmp (a *ℤ pos t) b ≡ ordering_then (int_cmp a (quot_z b (pos t))) (int_cmp (pos 0) (rem_z b (pos t)))
  divided (pos m) (pos n) =
      order_pos (m * t) n ∙ divided_n t m n h ∙ ap₂ ordering_then (sym (order_pos m (n / t))) (sym (order_pos 0 (n % t)))
  divided (negsuc m) (pos n) = rw (order_below m (n / t)) (times_below m t n h)
  divided (pos m) (negsuc n) =
      order_above (m * t) n ∙ sym (above t n m (suc n / t) (suc n % t) (div-add-mod' (suc n) t))
  divided (negsuc m) (negsuc n) =
      order_neg (suc m * t) (suc n)
      ∙ (nat_cmp_total).antisymm (suc n) (suc m * t)
      ∙ ap ordering_reverse (divided_n t (suc m) (suc n) h)
      ∙ then_turned (nat_cmp (suc m) (suc n / t)) (nat_cmp 0 (suc n % t))
      ∙ ap₂ ordering_then
      (sym ((nat_cmp_total).antisymm (suc n / t) (suc m)) ∙ sym (order_neg (suc m) (suc n / t)))
      (sym ((nat_cmp_total).antisymm (suc n % t) 0) ∙ sym (order_neg 0 (suc n % t)))

-- where b is less than t, the quotient is 0 and the remainder b
module _ (t : ℕ) where
  small_quot : (b : ℤ) → nat_abs b < t → quot_z b (pos t) ≡ pos 0
  small_quot (pos n) h = ap pos (div-eq_of_lt h)
  small_quot (negsuc n) h = ap (λ (k : ℕ). neg_ℤ (pos k)) (div-eq_of_lt h)

  small_rem : (b : ℤ) → nat_abs b < t → rem_z b (pos t) ≡ b
  small_rem (pos n) h = ap pos (mod-eq_of_lt h)
  small_rem (negsuc n) h = ap (λ (k : ℕ). neg_ℤ (pos k)) (mod-eq_of_lt h)

-- a power of ten past those that 64 bits hold
pub far : (a b : ℤ) (k : ℕ) → SFits w64 b → 18 < k → int_cmp (a *ℤ pos (10 ^ k)) b ≡ ordering_then (int_cmp a (pos 0)) (int_cmp (pos 0) b)
far a b k s h =
    let m : nat_abs b ≤ 2 ^ 63 = nat_abs-le b s.sfits in
    let p : 10 ^ 19 ≤ 10 ^ k = pow-le-pow_right (omega arith) h in
    let l : nat_abs b < 10 ^ k = omega arith in
    divided (10 ^ k) (omega arith) a b ∙ rw (small_quot (10 ^ k) b l, small_rem (10 ^ k) b l)
