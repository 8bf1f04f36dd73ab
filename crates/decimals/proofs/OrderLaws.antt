-- The order of two integers by their signs, and when they are equal. Natural numbers have an order of their own, in which
-- products and quotients are reasoned about.
-- Assumes nothing.
use mathlib.Core.Path.{◌≡◌, refl, sym, ap, ◌∙◌}
use mathlib.Core.Logic.{◌↔◌}
use Prim.Native.Nat.{ℕ, zero, suc, ◌<◌}
use native.Mathlib.Decide.{dec_lt}
use native.Mathlib.Omega.{arith}
use lib.IntN.{ℤ, pos, negsuc, neg_ℤ}
use Rattle.std.specs.Cmp.{int_ranks, nat_cmp_is}
use Rattle.std.specs.declared.cmp.Ordering.TheVariants.{Less, Equal, Greater}
use Rattle.std.specs.Ordering.{nat_cmp, int_cmp}
use Rattle.std.proofs.lemmas.Bool.Decides.{nat_tests}
use Rattle.std.proofs.lemmas.Cmp.{int_cmp_total, tied_itself}

-- natural numbers
pub one_of_three : {X : Type 0} (a b : ℕ) → (a < b → X) → (b < a → X) → (a ≡ b → X) → X
one_of_three a b l g e =
    elim (dec_lt a b) [
      | yes h ↦ l h
      | no n ↦ elim (dec_lt b a) [
        | yes h ↦ g h
        | no m ↦ e (omega (arith, n, m))
      ]
    ]

pub order_n_less : (a b : ℕ) → a < b → nat_cmp a b ≡ Less
order_n_less a b h = sym (nat_cmp_is a b Less h)

pub order_n_greater : (a b : ℕ) → b < a → nat_cmp a b ≡ Greater
order_n_greater a b h = sym (nat_cmp_is a b Greater h)

pub order_n_equal : (a b : ℕ) → a ≡ b → nat_cmp a b ≡ Equal
order_n_equal a b h = sym (nat_cmp_is a b Equal h)

-- a pair of numbers that stands as another does
pub order_n_alike : (a b c d : ℕ) → (a < b → c < d) → (b < a → d < c) → (a ≡ b → c ≡ d) → nat_cmp a b ≡ nat_cmp c d
order_n_alike a b c d l g e =
    one_of_three a b
    (λ h. order_n_less a b h ∙ sym (order_n_less c d (l h)))
    (λ h. order_n_greater a b h ∙ sym (order_n_greater c d (g h)))
    (λ h. order_n_equal a b h ∙ sym (order_n_equal c d (e h)))

-- integers, by their signs
pub order_pos : (a b : ℕ) → int_cmp (pos a) (pos b) ≡ nat_cmp a b
order_pos a b = grind (arith, nat_tests)

order_negsuc : (a b : ℕ) → int_cmp (negsuc a) (negsuc b) ≡ nat_cmp b a
order_negsuc a b = grind (arith, nat_tests)

pub order_below : (a b : ℕ) → int_cmp (negsuc a) (pos b) ≡ Less
order_below a b = refl

pub order_above : (a b : ℕ) → int_cmp (pos a) (negsuc b) ≡ Greater
order_above a b = refl

pub order_neg : (a b : ℕ) → int_cmp (neg_ℤ (pos a)) (neg_ℤ (pos b)) ≡ nat_cmp b a
order_neg zero zero = order_pos 0 0
order_neg zero (suc b) = order_above 0 b ∙ sym (order_n_greater (suc b) 0 (omega arith))
order_neg (suc a) zero = order_below a 0 ∙ sym (order_n_less 0 (suc a) (omega arith))
order_neg (suc a) (suc b) =
    order_negsuc a b ∙ order_n_alike b a (suc b) (suc a) (λ l. omega arith) (λ g. omega arith) (λ e. ap suc e)

pub order_equal_iff : (a b : ℤ) → (int_cmp a b ≡ Equal) ↔ (a ≡ b)
order_equal_iff a b = (λ e. rw e at (int_ranks a b), λ e. rw e (tied_itself int_cmp_total b))
