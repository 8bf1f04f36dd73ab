-- The lexicographic order of pairs of numbers is an order, and so is the order of children by cost. Assumes nothing.
use Rattle.std.specs.Prelude.{◌≡◌, Bool, ◌⊎◌, ℕ, ◌≤◌, ◌<◌, leb, ltb}
use Rattle.std.proofs.Math.Path.{refl}
use Rattle.std.proofs.Common.{ap, ap₂, sym, ◌∙◌, arith}
use Rattle.std.proofs.Math.Bool.{true, false, cond}
use Rattle.std.proofs.Math.Logic.{inl, inr}
use borrow.Author.Tests.{ltb-true, ltb-false, leb-true, leb-false, eqb-true, eqb-false, lt-ltb, le-leb, eq-eqb, ne_eqb}
use Rattle.std.proofs.Math.Dec.{eqb}
use Rattle.lists.specs.Order.{Order}
use Rattle.lists.specs.OrderLaws.{order_along}
use Rattle.lists.specs.PairOrder.{pair_before, by_cost}

module _ (x y : ℕ × ℕ) where
  pub pair_less : x.0 < y.0 → pair_before x y ≡ true
  unfolding pair_before
  pair_less h = simp (ne_eqb x.0 y.0 (λ e. omega arith), lt-ltb x.0 y.0 h)

  pub pair_same : x.0 ≡ y.0 → pair_before x y ≡ leb x.1 y.1
  unfolding pair_before
  pair_same e = simp (eq-eqb x.0 y.0 e)

  pub pair_true : pair_before x y ≡ true → (x.0 < y.0) ⊎ ((x.0 ≡ y.0) × (x.1 ≤ y.1))
  unfolding pair_before
  pair_true = go (eqb x.0 y.0) refl
    where
      go : (b : Bool) → eqb x.0 y.0 ≡ b → cond b (leb x.1 y.1) (ltb x.0 y.0) ≡ true
          → (x.0 < y.0) ⊎ ((x.0 ≡ y.0) × (x.1 ≤ y.1))
      go true e h = inr (eqb-true x.0 y.0 e, leb-true x.1 y.1 h)
      go false e h = inl (ltb-true x.0 y.0 h)

  pub pair_false : pair_before x y ≡ false → (y.0 < x.0) ⊎ ((x.0 ≡ y.0) × (y.1 < x.1))
  unfolding pair_before
  pair_false = go (eqb x.0 y.0) refl
    where
      go : (b : Bool) → eqb x.0 y.0 ≡ b → cond b (leb x.1 y.1) (ltb x.0 y.0) ≡ false
          → (y.0 < x.0) ⊎ ((x.0 ≡ y.0) × (y.1 < x.1))
      go true e h = inr (eqb-true x.0 y.0 e, leb-false x.1 y.1 h)
      go false e h = inl (omega (arith, ltb-false x.0 y.0 h, eqb-false x.0 y.0 e))

  pair_le : x.0 ≡ y.0 → x.1 ≤ y.1 → pair_before x y ≡ true
  pair_le e h = pair_same e ∙ le-leb x.1 y.1 h

pair_total : (x y : ℕ × ℕ) → pair_before x y ≡ false → pair_before y x ≡ true
pair_total x y h = go (pair_false x y h)
  where
    go : (y.0 < x.0) ⊎ ((x.0 ≡ y.0) × (y.1 < x.1)) → pair_before y x ≡ true
    go (inl l) = pair_less y x l
    go (inr e) = pair_le y x (sym e.0) (omega (arith, e.1))

pair_transitive : (x y z : ℕ × ℕ) → pair_before x y ≡ true → pair_before y z ≡ true → pair_before x z ≡ true
pair_transitive x y z h k = go (pair_true x y h) (pair_true y z k)
  where
    go : (x.0 < y.0) ⊎ ((x.0 ≡ y.0) × (x.1 ≤ y.1)) → (y.0 < z.0) ⊎ ((y.0 ≡ z.0) × (y.1 ≤ z.1)) → pair_before x z ≡ true
    go (inl l) (inl m) = pair_less x z (omega arith)
    go (inl l) (inr m) = pair_less x z (omega (arith, m.0))
    go (inr l) (inl m) = pair_less x z (omega (arith, l.0))
    go (inr l) (inr m) = pair_le x z (l.0 ∙ m.0) (omega (arith, l.1, m.1))

pair_antisymmetric : (x y : ℕ × ℕ) → pair_before x y ≡ true → pair_before y x ≡ true → x ≡ y
pair_antisymmetric x y h k = go (pair_true x y h) (pair_true y x k)
  where
    go : (x.0 < y.0) ⊎ ((x.0 ≡ y.0) × (x.1 ≤ y.1)) → (y.0 < x.0) ⊎ ((y.0 ≡ x.0) × (y.1 ≤ x.1)) → x ≡ y
    go (inl l) (inl m) = absurd (omega arith)
    go (inl l) (inr m) = absurd (omega (arith, m.0))
    go (inr l) (inl m) = absurd (omega (arith, l.0))
    go (inr l) (inr m) =
        let e : x.1 ≡ y.1 = omega (arith, l.1, m.1) in
        ap₂ {C = ℕ × ℕ} (λ a b. (a, b)) l.0 e

pub pair_order : Order pair_before
pair_order = record { total = pair_total; transitive = pair_transitive; antisymmetric = pair_antisymmetric }

pub cost_order : (cost : ℕ → ℕ) → Order (by_cost cost)
cost_order cost = order_along pair_order (λ (x : ℕ). (cost x, x)) (λ x y e. ap (λ (p : ℕ × ℕ). p.1) e)
