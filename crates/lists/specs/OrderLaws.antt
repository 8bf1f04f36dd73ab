-- Laws of orders: the numbers are in order, and so are things whose images are. Assumes nothing.
use Rattle.std.specs.Prelude.{◌≡◌, refl, Bool, true, false, ◌<◌, leb}
use Rattle.std.proofs.Common.{arith, leb-true, leb-false, le-leb}
use Rattle.lists.specs.Order.{Order, Strict}

module _ {A : Type 0} {before : A → A → Bool} (o : Order before) where
  pub order_reflexive : (x : A) → before x x ≡ true
  order_reflexive x = go (before x x) refl
    where
      go : (b : Bool) → before x x ≡ b → before x x ≡ true
      go true e = e
      go false e = o.total x x e

  -- things in the order of their images, where things with one image are one
  pub order_along : {B : Type 0} (g : B → A) → ((x y : B) → g x ≡ g y → x ≡ y) → Order (λ x y. before (g x) (g y))
  order_along g one =
      record {
        total = λ x y h. o.total (g x) (g y) h;
        transitive = λ x y z h k. o.transitive (g x) (g y) (g z) h k;
        antisymmetric = λ x y h k. one x y (o.antisymmetric (g x) (g y) h k);
      }

pub strict_along : {A B : Type 0} {R : A → A → Type 0} → Strict R → (g : B → A) → Strict (λ x y. R (g x) (g y))
strict_along s g =
    record {
      irreflexive = λ x. s.irreflexive (g x);
      transitive = λ x y z h k. s.transitive (g x) (g y) (g z) h k;
    }

pub number_order_lem : Order leb
number_order_lem =
    record {
      total = λ x y h. le-leb y x (omega (arith, leb-false x y h));
      transitive = λ x y z h k. le-leb x z (omega (arith, leb-true x y h, leb-true y z k));
      antisymmetric = λ x y h k. omega (arith, leb-true x y h, leb-true y x k);
    }

pub number_strict : Strict ◌<◌
number_strict = record { irreflexive = λ x h. omega arith; transitive = λ x y z h k. omega arith }
