-- Equivalences: relations that say in what respect two things are the same. The laws on bags and on counting are over any of them.
-- Assumes nothing.
use Rattle.std.specs.Prelude.{◌≡◌, refl}
use Rattle.std.proofs.Common.{sym, ◌∙◌}

pub record Equivalence {A : Type 0} (R : A → A → Type 0) : Type 0 where
  pub reflexive : (x : A) → R x x
  pub symmetric : (x y : A) → R x y → R y x
  pub transitive : (x y z : A) → R x y → R y z → R x z

pub equality : {A : Type 0} → Equivalence (λ (x y : A). x ≡ y)
equality = record { reflexive = λ x. refl; symmetric = λ x y e. sym e; transitive = λ x y z e k. e ∙ k }

-- things are the same where their images are
pub equivalence_along : {A B : Type 0} {R : B → B → Type 0} (g : A → B) → Equivalence R → Equivalence (λ x y. R (g x) (g y))
equivalence_along g e =
    record {
      reflexive = λ x. e.reflexive (g x);
      symmetric = λ x y r. e.symmetric (g x) (g y) r;
      transitive = λ x y z r s. e.transitive (g x) (g y) (g z) r s;
    }
