-- The predicate as a book keeps it, by the numbers of the rule sheet.
-- A decimal is kept in its normal form, so two decimals equal by value are equal numbers, and predicates are the same where they are equal.
-- Assumes nothing.
use Rattle.std.specs.Prelude.{◌≡◌, List, ◌∷◌, ℕ, length, ℤ, pos, negsuc}
use Rattle.std.proofs.Common.{ap, sym}
use Rattle.std.proofs.Math.Decide.{ℕ_discrete}
use Rattle.std.proofs.Math.IntN.{pos-ne-negsuc}
use Rattle.predicates.specs.Kinds.{kind_of, cost_of}

-- The literal is the number of an integer, a word or a decimal, the decimal's scale and the list's elements.
-- What its tag does not use is 0 or empty.
pub record Predicate : Type 0 where
  pub attribute : ℕ
  pub kind : ℕ
  pub tag : ℕ
  pub number : ℤ
  pub scale : ℕ
  pub elements : List ℤ

abbrev pub list_length : Predicate → ℕ
list_length p = length p.elements

abbrev pub predicate_cost : Predicate → ℕ
predicate_cost p = cost_of (kind_of p.kind) (list_length p)

-- ---- what decides equality (the decision: `Deciding`)

-- a decision of X is one of Y, where either follows from the other
unfoldable pub decided : {X Y : Type 0} → (X → Y) → (Y → X) → Dec X → Dec Y
decided f g (yes x) = yes (f x)
decided f g (no n) = no (λ y. n (g y))

unfoldable pub integer? : (x y : ℤ) → Dec (x ≡ y)
unfolding ℕ_discrete decided
integer? (pos m) (pos n) = decided (ap pos) (λ e. cc) (ℕ_discrete m n)
integer? (pos m) (negsuc n) = no (pos-ne-negsuc m n)
integer? (negsuc m) (pos n) = no (λ e. pos-ne-negsuc n m (sym e))
integer? (negsuc m) (negsuc n) = decided (ap negsuc) (λ e. cc) (ℕ_discrete m n)

-- a predicate as one list of numbers, which determines it
abbrev pub numbers_of : Predicate → List ℤ
numbers_of p = pos p.attribute ∷ pos p.kind ∷ pos p.tag ∷ p.number ∷ pos p.scale ∷ p.elements
