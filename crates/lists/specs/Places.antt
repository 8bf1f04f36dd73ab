-- Lists by places: all elements have a property, one has it, and what a place with it gives: its element, its number, the other elements.
-- Also sums over a list, lists whose elements stand two by two in a relation, and what can be decided of a list element by element.
-- All, Any and Pairwise are data families, so that a law about them needs no argument but the proof. Laws in `PlacesLaws`.
-- Assumes nothing: these are definitions.
use Rattle.std.specs.Prelude.{◌≡◌, refl, ℕ, zero, suc, ◌+◌}
use Rattle.std.proofs.Common.{ap₂}
use mathlib.Core.List.{List, [], ◌∷◌, nil≢cons, cons≢nil, head-eq_of_cons-eq, tail-eq_of_cons-eq}

-- every element has P
pub data All {A : Type 0} (P : A → Type 0) : List A → Type 0 where
  none : All P []
  both : {x : A} {xs : List A} → P x → All P xs → All P (x ∷ xs)

-- a place whose element has P
pub data Any {A : Type 0} (P : A → Type 0) : List A → Type 0 where
  here : {x : A} {xs : List A} → P x → Any P (x ∷ xs)
  there : {x : A} {xs : List A} → Any P xs → Any P (x ∷ xs)

module _ {A : Type 0} {P : A → Type 0} where
  -- the element at a place
  abbrev pub at : {xs : List A} → Any P xs → A
  at (here {x = x} p) = x
  at (there a) = at a

  -- the number of a place, from zero
  abbrev pub index : {xs : List A} → Any P xs → ℕ
  index (here p) = zero
  index (there a) = suc (index a)

  -- the elements at the other places, in their order
  abbrev pub rest : {xs : List A} → Any P xs → List A
  rest (here {xs = xs} p) = xs
  rest (there {x = x} a) = x ∷ rest a

  -- where P is decided, so is whether an element has it, by the first place that does
  unfoldable pub any? : ((x : A) → Dec (P x)) → (xs : List A) → Dec (Any P xs)
  any? d [] = no (λ a. elim a [ ])
  any? d (x ∷ xs) = go (d x) (any? d xs)
    where
      go : Dec (P x) → Dec (Any P xs) → Dec (Any P (x ∷ xs))
      go (yes p) r = yes (here p)
      go (no n) (yes a) = yes (there a)
      go (no n) (no m) = no neither
        where
          neither : Any P (x ∷ xs) → ⊥
          neither (here p) = n p
          neither (there a) = m a

-- f added up over the elements
unfoldable pub sum : {A : Type 0} → (A → ℕ) → List A → ℕ
sum f [] = zero
sum f (x ∷ xs) = f x + sum f xs

-- every element stands in R to every later one
pub data Pairwise {A : Type 0} (R : A → A → Type 0) : List A → Type 0 where
  pnil : Pairwise R []
  pcons : {x : A} {xs : List A} → All (R x) xs → Pairwise R xs → Pairwise R (x ∷ xs)

-- no element stands in R to a later one
abbrev pub Distinct : {A : Type 0} → (A → A → Type 0) → List A → Type 0
Distinct R xs = Pairwise (λ x y. ¬ R x y) xs

-- where equality of elements is decided, so is equality of lists
unfoldable pub list? : {A : Type 0} → ((x y : A) → Dec (x ≡ y)) → (xs ys : List A) → Dec (xs ≡ ys)
list? d [] [] = yes refl
list? d [] (y ∷ ys) = no nil≢cons
list? d (x ∷ xs) [] = no cons≢nil
list? {A = A} d (x ∷ xs) (y ∷ ys) = go (d x y) (list? d xs ys)
  where
    go : Dec (x ≡ y) → Dec (xs ≡ ys) → Dec (x ∷ xs ≡ y ∷ ys)
    go (yes p) (yes q) = yes (ap₂ (λ (z : A) (zs : List A). z ∷ zs) p q)
    go (yes p) (no n) = no (λ e. n (tail-eq_of_cons-eq e))
    go (no n) r = no (λ e. n (head-eq_of_cons-eq e))
