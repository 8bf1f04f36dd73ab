-- When two flattened rules are the same: equal predicates, or equal operators whose children agree as bags, at every depth.
-- So the order of children is ignored. Whether two rules are the same is decided by comparing. Laws in `SameLaws`.
-- Assumes nothing: these are definitions.
use Rattle.std.specs.Prelude.{◌≡◌, refl, List, [], ◌∷◌}
use Rattle.std.proofs.Common.{ap, subst}
use native.Mathlib.Omega.{arith}
use Rattle.lists.specs.Places.{Any, here, there, index, rest}
use Rattle.ast.specs.Trees.{Flat, leaf, node, Flats, done, more, kids}
use Rattle.ast.specs.OperatorLaws.{operator?}

unfoldable mutual
  pub Same : {Q : Type 0} → Flat Q → Flat Q → Type 0
  Same (leaf p) (leaf q) = p ≡ q
  Same (leaf p) (node o gs) = ⊥
  Same (node o fs) (leaf q) = ⊥
  Same (node o fs) (node o' gs) = (o ≡ o') × SameBag fs (kids gs)

  -- each rule of fs is the same as one of gs, each of gs being taken once, and none is left
  pub SameBag : {Q : Type 0} → Flats Q → List (Flat Q) → Type 0
  SameBag done gs = gs ≡ []
  SameBag (more f fs) gs = (a : Any (λ g. Same f g) gs) × SameBag fs (rest a)

-- ---- decided by comparing: each child of the one rule is tried with each child of the other that is left. No law of `Same` is needed.

module _ {A : Type 0} {P : A → Type 0} where
  -- what is left beside a place goes by the number of the place
  pub rest_index : {xs : List A} (a b : Any P xs) → index a ≡ index b → rest a ≡ rest b
  rest_index (here p) (here q) e = refl
  rest_index (here p) (there b) e = absurd (omega arith)
  rest_index (there a) (here q) e = absurd (omega arith)
  rest_index (there {x = x} a) (there b) e = ap (λ (l : List A). x ∷ l) (rest_index a b (omega arith))

  -- a place with P beside which B is left
  abbrev pub Leaves : {xs : List A} → (Any P xs → List A) → (List A → Type 0) → Type 0
  Leaves {xs} left B = (a : Any P xs) × B (left a)

  -- whether there is one, where what is left goes by the number of the place
  unfoldable pub place? : {B : List A → Type 0} → ((x : A) → Dec (P x)) → ((l : List A) → Dec (B l)) → (xs : List A)
      → (left : Any P xs → List A) → ((a b : Any P xs) → index a ≡ index b → left a ≡ left b) → Dec (Leaves left B)
  place? p? b? [] left same_left = no (λ w. elim w.0 [ ])
  place? {B = B} p? b? (x ∷ xs) left same_left =
      go (p? x) (place? p? b? xs (λ a. left (there a)) (λ a b e. same_left (there a) (there b) (omega arith)))
    where
      neither : ((p : P x) → ¬ B (left (here p))) → ¬ Leaves (λ a. left (there a)) B → Leaves left B → ⊥
      neither m n (here p, b) = m p b
      neither m n (there a, b) = n (a, b)

      go : Dec (P x) → Dec (Leaves (λ a. left (there a)) B) → Dec (Leaves left B)
      go d (yes w) = yes (there w.0, w.1)
      go (no m) (no n) = no (neither (λ p b. m p) n)
      go (yes p) (no n) = first (b? (left (here p)))
        where
          first : Dec (B (left (here p))) → Dec (Leaves left B)
          first (yes b) = yes (here p, b)
          first (no m) = no (neither (λ q b. m (subst B (same_left (here q) (here p) refl) b)) n)

unfoldable pub and? : {A B : Type 0} → Dec A → Dec B → Dec (A × B)
and? (yes a) (yes b) = yes (a, b)
and? (yes a) (no n) = no (λ w. n w.1)
and? (no n) d = no (λ w. n w.0)

unfoldable mutual
  unfolding Same operator? place? and?

  pub same? : {Q : Type 0} → ((p q : Q) → Dec (p ≡ q)) → (f g : Flat Q) → Dec (Same f g)
  same? equal? (leaf p) (leaf q) = equal? p q
  same? equal? (leaf p) (node o gs) = no (λ e. e)
  same? equal? (node o fs) (leaf q) = no (λ e. e)
  same? equal? (node o fs) (node o' gs) = and? (operator? o o') (same_bag? equal? fs (kids gs))

  pub same_bag? : {Q : Type 0} → ((p q : Q) → Dec (p ≡ q)) → (fs : Flats Q) (gs : List (Flat Q)) → Dec (SameBag fs gs)
  same_bag? equal? done [] = yes refl
  same_bag? equal? done (g ∷ gs) = no (λ e. cc)
  -- `_` is what SameBag says is left beside a place
  same_bag? equal? (more f fs) gs = place? (same? equal? f) (same_bag? equal? fs) gs _ (λ a b e. cc (rest_index a b e))
