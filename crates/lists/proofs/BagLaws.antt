-- Laws of bags. A bag is reflexive, symmetric and transitive where its relation is so at the elements. These three laws ask it of the
-- elements by `All`, so that a proof by recursion on a tree can hand over what it has of the children. A bag is decided where its relation
-- is, `map` carries it, and two lists in order that are the same bag are equal. Assumes nothing.
use Rattle.std.specs.Prelude.{◌≡◌, ℕ, suc, length}
use Rattle.std.proofs.Math.Path.{refl}
use Rattle.std.proofs.Common.{ap, ap₂, sym, ◌∙◌, subst, arith}
use mathlib.Core.List.{List, [], ◌∷◌, ◌++◌, map}
use Rattle.lists.specs.Places.{All, none, both, Any, here, there, at, rest, any?, sum, Pairwise, pnil, pcons}
use Rattle.lists.proofs.PlacesLaws.{holds, no_any, all_of, any_left, rest_left, all_map, any_at, all_at, all_back}
use Rattle.lists.proofs.PlacesLaws.{any_whole, rest_at, rest_length, sum_rest}
use Rattle.lists.specs.Equivalence.{Equivalence, equality}
use Rattle.lists.specs.Bag.{Bag, bnil, bcons}

-- two places taken out, in either order
swap : {A : Type 0} {P Q : A → Type 0} {zs : List A} (c : Any P zs) (b : Any Q (rest c))
    → (b' : Any Q zs) × (c' : Any P (rest b')) × (rest c' ≡ rest b)
swap (here p) b = (there b, here p, refl)
swap (there c) (here q) = (here q, c, refl)
swap {A = A} (there {x = z} c) (there b) = let r = swap c b in (there r.0, there r.1, ap (λ (l : List A). z ∷ l) r.2)

module _ {A B : Type 0} {R : A → B → Type 0} where
  -- each element on the left has a partner on the right
  pub bag_cover : {xs : List A} {ys : List B} → Bag R xs ys → All (λ x. Any (R x) ys) xs
  bag_cover bnil = none
  bag_cover (bcons a t) = both a (all_map (λ x b. any_whole a b) (bag_cover t))

  -- a place on the left has its partner on the right, and the others are a bag of the others
  pub partner : {P : A → Type 0} {xs : List A} {ys : List B} → Bag R xs ys → (a : Any P xs)
      → (b : Any (R (at a)) ys) × Bag R (rest a) (rest b)
  partner {P = P} bnil a = elim a [ ]
  partner (bcons c t) (here p) = (c, t)
  partner (bcons c t) (there a) =
      let r = partner t a in
      let s = swap c r.0 in
      (s.0, bcons s.1 (subst (λ l. Bag R (rest a) l) (sym s.2) r.1))

  -- one more on either side, at a place on the left
  pub bag_put : {P : A → Type 0} {xs : List A} {y : B} {ys : List B} (a : Any P xs) → R (at a) y → Bag R (rest a) ys
      → Bag R xs (y ∷ ys)
  bag_put (here p) r t = bcons (here r) t
  bag_put (there a) r (bcons c t) = bcons (there c) (bag_put a r t)

  -- one more at the end of the left and at the front of the right
  pub bag_snoc : {x : A} {xs : List A} {y : B} {ys : List B} → Bag R xs ys → R x y → Bag R (xs ++ (x ∷ [])) (y ∷ ys)
  bag_snoc bnil r = bcons (here r) bnil
  bag_snoc (bcons a t) r = bcons (there a) (bag_snoc t r)

  pub bag_append : {xs us : List A} {ys vs : List B} → Bag R xs ys → Bag R us vs → Bag R (xs ++ us) (ys ++ vs)
  bag_append bnil s = s
  bag_append {us = us} {vs = vs} (bcons {xs = xs} a t) s =
      bcons (any_left vs a) (subst (λ l. Bag R (xs ++ us) l) (sym (rest_left vs a)) (bag_append t s))

  pub bag_length : {xs : List A} {ys : List B} → Bag R xs ys → length xs ≡ length ys
  bag_length bnil = refl
  bag_length (bcons a t) = ap suc (bag_length t) ∙ sym (rest_length a)

  pub bag_sum : (f : A → ℕ) (g : B → ℕ) → ((x : A) (y : B) → R x y → f x ≡ g y)
      → {xs : List A} {ys : List B} → Bag R xs ys → sum f xs ≡ sum g ys
  unfolding sum
  bag_sum f g e bnil = refl
  bag_sum f g e (bcons {x = x} a t) = omega (arith, bag_sum f g e t, sum_rest g a, e x (at a) (holds a))

  -- what is handed on from each to its partner is handed on from all to all
  pub bag_all : {P : A → Type 0} {Q : B → Type 0} → ((x : A) (y : B) → R x y → P x → Q y)
      → {xs : List A} {ys : List B} → Bag R xs ys → All P xs → All Q ys
  bag_all f bnil none = none
  bag_all f (bcons {x = x} a t) (both p h) = all_back a (f x (at a) (holds a) p) (bag_all f t h)

module _ {A : Type 0} {R : A → A → Type 0} where
  pub bag_refl : {xs : List A} → All (λ x. R x x) xs → Bag R xs xs
  bag_refl none = bnil
  bag_refl (both r h) = bcons (here r) (bag_refl h)

  pub bag_sym : {xs ys : List A} → All (λ x. (y : A) → R x y → R y x) xs → Bag R xs ys → Bag R ys xs
  bag_sym none bnil = bnil
  bag_sym (both h k) (bcons a s) = bag_put a (h _ (holds a)) (bag_sym k s)

  pub bag_trans : {xs ys zs : List A} → All (λ x. (y z : A) → R x y → R y z → R x z) xs → Bag R xs ys → Bag R ys zs → Bag R xs zs
  bag_trans none bnil t = t
  bag_trans (both h k) (bcons {x = x} {xs = xs} a s) t =
      let r = partner t a in
      let q = h _ _ (holds a) (holds r.0) in
      bcons (any_at {Q = R x} r.0 q) (subst (λ l. Bag R xs l) (sym (rest_at (R x) r.0 q)) (bag_trans k s r.1))

  module _ (e : Equivalence R) where
    pub bag_equivalence : Equivalence (Bag R)
    bag_equivalence =
        record {
          reflexive = λ xs. bag_refl (all_of e.reflexive xs);
          symmetric = λ xs ys s. bag_sym (all_of (λ x y r. e.symmetric x y r) xs) s;
          transitive = λ xs ys zs s t. bag_trans (all_of (λ x y z r q. e.transitive x y z r q) xs) s t;
        }

    -- of two places whose elements are related, either may be taken out
    pub either : {P Q : A → Type 0} {ys : List A} (a : Any P ys) (b : Any Q ys) → R (at a) (at b) → Bag R (rest a) (rest b)
    either (here p) (here q) r = bag_equivalence.reflexive _
    either (here p) (there b) r = bag_put b (e.symmetric _ _ r) (bag_equivalence.reflexive _)
    either (there a) (here q) r = bag_equivalence.symmetric _ _ (bag_put a r (bag_equivalence.reflexive _))
    either (there {x = x} a) (there b) r = bcons (here (e.reflexive x)) (either a b r)

    unfoldable pub bag? : {xs : List A} → All (λ x. (y : A) → Dec (R x y)) xs → (ys : List A) → Dec (Bag R xs ys)
    unfolding any?
    bag? none [] = yes bnil
    bag? none (y ∷ ys) = no (λ b. elim b [ ])
    bag? {xs = x ∷ xs} (both d k) ys = go (λ l. bag? k l) (any? d ys)
      where
        go : ((l : List A) → Dec (Bag R xs l)) → Dec (Any (R x) ys) → Dec (Bag R (x ∷ xs) ys)
        go below (yes a) = inner (below (rest a))
          where
            inner : Dec (Bag R xs (rest a)) → Dec (Bag R (x ∷ xs) ys)
            inner (yes t) = yes (bcons a t)
            inner (no n) = no refute
              where
                refute : Bag R (x ∷ xs) ys → ⊥
                refute (bcons c t) =
                    n (bag_equivalence.transitive _ _ _ t (either c a (e.transitive _ _ _ (e.symmetric _ _ (holds c)) (holds a))))
        go below (no n) = no refute
          where
            refute : Bag R (x ∷ xs) ys → ⊥
            refute (bcons c t) = n c

-- ---- bags and `map`

module _ {A B : Type 0} (g : A → B) where
  any_image : {R : A → Type 0} {Q : B → Type 0} → ((x : A) → R x → Q (g x))
      → {xs : List A} (a : Any R xs) → (b : Any Q (map g xs)) × (rest b ≡ map g (rest a))
  any_image f (here r) = (here (f _ r), refl)
  any_image f (there {x = x} a) = let i = any_image f a in (there i.0, ap (λ (l : List B). g x ∷ l) i.1)

  pub bag_map : {R : A → A → Type 0} {S : B → B → Type 0} → ((x y : A) → R x y → S (g x) (g y))
      → {xs ys : List A} → Bag R xs ys → Bag S (map g xs) (map g ys)
  bag_map f bnil = bnil
  bag_map {S = S} f (bcons {x = x} {xs = xs} a t) =
      let i = any_image {Q = S (g x)} (f x) a in
      bcons i.0 (subst (λ l. Bag S (map g xs) l) (sym i.1) (bag_map f t))

  any_back : {Q : B → Type 0} {P R : A → Type 0} → ((x : A) → P x → Q (g x) → R x)
      → (xs : List A) → All P xs → (a : Any Q (map g xs)) → (b : Any R xs) × (map g (rest b) ≡ rest a) × All P (rest b)
  any_back f [] none a = absurd (no_any a)
  any_back f (x ∷ xs) (both p h) (here q) = (here (f x p q), refl, h)
  any_back f (x ∷ xs) (both p h) (there a) =
      let i = any_back f xs h a in
      (there i.0, ap (λ (l : List B). g x ∷ l) i.1, both p i.2)

  -- a bag of images is a bag, where the images of elements that have P are related only if the elements are
  pub bag_unmap : {P : A → Type 0} {R : A → A → Type 0} {S : B → B → Type 0} → ((x y : A) → P x → P y → S (g x) (g y) → R x y)
      → (xs ys : List A) → All P xs → All P ys → Bag S (map g xs) (map g ys) → Bag R xs ys
  bag_unmap f [] [] none k bnil = bnil
  bag_unmap f [] (y ∷ ys) h k t = elim t [ ]
  bag_unmap {S = S} f (x ∷ xs) ys (both p h) k (bcons a t) =
      let i = any_back (λ y q s. f x y p q s) ys k a in
      bcons i.0 (bag_unmap f xs (rest i.0) h i.2 (subst (λ l. Bag S (map g xs) l) (sym i.1) t))

-- ---- bags and order

module _ {A : Type 0} {R : A → A → Type 0} (one : (x y : A) → R x y → R y x → x ≡ y) where
  same_first : {x y : A} {xs ys : List A} → All (R x) xs → All (R y) ys → Any (λ z. x ≡ z) (y ∷ ys) → Any (λ z. y ≡ z) (x ∷ xs) → x ≡ y
  same_first h g (here e) b = e
  same_first h g (there a) (here e) = sym e
  same_first {x = x} {y = y} h g (there a) (there b) =
      one x y (subst (R x) (sym (holds b)) (all_at h b)) (subst (R y) (sym (holds a)) (all_at g a))

  -- where things that stand in R both ways are one, two lists in order that are the same bag are equal
  pub pairwise_equal : {l k : List A} → Pairwise R l → Pairwise R k → Bag ◌≡◌ l k → l ≡ k
  pairwise_equal pnil q bnil = refl
  pairwise_equal (pcons h p) pnil (bcons a t) = absurd (no_any a)
  pairwise_equal (pcons {x = x} {xs = xs} h p) (pcons {x = y} {xs = ys} g q) (bcons a t) =
      let first : Any (λ z. y ≡ z) (y ∷ ys) = here refl in
      let back = (bag_equivalence equality).symmetric (x ∷ xs) (y ∷ ys) (bcons a t) in
      let e : x ≡ y = same_first h g a (partner back first).0 in
      let others = (bag_equivalence equality).transitive xs (rest a) ys t (either equality a first (sym (holds a) ∙ e)) in
      ap₂ (λ (z : A) (zs : List A). z ∷ zs) e (pairwise_equal p q others)
