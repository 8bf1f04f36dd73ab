-- Laws of places: All and Any over appended and mapped lists, by number, at a place and at the others; sums; Pairwise and Distinct.
-- Each takes the proof that it speaks of, and an argument beside it only where the proof does not show it. Assumes nothing.
use Rattle.std.specs.Prelude.{◌≡◌, ◌⊎◌, length, get_or}
use Rattle.std.proofs.Math.Path.{refl, ap, ap₂, sym}
use Rattle.std.proofs.Common.{◌∙◌, inl, inr, le_of_suc-le-suc, not-suc-le-zero, zero-lt-suc, zero-add, arith}
use mathlib.Core.List.{List, [], ◌∷◌, ◌++◌, map}
use Prim.Native.Nat.{ℕ, zero, suc, ◌+◌, ◌<◌, suc-le-suc}
use Rattle.std.proofs.Math.Nat.{add_left_comm}
use Rattle.lists.specs.Places.{All, none, both, Any, here, there, at, index, rest, sum, Pairwise, pnil, pcons, Distinct}

module _ {A : Type 0} {P : A → Type 0} where
  -- what stands at a place has P
  pub holds : {xs : List A} (a : Any P xs) → P (at a)
  holds (here p) = p
  holds (there a) = holds a

  pub no_any : Any P [] → ⊥
  no_any a = elim a [ ]

  pub any_cases : {x : A} {xs : List A} → Any P (x ∷ xs) → P x ⊎ Any P xs
  any_cases (here p) = inl p
  any_cases (there a) = inr a

  pub first_of : {x : A} {xs : List A} → All P (x ∷ xs) → P x
  first_of (both p h) = p

  pub others_of : {x : A} {xs : List A} → All P (x ∷ xs) → All P xs
  others_of (both p h) = h

  unfoldable pub all_of : ((x : A) → P x) → (xs : List A) → All P xs
  all_of h [] = none
  all_of h (x ∷ xs) = both (h x) (all_of h xs)

  -- all lack P exactly where none has it
  pub none_of_lem : (xs : List A) → ¬ Any P xs → All (λ x. ¬ P x) xs
  none_of_lem [] n = none
  none_of_lem (x ∷ xs) n = both (λ p. n (here p)) (none_of_lem xs (λ a. n (there a)))

  pub not_any : {xs : List A} → All (λ x. ¬ P x) xs → ¬ Any P xs
  not_any none a = elim a [ ]
  not_any (both n h) (here p) = n p
  not_any (both n h) (there a) = not_any h a

  -- ---- appended lists

  pub all_append : {xs ys : List A} → All P xs → All P ys → All P (xs ++ ys)
  all_append none g = g
  all_append (both p h) g = both p (all_append h g)

  pub all_left : (xs ys : List A) → All P (xs ++ ys) → All P xs
  all_left [] ys h = none
  all_left (x ∷ xs) ys (both p h) = both p (all_left xs ys h)

  pub all_right : (xs : List A) {ys : List A} → All P (xs ++ ys) → All P ys
  all_right [] h = h
  all_right (x ∷ xs) (both p h) = all_right xs h

  pub any_left : {xs : List A} (ys : List A) → Any P xs → Any P (xs ++ ys)
  any_left ys (here p) = here p
  any_left ys (there a) = there (any_left ys a)

  pub rest_left : {xs : List A} (ys : List A) (a : Any P xs) → rest (any_left ys a) ≡ rest a ++ ys
  unfolding any_left
  rest_left ys (here p) = refl
  rest_left ys (there {x = x} a) = ap (λ (l : List A). x ∷ l) (rest_left ys a)

  pub any_right : (xs : List A) {ys : List A} → Any P ys → Any P (xs ++ ys)
  any_right [] a = a
  any_right (x ∷ xs) a = there (any_right xs a)

  pub any_split : (xs ys : List A) → Any P (xs ++ ys) → Any P xs ⊎ Any P ys
  any_split [] ys a = inr a
  any_split (x ∷ xs) ys (here p) = inl (here p)
  any_split (x ∷ xs) ys (there a) = up (any_split xs ys a)
    where
      up : Any P xs ⊎ Any P ys → Any P (x ∷ xs) ⊎ Any P ys
      up (inl b) = inl (there b)
      up (inr b) = inr b

  -- ---- places by number

  pub index_lt : {xs : List A} (a : Any P xs) → index a < length xs
  index_lt (here {xs = xs} p) = zero-lt-suc (length xs)
  index_lt (there a) = suc-le-suc (index_lt a)

  pub rest_length : {xs : List A} (a : Any P xs) → length xs ≡ suc (length (rest a))
  rest_length (here p) = refl
  rest_length (there a) = ap suc (rest_length a)

  pub get_or_index : {xs : List A} (a : Any P xs) (d : A) → get_or xs (index a) d ≡ at a
  get_or_index (here p) d = refl
  get_or_index (there a) d = get_or_index a d

  pub all_get_or : {xs : List A} → All P xs → (i : ℕ) (d : A) → i < length xs → P (get_or xs i d)
  all_get_or none i d h = absurd (not-suc-le-zero h)
  all_get_or (both p k) zero d h = p
  all_get_or (both p k) (suc i) d h = all_get_or k i d (le_of_suc-le-suc h)

  pub get_or_all : (xs : List A) (d : A) → ((i : ℕ) → i < length xs → P (get_or xs i d)) → All P xs
  get_or_all [] d h = none
  get_or_all (x ∷ xs) d h = both (h zero (zero-lt-suc (length xs))) (get_or_all xs d (λ i l. h (suc i) (suc-le-suc l)))

  pub any_get_or : (xs : List A) (i : ℕ) (d : A) → i < length xs → P (get_or xs i d) → Any P xs
  any_get_or [] i d h p = absurd (not-suc-le-zero h)
  any_get_or (x ∷ xs) zero d h p = here p
  any_get_or (x ∷ xs) (suc i) d h p = there (any_get_or xs i d (le_of_suc-le-suc h) p)

-- ---- mapped lists

module _ {A B : Type 0} (g : A → B) where
  pub get_or_map_index : {P : A → Type 0} {xs : List A} (a : Any P xs) (d : B) → get_or (map g xs) (index a) d ≡ g (at a)
  get_or_map_index (here p) d = refl
  get_or_map_index (there a) d = get_or_map_index a d

  pub any_mapped : {P : B → Type 0} {xs : List A} → Any (λ x. P (g x)) xs → Any P (map g xs)
  any_mapped (here p) = here p
  any_mapped (there a) = there (any_mapped a)

  pub any_unmapped : (P : B → Type 0) (xs : List A) → Any P (map g xs) → Any (λ x. P (g x)) xs
  any_unmapped P [] a = absurd (no_any a)
  any_unmapped P (x ∷ xs) (here p) = here p
  any_unmapped P (x ∷ xs) (there a) = there (any_unmapped P xs a)

  pub all_mapped : {P : B → Type 0} {xs : List A} → All (λ x. P (g x)) xs → All P (map g xs)
  all_mapped none = none
  all_mapped (both p h) = both p (all_mapped h)

  pub all_unmapped : (P : B → Type 0) (xs : List A) → All P (map g xs) → All (λ x. P (g x)) xs
  all_unmapped P [] none = none
  all_unmapped P (x ∷ xs) (both p h) = both p (all_unmapped P xs h)

-- two functions that agree on the elements give one list
pub map_same : {A B : Type 0} (f g : A → B) {xs : List A} → All (λ x. f x ≡ g x) xs → map f xs ≡ map g xs
map_same f g none = refl
map_same {B = B} f g (both e h) = ap₂ (λ (y : B) (ys : List B). y ∷ ys) e (map_same f g h)

-- ---- another property

module _ {A : Type 0} {P Q : A → Type 0} where
  pub all_map : ((x : A) → P x → Q x) → {xs : List A} → All P xs → All Q xs
  all_map f none = none
  all_map f (both p h) = both (f _ p) (all_map f h)

  pub any_map : ((x : A) → P x → Q x) → {xs : List A} → Any P xs → Any Q xs
  any_map f (here p) = here (f _ p)
  any_map f (there a) = there (any_map f a)

  pub all_both : {xs : List A} → All P xs → All Q xs → All (λ x. P x × Q x) xs
  all_both none none = none
  all_both (both p h) (both q k) = both (p, q) (all_both h k)

  -- a place, for what else stands there
  pub any_at : {xs : List A} (a : Any P xs) → Q (at a) → Any Q xs
  any_at (here p) q = here q
  any_at (there a) q = there (any_at a q)

  -- what all have, the element at a place has and the others have
  pub all_at : {xs : List A} → All Q xs → (a : Any P xs) → Q (at a)
  all_at none a = elim a [ ]
  all_at (both q h) (here p) = q
  all_at (both q h) (there a) = all_at h a

  pub all_rest : {xs : List A} → All Q xs → (a : Any P xs) → All Q (rest a)
  all_rest none a = elim a [ ]
  all_rest (both q h) (here p) = h
  all_rest (both q h) (there a) = both q (all_rest h a)

  pub all_back : {xs : List A} (a : Any P xs) → Q (at a) → All Q (rest a) → All Q xs
  all_back (here p) q h = both q h
  all_back (there a) q (both q' h) = both q' (all_back a q h)

  -- a place of the others is a place of all
  pub any_whole : {xs : List A} (a : Any P xs) → Any Q (rest a) → Any Q xs
  any_whole (here p) b = there b
  any_whole (there a) (here q) = here q
  any_whole (there a) (there b) = there (any_whole a b)

  -- a second place is the first one or one of the others
  pub other : {xs : List A} (a : Any P xs) → Any Q xs → Q (at a) ⊎ Any Q (rest a)
  other (here p) (here q) = inl q
  other (here p) (there b) = inr b
  other (there a) (here q) = inr (here q)
  other (there a) (there b) = up (other a b)
    where
      up : {x : A} {l : List A} {Y : Type 0} → Y ⊎ Any Q l → Y ⊎ Any Q (x ∷ l)
      up (inl q) = inl q
      up (inr c) = inr (there c)

module _ {A : Type 0} {P : A → Type 0} (Q : A → Type 0) where
  pub rest_at : {xs : List A} (a : Any P xs) (q : Q (at a)) → rest (any_at {Q = Q} a q) ≡ rest a
  unfolding any_at
  rest_at (here p) q = refl
  rest_at (there {x = x} a) q = ap (λ (l : List A). x ∷ l) (rest_at a q)

  pub at_at : {xs : List A} (a : Any P xs) (q : Q (at a)) → at (any_at {Q = Q} a q) ≡ at a
  unfolding any_at
  at_at (here p) q = refl
  at_at (there a) q = at_at a q

-- each element is one of the list
pub all_self : {A : Type 0} (l : List A) → All (λ x. Any (λ y. x ≡ y) l) l
all_self [] = none
all_self (x ∷ l) = both (here refl) (all_map (λ y a. there a) (all_self l))

-- ---- sums

module _ {A : Type 0} (f : A → ℕ) where
  pub sum_rest : {P : A → Type 0} {xs : List A} (a : Any P xs) → sum f xs ≡ f (at a) + sum f (rest a)
  unfolding sum
  sum_rest (here p) = refl
  sum_rest (there {x = x} a) = ap (λ (n : ℕ). f x + n) (sum_rest a) ∙ add_left_comm (f x) (f (at a)) (sum f (rest a))

  pub sum_append : (xs ys : List A) → sum f (xs ++ ys) ≡ sum f xs + sum f ys
  unfolding sum
  sum_append [] ys = sym (zero-add (sum f ys))
  sum_append (x ∷ xs) ys = omega (arith, sum_append xs ys)

  pub sum_map : {B : Type 0} (h : B → ℕ) (g : B → A) → ((x : B) → f (g x) ≡ h x) → (l : List B) → sum f (map g l) ≡ sum h l
  unfolding sum
  sum_map h g e [] = refl
  sum_map h g e (x ∷ l) = ap₂ ◌+◌ (e x) (sum_map h g e l)

  pub sum_one : ((x : A) → f x ≡ 1) → (l : List A) → sum f l ≡ length l
  unfolding sum
  sum_one e [] = refl
  sum_one e (x ∷ l) = omega (arith, e x, sum_one e l)

-- ---- two by two

module _ {A : Type 0} {R : A → A → Type 0} where
  pub pairwise_append : {xs ys : List A} → Pairwise R xs → Pairwise R ys → All (λ x. All (R x) ys) xs → Pairwise R (xs ++ ys)
  pairwise_append pnil e none = e
  pairwise_append (pcons h d) e (both n k) = pcons (all_append h n) (pairwise_append d e k)

  pub pairwise_snoc : {xs : List A} {y : A} → Pairwise R xs → All (λ x. R x y) xs → Pairwise R (xs ++ y ∷ [])
  pairwise_snoc d h = pairwise_append d (pcons none pnil) (all_map (λ x r. both r none) h)

  pub pairwise_left : (xs ys : List A) → Pairwise R (xs ++ ys) → Pairwise R xs
  pairwise_left [] ys d = pnil
  pairwise_left (x ∷ xs) ys (pcons h d) = pcons (all_left xs ys h) (pairwise_left xs ys d)

  pub pairwise_right : (xs : List A) {ys : List A} → Pairwise R (xs ++ ys) → Pairwise R ys
  pairwise_right [] d = d
  pairwise_right (x ∷ xs) (pcons h d) = pairwise_right xs d

  pub pairwise_rest : {P : A → Type 0} {xs : List A} → Pairwise R xs → (a : Any P xs) → Pairwise R (rest a)
  pairwise_rest {P = P} pnil a = elim a [ ]
  pairwise_rest (pcons h d) (here p) = d
  pairwise_rest (pcons h d) (there a) = pcons (all_rest h a) (pairwise_rest d a)

  -- where R is symmetric, the element at a place stands in it to all the others
  pub pairwise_at : ((x y : A) → R x y → R y x) → {P : A → Type 0} {xs : List A} → Pairwise R xs → (a : Any P xs) → All (R (at a)) (rest a)
  pairwise_at s {P = P} pnil a = elim a [ ]
  pairwise_at s (pcons h d) (here p) = h
  pairwise_at s (pcons h d) (there a) = both (s _ _ (all_at h a)) (pairwise_at s d a)

  pub pairwise_get_or : {xs : List A} → Pairwise R xs → (i j : ℕ) (d : A) → i < j → j < length xs → R (get_or xs i d) (get_or xs j d)
  pairwise_get_or pnil i j d h k = absurd (not-suc-le-zero k)
  pairwise_get_or (pcons n e) i zero d h k = absurd (not-suc-le-zero h)
  pairwise_get_or (pcons n e) zero (suc j) d h k = all_get_or n j d (le_of_suc-le-suc k)
  pairwise_get_or (pcons n e) (suc i) (suc j) d h k = pairwise_get_or e i j d (le_of_suc-le-suc h) (le_of_suc-le-suc k)

  pub get_or_pairwise : (xs : List A) (d : A) → ((i j : ℕ) → i < j → j < length xs → R (get_or xs i d) (get_or xs j d)) → Pairwise R xs
  get_or_pairwise [] d h = pnil
  get_or_pairwise (x ∷ xs) d h =
      pcons (get_or_all xs d (λ j l. h zero (suc j) (zero-lt-suc j) (suc-le-suc l)))
      (get_or_pairwise xs d (λ i j l k. h (suc i) (suc j) (suc-le-suc l) (suc-le-suc k)))

  -- where R is transitive, neighbours are enough
  pub neighbours_pairwise : ((x y z : A) → R x y → R y z → R x z) → (xs : List A) (d : A)
      → ((i : ℕ) → suc i < length xs → R (get_or xs i d) (get_or xs (suc i) d)) → Pairwise R xs
  neighbours_pairwise t [] d h = pnil
  neighbours_pairwise t (x ∷ []) d h = pcons none pnil
  neighbours_pairwise t (x ∷ y ∷ xs) d h = go (neighbours_pairwise t (y ∷ xs) d (λ i l. h (suc i) (suc-le-suc l)))
    where
      first : R x y
      first = h zero (suc-le-suc (zero-lt-suc (length xs)))

      go : Pairwise R (y ∷ xs) → Pairwise R (x ∷ y ∷ xs)
      go (pcons k e) = pcons (both first (all_map (λ z r. t x y z first r) k)) (pcons k e)

-- a relation of the elements of a list gives one of their images
pub pairwise_mapped : {A B : Type 0} (g : A → B) {P : A → Type 0} {R : A → A → Type 0} {S : B → B → Type 0}
    → ((x y : A) → P x → P y → R x y → S (g x) (g y)) → {xs : List A} → All P xs → Pairwise R xs → Pairwise S (map g xs)
pairwise_mapped g f none pnil = pnil
pairwise_mapped g f (both p k) (pcons h d) =
    pcons (all_mapped g (all_map (λ y h. f _ y p h.0 h.1) (all_both k h))) (pairwise_mapped g f k d)

pub pairwise_map : {A : Type 0} {R S : A → A → Type 0} → ((x y : A) → R x y → S x y) → {xs : List A} → Pairwise R xs → Pairwise S xs
pairwise_map f pnil = pnil
pairwise_map f (pcons h d) = pcons (all_map (λ y r. f _ y r) h) (pairwise_map f d)

-- ---- distinct, for a relation that is symmetric

module _ {A : Type 0} {R : A → A → Type 0} (s : (x y : A) → R x y → R y x) where
  -- the element at a place is related to none of the others
  pub distinct_at : {P : A → Type 0} {xs : List A} → Distinct R xs → (a : Any P xs) → All (λ y. ¬ R (at a) y) (rest a)
  distinct_at d a = pairwise_at (λ x y n r. n (s y x r)) d a

  -- related elements stand at one number
  pub distinct_number : {xs : List A} → Distinct R xs
      → (i j : ℕ) (d : A) → i < length xs → j < length xs → R (get_or xs i d) (get_or xs j d) → i ≡ j
  distinct_number pnil i j d h k r = absurd (not-suc-le-zero h)
  distinct_number (pcons n e) zero zero d h k r = refl
  distinct_number (pcons n e) zero (suc j) d h k r = absurd (all_get_or n j d (le_of_suc-le-suc k) r)
  distinct_number (pcons n e) (suc i) zero d h k r = absurd (all_get_or n i d (le_of_suc-le-suc h) (s _ _ r))
  distinct_number (pcons n e) (suc i) (suc j) d h k r =
      ap suc (distinct_number e i j d (le_of_suc-le-suc h) (le_of_suc-le-suc k) r)
