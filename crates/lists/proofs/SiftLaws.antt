-- Laws of sifting: what stood at a marked number stands at its new number, and nothing else is kept; new numbers ascend as the old ones
-- did; what holds of a list holds of what is kept. Assumes nothing.
use Rattle.std.specs.Prelude.{◌≡◌, refl, Bool, true, false, List, [], ◌∷◌, ◌++◌, map, ℕ, zero, suc, ◌≤◌, ◌<◌, length, get_or}
use Rattle.std.proofs.Common.{ap, sym, true≢false, suc-le-suc, le_of_suc-le-suc, not-suc-le-zero, zero-lt-suc, arith}
use Rattle.lists.specs.Places.{All, none, both, Pairwise, pnil, pcons}
use Rattle.lists.specs.Sift.{Marked, sift, rank}

-- what is false is not marked
pub unmarked : {Y : Type 0} → false ≡ true → Y
unmarked e = absurd (true≢false (sym e))

-- ---- new numbers

pub rank_zero : (m : List Bool) → rank m zero ≡ zero
rank_zero [] = refl
rank_zero (b ∷ m) = refl

pub rank_marked : (m : List Bool) (i : ℕ) → Marked m i → rank m (suc i) ≡ suc (rank m i)
rank_marked [] i h = unmarked h
rank_marked (true ∷ m) zero h = ap suc (rank_zero m)
rank_marked (false ∷ m) zero h = unmarked h
rank_marked (true ∷ m) (suc i) h = ap suc (rank_marked m i h)
rank_marked (false ∷ m) (suc i) h = rank_marked m i h

pub rank_passed : (m : List Bool) (i : ℕ) → get_or m i false ≡ false → rank m (suc i) ≡ rank m i
rank_passed [] i h = refl
rank_passed (true ∷ m) zero h = unmarked (sym h)
rank_passed (false ∷ m) zero h = rank_zero m
rank_passed (true ∷ m) (suc i) h = ap suc (rank_passed m i h)
rank_passed (false ∷ m) (suc i) h = rank_passed m i h

pub rank_le : (m : List Bool) (i : ℕ) → rank m i ≤ i
rank_le [] i = omega arith
rank_le (b ∷ m) zero = omega arith
rank_le (true ∷ m) (suc i) = omega (arith, rank_le m i)
rank_le (false ∷ m) (suc i) = omega (arith, rank_le m i)

-- a marked number's new number is below that of every later one
pub rank_lt : (m : List Bool) (i j : ℕ) → Marked m i → i < j → rank m i < rank m j
rank_lt [] i j h k = unmarked h
rank_lt (b ∷ m) i zero h k = absurd (not-suc-le-zero k)
rank_lt (true ∷ m) zero (suc j) h k = zero-lt-suc (rank m j)
rank_lt (false ∷ m) zero (suc j) h k = unmarked h
rank_lt (true ∷ m) (suc i) (suc j) h k = suc-le-suc (rank_lt m i j h (le_of_suc-le-suc k))
rank_lt (false ∷ m) (suc i) (suc j) h k = rank_lt m i j h (le_of_suc-le-suc k)

-- marked numbers with one new number are one
pub rank_once : (m : List Bool) (i j : ℕ) → Marked m i → Marked m j → rank m i ≡ rank m j → i ≡ j
rank_once [] i j h k e = unmarked h
rank_once (b ∷ m) zero zero h k e = refl
rank_once (true ∷ m) zero (suc j) h k e = absurd (omega arith)
rank_once (false ∷ m) zero (suc j) h k e = unmarked h
rank_once (true ∷ m) (suc i) zero h k e = absurd (omega arith)
rank_once (false ∷ m) (suc i) zero h k e = unmarked k
rank_once (true ∷ m) (suc i) (suc j) h k e = ap suc (rank_once m i j h k (omega arith))
rank_once (false ∷ m) (suc i) (suc j) h k e = ap suc (rank_once m i j h k e)

-- every new number below that of n is the new number of a marked number below n
pub rank_onto : (m : List Bool) (n q : ℕ) → q < rank m n → (i : ℕ) × (i < n) × Marked m i × (rank m i ≡ q)
rank_onto [] n q h = absurd (not-suc-le-zero h)
rank_onto (b ∷ m) zero q h = absurd (not-suc-le-zero h)
rank_onto (true ∷ m) (suc n) zero h = (zero, zero-lt-suc n, refl, refl)
rank_onto (true ∷ m) (suc n) (suc q) h =
    let r = rank_onto m n q (le_of_suc-le-suc h) in
    (suc r.0, suc-le-suc r.1, r.2, ap suc r.3)
rank_onto (false ∷ m) (suc n) q h =
    let r = rank_onto m n q h in
    (suc r.0, suc-le-suc r.1, r.2, r.3)

-- ---- what is kept

module _ {A : Type 0} where
  -- what stood at a marked number stands at its new number
  pub sift_rank : (m : List Bool) (xs : List A) (i : ℕ) (d : A) → Marked m i → i < length xs
      → get_or (sift m xs) (rank m i) d ≡ get_or xs i d
  sift_rank [] xs i d h k = unmarked h
  sift_rank (b ∷ m) [] i d h k = absurd (not-suc-le-zero k)
  sift_rank (true ∷ m) (x ∷ xs) zero d h k = refl
  sift_rank (false ∷ m) (x ∷ xs) zero d h k = unmarked h
  sift_rank (true ∷ m) (x ∷ xs) (suc i) d h k = sift_rank m xs i d h (le_of_suc-le-suc k)
  sift_rank (false ∷ m) (x ∷ xs) (suc i) d h k = sift_rank m xs i d h (le_of_suc-le-suc k)

  pub sift_length : (m : List Bool) (xs : List A) → length (sift m xs) ≡ rank m (length xs)
  sift_length [] xs = refl
  sift_length (b ∷ m) [] = refl
  sift_length (true ∷ m) (x ∷ xs) = ap suc (sift_length m xs)
  sift_length (false ∷ m) (x ∷ xs) = sift_length m xs

  pub sift_fits : (m : List Bool) (xs : List A) (i : ℕ) → Marked m i → i < length xs → rank m i < length (sift m xs)
  sift_fits m xs i h k = rw (sift_length m xs) (rank_lt m i (length xs) h k)

  pub sift_nil : (m : List Bool) → sift {A = A} m [] ≡ []
  sift_nil [] = refl
  sift_nil (b ∷ m) = refl

  -- one element more, marked or not
  pub sift_more : (m : List Bool) (xs : List A) (x : A) → Marked m (length xs) → sift m (xs ++ (x ∷ [])) ≡ sift m xs ++ (x ∷ [])
  sift_more [] xs x h = unmarked h
  sift_more (true ∷ m) [] x h = ap (λ (l : List A). x ∷ l) (sift_nil m)
  sift_more (false ∷ m) [] x h = unmarked h
  sift_more (true ∷ m) (y ∷ xs) x h = ap (λ (l : List A). y ∷ l) (sift_more m xs x h)
  sift_more (false ∷ m) (y ∷ xs) x h = sift_more m xs x h

  pub sift_less : (m : List Bool) (xs : List A) (x : A) → get_or m (length xs) false ≡ false → sift m (xs ++ (x ∷ [])) ≡ sift m xs
  sift_less [] xs x h = refl
  sift_less (true ∷ m) [] x h = unmarked (sym h)
  sift_less (false ∷ m) [] x h = sift_nil m
  sift_less (true ∷ m) (y ∷ xs) x h = ap (λ (l : List A). y ∷ l) (sift_less m xs x h)
  sift_less (false ∷ m) (y ∷ xs) x h = sift_less m xs x h

  pub sift_map : {B : Type 0} (g : A → B) (m : List Bool) (xs : List A) → sift m (map g xs) ≡ map g (sift m xs)
  sift_map g [] xs = refl
  sift_map g (b ∷ m) [] = refl
  sift_map {B = B} g (true ∷ m) (x ∷ xs) = ap (λ (l : List B). g x ∷ l) (sift_map g m xs)
  sift_map g (false ∷ m) (x ∷ xs) = sift_map g m xs

  pub sift_all : {P : A → Type 0} (m : List Bool) {xs : List A} → All P xs → All P (sift m xs)
  sift_all [] h = none
  sift_all (b ∷ m) none = none
  sift_all (true ∷ m) (both p h) = both p (sift_all m h)
  sift_all (false ∷ m) (both p h) = sift_all m h

  pub sift_pairwise : {R : A → A → Type 0} (m : List Bool) {xs : List A} → Pairwise R xs → Pairwise R (sift m xs)
  sift_pairwise [] d = pnil
  sift_pairwise (b ∷ m) pnil = pnil
  sift_pairwise (true ∷ m) (pcons n d) = pcons (sift_all m n) (sift_pairwise m d)
  sift_pairwise (false ∷ m) (pcons n d) = sift_pairwise m d

  -- what holds at each marked number holds of all that is kept
  pub sift_each : {P : A → Type 0} (m : List Bool) (xs : List A) (d : A)
      → ((i : ℕ) → Marked m i → i < length xs → P (get_or xs i d)) → All P (sift m xs)
  sift_each [] xs d h = none
  sift_each (b ∷ m) [] d h = none
  sift_each (true ∷ m) (x ∷ xs) d h =
      both (h zero refl (zero-lt-suc (length xs))) (sift_each m xs d (λ i q k. h (suc i) q (suc-le-suc k)))
  sift_each (false ∷ m) (x ∷ xs) d h = sift_each m xs d (λ i q k. h (suc i) q (suc-le-suc k))
