-- Laws of places and parts.
--     place_within                          a place is within the list
--     place_here, place_on, place_none      the first place, as a loop seeks it
--     place_before, place_behind            the first place of two lists one behind the other
--     parted_at                             up to the first place is the first part; what follows that place is parted alike
--     parted_words, parted_through          where there is no such byte: all is one part, which goes on in what is behind it
-- Assumes nothing.
use Rattle.std.specs.Prelude.{◌≡◌, Bool, get_or, drop}
use Rattle.std.proofs.Math.Path.{refl}
use Rattle.std.proofs.Math.Bool.{true, false, cond}
use mathlib.Core.List.{List, [], ◌∷◌, ◌++◌}
use Prim.Native.Nat.{ℕ, zero, suc, ◌+◌, ◌≤◌, ◌<◌}
use native.Mathlib.Omega.{arith}
use Rattle.std.proofs.Common.{eq-eqb, ne_eqb, drop_of_length-le, drop-cons}
use Rattle.std.proofs.Math.Dec.{eqb}
use Rattle.std.proofs.Math.ListN.{length, take}
use Rattle.lines.specs.Parts.{place_of, on_first, parted}

module _ (s : ℕ) where
  place_cons : (b : ℕ) (bs : List ℕ) → place_of s (b ∷ bs) ≡ cond (eqb b s) zero (suc (place_of s bs))
  unfolding place_of
  place_cons b bs = refl

  pub place_within : (xs : List ℕ) → place_of s xs ≤ length xs
  unfolding place_of
  place_within [] = omega arith
  place_within (b ∷ bs) = go (eqb b s) (place_within bs)
    where
      go : (t : Bool) → place_of s bs ≤ length bs → cond t zero (suc (place_of s bs)) ≤ suc (length bs)
      go true h = omega arith
      go false h = omega arith

  module _ (xs : List ℕ) (i : ℕ) where
    pub place_here : i < length xs → get_or xs i 0 ≡ s → place_of s (drop i xs) ≡ 0
    place_here l e = rw (drop-cons xs i 0 l, place_cons, eq-eqb (get_or xs i 0) s e)

    pub place_on : i < length xs → (get_or xs i 0 ≡ s → ⊥) → place_of s (drop i xs) ≡ suc (place_of s (drop (suc i) xs))
    place_on l ne = rw (drop-cons xs i 0 l, place_cons, ne_eqb (get_or xs i 0) s ne)

    pub place_none : length xs ≤ i → place_of s (drop i xs) ≡ 0
    unfolding place_of
    place_none l = rw (drop_of_length-le xs l)

  -- whatever follows the list
  module _ (last : List (List ℕ)) (more : List ℕ) where
    pub parted_at : (xs : List ℕ) → place_of s xs < length xs
        → parted s last (xs ++ more) ≡ take (place_of s xs) xs ∷ parted s last (drop (suc (place_of s xs)) xs ++ more)
    unfolding place_of on_first parted
    parted_at [] h = absurd (omega arith)
    parted_at (b ∷ bs) h = go (eqb b s) refl (parted_at bs)
      where
        go : (t : Bool) → eqb b s ≡ t
            → (place_of s bs < length bs
            → parted s last (bs ++ more) ≡ take (place_of s bs) bs ∷ parted s last (drop (suc (place_of s bs)) bs ++ more))
            → parted s last ((b ∷ bs) ++ more)
            ≡ take (place_of s (b ∷ bs)) (b ∷ bs) ∷ parted s last (drop (suc (place_of s (b ∷ bs))) (b ∷ bs) ++ more)
        go true e ih = rw e
        go false e ih =
            let l : place_of s (b ∷ bs) ≡ suc (place_of s bs) = rw e in
            let m : place_of s bs < length bs = omega arith in
            rw (e, ih m)

  -- no such byte: all is one part
  pub parted_words : (xs : List ℕ) → length xs ≤ place_of s xs → parted s ([] ∷ []) xs ≡ xs ∷ []
  unfolding place_of on_first parted
  parted_words [] h = refl
  parted_words (b ∷ bs) h = go (eqb b s) refl (parted_words bs)
    where
      go : (t : Bool) → eqb b s ≡ t → (length bs ≤ place_of s bs → parted s ([] ∷ []) bs ≡ bs ∷ [])
          → parted s ([] ∷ []) (b ∷ bs) ≡ (b ∷ bs) ∷ []
      go true e ih = let l : place_of s (b ∷ bs) ≡ zero = rw e in absurd (omega arith)
      go false e ih =
          let l : place_of s (b ∷ bs) ≡ suc (place_of s bs) = rw e in
          let m : length bs ≤ place_of s bs = omega arith in
          rw (e, ih m)

  -- with more behind it the first part goes on up to the first such byte there
  first_part : (b : ℕ) (v : List ℕ)
      → on_first b (parted s [] v) ≡ (b ∷ take (place_of s v) v) ∷ parted s [] (drop (suc (place_of s v)) v)
  unfolding place_of on_first parted
  first_part b [] = refl
  first_part b (x ∷ xs) = go (eqb x s) refl (first_part x xs)
    where
      go : (t : Bool) → eqb x s ≡ t
          → on_first x (parted s [] xs) ≡ (x ∷ take (place_of s xs) xs) ∷ parted s [] (drop (suc (place_of s xs)) xs)
          → on_first b (parted s [] (x ∷ xs))
          ≡ (b ∷ take (place_of s (x ∷ xs)) (x ∷ xs)) ∷ parted s [] (drop (suc (place_of s (x ∷ xs))) (x ∷ xs))
      go true e ih = rw e
      go false e ih = rw (e, ih)

  module _ (v : List ℕ) where
    pub parted_through : (b : ℕ) (bs : List ℕ) → length (b ∷ bs) ≤ place_of s (b ∷ bs)
        → parted s [] ((b ∷ bs) ++ v) ≡ ((b ∷ bs) ++ take (place_of s v) v) ∷ parted s [] (drop (suc (place_of s v)) v)
    unfolding place_of on_first parted
    parted_through b [] h = go (eqb b s) refl
      where
        go : (t : Bool) → eqb b s ≡ t
            → parted s [] (b ∷ v) ≡ (b ∷ take (place_of s v) v) ∷ parted s [] (drop (suc (place_of s v)) v)
        go true e = let l : place_of s (b ∷ []) ≡ zero = rw e in absurd (omega arith)
        go false e = rw e (first_part b v)
    parted_through b (c ∷ cs) h = go (eqb b s) refl (parted_through c cs)
      where
        go : (t : Bool) → eqb b s ≡ t
            → (length (c ∷ cs) ≤ place_of s (c ∷ cs)
            → parted s [] ((c ∷ cs) ++ v) ≡ ((c ∷ cs) ++ take (place_of s v) v) ∷ parted s [] (drop (suc (place_of s v)) v))
            → parted s [] ((b ∷ c ∷ cs) ++ v) ≡ ((b ∷ c ∷ cs) ++ take (place_of s v) v) ∷ parted s [] (drop (suc (place_of s v)) v)
        go true e ih = let l : place_of s (b ∷ c ∷ cs) ≡ zero = rw e in absurd (omega arith)
        go false e ih =
            let l : place_of s (b ∷ c ∷ cs) ≡ suc (place_of s (c ∷ cs)) = rw e in
            let m : length (c ∷ cs) ≤ place_of s (c ∷ cs) = omega arith in
            rw (e, ih m)

    -- the first such byte of two lists one behind the other: in the first, or past it
    pub place_before : (u : List ℕ) → place_of s u < length u → place_of s (u ++ v) ≡ place_of s u
    unfolding place_of
    place_before [] h = absurd (omega arith)
    place_before (b ∷ bs) h = go (eqb b s) refl (place_before bs)
      where
        go : (t : Bool) → eqb b s ≡ t → (place_of s bs < length bs → place_of s (bs ++ v) ≡ place_of s bs)
            → place_of s ((b ∷ bs) ++ v) ≡ place_of s (b ∷ bs)
        go true e ih = rw e
        go false e ih =
            let l : place_of s (b ∷ bs) ≡ suc (place_of s bs) = rw e in
            let m : place_of s bs < length bs = omega arith in
            rw (e, ih m)

    pub place_behind : (u : List ℕ) → length u ≤ place_of s u → place_of s (u ++ v) ≡ length u + place_of s v
    unfolding place_of
    place_behind [] h = omega arith
    place_behind (b ∷ bs) h = go (eqb b s) refl (place_behind bs)
      where
        go : (t : Bool) → eqb b s ≡ t → (length bs ≤ place_of s bs → place_of s (bs ++ v) ≡ length bs + place_of s v)
            → place_of s ((b ∷ bs) ++ v) ≡ suc (length bs) + place_of s v
        go true e ih = let l : place_of s (b ∷ bs) ≡ zero = rw e in absurd (omega arith)
        go false e ih =
            let l : place_of s (b ∷ bs) ≡ suc (place_of s bs) = rw e in
            let m : length bs ≤ place_of s bs = omega arith in
            rw (e, ih m) (omega arith)
