-- A merge of two lists that ascend strictly, against their reading as sets: one step for each order of the two elements met.
-- Assumes nothing.
use mathlib.Core.Path.{◌≡◌, refl, ◌∙◌}
use mathlib.Core.Bool.{Bool, true, false, ◌&&◌, ◌||◌}
use mathlib.Core.List.{List, [], ◌∷◌}
use Prim.Native.Nat.{ℕ, zero, suc, ◌+◌, ◌<◌, ◌≤◌}
use native.Mathlib.Nat.{le_of_suc-le-suc}
use native.Mathlib.Numerals.{add-one}
use native.Mathlib.Omega.{arith}
use lib.ListN.{length, drop, drop_of_length-le}
use lib.Seq.{drop-cons}
use lib.IntN.{ℤ, pos}
use lib.Signed.{lt_z}
use Rattle.lists.specs.Sets.{eq_z, within, shares, inside, ascends}
use Rattle.lists.specs.BoolLaws.{or_left, or_right}
use Rattle.std.proofs.Common.{Less, Equal, Greater, int_cmp, eqb, ne_eqb, eq-eqb}
use native.Mathlib.Decide.{dec_lt}
use Rattle.lists.proofs.IntegerLaws.{eq_z_sym, eq_z_same, neither_below, cmp_less, cmp_equal, cmp_greater}
use Rattle.lists.proofs.SetsLaws.{ascends_rest, absent_below, absent_rest}
use Rattle.lists.proofs.Items.{item}

-- what `shares` and `inside` have in common: each joins, element by element of the left list, whether it is in the right one
pub record Merges (f : List ℤ → List ℤ → Bool) : Type 0 where
  pub joins : Bool → Bool → Bool
  pub empty : Bool
  pub none : (r : List ℤ) → f [] r ≡ empty
  pub more : (x : ℤ) (l r : List ℤ) → f (x ∷ l) r ≡ joins (within x r) (f l r)

pub shares_merges : Merges shares
unfolding shares
shares_merges = record { joins = ◌||◌; empty = false; none = λ r. refl; more = λ x l r. refl }

pub inside_merges : Merges inside
unfolding inside
inside_merges = record { joins = ◌&&◌; empty = true; none = λ r. refl; more = λ x l r. refl }

module _ {f : List ℤ → List ℤ → Bool} (m : Merges f) where
  -- an element of the right list that is none of the left may go
  skip : (l : List ℤ) (y : ℤ) (r : List ℤ) → within y l ≡ false → f l (y ∷ r) ≡ f l r
  unfolding within
  skip [] y r h = rw (m.none (y ∷ r), m.none r)
  skip (x ∷ l) y r h =
      rw (
        m.more x l (y ∷ r),
        m.more x l r,
        eq_z_sym x y,
        or_left (eq_z y x) (within y l) h,
        skip l y r (or_right (eq_z y x) (within y l) h),
      )

-- the two first elements

module _ (x : ℤ) (l : List ℤ) (y : ℤ) (r : List ℤ) (a : ascends (x ∷ l) ≡ true) (b : ascends (y ∷ r) ≡ true) where
  shares_greater : lt_z x y ≡ true → shares (x ∷ l) (y ∷ r) ≡ shares l (y ∷ r)
  unfolding shares
  shares_greater h = rw (absent_below x y r h b)

  shares_equal : eq_z x y ≡ true → shares (x ∷ l) (y ∷ r) ≡ true
  unfolding shares within
  shares_equal h = rw h

  inside_greater : lt_z x y ≡ true → inside (x ∷ l) (y ∷ r) ≡ false
  unfolding inside
  inside_greater h = rw (absent_below x y r h b)

  inside_head : eq_z x y ≡ true → inside (x ∷ l) (y ∷ r) ≡ inside l (y ∷ r)
  unfolding inside within
  inside_head h = rw h

  inside_equal : eq_z x y ≡ true → inside (x ∷ l) (y ∷ r) ≡ inside l r
  inside_equal h = inside_head h ∙ skip inside_merges l y r (rw (eq_z_same x y h) at (absent_rest x l a))

-- the two elements at a place of each list

ascends_drop : (l : List ℤ) (i : ℕ) → ascends l ≡ true → ascends (drop i l) ≡ true
unfolding ascends
ascends_drop l zero h = h
ascends_drop [] (suc i) h = refl
ascends_drop (a ∷ l) (suc i) h = ascends_drop l i (ascends_rest a l h)

module _ (l r : List ℤ) (i j : ℕ) (up : (ascends l ≡ true) × (ascends r ≡ true)) (hi : i < length l) (hj : j < length r) where
  left_up : ascends (item l i ∷ drop (suc i) l) ≡ true
  left_up = rw (← drop-cons l i (pos 0) hi) (ascends_drop l i up.0)

  right_up : ascends (item r j ∷ drop (suc j) r) ≡ true
  right_up = rw (← drop-cons r j (pos 0) hj) (ascends_drop r j up.1)

  pub skip_right : {f : List ℤ → List ℤ → Bool} → Merges f → Greater ≡ int_cmp (item l i) (item r j)
      → f (drop i l) (drop j r) ≡ f (drop i l) (drop (j + 1) r)
  skip_right m h =
      let below : lt_z (item r j) (item l i) ≡ true = cmp_greater (item l i) (item r j) h in
      rw (add-one j, drop-cons l i (pos 0) hi, drop-cons r j (pos 0) hj)
      (skip m (item l i ∷ drop (suc i) l) (item r j) (drop (suc j) r) (absent_below (item r j) (item l i) (drop (suc i) l) below left_up))

  pub shares_left : Less ≡ int_cmp (item l i) (item r j) → shares (drop i l) (drop j r) ≡ shares (drop (i + 1) l) (drop j r)
  shares_left h =
      rw (add-one i, drop-cons l i (pos 0) hi, drop-cons r j (pos 0) hj)
      (shares_greater _ _ _ _ left_up right_up (cmp_less (item l i) (item r j) h))

  pub shares_both : Equal ≡ int_cmp (item l i) (item r j) → shares (drop i l) (drop j r) ≡ true
  shares_both h =
      rw (drop-cons l i (pos 0) hi, drop-cons r j (pos 0) hj)
      (shares_equal _ _ _ _ left_up right_up (cmp_equal (item l i) (item r j) h))

  pub inside_not : Less ≡ int_cmp (item l i) (item r j) → inside (drop i l) (drop j r) ≡ false
  inside_not h =
      rw (drop-cons l i (pos 0) hi, drop-cons r j (pos 0) hj)
      (inside_greater _ _ _ _ left_up right_up (cmp_less (item l i) (item r j) h))

  pub inside_both : Equal ≡ int_cmp (item l i) (item r j) → inside (drop i l) (drop j r) ≡ inside (drop (i + 1) l) (drop (j + 1) r)
  inside_both h =
      rw (add-one j, add-one i, drop-cons l i (pos 0) hi, drop-cons r j (pos 0) hj)
      (inside_equal _ _ _ _ left_up right_up (cmp_equal (item l i) (item r j) h))

-- where one of the two is at its end

shares_none : (l : List ℤ) → shares l [] ≡ false
unfolding shares within
shares_none [] = refl
shares_none (x ∷ l) = shares_none l

module _ (l r : List ℤ) (i j : ℕ) where
  pub shares_over : length r ≤ j → shares (drop i l) (drop j r) ≡ false
  shares_over h = rw (drop_of_length-le r h) (shares_none (drop i l))

  pub shares_end : length l ≤ i → shares (drop i l) (drop j r) ≡ false
  unfolding shares
  shares_end h = rw (drop_of_length-le l h)

  -- once the left list is at its end, or else the right one, the left is inside where it is the one
  pub inside_left : i ≤ length l → (i < length l → length r ≤ j) → eqb i (length l) ≡ inside (drop i l) (drop j r)
  unfolding inside within
  inside_left k over =
      elim (dec_lt i (length l)) [
        | yes u ↦ rw (ne_eqb i (length l) (λ e. omega arith), drop-cons l i (pos 0) u, drop_of_length-le r (over u))
        | no n ↦
            let done : length l ≤ i = omega (arith, n) in
            rw (eq-eqb i (length l) (omega arith), drop_of_length-le l done)
      ]

-- a longer list is not inside a shorter one
pub longer : (l r : List ℤ) → (ascends l ≡ true) × (ascends r ≡ true) → length r < length l → inside l r ≡ false
unfolding inside within
longer [] r up h = absurd (omega arith)
longer (x ∷ l) [] up h = refl
longer (x ∷ l) (y ∷ r) (a, b) h =
    go (lt_z y x) (lt_z x y) refl refl
    (longer (x ∷ l) r (a, ascends_rest y r b) (omega arith))
    (longer l r (ascends_rest x l a, ascends_rest y r b) (le_of_suc-le-suc h))
  where
    go : (t u : Bool) → lt_z y x ≡ t → lt_z x y ≡ u → inside (x ∷ l) r ≡ false → inside l r ≡ false → inside (x ∷ l) (y ∷ r) ≡ false
    go true u e f p q = skip inside_merges (x ∷ l) y r (absent_below y x l e a) ∙ p
    go false true e f p q = inside_greater x l y r a b f
    go false false e f p q = inside_equal x l y r a b (neither_below x y f e) ∙ q
