-- Membership in a list that ascends strictly, and what a search by halving says of it. Assumes nothing.
use mathlib.Core.Path.{◌≡◌, refl, sym, ◌∙◌}
use mathlib.Core.Bool.{true, false, or-true}
use mathlib.Core.List.{List, [], ◌∷◌}
use Prim.Native.Nat.{ℕ, zero, suc, ◌-◌, ◌<◌, ◌≤◌}
use native.Mathlib.Nat.{le_of_suc-le-suc}
use native.Mathlib.Decide.{dec_lt}
use native.Mathlib.Omega.{arith}
use lib.ListN.{length}
use lib.IntN.{ℤ}
use lib.Signed.{lt_z}
use Rattle.std.proofs.Common.{Result, Ok, Err, Ordering, Less, Equal, Greater, int_cmp}
use Rattle.std.specs.Prelude.{is_ok}
use Rattle.lists.specs.Sets.{eq_z, within, ascends}
use Rattle.lists.specs.Searching.{Parted, Searched}
use Rattle.lists.proofs.IntegerLaws.{eq_z_sym, lt_z_trans, below_differs, above_differs, cmp_less, cmp_equal, cmp_greater}
use Rattle.lists.proofs.SetsLaws.{ascends_first, ascends_rest}
use Rattle.lists.proofs.Items.{item}

-- the first is below each later one, so an earlier one is below a later one
below_later : (a : ℤ) (l : List ℤ) → ascends (a ∷ l) ≡ true → (k : ℕ) → k < length l → lt_z a (item l k) ≡ true
below_later a [] h k lt = absurd (omega arith)
below_later a (b ∷ l) h zero lt = ascends_first a b l h
below_later a (b ∷ l) h (suc k) lt =
    lt_z_trans a b (item l k) (ascends_first a b l h) (below_later b l (ascends_rest a (b ∷ l) h) k (le_of_suc-le-suc lt))

by_places : (l : List ℤ) → ascends l ≡ true → (i j : ℕ) → i < j → j < length l → lt_z (item l i) (item l j) ≡ true
by_places [] h i j lt k = absurd (omega arith)
by_places (a ∷ l) h i zero lt k = absurd (omega arith)
by_places (a ∷ l) h zero (suc j) lt k = below_later a l h j (le_of_suc-le-suc k)
by_places (a ∷ l) h (suc i) (suc j) lt k = by_places l (ascends_rest a l h) i j (le_of_suc-le-suc lt) (le_of_suc-le-suc k)

-- membership by places
no_place : (x : ℤ) (l : List ℤ) → ((k : ℕ) → k < length l → eq_z x (item l k) ≡ false) → within x l ≡ false
unfolding within
no_place x [] h = refl
no_place x (y ∷ l) h = rw (h 0 (omega arith)) (no_place x l (λ k lt. h (suc k) (omega arith)))

a_place : (x : ℤ) (l : List ℤ) (k : ℕ) → k < length l → eq_z x (item l k) ≡ true → within x l ≡ true
unfolding within
a_place x [] k lt e = absurd (omega arith)
a_place x (y ∷ l) zero lt e = rw e
a_place x (y ∷ l) (suc k) lt e = rw (a_place x l k (le_of_suc-le-suc lt) e) (or-true (eq_z x y))

module _ (x : ℤ) (l : List ℤ) (up : ascends l ≡ true) where
  -- an element up to one below x is below x, and one from an element above x on is above x
  under : (k j : ℕ) → k ≤ j → j < length l → lt_z (item l j) x ≡ true → lt_z (item l k) x ≡ true
  under k j h b e =
      elim (dec_lt k j) [
        | yes u ↦ lt_z_trans (item l k) (item l j) x (by_places l up k j u b) e
        | no n ↦ let same : k ≡ j = omega (arith, n) in rw same e
      ]

  over : (j k : ℕ) → j ≤ k → k < length l → lt_z x (item l j) ≡ true → lt_z x (item l k) ≡ true
  over j k h b e =
      elim (dec_lt j k) [
        | yes u ↦ lt_z_trans x (item l j) (item l k) e (by_places l up j k u b)
        | no n ↦ let same : k ≡ j = omega (arith, n) in rw same e
      ]

  module _ {says : ℕ → Ordering → Type 0} (compares : (k : ℕ) (o : Ordering) → says k o → o ≡ int_cmp (item l k) x) where
    nowhere : (p : ℕ) → Parted says (length l) p → within x l ≡ false
    nowhere p b =
        no_place x l (λ k h.
        elim (dec_lt k p) [
          | yes u ↦
              let less : says (p - 1) Less = b.less (p - 1) (omega arith) in
              let below : lt_z (item l (p - 1)) x ≡ true = cmp_less (item l (p - 1)) x (compares (p - 1) Less less) in
              above_differs x (item l k) (under k (p - 1) (omega arith) (omega (arith, b.bound)) below)
          | no n ↦
              let above : lt_z x (item l p) ≡ true = cmp_greater (item l p) x (compares p Greater (b.greater (omega (arith, n)))) in
              below_differs x (item l k) (over p k (omega (arith, n)) h above)
        ])

    -- a search among the elements, each compared with x, finds a place where x is an element
    pub searched : (r : Result ℕ ℕ) → Searched says (length l) r → is_ok r ≡ within x l
    searched (Ok k) found =
        let equal : eq_z (item l k) x ≡ true = cmp_equal (item l k) x (compares k Equal found.equal) in
        sym (a_place x l k found.place (eq_z_sym x (item l k) ∙ equal))
    searched (Err p) parted = sym (nowhere p parted)
