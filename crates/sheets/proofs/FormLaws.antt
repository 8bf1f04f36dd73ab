-- The tests of `Form` say what the facts of `WellFormed` say: `formed_told` and `told_formed` are the two directions. Assumes nothing.
use Rattle.std.proofs.Common.{inl, inr, ◌∙◌}
use Rattle.std.proofs.lemmas.Bool.{cases_Bool}
use Rattle.std.specs.Prelude.{◌≡◌, Bool, List, ℕ, ◌+◌, ◌<◌, leb, length, ℤ}
use Rattle.std.proofs.Math.Path.{refl}
use Rattle.std.proofs.Math.Bool.{true, false, cond}
use borrow.Author.Tests.{leb-true, le-leb, lt-leb, eqb-true, eq-eqb}
use Rattle.std.proofs.Math.Dec.{eqb}
use Rattle.lists.specs.And.{◌and◌}
use Rattle.lists.specs.AndLaws.{and_left, and_right, and_first, and_both}
use Rattle.lists.specs.Below.{all_below}
use Rattle.lists.specs.BelowLaws.{below_each, below_all}
use Rattle.lists.specs.Sets.{ascends}
use Rattle.sheets.specs.Entries.{field_of}
use Rattle.sheets.specs.Table.{has_list}
use Rattle.sheets.specs.Bodies.{tag_of, list_length_at, start_at, bodies_at, elements_at, all_words, elements_fit}
use Rattle.sheets.specs.WellFormed.{entry_fits_at, Listed, WellFormed}
use Rattle.sheets.specs.Form.{one_tree, list_fits_at, lists_fit, is_well_formed}
use Rattle.sheets.proofs.SheetTests.{sheet_tests}
use Rattle.sheets.proofs.OwedLaws.{owed_tree, tree_owed}
use Rattle.sheets.proofs.ListFitsLaws.{fits_unlisted, fits_listed, fits_told}

-- ---- the elements of a list

module _ (tag : ℕ) (l : List ℤ) where
  elements_ascend : elements_fit tag l ≡ true → ascends l ≡ true
  unfolding elements_fit
  elements_ascend h = and_left (ascends l) (cond (eqb tag 5) (all_words l) true) h

  elements_words : elements_fit tag l ≡ true → tag ≡ 5 → all_words l ≡ true
  unfolding elements_fit
  elements_words h e = rw (eq-eqb tag 5 e) at (and_right (ascends l) (cond (eqb tag 5) (all_words l) true) h)

  elements_fit_lem : ascends l ≡ true → (tag ≡ 5 → all_words l ≡ true) → elements_fit tag l ≡ true
  unfolding elements_fit
  elements_fit_lem a w = and_both (ascends l) (cond (eqb tag 5) (all_words l) true) a (go (eqb tag 5) refl)
    where
      go : (b : Bool) → eqb tag 5 ≡ b → cond b (all_words l) true ≡ true
      go true e = w (eqb-true tag 5 e)
      go false e = refl

-- ---- a well-formed sheet

module _ (first : ℕ) (s : List ℤ) (n : ℕ) where
  listed : (i : ℕ) → has_list (tag_of first s i) ≡ true → list_fits_at first s n i ≡ true → Listed first s n i
  listed i h e =
      let r = fits_told s (bodies_at first n) (start_at first s i) (tag_of first s i) (field_of first s i 3)
      (list_length_at first s i) h e in
      record {
        start = r.0;
        inside = r.1;
        ascending = elements_ascend (tag_of first s i) (elements_at first s n i) r.2;
        words = elements_words (tag_of first s i) (elements_at first s n i) r.2;
      }

  fitting : (i : ℕ) → (has_list (tag_of first s i) ≡ true → Listed first s n i) → list_fits_at first s n i ≡ true
  fitting i g = elim (cases_Bool (has_list (tag_of first s i))) [
    | inl h ↦ let r = g h in
        fits_listed _ _ _ _ _ _ h r.start r.inside
        ∙ elements_fit_lem (tag_of first s i) (elements_at first s n i) r.ascending r.words
    | inr h ↦ fits_unlisted _ _ _ _ _ _ h
  ]

  abbrev roomy : Bool
  roomy = leb (bodies_at first n) (length s)

  abbrev entered : Bool
  entered = all_below (entry_fits_at first s) n

  abbrev ended : Bool
  ended = eqb (bodies_at first n + start_at first s n) (length s)

  pub formed_told : is_well_formed first s n ≡ true → WellFormed first s n
  unfolding is_well_formed lists_fit
  formed_told h =
      let three = and_left (roomy and entered and one_tree first s n) (lists_fit first s n) h in
      let two = and_left (roomy and entered) (one_tree first s n) three in
      let lists = and_right (roomy and entered and one_tree first s n) (lists_fit first s n) h in
      record {
        room = leb-true _ _ (and_left roomy entered two);
        entry = below_each (entry_fits_at first s) n (and_right roomy entered two);
        tree = owed_tree first s n (and_right (roomy and entered) (one_tree first s n) three);
        lists =
            λ i l k. listed i k (below_each (list_fits_at first s n) n (and_left (all_below (list_fits_at first s n) n) ended lists) i l);
        end = eqb-true _ _ (and_right (all_below (list_fits_at first s n) n) ended lists);
      }

  pub told_formed : WellFormed first s n → is_well_formed first s n ≡ true
  unfolding is_well_formed lists_fit
  told_formed w =
      and_both (roomy and entered and one_tree first s n) (lists_fit first s n)
      (and_both (roomy and entered) (one_tree first s n)
      (and_both roomy entered (le-leb _ _ w.room) (below_all (entry_fits_at first s) n w.entry))
      (tree_owed first s n w.tree))
      (and_both (all_below (list_fits_at first s n) n) ended
      (below_all (list_fits_at first s n) n (λ i l. fitting i (w.lists i l)))
      (eq-eqb _ _ w.end))

-- ---- what the code tests of it

pub outside : (first : ℕ) (s : List ℤ) (n : ℕ) → length s < bodies_at first n → is_well_formed first s n ≡ false
unfolding is_well_formed
outside first s n l = and_first _ _ (and_first _ _ (and_first _ _ (lt-leb (bodies_at first n) (length s) l)))

pub ruleset form_tests = (sheet_tests, outside)
