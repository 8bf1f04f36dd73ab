-- Laws of the test of one list, `list_fits`: its value by the tag, the start and the end, and what it tells where it holds.
-- Assumes nothing.
use Rattle.std.proofs.Common.{inl, inr, sym, ◌∙◌, arith, eqb-true, leb-true, eq-eqb, ne_eqb, le-leb}
use Rattle.std.proofs.lemmas.Bool.{cases_Bool, lt-leb}
use Rattle.std.specs.Prelude.{◌≡◌, Bool, true, false, List, ℕ, ◌+◌, ◌≤◌, ◌<◌, eqb, leb, length, take, drop, ℤ}
use Rattle.lists.specs.And.{◌and◌}
use Rattle.lists.specs.BelowLaws.{below_none, below_more}
use Rattle.lists.specs.AndLaws.{and_left, and_right, and_first, and_second, and_skip, and_both}
use Rattle.sheets.specs.Table.{has_list}
use Rattle.sheets.specs.Bodies.{tag_of, list_length_at, start_at, bodies_at, elements_fit}
use Rattle.sheets.specs.Form.{list_fits, list_fits_at}
use Rattle.sheets.specs.BodiesLaws.{length_unlisted, start_first, start_next}
use Rattle.sheets.proofs.SheetTests.{sheet_tests}

module _ (s : List ℤ) (base start tag x size : ℕ) where
  pub fits_unlisted : has_list tag ≡ false → list_fits s base start tag x size ≡ true
  unfolding list_fits
  fits_unlisted h = rw h

  module _ (h : has_list tag ≡ true) where
    abbrev starts : Bool
    starts = eqb x start

    abbrev ends : Bool
    ends = leb (base + start + size) (length s)

    abbrev holds : Bool
    holds = elements_fit tag (take size (drop (base + start) s))

    fits_is : list_fits s base start tag x size ≡ starts and ends and holds
    unfolding list_fits
    fits_is = rw h

    pub fits_elsewhere : ¬ (x ≡ start) → list_fits s base start tag x size ≡ false
    fits_elsewhere n = fits_is ∙ and_first (starts and ends) holds (and_first starts ends (ne_eqb x start n))

    pub fits_past : length s < base + start + size → list_fits s base start tag x size ≡ false
    fits_past l = fits_is ∙ and_first (starts and ends) holds (and_second starts ends (lt-leb _ _ l))

    pub fits_listed : x ≡ start → base + start + size ≤ length s → list_fits s base start tag x size ≡ holds
    fits_listed e l = fits_is ∙ and_skip (starts and ends) holds (and_both starts ends (eq-eqb x start e) (le-leb _ _ l))

    pub fits_told : list_fits s base start tag x size ≡ true → (x ≡ start) × (base + start + size ≤ length s) × (holds ≡ true)
    fits_told e =
        let f : starts and ends and holds ≡ true = sym fits_is ∙ e in
        let g = and_left (starts and ends) holds f in
        (eqb-true x start (and_left starts ends g), leb-true _ _ (and_right starts ends g), and_right (starts and ends) holds f)

-- a list that fits leaves the next one within the sheet
pub fits_inside : (first : ℕ) (s : List ℤ) (n i : ℕ) → list_fits_at first s n i ≡ true → bodies_at first n + start_at first s i ≤ length s
    → bodies_at first n + start_at first s i + list_length_at first s i ≤ length s
fits_inside first s n i e l = elim (cases_Bool (has_list (tag_of first s i))) [
  | inl h ↦ (fits_told s (bodies_at first n) (start_at first s i) (tag_of first s i) _ (list_length_at first s i) h e).1
  | inr h ↦ let none = length_unlisted first s i h in omega arith
]

pub ruleset list_steps = (sheet_tests, start_first, start_next, fits_inside, below_none, below_more)
