-- One entry as `sheet_of` writes it: it may stand in a sheet, its list is the one that is due, and it reads back to its predicate.
-- Used by `EncodingLaws`. Assumes nothing.
use Rattle.std.proofs.Common.{inl, inr, sym, ◌∙◌, true≢false, arith, ne_eqb, length-append, length-drop, get_or-drop, drop-drop, take_at}
use Rattle.std.proofs.lemmas.Bool.{cases_Bool}
use Rattle.std.specs.Prelude.{◌≡◌, Bool, cond, List, ◌++◌, ℕ, ◌+◌, ◌*◌, ◌≤◌, length, get_or, take, drop, ℤ, pos}
use Rattle.std.proofs.Math.Path.{refl, ap}
use Rattle.std.proofs.Math.Bool.{true, false}
use Rattle.evaluation.specs.declared.Operator.{Operator}
use Rattle.evaluation.specs.declared.Operator.TheVariants.{And, Or}
use Rattle.lists.specs.And.{◌and◌}
use Rattle.lists.specs.Sets.{list_limit}
use Rattle.predicates.specs.Predicate.{Predicate}
use Rattle.sheets.specs.Entries.{natural_of, field_of, kind_of}
use Rattle.sheets.specs.Table.{has_list, literal_fits, entry_fits}
use Rattle.sheets.specs.declared.Shape.TheVariants.{Joins, Stands}
use Rattle.sheets.specs.Spells.{shape_of}
use Rattle.sheets.specs.Bodies.{tag_of, list_length_at, start_at, bodies_at, elements_at}
use Rattle.sheets.specs.WellFormed.{entry_fits_at, Listed}
use Rattle.sheets.specs.Reading.{scaled_at, literal_at, list_at, entry_of, predicate_as, predicate_of}
use Rattle.sheets.specs.TableLaws.{between_above, between_told, told_between, between_below, allowed_bounded, predicate_fits}
use Rattle.sheets.specs.SpellsLaws.{shape_stands}
use Rattle.sheets.specs.BodiesLaws.{length_listed, length_unlisted}
use Rattle.sheets.specs.Encoding.{five_of, operator_number, Writable}

operator_fits : (k : ℕ) → 1 ≤ k → k ≤ 3 → entry_fits k 0 0 0 0 ≡ true
unfolding entry_fits ◌and◌
operator_fits k l h = rw (told_between 1 k 3 l h)

none_listed : has_list 0 ≡ false
none_listed = between_below 4 0 5 (omega arith)

pub list_literal : (tag x y : ℕ) → has_list tag ≡ true → literal_fits tag x y ≡ true
unfolding literal_fits
list_literal tag x y h =
    let b = between_told 4 tag 5 h in
    rw (ne_eqb tag 0 (λ e. omega arith), ne_eqb tag 1 (λ e. omega arith), ne_eqb tag 2 (λ e. omega arith), ne_eqb tag 3 (λ e. omega arith))

shape_predicate : (k : ℕ) → 10 ≤ k → shape_of k ≡ Stands
shape_predicate k l = shape_stands k (between_above 1 k 3 (omega arith))

pub shape_operator : (o : Operator) → shape_of (operator_number o) ≡ Joins o
unfolding shape_of
shape_operator And = refl
shape_operator Or = refl

pub operator_number_lem : (o : Operator) → (1 ≤ operator_number o) × (operator_number o ≤ 3)
operator_number_lem And = (omega arith, omega arith)
operator_number_lem Or = (omega arith, omega arith)

-- ---- one entry

module _ (first : ℕ) (s : List ℤ) where
  -- the five numbers that stand at entry i
  pub record Holds (i kind attribute tag : ℕ) (x : ℤ) (y : ℕ) : Type 0 where
    pub kinds : kind_of first s i ≡ kind
    pub attributes : field_of first s i 1 ≡ attribute
    pub tags : tag_of first s i ≡ tag
    pub number : get_or s (first + 5 * i + 3) (pos 0) ≡ x
    pub second : field_of first s i 4 ≡ y

  module _ (i kind attribute tag : ℕ) (x : ℤ) (y : ℕ) (rest : List ℤ)
      (e : drop (first + 5 * i) s ≡ five_of kind attribute tag x y ++ rest) where
    at : (j : ℕ) → get_or s (first + 5 * i + j) (pos 0) ≡ get_or (five_of kind attribute tag x y ++ rest) j (pos 0)
    at j = sym (get_or-drop (first + 5 * i) s j (pos 0)) ∙ ap (λ (l : List ℤ). get_or l j (pos 0)) e

    pub holds : Holds i kind attribute tag x y
    unfolding natural_of
    holds =
        record {
          kinds = ap natural_of (at 0);
          attributes = ap natural_of (at 1);
          tags = ap natural_of (at 2);
          number = at 3;
          second = ap natural_of (at 4);
        }

    pub further : drop (first + 5 * (i + 1)) s ≡ rest
    further =
        let f : first + 5 * (i + 1) ≡ first + 5 * i + 5 = omega arith in
        ap (λ (m : ℕ). drop m s) f ∙ sym (drop-drop 5 (first + 5 * i) s) ∙ ap (drop 5) e

  -- what a well-formed sheet asks of entry i
  pub record Written (n i : ℕ) : Type 0 where
    pub fits : entry_fits_at first s i ≡ true
    pub lists : has_list (tag_of first s i) ≡ true → Listed first s n i
    pub short : list_length_at first s i ≤ list_limit

  pub operator_written : (n i k : ℕ) → 1 ≤ k → k ≤ 3 → Holds i k 0 0 (pos 0) 0 → Written n i × (list_length_at first s i ≡ 0)
  unfolding natural_of
  operator_written n i k l h e =
      let none : has_list (tag_of first s i) ≡ false = ap has_list e.tags ∙ none_listed in
      let x : field_of first s i 3 ≡ 0 = ap natural_of e.number in
      let size = length_unlisted first s i none in (
        record {
          fits = rw (e.kinds, e.attributes, e.tags, x, e.second) (operator_fits k l h);
          lists = λ y. absurd (true≢false (sym y ∙ none));
          short = omega arith;
        },
        size,
      )

-- a predicate, with its list in the bodies
module _ (first : ℕ) (s : List ℤ) (n i start : ℕ) (p : Predicate) (after : List ℤ) (w : Writable p)
    (e : Holds first s i p.kind p.attribute p.tag (cond (has_list p.tag) (pos start) p.number)
    (cond (has_list p.tag) (length p.elements) p.scale))
    (due : start_at first s i ≡ start) (room : bodies_at first n + start ≤ length s)
    (body : drop (bodies_at first n + start) s ≡ p.elements ++ after) where
  tag_listed : (b : Bool) → has_list p.tag ≡ b → has_list (tag_of first s i) ≡ b
  tag_listed b h = ap has_list e.tags ∙ h

  pub size : list_length_at first s i ≡ length p.elements
  size = elim (cases_Bool (has_list p.tag)) [
    | inl h ↦ length_listed first s i (tag_listed true h) ∙ e.second ∙ rw h
    | inr h ↦ length_unlisted first s i (tag_listed false h) ∙ sym (ap length (w.unlisted h))
  ]

  inside : bodies_at first n + start + length p.elements ≤ length s
  inside =
      let long = sym (length-drop (bodies_at first n + start) s) ∙ ap length body ∙ length-append p.elements after in
      omega arith

  own : elements_at first s n i ≡ p.elements
  own = rw (size, due, body) (take_at p.elements after (length p.elements) refl)

  starts : has_list p.tag ≡ true → field_of first s i 3 ≡ start
  unfolding natural_of
  starts h = ap natural_of e.number ∙ rw h

  literal : literal_fits p.tag (natural_of (cond (has_list p.tag) (pos start) p.number))
      (cond (has_list p.tag) (length p.elements) p.scale) ≡ true
  literal = go (has_list p.tag) refl
    where
      go : (b : Bool) → has_list p.tag ≡ b
          → literal_fits p.tag (natural_of (cond b (pos start) p.number)) (cond b (length p.elements) p.scale) ≡ true
      go true h = list_literal p.tag _ _ h
      go false h = w.literal

  pub predicate_written : Written first s n i
  predicate_written =
      let x : field_of first s i 3 ≡ natural_of (cond (has_list p.tag) (pos start) p.number) = ap natural_of e.number in
      let short = w.short in
      let all = inside in
      let same = size in
      record {
        fits = rw (e.kinds, e.attributes, e.tags, x, e.second) (predicate_fits p.kind p.attribute p.tag _ _ w.row literal);
        lists = λ h.
            record {
              start = starts (sym (ap has_list e.tags) ∙ h) ∙ sym due;
              inside = rw (due, size) inside;
              ascending = rw own w.ascending;
              words = λ q. rw own (w.words (sym e.tags ∙ q));
            };
        short = omega arith;
      }

  pub predicate_spelled : shape_of (kind_of first s i) ≡ Stands
  predicate_spelled = ap shape_of e.kinds ∙ shape_predicate p.kind (allowed_bounded p.kind p.tag w.row).predicate

  reads_literal : literal_at first s i ≡ record { number = p.number; scale = p.scale }
  unfolding scaled_at
  reads_literal = elim (cases_Bool (has_list p.tag)) [
    | inl h ↦ rw (tag_listed true h, (w.listed h).0, (w.listed h).1)
    | inr h ↦ rw (tag_listed false h, e.number, e.second, h) w.normal
  ]

  reads_list : take (list_length_at first s i) (drop (list_at first s n i) s) ≡ p.elements
  reads_list = elim (cases_Bool (has_list p.tag)) [
    | inl h ↦ rw (size, tag_listed true h, starts h, body) (take_at p.elements after (length p.elements) refl)
    | inr h ↦ rw (length_unlisted first s i (tag_listed false h), w.unlisted h)
  ]

  pub predicate_read : predicate_of first s n i ≡ p
  unfolding entry_of predicate_as
  predicate_read = λ j.
      record {
        attribute = e.attributes j;
        kind = e.kinds j;
        tag = e.tags j;
        number = (reads_literal j).number;
        scale = (reads_literal j).scale;
        elements = reads_list j;
      }
