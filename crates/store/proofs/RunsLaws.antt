-- What a part is, and where its run stands.
--     part_is                            a part by its record
--     part_same, join_same               a part, and what it must be, go by its record and its run alone
--     sum_none, sum_more, sum_ext, sum_le    sums over the parts before a part
--     places_join, places_predicate, elements_join, elements_predicate    what one part more adds to the running sums
--     join_end, predicate_end            a part's run ends within its table's count
--     list_part                          a list, as the bytes that are handed back for it
-- Assumes nothing.
use mathlib.Core.Path.{◌≡◌, refl, sym, ap, ap₂, ◌∙◌}
use mathlib.Core.Bool.{Bool, true, false}
use mathlib.Core.List.{List}
use Prim.Native.Nat.{ℕ, zero, suc, ◌+◌, ◌*◌, ◌≤◌, ◌<◌}
use native.Mathlib.Decide.{ℕ_discrete}
use native.Mathlib.Omega.{arith}
use lib.IntN.{ℤ}
use lib.ListN.{get_or, take, drop}
use lib.Seq.{get_or-take, get_or-drop}
use mir.Syntax.{w64}
use mir.Val.{to_z}
use Rattle.lists.specs.Tabulate.{tabulate}
use Rattle.lists.proofs.TabulateLaws.{tabulate_ext}
use Rattle.words.specs.Word.{word, signed_word}
use Rattle.words.proofs.WordLaws.{word_ext}
use Rattle.store.specs.declared.Limits.{Limits}
use Rattle.store.specs.declared.Record.{Record}
use Rattle.store.specs.Layout.{elements_at}
use Rattle.model.specs.Parts.{alone, over}
use Rattle.store.specs.Records.{part_count, place_count, element_count, record_at, place_at, element_at}
use Rattle.store.specs.Tables.{is_join, operator_of, predicate_of, elements_from, part_if, part_at}
use Rattle.store.specs.Runs.{places_in, elements_in, sum_before, places_before, elements_before, JoinAt, Runs}

-- ---- a part by its record

module _ (limits : Limits) (b : List ℕ) (i : ℕ) where
  pub part_is : (t : Bool) → is_join (record_at limits b i) ≡ t → part_at limits b i ≡ part_if t limits b (record_at limits b i)
  unfolding part_at
  part_is t h = rw h

module _ (limits : Limits) (b : List ℕ) (i : ℕ) where
  abbrev r : Record
  r = record_at limits b i

  pub part_same : (d : List ℕ) (j : ℕ) → record_at limits d j ≡ r
      → (is_join r ≡ true → (k : ℕ) → k < r.length → place_at limits d (r.start + k) ≡ place_at limits b (r.start + k))
      → (is_join r ≡ false → (k : ℕ) → k < r.length → element_at limits d (r.start + k) ≡ element_at limits b (r.start + k))
      → part_at limits d j ≡ part_at limits b i
  part_same d j e places elements = go (is_join r) refl
    where
      go : (t : Bool) → is_join r ≡ t → part_at limits d j ≡ part_at limits b i
      go true h =
          part_is limits d j true (ap is_join e ∙ h)
          ∙ ap (part_if true limits d) e
          ∙ ap (over (operator_of r.kind)) (tabulate_ext r.length _ _ (places h))
          ∙ sym (part_is limits b i true h)
      go false h =
          part_is limits d j false (ap is_join e ∙ h)
          ∙ ap (part_if false limits d) e
          ∙ ap (λ (l : List ℤ). alone (predicate_of r l)) (tabulate_ext r.length _ _ (elements h))
          ∙ sym (part_is limits b i false h)

-- ---- sums

module _ (f : Record → ℕ) (limits : Limits) where
  pub sum_none : (b : List ℕ) → sum_before f limits b 0 ≡ 0
  unfolding sum_before
  sum_none b = refl

  pub sum_more : (b : List ℕ) (i : ℕ) → sum_before f limits b (suc i) ≡ sum_before f limits b i + f (record_at limits b i)
  unfolding sum_before
  sum_more b i = refl

  pub sum_ext : (b d : List ℕ) (i : ℕ) → ((q : ℕ) → q < i → record_at limits d q ≡ record_at limits b q)
      → sum_before f limits d i ≡ sum_before f limits b i
  sum_ext b d zero h = sum_none d ∙ sym (sum_none b)
  sum_ext b d (suc i) h =
      sum_more d i ∙ ap₂ ◌+◌ (sum_ext b d i (λ q u. h q (omega arith))) (ap f (h i (omega arith))) ∙ sym (sum_more b i)

  pub sum_le : (b : List ℕ) (i n : ℕ) → i ≤ n → sum_before f limits b i ≤ sum_before f limits b n
  sum_le b i zero h = let e : i ≡ 0 = omega arith in rw e (omega arith)
  sum_le b i (suc n) h =
      elim (ℕ_discrete i (suc n)) [
        | yes e ↦ rw e (omega arith)
        | no ne ↦ omega (arith, sum_more b n, sum_le b i n (omega (arith, ne)))
      ]

module _ (limits : Limits) (b : List ℕ) (i : ℕ) where
  pub places_join : is_join (record_at limits b i) ≡ true
      → places_before limits b (suc i) ≡ places_before limits b i + (record_at limits b i).length
  places_join h = sum_more places_in limits b i ∙ rw h

  pub places_predicate : is_join (record_at limits b i) ≡ false → places_before limits b (suc i) ≡ places_before limits b i
  places_predicate h = sum_more places_in limits b i ∙ rw h (omega arith)

  pub elements_join : is_join (record_at limits b i) ≡ true → elements_before limits b (suc i) ≡ elements_before limits b i
  elements_join h = sum_more elements_in limits b i ∙ rw h (omega arith)

  pub elements_predicate : is_join (record_at limits b i) ≡ false
      → elements_before limits b (suc i) ≡ elements_before limits b i + (record_at limits b i).length
  elements_predicate h = sum_more elements_in limits b i ∙ rw h

  -- ---- what an And or Or must be

  pub join_same : (d : List ℕ) → record_at limits d i ≡ record_at limits b i → places_before limits d i ≡ places_before limits b i
      → ((k : ℕ) → k < (record_at limits b i).length
      → place_at limits d (places_before limits b i + k) ≡ place_at limits b (places_before limits b i + k))
      → JoinAt limits b i → JoinAt limits d i
  join_same d e sums places j =
      let long = ap (λ (x : Record). x.length) e in
      record {
        start = ap (λ (x : Record). x.start) e ∙ j.start ∙ sym sums;
        children = λ k u. rw sums (omega (arith, places k (omega arith), j.children k (omega arith)));
        blank = rw e j.blank;
      }

  -- ---- where a part's run ends

  module _ (s : Runs limits b) (l : i < part_count b) where
    pub join_end : is_join (record_at limits b i) ≡ true → (record_at limits b i).start + (record_at limits b i).length ≤ place_count b
    join_end h =
        omega (arith, (s.joins i l h).start, places_join h, sum_le places_in limits b (suc i) (part_count b) l, s.places)

    pub predicate_end : is_join (record_at limits b i) ≡ false
        → (record_at limits b i).start + (record_at limits b i).length ≤ element_count b
    predicate_end h =
        omega (arith, s.predicates i l h, elements_predicate h, sum_le elements_in limits b (suc i) (part_count b) l, s.elements)

-- ---- a list as bytes

-- element k of the list that starts at start, read from the bytes that are handed back for n elements
pub list_part : (limits : Limits) (b : List ℕ) (start n : ℕ)
    → tabulate n (λ k. signed_word (take (8 * n) (drop (elements_at limits + 8 * start) b)) (8 * k)) ≡ elements_from limits b start n
unfolding signed_word
list_part limits b start n = tabulate_ext n _ _ same
  where
    part : List ℕ
    part = take (8 * n) (drop (elements_at limits + 8 * start) b)

    same : (k : ℕ) → k < n → to_z w64 (word 8 part (8 * k)) ≡ to_z w64 (word 8 b (elements_at limits + 8 * (start + k)))
    same k u =
        ap (to_z w64)
        (word_ext 8 part b (8 * k) (elements_at limits + 8 * (start + k))
        (λ i v.
        let e : elements_at limits + 8 * start + (8 * k + i) ≡ elements_at limits + 8 * (start + k) + i = omega arith in
        get_or-take (8 * n) (drop (elements_at limits + 8 * start) b) (8 * k + i) 0 (omega arith)
        ∙ get_or-drop (elements_at limits + 8 * start) b (8 * k + i) 0
        ∙ ap (λ (j : ℕ). get_or b j 0) e))
