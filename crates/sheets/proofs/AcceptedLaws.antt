-- What is read from an accepted sheet is within the limits: each of its predicates could be written (`predicate_writable`), and so the
-- tree has a sheet of its own (`accepted_within`). With `EncodingLaws` these are the two directions between sheets and trees.
-- Assumes nothing.
use Rattle.std.proofs.Common.{inl, inr, sym, ◌∙◌, true≢false, arith}
use Rattle.std.proofs.lemmas.Bool.{cases_Bool}
use Rattle.std.specs.Prelude.{◌≡◌, List, [], eqb, take, drop, ℤ, pos}
use Rattle.std.proofs.Math.Path.{refl, ap, subst}
use Rattle.std.proofs.Math.Bool.{true, false}
use Prim.Native.Nat.{ℕ, zero, suc, ◌+◌, ◌≤◌, ◌<◌}
use borrow.Author.Tests.{eqb-true, leb-true, le-leb}
use Rattle.std.proofs.Math.ListN.{length-take}
use Rattle.lists.specs.AndLaws.{and_right}
use Rattle.lists.specs.Sets.{ascends}
use Rattle.decimals.specs.declared.Decimal.{Decimal}
use Rattle.decimals.specs.Decimals.{scale_limit}
use Rattle.decimals.specs.Normal.{shortened, normal_of, Normal}
use Rattle.decimals.proofs.NormalLaws.{normal_scale, normal_idempotent}
use Rattle.attributes.specs.Table.{is_between}
use Rattle.predicates.specs.Predicate.{Predicate}
use Rattle.ast.specs.Trees.{Tree, Join, Not, Value, entries}
use Rattle.sheets.specs.Entries.{natural_of, field_of, kind_of}
use Rattle.sheets.specs.Table.{has_list, allowed, literal_fits}
use Rattle.sheets.specs.declared.Shape.TheVariants.{Stands}
use Rattle.sheets.specs.Spells.{shape_of, Spells}
use Rattle.sheets.specs.Bodies.{tag_of, list_length_at, all_words}
use Rattle.sheets.specs.WellFormed.{count_of, WellFormed, Accepted}
use Rattle.sheets.specs.Form.{answer_of}
use Rattle.sheets.specs.Reading.{scaled_at, literal_at, list_at, entry_of, predicate_as, predicate_of}
use Rattle.sheets.specs.TableLaws.{literal_scale, told_between, predicate_told, allowed_bounded}
use Rattle.sheets.specs.SpellsLaws.{stands_shape, spells_size}
use Rattle.sheets.specs.BodiesLaws.{length_unlisted}
use Rattle.sheets.proofs.AnswersLaws.{accepted}
use Rattle.sheets.specs.ReadingLaws.{reads_elements}
use Rattle.sheets.specs.Encoding.{Writable, Leaves, WithinLimits, tree_read}
use Rattle.sheets.proofs.WrittenLaws.{list_literal}

-- a literal that fits still fits in normal form
module _ (x : ℤ) (y : ℕ) where
  abbrev shorter : Decimal
  shorter = normal_of (record { number = x; scale = y })

  whole : y ≡ 0 → shorter ≡ record { number = x; scale = 0 }
  unfolding normal_of shortened
  whole e = rw e

  normal_fits : (tag : ℕ) → tag ≤ 5 → has_list tag ≡ false → literal_fits tag (natural_of x) y ≡ true
      → literal_fits tag (natural_of shorter.number) shorter.scale ≡ true
  unfolding literal_fits
  normal_fits zero b n h = let e = eqb-true y 0 (and_right (eqb (natural_of x) 0) (eqb y 0) h) in rw (whole e) (rw e at h)
  normal_fits (suc zero) b n h = let e = eqb-true y 0 h in rw (whole e) refl
  normal_fits (suc (suc zero)) b n h =
      let least = leb-true y 28 h in
      let less = normal_scale (record { number = x; scale = y }) in
      le-leb shorter.scale 28 (omega arith)
  normal_fits (suc (suc (suc zero))) b n h =
      let e = eqb-true y 0 (and_right (is_between 1 (natural_of x) 65535) (eqb y 0) h) in rw (whole e) (rw e at h)
  normal_fits (suc (suc (suc (suc tag)))) b n h =
      absurd (true≢false (sym (told_between 4 (suc (suc (suc (suc tag)))) 5 (omega arith) b) ∙ n))

pub writable_scale : (p : Predicate) → Writable p → p.scale ≤ scale_limit
writable_scale p w = elim (cases_Bool (has_list p.tag)) [
  | inl h ↦ let e = (w.listed h).1 in omega arith
  | inr h ↦ literal_scale p.kind p.attribute p.tag (natural_of p.number) p.scale
      (allowed_bounded p.kind p.tag w.row).tags w.literal h
]

module _ (first : ℕ) (s : List ℤ) (n : ℕ) (a : Accepted first s n) where
  w : WellFormed first s n
  w = a.formed

  module _ (i : ℕ) (l : i < n) (stand : shape_of (kind_of first s i) ≡ Stands) where
    fits : (allowed (kind_of first s i) (tag_of first s i) ≡ true)
        × (literal_fits (tag_of first s i) (field_of first s i 3) (field_of first s i 4) ≡ true)
    fits =
        predicate_told (kind_of first s i) (field_of first s i 1) (tag_of first s i) (field_of first s i 3) (field_of first s i 4)
        (stands_shape (kind_of first s i) stand) (w.entry i l)

    empty : has_list (tag_of first s i) ≡ false → take (list_length_at first s i) (drop (list_at first s n i) s) ≡ []
    empty h = rw (length_unlisted first s i h)

    literal : literal_fits (tag_of first s i) (natural_of (literal_at first s i).number) (literal_at first s i).scale ≡ true
    unfolding scaled_at
    literal = elim (cases_Bool (has_list (tag_of first s i))) [
      | inl h ↦ list_literal (tag_of first s i) _ _ h
      | inr h ↦ let bounded = allowed_bounded (kind_of first s i) (tag_of first s i) fits.0 in
          rw h (normal_fits _ (field_of first s i 4) (tag_of first s i) bounded.tags h fits.1)
    ]

    normal : Normal (record { number = (literal_at first s i).number; scale = (literal_at first s i).scale })
    unfolding scaled_at
    normal = elim (cases_Bool (has_list (tag_of first s i))) [
      | inl h ↦ rw h (whole (pos 0) 0 refl)
      | inr h ↦ rw h (normal_idempotent _)
    ]

    ascending : ascends (predicate_of first s n i).elements ≡ true
    unfolding entry_of predicate_as ascends
    ascending = elim (cases_Bool (has_list (tag_of first s i))) [
      | inl h ↦ ap ascends (reads_elements first s n i w l) ∙ (w.lists i l h).ascending
      | inr h ↦ ap ascends (empty h)
    ]

    words : tag_of first s i ≡ 5 → all_words (predicate_of first s n i).elements ≡ true
    words e =
        let h : has_list (tag_of first s i) ≡ true = told_between 4 (tag_of first s i) 5 (omega arith) (omega arith) in
        ap all_words (reads_elements first s n i w l) ∙ (w.lists i l h).words e

    pub predicate_writable : Writable (predicate_of first s n i)
    unfolding entry_of predicate_as
    predicate_writable =
        let long = length-take (list_length_at first s i) (drop (list_at first s n i) s) in
        let few = a.short i l in
        record {
          row = fits.0;
          literal = literal;
          normal = normal;
          ascending = ascending;
          words = words;
          short = omega arith;
          unlisted = empty;
          listed = λ h. rw h (refl, refl);
        }

  -- ---- the tree

  leaves_writable : (t : Tree ℕ) (i j : ℕ) → Spells first s t i j → j ≤ n → Leaves Writable (tree_read first s n t)
  unfolding Spells
  leaves_writable (Value p) i j h l =
      let one = h.1 in
      subst (λ (k : ℕ). Writable (predicate_of first s n k)) (sym h.0) (predicate_writable i (omega arith) h.2)
  leaves_writable (Not t) i j h l = leaves_writable t (i + 1) j h.1 l
  leaves_writable (Join o t u) i j h l =
      let e = spells_size first s u h.0 j h.3 in
      (leaves_writable t (i + 1) h.0 h.2 (omega arith), leaves_writable u h.0 j h.3 l)

  entries_read : (t : Tree ℕ) → entries (tree_read first s n t) ≡ entries t
  entries_read (Value p) = refl
  entries_read (Not t) = let e = entries_read t in omega arith
  entries_read (Join o t u) = let e = entries_read t in let f = entries_read u in omega arith

  read_within : (t : Tree ℕ) → Spells first s t 0 n → WithinLimits (tree_read first s n t)
  read_within t h =
      let size = spells_size first s t 0 n h in
      let same = entries_read t in
      let few = a.counted.few in
      record { few = omega arith; leaves = leaves_writable t 0 n h (omega arith) }

pub accepted_within : (first : ℕ) (s : List ℤ) → answer_of first s ≡ 0 → (t : Tree ℕ) → Spells first s t 0 (count_of first s)
    → WithinLimits (tree_read first s (count_of first s) t)
accepted_within first s h t = read_within first s (count_of first s) (accepted first s h) t
