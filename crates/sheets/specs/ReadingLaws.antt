-- Reading an entry of a well-formed sheet: its numbers have their bounds, so nothing is lost or passed (`readable`), and the list that x
-- and y point at is the entry's own, the one that starts where the last ended (`reads_elements`). Assumes nothing.
use Rattle.std.proofs.Common.{inl, inr, arith}
use Rattle.std.proofs.lemmas.Bool.{cases_Bool}
use Rattle.std.specs.Prelude.{◌≡◌, List, ℕ, ◌+◌, ◌*◌, ◌≤◌, ◌<◌, length, ℤ, pos}
use Rattle.std.proofs.Math.Bool.{true, false}
use Rattle.decimals.specs.Decimals.{scale_limit}
use Rattle.sheets.specs.Entries.{field_of, kind_of}
use Rattle.sheets.specs.Table.{has_list}
use Rattle.sheets.specs.Bodies.{tag_of, list_length_at, bodies_at, elements_at}
use Rattle.sheets.specs.WellFormed.{WellFormed}
use Rattle.sheets.specs.Reading.{scaled_at, list_at, entry_of, predicate_as, predicate_of}
use Rattle.sheets.specs.TableLaws.{entered}
use Rattle.sheets.specs.BodiesLaws.{length_listed, length_unlisted}

-- what reading an entry gives, with a list and without one
module _ (first : ℕ) (s : List ℤ) (n i : ℕ) where
  pub entry_listed : has_list (tag_of first s i) ≡ true
      → record {
        attribute = field_of first s i 1;
        kind = kind_of first s i;
        tag = tag_of first s i;
        number = pos 0;
        scale = 0;
        start = bodies_at first n + field_of first s i 3;
        length = field_of first s i 4;
      }
      ≡ entry_of first s n i
  unfolding entry_of
  entry_listed h = rw (length_listed first s i h, h)

  pub entry_unlisted : has_list (tag_of first s i) ≡ false
      → record {
        attribute = field_of first s i 1;
        kind = kind_of first s i;
        tag = tag_of first s i;
        number = (scaled_at first s i).number;
        scale = (scaled_at first s i).scale;
        start = 0;
        length = 0;
      }
      ≡ entry_of first s n i
  unfolding entry_of
  entry_unlisted h = rw (length_unlisted first s i h, h)

pub record Readable (first : ℕ) (s : List ℤ) (n i : ℕ) : Type 0 where
  pub inside : first + 5 * i + 5 ≤ length s
  pub kinds : kind_of first s i ≤ 63
  pub tags : tag_of first s i ≤ 5
  pub scales : has_list (tag_of first s i) ≡ false → field_of first s i 4 ≤ scale_limit
  pub lists : has_list (tag_of first s i) ≡ true → bodies_at first n + field_of first s i 3 + field_of first s i 4 ≤ length s
  -- the list lies in the sheet, also where there is none
  pub part : list_at first s n i + list_length_at first s i ≤ length s

module _ (first : ℕ) (s : List ℤ) (n i : ℕ) (w : WellFormed first s n) (l : i < n) where
  listed_inside : has_list (tag_of first s i) ≡ true → bodies_at first n + field_of first s i 3 + field_of first s i 4 ≤ length s
  listed_inside h =
      let r = w.lists i l h in
      let start = r.start in
      let inside = r.inside in
      let size = length_listed first s i h in
      omega arith

  part_inside : list_at first s n i + list_length_at first s i ≤ length s
  part_inside = elim (cases_Bool (has_list (tag_of first s i))) [
    | inl h ↦ let inside = listed_inside h in rw (h, length_listed first s i h) inside
    | inr h ↦ rw (h, length_unlisted first s i h) (omega arith)
  ]

  pub readable : Readable first s n i
  readable =
      let e = entered _ (field_of first s i 1) (tag_of first s i) (field_of first s i 3) (field_of first s i 4) (w.entry i l) in
      let room = w.room in
      record {
        inside = omega arith;
        kinds = e.kinds;
        tags = e.tags;
        scales = e.scales;
        lists = listed_inside;
        part = part_inside;
      }

  -- the list as the entry points at it
  pub entry_part : (entry_of first s n i).start + (entry_of first s n i).length ≤ length s
  unfolding entry_of
  entry_part = part_inside

  pub reads_elements : (predicate_of first s n i).elements ≡ elements_at first s n i
  unfolding entry_of predicate_as
  reads_elements = elim (cases_Bool (has_list (tag_of first s i))) [
    | inl h ↦ rw (h, (w.lists i l h).start)
    | inr h ↦ rw (h, length_unlisted first s i h)
  ]
