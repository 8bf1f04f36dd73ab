-- Laws of sound tables.
--     sound_iff                       the test `sound_table` holds exactly where the marks do
--     sound_size, sound_few           its size, and how many attributes it may have
--     sound_empty                     a table with no attributes is sound
--     name_length                     a name in a sound table is as long as its record says
--     by_name_iff                     an attribute is found by a name exactly where it has that name
--     by_name_empty, by_name_long     an empty name and a long one are found nowhere
--     by_name_within                  what is found is a place of the table
-- Assumes nothing.
use Rattle.std.specs.Prelude.{◌≡◌, true, ◌↔◌, List, [], ℕ, ◌≤◌, ◌<◌, length, Option, None, Some, IfSome}
use Rattle.std.specs.Option.{is_none}
use Rattle.std.proofs.Common.{sym, ap, ◌∙◌}
use Rattle.std.proofs.Math.Bool.{true≢false}
use native.Mathlib.Omega.{arith}
use borrow.Author.Tests.{eqb-true, eq-eqb, leb-true, le-leb}
use Rattle.lists.specs.AndLaws.{and_left, and_right, and_both}
use Rattle.lists.specs.BelowLaws.{below_each, below_all}
use Rattle.bytes_equal.specs.BytesLaws.{bytes_same, bytes_differ}
use Rattle.attributes.specs.declared.AttributeId.{AttributeId}
use Rattle.attributes.specs.Kinds.{kind_count}
use Rattle.attributes.specs.Table.{attribute_limit, name_limit, table_size, count_of}
use Rattle.attributes.specs.Table.{kind_at, length_at, name_at, named, first_below, by_name}
use Rattle.attributes.specs.TableLaws.{between, is_between_lem, nowhere_nothing}
use Rattle.attributes.specs.TableLaws.{first_nothing, first_fails, first_here, name_whole, by_name_named, by_name_none}
use Rattle.attributes.specs.Sound.{Sound, sound_attribute, sound_table}

-- ---- the test and the marks

module _ (t : List ℕ) where
  -- what the test says of one attribute
  record SoundAt (i : ℕ) : Type 0 where
    kind : (1 ≤ kind_at t i) × (kind_at t i ≤ kind_count)
    name : (1 ≤ length_at t i) × (length_at t i ≤ name_limit)
    new : (j : ℕ) → j < i → name_at t j ≡ name_at t i → ⊥

  sound_at : (i : ℕ) → sound_attribute t i ≡ true → SoundAt i
  unfolding sound_attribute
  sound_at i h =
      record {
        kind = between _ _ _ (and_left _ _ (and_left _ _ h));
        name = between _ _ _ (and_right _ _ (and_left _ _ h));
        new = λ j l e.
            true≢false (sym (bytes_same (name_at t j) (name_at t i) e)
            ∙ first_nothing (named t (name_at t i)) i
            (nowhere_nothing (first_below (named t (name_at t i)) i) (and_right _ _ h)) j l);
      }

  at_sound : (i : ℕ) → SoundAt i → sound_attribute t i ≡ true
  unfolding sound_attribute
  at_sound i s =
      and_both _ _ (and_both _ _ (is_between_lem _ _ _ s.kind) (is_between_lem _ _ _ s.name))
      (ap is_none (first_fails (named t (name_at t i)) i (λ j l. bytes_differ (name_at t j) (name_at t i) (s.new j l))))

  -- names each of which differs from those before it all differ
  apart : ((i : ℕ) → i < count_of t → SoundAt i)
      → (i j : ℕ) → i < count_of t → j < count_of t → name_at t i ≡ name_at t j → i ≡ j
  apart s i j k l e =
      let before : i < j → ⊥ = λ m. (s j l).new i m e in
      let after : j < i → ⊥ = λ m. (s i k).new j m (sym e) in
      omega (arith, before, after)

  test_marks : sound_table t ≡ true → Sound t
  unfolding sound_table
  test_marks h =
      let s : (i : ℕ) → i < count_of t → SoundAt i =
      λ i l. sound_at i (below_each (sound_attribute t) (count_of t) (and_right _ _ h) i l) in
      record {
        size = eqb-true _ _ (and_left _ _ (and_left _ _ h));
        few = leb-true _ _ (and_right _ _ (and_left _ _ h));
        kinds = λ i l. (s i l).kind;
        lengths = λ i l. (s i l).name;
        names = apart s;
      }

  marks_test : Sound t → sound_table t ≡ true
  unfolding sound_table
  marks_test s =
      let new : (i : ℕ) → i < count_of t → (j : ℕ) → j < i → name_at t j ≡ name_at t i → ⊥ =
      λ i l j k e. let same : j ≡ i = s.names j i (omega arith) l e in omega arith in
      and_both _ _ (and_both _ _ (eq-eqb _ _ s.size) (le-leb _ _ s.few))
      (below_all (sound_attribute t) (count_of t)
      (λ i l. at_sound i (record { kind = s.kinds i l; name = s.lengths i l; new = new i l })))

  pub sound_iff : (sound_table t ≡ true) ↔ Sound t
  sound_iff = (test_marks, marks_test)

  pub sound_empty : length t ≡ table_size → count_of t ≡ 0 → Sound t
  sound_empty size none =
      record {
        size = size;
        few = omega arith;
        kinds = λ i l. absurd (omega arith);
        lengths = λ i l. absurd (omega arith);
        names = λ i j k l e. absurd (omega arith);
      }

  -- its size, and how many attributes it may have
  pub sound_size : sound_table t ≡ true → length t ≡ table_size
  sound_size h = (test_marks h).size

  pub sound_few : sound_table t ≡ true → count_of t ≤ attribute_limit
  sound_few h = (test_marks h).few

-- ---- names in a sound table

module _ (t : List ℕ) (s : Sound t) where
  pub name_length : (i : ℕ) → i < count_of t → length (name_at t i) ≡ length_at t i
  name_length i l = name_whole t i (omega (arith, (s.lengths i l).1, s.size, s.few))

  pub by_name_iff : (n : List ℕ) (i : AttributeId) → (by_name t n ≡ Some i) ↔ ((i.0 < count_of t) × (name_at t i.0 ≡ n))
  by_name_iff n i = (by_name_named t n i, found)
    where
      found : (i.0 < count_of t) × (name_at t i.0 ≡ n) → by_name t n ≡ Some i
      found h =
          let before : (j : ℕ) → j < i.0 → name_at t j ≡ n → ⊥ =
          λ j l e. let same : j ≡ i.0 = s.names j i.0 (omega (arith, h.0)) h.0 (e ∙ sym h.1) in omega arith in
          first_here (named t n) i.0 (count_of t) h.0
          (first_fails (named t n) i.0 (λ j l. bytes_differ (name_at t j) n (before j l)))
          (bytes_same (name_at t i.0) n h.1)

  pub by_name_empty : by_name t [] ≡ None
  by_name_empty = by_name_none t [] (λ i l e. omega (arith, name_length i l, ap length e, (s.lengths i l).0))

  pub by_name_long : (n : List ℕ) → name_limit < length n → by_name t n ≡ None
  by_name_long n long = by_name_none t n (λ i l e. omega (arith, name_length i l, ap length e, (s.lengths i l).1))

-- whatever is looked for, what is found is a place of the table
pub by_name_within : (t n : List ℕ) → sound_table t ≡ true → (o : Option AttributeId) → o ≡ by_name t n
    → IfSome o (λ id. id.0 < attribute_limit)
by_name_within t n h (Some id) e = omega (arith, (by_name_named t n id (sym e)).0, sound_few t h)
by_name_within t n h None e = tt
