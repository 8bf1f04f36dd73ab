-- Laws of an event with a reading set.
--     set_shaped, set_count               it keeps its shape and its count
--     value_set, list_set                 what is read at the place is what was given, a list sorted and made distinct
--     value_kept, list_kept               what is read at every other place is what it was
--     set_suits                           it suits the table that the event suited
-- Assumes nothing.
use Rattle.std.specs.Prelude.{◌≡◌, true, false, ◌⊎◌, List, ℕ, ◌≤◌, ◌<◌, ℤ, pos, nat_abs, length, get_or, set, take}
use Rattle.std.proofs.Math.Path.{refl}
use Rattle.std.proofs.Common.{inl, inr, sym, ◌∙◌, true≢false, arith, length-set, get_or-set_same}
use Rattle.std.proofs.Math.Decide.{ℕ_discrete}
use borrow.Author.Tests.{eqb-true, leb-true, le-leb}
use lib.Dec.{T}
use lib.Signed.{non_neg}
use mir.Syntax.{w8, w64}
use mir.Val.{Fits, SFits, to_z, of_z}
use mir.Facts.{to_z-of_z}
use Rattle.std.proofs.Math.Seq.{length-sets, get_or-set_other}
use Rattle.lists.specs.AndLaws.{and_left, and_right}
use Rattle.lists.specs.Sets.{eq_z, settled, list_limit, row_of}
use Rattle.lists.proofs.SetsLaws.{settled_ascends, settled_length, padded_held, padded_length}
use Rattle.decimals.specs.Decimals.{scale_limit}
use Rattle.attributes.specs.Table.{attribute_limit, kind_at}
use Rattle.events.specs.declared.Event.{Event}
use Rattle.events.specs.Values.{undefined_number, is_list, is_up_to, value_of}
use Rattle.events.specs.ValuesLaws.{up_to, to_up, words_settled}
use Rattle.events.specs.Events.{Shaped, kind_of, number_of, scale_of, length_of, list_at, value_in, list_in}
use Rattle.events.proofs.EventsLaws.{row_inside, row_outside}
use Rattle.events.specs.Suits.{in_range, SuitsAt, Suits}
use Rattle.events.proofs.SuitsLaws.{range_boolean, range_float, range_string, range_words, range_other}
use Rattle.events.proofs.SuitsLaws.{list_none, list_well, place_undefined, place_range, place_iff}
use Rattle.filling.specs.declared.Reading.{Reading}
use Rattle.filling.specs.declared.Reading.TheVariants.{Undefined, Boolean, Integer, Float, String, IntegerList, StringList}
use Rattle.filling.specs.Readings.{reading_number, of_kind, within_limits, value_given}
use Rattle.filling.specs.Setting.{with_kind, with_scalar, with_list, with_reading}

-- ---- the row of a list

module _ (list : List ℤ) (few : length list ≤ list_limit) where
  row_size : length (row_of list).places ≡ list_limit
  unfolding row_of
  row_size = padded_length (settled list) (omega (arith, settled_length list))

  row_short : (row_of list).length ≤ list_limit
  unfolding row_of
  row_short = omega (arith, settled_length list)

row_list : (list : List ℤ) → take (row_of list).length (row_of list).places ≡ settled list
unfolding row_of
row_list list = padded_held (settled list)

-- a list within its limits is no longer than a row
module _ (list : List ℤ) where
  integers_few : within_limits IntegerList list ≡ true → length list ≤ list_limit
  integers_few h = leb-true (length list) list_limit h

  words_few : within_limits StringList list ≡ true → length list ≤ list_limit
  words_few h = leb-true (length list) list_limit (and_left _ _ h)

pub list_few : (reading : Reading) (list : List ℤ) → (reading ≡ IntegerList) ⊎ (reading ≡ StringList)
    → within_limits reading list ≡ true → length list ≤ list_limit
list_few reading list (inl e) h = integers_few list (rw e at h)
list_few reading list (inr e) h = words_few list (rw e at h)

-- and a scale within its limit is a byte
pub scale_fits : (s : ℤ) → is_up_to s (pos scale_limit) ≡ true
    → T (non_neg (to_z w64 (of_z w64 s))) × Fits w8 (nat_abs (to_z w64 (of_z w64 s)))
scale_fits s h =
    let n = up_to s scale_limit h in
    let small : SFits w64 (pos n.0) = record { sfits = omega (arith, n.2) } in
    rw (n.1, to_z-of_z small) (tt, omega (arith, n.2))

-- ---- the shape and the count

module _ (e : Event) (i : ℕ) where
  pub set_count : (reading : Reading) (list : List ℤ) → (with_reading e i reading list).count ≡ e.count
  set_count Undefined list = refl
  set_count (Boolean b) list = refl
  set_count (Integer x) list = refl
  set_count (Float x s) list = refl
  set_count (String w) list = refl
  set_count IntegerList list = refl
  set_count StringList list = refl

  module _ (s : Shaped e) where
    kind_shaped : (kind : ℕ) → Shaped (with_kind e i kind)
    kind_shaped kind =
        record {
          kinds = rw length-set s.kinds;
          numbers = s.numbers;
          scales = s.scales;
          lengths = s.lengths;
          lists = s.lists;
        }

    scalar_shaped : (kind : ℕ) (number : ℤ) (scale : ℕ) → Shaped (with_scalar e i kind number scale)
    scalar_shaped kind number scale =
        record {
          kinds = rw length-set s.kinds;
          numbers = rw length-set s.numbers;
          scales = rw length-set s.scales;
          lengths = s.lengths;
          lists = s.lists;
        }

    list_shaped : (kind : ℕ) (list : List ℤ) → Shaped (with_list e i kind list)
    list_shaped kind list =
        record {
          kinds = rw length-set s.kinds;
          numbers = s.numbers;
          scales = s.scales;
          lengths = rw length-set s.lengths;
          lists = rw length-sets s.lists;
        }

    pub set_shaped : (reading : Reading) (list : List ℤ) → Shaped (with_reading e i reading list)
    set_shaped Undefined list = kind_shaped _
    set_shaped (Boolean b) list = scalar_shaped _ _ _
    set_shaped (Integer x) list = scalar_shaped _ _ _
    set_shaped (Float x k) list = scalar_shaped _ _ _
    set_shaped (String w) list = scalar_shaped _ _ _
    set_shaped IntegerList list = list_shaped _ list
    set_shaped StringList list = list_shaped _ list

-- ---- every other place

-- f holds at place j what e holds there
record Same (e f : Event) (j : ℕ) : Type 0 where
  kind : kind_of f j ≡ kind_of e j
  number : number_of f j ≡ number_of e j
  scale : scale_of f j ≡ scale_of e j
  long : length_of f j ≡ length_of e j
  list : list_in f j ≡ list_in e j

module _ (e : Event) (i j : ℕ) (other : j ≡ i → ⊥) where
  kind_same : (kind : ℕ) → Same e (with_kind e i kind) j
  kind_same kind = record { kind = get_or-set_other e.kinds i j kind 0 other; number = refl; scale = refl; long = refl; list = refl }

  scalar_same : (kind : ℕ) (number : ℤ) (scale : ℕ) → Same e (with_scalar e i kind number scale) j
  scalar_same kind number scale =
      record {
        kind = get_or-set_other e.kinds i j kind 0 other;
        number = get_or-set_other e.numbers i j number (pos 0) other;
        scale = get_or-set_other e.scales i j scale 0 other;
        long = refl;
        list = refl;
      }

  list_same : (kind : ℕ) (list : List ℤ) → length list ≤ list_limit → Same e (with_list e i kind list) j
  unfolding list_at
  list_same kind list few =
      let long = get_or-set_other e.lengths i j (row_of list).length 0 other in
      record {
        kind = get_or-set_other e.kinds i j kind 0 other;
        number = refl;
        scale = refl;
        long = long;
        list = rw (long, row_outside e.lists i (row_of list).places (row_size list few) j other);
      }

  same : (reading : Reading) (list : List ℤ) → within_limits reading list ≡ true → Same e (with_reading e i reading list) j
  same Undefined list h = kind_same _
  same (Boolean b) list h = scalar_same _ _ _
  same (Integer x) list h = scalar_same _ _ _
  same (Float x s) list h = scalar_same _ _ _
  same (String w) list h = scalar_same _ _ _
  same IntegerList list h = list_same _ list (integers_few list h)
  same StringList list h = list_same _ list (words_few list h)

  module _ (reading : Reading) (list : List ℤ) (h : within_limits reading list ≡ true) where
    pub value_kept : value_in (with_reading e i reading list) j ≡ value_in e j
    value_kept = let s = same reading list h in rw (s.kind, s.number, s.scale)

    pub list_kept : list_in (with_reading e i reading list) j ≡ list_in e j
    list_kept = (same reading list h).list

    kept_suits : (t : List ℕ) → SuitsAt t e j → SuitsAt t (with_reading e i reading list) j
    kept_suits t p = let s = same reading list h in rw (s.kind, s.number, s.scale, s.long, s.list) p

-- ---- the place itself

module _ (e : Event) (s : Shaped e) (i : ℕ) (within : i < attribute_limit) where
  kind_there : (kind : ℕ) → get_or (set e.kinds i kind) i 0 ≡ kind
  kind_there kind = get_or-set_same e.kinds i kind 0 (omega (arith, s.kinds))

  number_there : (number : ℤ) → get_or (set e.numbers i number) i (pos 0) ≡ number
  number_there number = get_or-set_same e.numbers i number (pos 0) (omega (arith, s.numbers))

  scale_there : (scale : ℕ) → get_or (set e.scales i scale) i 0 ≡ scale
  scale_there scale = get_or-set_same e.scales i scale 0 (omega (arith, s.scales))

  length_there : (long : ℕ) → get_or (set e.lengths i long) i 0 ≡ long
  length_there long = get_or-set_same e.lengths i long 0 (omega (arith, s.lengths))

  list_there : (kind : ℕ) (list : List ℤ) → length list ≤ list_limit → list_in (with_list e i kind list) i ≡ settled list
  unfolding list_at
  list_there kind list few =
      rw (length_there (row_of list).length, row_inside e.lists i (row_of list).places (row_size list few) (omega (arith, s.lists)))
      (row_list list)

  scalar_value : (kind : ℕ) (number : ℤ) (scale : ℕ) → value_in (with_scalar e i kind number scale) i ≡ value_of kind number scale
  scalar_value kind number scale = rw (kind_there kind, number_there number, scale_there scale)

  pub value_set : (reading : Reading) (list : List ℤ) → value_in (with_reading e i reading list) i ≡ value_given reading
  unfolding value_of eq_z
  value_set Undefined list = rw (kind_there undefined_number)
  value_set (Boolean true) list = scalar_value _ _ _
  value_set (Boolean false) list = scalar_value _ _ _
  value_set (Integer x) list = scalar_value _ _ _
  value_set (Float x k) list = scalar_value _ _ _
  value_set (String w) list = scalar_value _ _ _
  value_set IntegerList list = rw (kind_there (reading_number IntegerList))
  value_set StringList list = rw (kind_there (reading_number StringList))

  pub list_set : (reading : Reading) (list : List ℤ) → within_limits reading list ≡ true → is_list (reading_number reading) ≡ true
      → list_in (with_reading e i reading list) i ≡ settled list
  unfolding is_list
  list_set Undefined list h l = absurd (true≢false (sym l))
  list_set (Boolean b) list h l = absurd (true≢false (sym l))
  list_set (Integer x) list h l = absurd (true≢false (sym l))
  list_set (Float x k) list h l = absurd (true≢false (sym l))
  list_set (String w) list h l = absurd (true≢false (sym l))
  list_set IntegerList list h l = list_there (reading_number IntegerList) list (integers_few list h)
  list_set StringList list h l = list_there (reading_number StringList) list (words_few list h)

  -- ---- it suits the table

  module _ (t : List ℕ) where
    scalar_suits : (kind : ℕ) (number : ℤ) (scale : ℕ) → (kind ≡ undefined_number → ⊥) → kind ≡ kind_at t i → is_list kind ≡ false
        → in_range kind number scale (list_in e i) ≡ true → SuitsAt t (with_scalar e i kind number scale) i
    scalar_suits kind number scale d own l r =
        rw (kind_there kind, number_there number, scale_there scale)
        ((place_iff _ _ _ _ _ _).0 (place_range _ kind number scale _ _ d own (list_none kind _ _ l) ∙ r))

    list_suits_lem : (kind : ℕ) (list : List ℤ) → length list ≤ list_limit → (kind ≡ undefined_number → ⊥) → kind ≡ kind_at t i
        → in_range kind (number_of e i) (scale_of e i) (settled list) ≡ true → SuitsAt t (with_list e i kind list) i
    list_suits_lem kind list few d own r =
        rw (kind_there kind, length_there (row_of list).length, list_there kind list few)
        ((place_iff _ _ _ _ _ _).0
        (place_range _ kind _ _ _ _ d own (list_well kind _ _ (row_short list few) (settled_ascends list)) ∙ r))

    reading_suits : (reading : Reading) (list : List ℤ) → of_kind reading (kind_at t i) ≡ true → within_limits reading list ≡ true
        → SuitsAt t (with_reading e i reading list) i
    unfolding of_kind is_list
    reading_suits Undefined list k h = (place_iff _ _ _ _ _ _).0 (place_undefined _ _ _ _ _ _ (kind_there undefined_number))
    reading_suits (Boolean true) list k h =
        scalar_suits _ _ _ (λ e. omega arith) (eqb-true _ _ k) refl (range_boolean _ _ _ ∙ to_up 1 1 (omega arith))
    reading_suits (Boolean false) list k h =
        scalar_suits _ _ _ (λ e. omega arith) (eqb-true _ _ k) refl (range_boolean _ _ _ ∙ to_up 0 1 (omega arith))
    reading_suits (Integer x) list k h =
        scalar_suits _ _ _ (λ e. omega arith) (eqb-true _ _ k) refl
        (range_other _ _ _ _ (λ e. omega arith) (λ e. omega arith) (λ e. omega arith) (λ e. omega arith))
    reading_suits (Float x k) list o h =
        let n = up_to k scale_limit h in
        scalar_suits _ _ _ (λ e. omega arith) (eqb-true _ _ o) refl (range_float _ _ _ ∙ le-leb (nat_abs k) scale_limit (rw n.1 n.2))
    reading_suits (String w) list k h = scalar_suits _ _ _ (λ e. omega arith) (eqb-true _ _ k) refl (range_string _ _ _ ∙ h)
    reading_suits IntegerList list k h =
        list_suits_lem _ list (integers_few list h) (λ e. omega arith) (eqb-true _ _ k)
        (range_other _ _ _ _ (λ e. omega arith) (λ e. omega arith) (λ e. omega arith) (λ e. omega arith))
    reading_suits StringList list k h =
        list_suits_lem _ list (words_few list h) (λ e. omega arith) (eqb-true _ _ k)
        (range_words _ _ _ ∙ words_settled list (and_right _ _ h))

    pub set_suits : (reading : Reading) (list : List ℤ) → Suits t e → of_kind reading (kind_at t i) ≡ true
        → within_limits reading list ≡ true → Suits t (with_reading e i reading list)
    set_suits reading list p k h =
        let same_count = set_count e i reading list in
        record {
          count = same_count ∙ p.count;
          places = λ j l. go j (rw same_count at l) (ℕ_discrete j i);
        }
      where
        go : (j : ℕ) → j < e.count → Dec (j ≡ i) → SuitsAt t (with_reading e i reading list) j
        go j l (yes q) = rw q (reading_suits reading list k h)
        go j l (no other) = kept_suits e i j other reading list h t (p.places j l)
