-- Laws of the table with one attribute more.
--     padded_at, padded_length                    a name in the places of a record
--     added_length, added_outside, added_count    the bytes that are kept, and the count
--     kind_kept, name_kept, kind_new, name_new    the attributes
--     one_more                                    a sound table stays sound, its attributes are kept and the new one stands after them
-- Assumes nothing.
use Rattle.std.specs.Prelude.{◌≡◌, refl, ◌⊎◌, None, List, [], ◌∷◌, ◌++◌, ℕ, zero, suc, ◌+◌, ◌-◌, ◌≤◌, ◌<◌}
use Rattle.std.specs.Prelude.{length, get_or, drop, set, replicate}
use Rattle.std.proofs.Common.{sym, ◌∙◌, inl, arith, length-append, get_or-take, get_or-drop, ext_get_or}
use Rattle.std.proofs.Math.Decide.{ℕ_discrete}
use Rattle.std.proofs.lemmas.List.{length-replicate}
use Rattle.std.proofs.Math.ListN.{length-set}
use Rattle.std.proofs.Math.Seq.{length-sets, get_or-set_same, get_or-set_other}
use Rattle.attributes.specs.Kinds.{kind_count}
use Rattle.attributes.specs.Table.{attribute_limit, name_limit, record_size, table_size, record_at}
use Rattle.attributes.specs.Table.{count_of, kind_at, length_at, name_at, by_name}
use Rattle.attributes.specs.TableLaws.{name_whole, by_name_nothing}
use Rattle.attributes.specs.Sound.{Sound}
use Rattle.attributes.specs.Definitions.{padded, record_of, added}
use Rattle.attributes.specs.RunLaws.{run_outside, run_inside}

-- ---- a padded name: past its end stands zero, which is also what is read past the end of a name alone

zeros : (m k : ℕ) → ◌≡◌ {A = ℕ} (get_or (replicate m 0) k 0) 0
zeros zero k = refl
zeros (suc m) zero = refl
zeros (suc m) (suc k) = zeros m k

zeros_after : (n : List ℕ) (m k : ℕ) → get_or (n ++ replicate m 0) k 0 ≡ get_or n k 0
zeros_after [] m k = zeros m k
zeros_after (a ∷ n) m zero = refl
zeros_after (a ∷ n) m (suc k) = zeros_after n m k

pub padded_at : (n : List ℕ) (k : ℕ) → get_or (padded n) k 0 ≡ get_or n k 0
padded_at n k = zeros_after n (name_limit - length n) k

pub padded_length : (n : List ℕ) → length n ≤ name_limit → length (padded n) ≡ name_limit
padded_length n h = simp (length-append, length-replicate) (omega arith)

-- ---- a name byte by byte

name_byte : (t : List ℕ) (i k : ℕ) → k < length_at t i → get_or (name_at t i) k 0 ≡ get_or t (record_at i + 2 + k) 0
name_byte t i k l = get_or-take (length_at t i) (drop (record_at i + 2) t) k 0 l ∙ get_or-drop (record_at i + 2) t k 0

name_by_bytes : (t : List ℕ) (i : ℕ) (n : List ℕ) → record_at i + 2 + length n ≤ length t → length_at t i ≡ length n
    → ((k : ℕ) → k < length n → get_or t (record_at i + 2 + k) 0 ≡ get_or n k 0) → name_at t i ≡ n
name_by_bytes t i n fits long same =
    let whole : length (name_at t i) ≡ length n = name_whole t i (omega arith) ∙ long in
    ext_get_or 0 (name_at t i) n whole (λ k l. name_byte t i k (omega arith) ∙ same k (omega arith))

-- ---- the table with one attribute more

pub added_length : (t : List ℕ) (kind : ℕ) (n : List ℕ) → length (added t kind n) ≡ length t
unfolding added
added_length t kind n = simp (length-sets, length-set)

-- the attributes are those of the old table, in their order, and the new one after them
pub record OneMore (t : List ℕ) (kind : ℕ) (n : List ℕ) (next : List ℕ) : Type 0 where
  pub sound : Sound next
  pub count : count_of next ≡ count_of t + 1
  pub kinds : (i : ℕ) → i < count_of t → kind_at next i ≡ kind_at t i
  pub names : (i : ℕ) → i < count_of t → name_at next i ≡ name_at t i
  pub kind_given : kind_at next (count_of t) ≡ kind
  pub name_given : name_at next (count_of t) ≡ n

module _ (t : List ℕ) (kind : ℕ) (n : List ℕ)
    (size : length t ≡ table_size) (room : count_of t < attribute_limit) (short : length n ≤ name_limit) where
  record_length : length (record_of kind n) ≡ record_size
  record_length = omega (arith, padded_length n short)

  -- every byte but the count and the new record is kept
  pub added_outside : (k : ℕ) → 1 ≤ k → (k < record_at (count_of t)) ⊎ (record_at (count_of t) + record_size ≤ k)
      → get_or (added t kind n) k 0 ≡ get_or t k 0
  unfolding added
  added_outside k far out =
      run_outside (set t 0 (count_of t + 1)) (record_at (count_of t)) (record_of kind n) k (rw record_length out)
      ∙ get_or-set_other t 0 k (count_of t + 1) 0 (λ z. omega arith)

  added_inside : (j k : ℕ) → k < record_size → j ≡ record_at (count_of t) + k
      → get_or (added t kind n) j 0 ≡ get_or (record_of kind n) k 0
  unfolding added
  added_inside j k l e =
      run_inside (set t 0 (count_of t + 1)) (record_at (count_of t)) (record_of kind n) j k
      (rw length-set (omega (arith, record_length))) (omega (arith, record_length)) e

  pub added_count : count_of (added t kind n) ≡ count_of t + 1
  unfolding added
  added_count =
      run_outside (set t 0 (count_of t + 1)) (record_at (count_of t)) (record_of kind n) 0 (inl (omega arith))
      ∙ get_or-set_same t 0 (count_of t + 1) 0 (omega arith)

  -- an attribute before it
  module _ (i : ℕ) (old : i < count_of t) where
    pub kind_kept : kind_at (added t kind n) i ≡ kind_at t i
    kind_kept = added_outside (record_at i) (omega arith) (inl (omega arith))

    length_kept : length_at (added t kind n) i ≡ length_at t i
    length_kept = added_outside (record_at i + 1) (omega arith) (inl (omega arith))

    pub name_kept : length_at t i ≤ name_limit → name_at (added t kind n) i ≡ name_at t i
    name_kept h =
        let whole : length (name_at t i) ≡ length_at t i = name_whole t i (omega arith) in
        name_by_bytes (added t kind n) i (name_at t i) (omega (arith, added_length t kind n)) (length_kept ∙ sym whole)
        (λ k l. added_outside (record_at i + 2 + k) (omega arith) (inl (omega arith)) ∙ sym (name_byte t i k (omega arith)))

  -- the new one
  pub kind_new : kind_at (added t kind n) (count_of t) ≡ kind
  kind_new = added_inside (record_at (count_of t)) 0 (omega arith) (omega arith)

  length_new : length_at (added t kind n) (count_of t) ≡ length n
  length_new = added_inside (record_at (count_of t) + 1) 1 (omega arith) (omega arith)

  pub name_new : name_at (added t kind n) (count_of t) ≡ n
  name_new =
      name_by_bytes (added t kind n) (count_of t) n (omega (arith, added_length t kind n)) length_new
      (λ k l. added_inside (record_at (count_of t) + 2 + k) (suc (suc k)) (omega arith) (omega arith) ∙ padded_at n k)

  -- what holds of each old attribute and of the new one holds of each
  each_one : (P : ℕ → Type 0) → ((i : ℕ) → i < count_of t → P i) → P (count_of t)
      → (i : ℕ) → i < count_of (added t kind n) → P i
  each_one P old new i l = go (ℕ_discrete i (count_of t))
    where
      go : Dec (i ≡ count_of t) → P i
      go (yes e) = rw e new
      go (no ne) = old i (omega (arith, ne, added_count))

  -- in a sound table a new name and a kind keep the marks
  module _ (s : Sound t) (kinded : (1 ≤ kind) × (kind ≤ kind_count)) (some : 1 ≤ length n) (new : by_name t n ≡ None) where
    name_old : (i : ℕ) → i < count_of t → name_at (added t kind n) i ≡ name_at t i
    name_old i l = name_kept i l (s.lengths i l).1

    names_apart : (i j : ℕ) → i < count_of (added t kind n) → j < count_of (added t kind n)
        → name_at (added t kind n) i ≡ name_at (added t kind n) j → i ≡ j
    names_apart i j l m =
        let other = by_name_nothing t n new in
        each_one (λ i. (j : ℕ) → j < count_of (added t kind n) → name_at (added t kind n) i ≡ name_at (added t kind n) j → i ≡ j)
        (λ i l. each_one (λ j. name_at (added t kind n) i ≡ name_at (added t kind n) j → i ≡ j)
        (λ j m e. s.names i j l m (sym (name_old i l) ∙ e ∙ name_old j m))
        (λ e. absurd (other i l (sym (name_old i l) ∙ e ∙ name_new))))
        (each_one (λ j. name_at (added t kind n) (count_of t) ≡ name_at (added t kind n) j → count_of t ≡ j)
        (λ j m e. absurd (other j m (sym (name_old j m) ∙ sym e ∙ name_new)))
        (λ e. refl))
        i l j m

    added_sound : Sound (added t kind n)
    added_sound =
        record {
          size = added_length t kind n ∙ size;
          few = omega (arith, added_count);
          kinds = each_one (λ i. (1 ≤ kind_at (added t kind n) i) × (kind_at (added t kind n) i ≤ kind_count))
              (λ i l. rw (kind_kept i l) (s.kinds i l)) (rw kind_new kinded);
          lengths = each_one (λ i. (1 ≤ length_at (added t kind n) i) × (length_at (added t kind n) i ≤ name_limit))
              (λ i l. rw (length_kept i l) (s.lengths i l)) (rw length_new (some, short));
          names = names_apart;
        }

    pub one_more : OneMore t kind n (added t kind n)
    one_more =
        record {
          sound = added_sound;
          count = added_count;
          kinds = kind_kept;
          names = name_old;
          kind_given = kind_new;
          name_given = name_new;
        }
