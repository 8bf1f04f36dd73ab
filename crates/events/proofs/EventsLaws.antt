-- Laws of events.
--     row_inside, row_outside                      a row of the list store is written, and every other stays
--     fresh_shaped, fresh_undefined, fresh_suits   a fresh event has its shape and no value, and suits every table of as many attributes
-- Assumes nothing.
use Rattle.std.specs.Prelude.{◌≡◌, refl, ◌⊎◌, List, [], ◌∷◌, ◌++◌, ℕ, zero, suc, ◌+◌, ◌-◌, ◌*◌, ◌≤◌, ◌<◌, ℤ, pos, get_or, set, take}
use Rattle.std.specs.Prelude.{drop, replicate}
use Rattle.std.proofs.Common.{sym, ap, ◌∙◌, ⊎_elim, append_assoc, arith, length-take-le, drop_at, take_at, drop-set-lt}
use Rattle.std.proofs.Math.Logic.{inl, inr}
use Rattle.std.proofs.Math.Decide.{dec_lt}
use Rattle.std.proofs.Math.ListN.{length, length-replicate}
use Rattle.std.proofs.lemmas.List.Edits.{sets, sets-eq}
use Rattle.std.proofs.lemmas.List.{drop-set-add, take-set-le}
use Rattle.lists.specs.Sets.{list_limit}
use Rattle.attributes.specs.Table.{attribute_limit, count_of}
use Rattle.events.specs.declared.AttributeValue.TheVariants.{Undefined}
use Rattle.events.specs.Values.{undefined_number, value_of}
use Rattle.events.specs.Events.{store_size, Shaped, kind_of, value_in, row_at, fresh_of}
use Rattle.events.specs.Suits.{Suits}
use Rattle.events.proofs.SuitsLaws.{place_iff, place_undefined}

-- ---- a run written to a list, and the parts of the list

module _ {A : Type 0} where
  part_kept : (l : List A) (at : ℕ) (a : A) (from n : ℕ) → (from + n ≤ at) ⊎ (at < from)
      → take n (drop from (set l at a)) ≡ take n (drop from l)
  part_kept l at a from n (inl h) =
      let e : from + (at - from) ≡ at = omega arith in
      let shifted : drop from (set l at a) ≡ set (drop from l) (at - from) a
      = ap (λ (k : ℕ). drop from (set l k a)) (sym e) ∙ drop-set-add from l (at - from) a in
      ap (take n) shifted ∙ take-set-le n (drop from l) (at - from) a (omega arith)
  part_kept l at a from n (inr h) = ap (take n) (drop-set-lt from l at a h)

  part_outside : (l : List A) (at : ℕ) (r : List A) (from n : ℕ) → (from + n ≤ at) ⊎ (at + length r ≤ from)
      → take n (drop from (sets l at r)) ≡ take n (drop from l)
  part_outside l at [] from n out = refl
  part_outside l at (a ∷ r) from n out =
      part_outside (set l at a) (suc at) r from n (⊎_elim (λ h. inl (omega arith)) (λ h. inr (omega arith)) out)
      ∙ part_kept l at a from n (⊎_elim (λ h. inl h) (λ h. inr (omega arith)) out)

  part_inside : (l : List A) (at : ℕ) (r : List A) (n : ℕ) → length r ≡ n → at + n ≤ length l → take n (drop at (sets l at r)) ≡ r
  part_inside l at r n e fits =
      let rest = drop (at + length r) l in
      let long : at + length r ≤ length l = omega arith in
      ap (λ (k : List A). take n (drop at k)) (sets-eq r l at long ∙ append_assoc (take at l) r rest)
      ∙ ap (take n) (drop_at (take at l) (r ++ rest) at (length-take-le at l (omega arith)))
      ∙ take_at r rest n e

-- ---- the rows of a list store

module _ (lists : List ℤ) (i : ℕ) (row : List ℤ) (size : length row ≡ list_limit) where
  pub row_inside : list_limit * i + list_limit ≤ length lists → row_at (sets lists (list_limit * i) row) i ≡ row
  unfolding row_at
  row_inside fits = part_inside lists (list_limit * i) row list_limit size fits

  pub row_outside : (j : ℕ) → (j ≡ i → ⊥) → row_at (sets lists (list_limit * i) row) j ≡ row_at lists j
  unfolding row_at
  row_outside j other = part_outside lists (list_limit * i) row (list_limit * j) list_limit (go (dec_lt j i))
    where
      go : Dec (j < i) → (list_limit * j + list_limit ≤ list_limit * i) ⊎ (list_limit * i + length row ≤ list_limit * j)
      go (yes l) = inl (omega arith)
      go (no g) = inr (omega (arith, g, other))

-- ---- a fresh event

get_or_replicate : (n : ℕ) (k i : ℕ) → get_or (replicate n k) i k ≡ k
get_or_replicate zero k i = refl
get_or_replicate (suc n) k zero = refl
get_or_replicate (suc n) k (suc i) = get_or_replicate n k i

module _ (count : ℕ) where
  pub fresh_shaped : Shaped (fresh_of count)
  unfolding fresh_of
  fresh_shaped =
      record {
        kinds = length-replicate attribute_limit undefined_number;
        numbers = length-replicate attribute_limit (pos 0);
        scales = length-replicate {A = ℕ} attribute_limit 0;
        lengths = length-replicate {A = ℕ} attribute_limit 0;
        lists = length-replicate store_size (pos 0);
      }

  no_kind : (i : ℕ) → kind_of (fresh_of count) i ≡ undefined_number
  unfolding fresh_of
  no_kind i = get_or_replicate attribute_limit undefined_number i

  pub fresh_undefined : (i : ℕ) → value_in (fresh_of count) i ≡ Undefined
  unfolding value_of
  fresh_undefined i = rw (no_kind i)

  pub fresh_suits : (t : List ℕ) → count ≡ count_of t → Suits t (fresh_of count)
  unfolding fresh_of
  fresh_suits t e =
      record { count = e; places = λ i l. (place_iff _ _ _ _ _ _).0 (place_undefined _ _ _ _ _ _ (no_kind i)) }
