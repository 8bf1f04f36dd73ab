-- A PREDICATE APPENDED, with a given list: the last part is that, and nothing else changes.
-- Assumes nothing.
use mathlib.Core.Path.{◌≡◌, refl, sym, ap, ◌∙◌}
use mathlib.Core.Bool.{false, true≢false}
use mathlib.Core.List.{List}
use mathlib.Core.Logic.{inl}
use Prim.Native.Nat.{ℕ, ◌+◌, ◌*◌, ◌<◌}
use native.Mathlib.Omega.{arith}
use lib.ListN.{length, get_or}
use lib.IntN.{ℤ, pos}
use mir.Syntax.{w64}
use mir.Val.{to_z, of_z}
use mir.ValLaws.{to_z-of_z, of_z_fits}
use Rattle.lists.proofs.TabulateLaws.{tabulate_ext, tabulate_get_or}
use Rattle.words.specs.Word.{signed_word}
use Rattle.words.specs.Frame.{Only}
use Rattle.words.proofs.FrameLaws.{only_wide, word_only}
use Rattle.words.proofs.SignLaws.{signed_only}
use Rattle.words.proofs.RunLaws.{wrote_only, wrote_back}
use Rattle.store.specs.declared.Limits.{Limits}
use Rattle.store.specs.declared.Record.{Record}
use Rattle.store.specs.Layout.{places_at, elements_at}
use Rattle.model.specs.Parts.{alone}
use Rattle.store.specs.Records.{part_count, place_count, element_count, element_at, RecordFits}
use Rattle.store.specs.Tables.{is_join, predicate_of, part_if, part_at}
use Rattle.store.specs.Runs.{Runs}
use Rattle.store.proofs.RunsLaws.{part_is}
use Rattle.changes.specs.Changes.{placed, put_elements, closed, append_predicate}
use Rattle.changes.specs.Effects.{Room, Whole, Appended}
use Rattle.changes.proofs.AppendedLaws.{placed_fits, New, appended, record_new, element_run}

module _ (limits : Limits) (b : List ℕ) (s : Runs limits b) (r : Record) (f : RecordFits r) (list : List ℤ)
    (room : Room limits b 0 (length list)) (t : is_join r ≡ false) (fit : Whole list (length list)) where
  abbrev spot : ℕ → ℕ
  spot = λ k. elements_at limits + 8 * (element_count b + k)

  abbrev bits : ℕ → ℕ
  bits = λ k. of_z w64 (get_or list k (pos 0))

  abbrev run : List ℕ
  run = put_elements limits b (element_count b) list (length list)

  abbrev w : Record
  w = placed r (length list) (element_count b)

  reach : Only (spot 0) (spot (length list)) b run
  reach = wrote_only 8 spot (λ k. omega arith) b bits (length list)

  element : (k : ℕ) → k < length list → element_at limits run (element_count b + k) ≡ get_or list k (pos 0)
  unfolding signed_word
  element k u =
      let z = get_or list k (pos 0) in
      ap (to_z w64)
      (wrote_back 8 spot (λ j. omega arith) b bits (length list) (omega (arith, room.elements, room.laid.room)) k u
      (of_z_fits w64 z (fit k u)).fits)
      ∙ to_z-of_z w64 z (fit k u)

  predicate_new : New limits b room.laid s room.parts run (place_count b) (element_count b + length list) w
  predicate_new =
      record {
        only = only_wide (omega arith) (omega (arith, room.elements)) reach;
        places_low = λ k u. word_only reach 2 (places_at limits + 2 * k) (inl (omega (arith, s.counted.places)));
        elements_low = λ k u. signed_only reach (elements_at limits + 8 * k) (inl (omega arith));
        fits =
            placed_fits f (omega (arith, room.elements, room.laid.within.elements))
            (omega (arith, room.elements, room.laid.within.elements));
        places_most = s.counted.places;
        elements_most = room.elements;
        join = λ h. absurd (true≢false (sym h ∙ t));
        predicate = λ h. (refl, refl, refl);
        children = λ h. absurd (true≢false (sym h ∙ t));
        blank = λ h. absurd (true≢false (sym h ∙ t));
      }

  abbrev whole : List ℕ
  whole = closed limits run (part_count b) w (place_count b) (element_count b + length list)

  part : part_at limits whole (part_count b) ≡ alone (predicate_of r list)
  part =
      let e = record_new limits b room.laid s room.parts run (place_count b) (element_count b + length list) w predicate_new in
      part_is limits whole (part_count b) false (ap is_join e ∙ t)
      ∙ ap (part_if false limits whole) e
      ∙ ap (λ (l : List ℤ). alone (predicate_of r l))
      (tabulate_ext (length list) _ _
      (λ k u.
      element_run limits b room.laid s room.parts run (place_count b) (element_count b + length list) w predicate_new
      (element_count b + k)
      ∙ element k u)
      ∙ tabulate_get_or list (pos 0))

  pub predicate_appended : Appended limits b w (alone (predicate_of r list)) (append_predicate limits b r list)
  unfolding append_predicate
  predicate_appended =
      appended limits b room.laid s room.parts run (place_count b) (element_count b + length list) w predicate_new
      (alone (predicate_of r list))
      part
