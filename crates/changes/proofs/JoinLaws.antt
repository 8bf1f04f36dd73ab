-- AN AND OR OR APPENDED, over given children: the last part is that, and nothing else changes.
-- Assumes nothing.
use mathlib.Core.Path.{◌≡◌, refl, sym, ap, ◌∙◌}
use mathlib.Core.Bool.{true, true≢false}
use mathlib.Core.List.{List}
use mathlib.Core.Logic.{inl, inr}
use Prim.Native.Nat.{ℕ, ◌+◌, ◌*◌, ◌<◌}
use native.Mathlib.Omega.{arith}
use lib.ListN.{length, get_or}
use Rattle.lists.proofs.TabulateLaws.{tabulate_ext, tabulate_get_or}
use Rattle.words.specs.Frame.{Only}
use Rattle.words.proofs.FrameLaws.{only_wide, word_only}
use Rattle.words.proofs.SignLaws.{signed_only}
use Rattle.words.proofs.RunLaws.{wrote_only, wrote_back}
use Rattle.store.specs.declared.Limits.{Limits}
use Rattle.store.specs.declared.Record.{Record}
use Rattle.store.specs.Layout.{places_at, elements_at}
use Rattle.model.specs.Parts.{over}
use Rattle.store.specs.Records.{part_count, place_count, element_count, place_at, RecordFits}
use Rattle.store.specs.Tables.{is_join, operator_of, part_if, part_at}
use Rattle.store.specs.Runs.{Blank, Runs}
use Rattle.store.proofs.RunsLaws.{part_is}
use Rattle.changes.specs.Changes.{placed, put_children, closed, append_join}
use Rattle.changes.specs.Effects.{Room, Low, Appended}
use Rattle.changes.proofs.AppendedLaws.{placed_fits, New, appended, record_new, place_run}

module _ (limits : Limits) (b : List ℕ) (s : Runs limits b) (r : Record) (f : RecordFits r) (children : List ℕ)
    (room : Room limits b (length children) 0) (t : is_join r ≡ true) (blank : Blank r) (low : Low children (part_count b)) where
  abbrev spot : ℕ → ℕ
  spot = λ k. places_at limits + 2 * (place_count b + k)

  abbrev run : List ℕ
  run = put_children limits b (place_count b) children (length children)

  abbrev w : Record
  w = placed r (length children) (place_count b)

  reach : Only (spot 0) (spot (length children)) b run
  reach = wrote_only 2 spot (λ k. omega arith) b (λ k. get_or children k 0) (length children)

  child : (k : ℕ) → k < length children → place_at limits run (place_count b + k) ≡ get_or children k 0
  child k u =
      wrote_back 2 spot (λ j. omega arith) b (λ j. get_or children j 0) (length children)
      (omega (arith, room.places, room.laid.room)) k u
      (omega (arith, low k u, room.parts, room.laid.within.parts))

  join_new : New limits b room.laid s room.parts run (place_count b + length children) (element_count b) w
  join_new =
      record {
        only = only_wide (omega arith) (omega (arith, room.places)) reach;
        places_low = λ k u. word_only reach 2 (places_at limits + 2 * k) (inl (omega arith));
        elements_low = λ k u. signed_only reach (elements_at limits + 8 * k) (inr (omega (arith, room.places)));
        fits = placed_fits f (omega (arith, room.places, room.laid.within.places)) (omega (arith, room.places, room.laid.within.places));
        places_most = room.places;
        elements_most = s.counted.elements;
        join = λ h. (refl, refl, refl);
        predicate = λ h. absurd (true≢false (sym t ∙ h));
        children = λ h k u. omega (arith, child k u, low k u);
        blank = λ h. record { attribute = blank.attribute; tag = blank.tag; scale = blank.scale; number = blank.number };
      }

  abbrev whole : List ℕ
  whole = closed limits run (part_count b) w (place_count b + length children) (element_count b)

  part : part_at limits whole (part_count b) ≡ over (operator_of r.kind) children
  part =
      let e = record_new limits b room.laid s room.parts run (place_count b + length children) (element_count b) w join_new in
      part_is limits whole (part_count b) true (ap is_join e ∙ t)
      ∙ ap (part_if true limits whole) e
      ∙ ap (over (operator_of r.kind))
      (tabulate_ext (length children) _ _
      (λ k u.
      place_run limits b room.laid s room.parts run (place_count b + length children) (element_count b) w join_new
      (place_count b + k)
      ∙ child k u)
      ∙ tabulate_get_or children 0)

  pub join_appended : Appended limits b w (over (operator_of r.kind) children) (append_join limits b r children)
  unfolding append_join
  join_appended =
      appended limits b room.laid s room.parts run (place_count b + length children) (element_count b) w join_new
      (over (operator_of r.kind) children)
      part
