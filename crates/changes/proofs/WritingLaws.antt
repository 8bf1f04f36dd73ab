-- A list of signed numbers put element by element, and the bytes of each change put together, as the code does it.
-- Assumes nothing.
use mathlib.Core.Path.{◌≡◌, ap, ◌∙◌}
use mathlib.Core.List.{List}
use mathlib.Core.Logic.{inl}
use Prim.Native.Nat.{ℕ, ◌+◌, ◌-◌, ◌*◌, ◌≤◌}
use native.Mathlib.Nat.{add-zero}
use native.Mathlib.Omega.{arith}
use lib.ListN.{length, get_or}
use lib.IntN.{ℤ, pos}
use mir.Syntax.{w64}
use mir.Val.{SFits, to_z, of_z}
use mir.ValLaws.{to_z-of_z}
use borrow.Author.Count.{below_more}
use Rattle.words.specs.Word.{word, put}
use Rattle.words.specs.Frame.{Only}
use Rattle.words.proofs.FrameLaws.{word_only}
use Rattle.words.proofs.RunLaws.{wrote_more, wrote_only}
use Rattle.store.specs.declared.Limits.{Limits}
use Rattle.store.specs.declared.Record.{Record}
use Rattle.store.specs.Layout.{places_at, elements_at, rule_count_at}
use Rattle.store.specs.declared.Rule.{Rule}
use Rattle.store.specs.Records.{rule_count, part_count, place_count, element_count, put_element}
use Rattle.store.specs.Records.{rule_at, put_rule, entry_at, put_entry}
use Rattle.store.proofs.KeptLaws.{laid_kept}
use Rattle.changes.specs.Changes.{put_children, closed, part_more, append_join, append_predicate, insert_rule, remove_rule, insert_entry}
use Rattle.changes.specs.Moving.{raised, lowered}
use Rattle.changes.specs.Effects.{Room, Placed, ElementsPut, JoinPut, PredicatePut}

-- one element more; the machine has it as a number read back from its bits
pub elements_more : (limits : Limits) (b : List ℕ) (at k : ℕ) (list : List ℤ) {d e : List ℕ} {u : ℕ}
    → SFits w64 (get_or list k (pos 0)) → ElementsPut limits b at list k d → u ≡ of_z w64 (to_z w64 (of_z w64 (get_or list k (pos 0))))
    → e ≡ put_element limits d (at + k) u → ElementsPut limits b at list (k + 1) e
elements_more limits b at k list {d} f put eu ee =
    let z = get_or list k (pos 0) in
    record {
      bytes =
          wrote_more 8 b (λ j. elements_at limits + 8 * (at + j)) (λ j. of_z w64 (get_or list j (pos 0))) k put.bytes
          (ee ∙ ap (put_element limits d (at + k)) (eu ∙ ap (of_z w64) (to_z-of_z w64 z f)));
      whole = below_more (λ j. SFits w64 (get_or list j (pos 0))) k put.whole f;
    }

-- a run written where the tables are: the room for the part, and the counts, are as they were
module _ {b d : List ℕ} {lo hi : ℕ} (run : Only lo hi b d) (past : 16 ≤ lo) where
  count_run : (at : ℕ) → at + 4 ≤ 16 → word 4 d at ≡ word 4 b at
  count_run at h = word_only run 4 at (inl (omega arith))

  room_run : {limits : Limits} {p e : ℕ} → Room limits b p e → Room limits d p e
  room_run room =
      record {
        laid = laid_kept run room.laid;
        parts = omega (arith, room.parts, count_run 4 (omega arith));
        places = omega (arith, room.places, count_run 8 (omega arith));
        elements = omega (arith, room.elements, count_run 12 (omega arith));
      }

  more_run : (limits : Limits) (r : Record) (p e : ℕ) → part_more limits d r p e
      ≡ closed limits d (part_count b) r (place_count b + p) (element_count b + e)
  more_run limits r p e = rw (count_run 4 (omega arith), count_run 8 (omega arith), count_run 12 (omega arith))

module _ (limits : Limits) (b children : List ℕ) {n : ℕ} {d : List ℕ} (en : n ≡ place_count b)
    (ed : d ≡ put_children limits b n children (length children)) where
  abbrev place_spot : ℕ → ℕ
  place_spot k = places_at limits + 2 * (n + k)

  children_run : Only (place_spot 0) (place_spot (length children)) b d
  children_run = rw ed (wrote_only 2 place_spot (λ k. omega arith) b (λ k. get_or children k 0) (length children))

  pub join_room : Room limits b (length children) 0 → Room limits d (length children) 0
  join_room = room_run children_run (omega arith)

  pub join_put : (r : Record) {w : List ℕ} {v : Record} → Placed r (length children) n v
      → w ≡ part_more limits d v (length children) 0 → JoinPut limits b r children w
  unfolding append_join
  join_put r {w} {v} ev ew =
      let more = more_run children_run (omega arith) limits v (length children) 0 in
      record { bytes = ew ∙ more ∙ rw (ev.same, ed, en, add-zero); fits = ev.fits }

module _ (limits : Limits) (b : List ℕ) (list : List ℤ) {n : ℕ} {d : List ℕ} (en : n ≡ element_count b)
    (put : ElementsPut limits b n list (length list) d) where
  abbrev element_spot : ℕ → ℕ
  element_spot k = elements_at limits + 8 * (n + k)

  elements_run : Only (element_spot 0) (element_spot (length list)) b d
  elements_run =
      rw put.bytes (wrote_only 8 element_spot (λ k. omega arith) b (λ k. of_z w64 (get_or list k (pos 0))) (length list))

  pub predicate_room : Room limits b 0 (length list) → Room limits d 0 (length list)
  predicate_room = room_run elements_run (omega arith)

  pub predicate_put : (r : Record) {w : List ℕ} {v : Record} → Placed r (length list) n v
      → w ≡ part_more limits d v 0 (length list) → PredicatePut limits b r list w
  unfolding append_predicate
  predicate_put r {w} {v} ev ew =
      let more = more_run elements_run (omega arith) limits v 0 (length list) in
      record { bytes = ew ∙ more ∙ rw (ev.same, put.bytes, en, add-zero); fits = ev.fits; whole = put.whole }

pub rule_inserted : (b : List ℕ) (i : ℕ) (r : Rule) {n : ℕ} {d e w : List ℕ} → n ≡ rule_count b
    → d ≡ raised rule_at put_rule b i (n - i) → e ≡ put_rule d i r → w ≡ put 4 e rule_count_at (n + 1) → w ≡ insert_rule b i r
unfolding insert_rule
rule_inserted b i r en ed ee ew = ew ∙ rw (ee, ed, en)

pub rule_removed : (b : List ℕ) (i : ℕ) {n : ℕ} {d w : List ℕ} → n ≡ rule_count b
    → d ≡ lowered rule_at put_rule b i (n - (i + 1)) → w ≡ put 4 d rule_count_at (n - 1) → w ≡ remove_rule b i
unfolding remove_rule
rule_removed b i en ed ew = ew ∙ rw (ed, en)

pub entry_inserted : (limits : Limits) (b : List ℕ) (n k part : ℕ) {d w : List ℕ}
    → d ≡ raised (entry_at limits) (put_entry limits) b k (n - k) → w ≡ put_entry limits d k part → w ≡ insert_entry limits b n k part
unfolding insert_entry
entry_inserted limits b n k part ed ew = ew ∙ rw ed
