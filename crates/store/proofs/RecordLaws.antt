-- A record and a rule are read and written in their own bytes alone, and what was written is read.
--     record_fits                        each field of a record that was read fits its width
--     record_only, rule_only             what a write elsewhere leaves
--     only_put_record, only_put_rule     what a write reaches
--     record_back, rule_back             what was written is read
--     bytes_put_record, bytes_put_rule   bytes stay bytes
-- Assumes nothing.
use mathlib.Core.Path.{◌≡◌, ◌∙◌}
use mathlib.Core.List.{List}
use mathlib.Core.Logic.{inl, inr, ⊎_elim}
use Prim.Native.Nat.{ℕ, ◌+◌, ◌≤◌, ◌<◌}
use native.Mathlib.Omega.{arith}
use lib.ListN.{length}
use Rattle.words.specs.Word.{put}
use Rattle.words.specs.Frame.{Only, Outside, Bytes}
use Rattle.words.proofs.WordLaws.{word_back}
use Rattle.words.proofs.FrameLaws.{only_then, only_wide, only_put, word_only, word_within, word_after, bytes_put, word_lt}
use Rattle.store.specs.declared.Record.{Record}
use Rattle.store.specs.declared.Rule.{Rule}
use Rattle.store.specs.Records.{record_in, RecordFits, put_record_in, rule_in, put_rule_in}

-- ---- what fits

pub record_fits : (b : List ℕ) (at : ℕ) → Bytes b → RecordFits (record_in b at)
record_fits b at y =
    record {
      kind = word_lt 1 b at y;
      attribute = word_lt 1 b (at + 1) y;
      tag = word_lt 1 b (at + 2) y;
      scale = word_lt 1 b (at + 3) y;
      level = word_lt 1 b (at + 4) y;
      size = word_lt 1 b (at + 5) y;
      length = word_lt 2 b (at + 6) y;
      start = word_lt 4 b (at + 8) y;
      cost = word_lt 4 b (at + 12) y;
      number = word_lt 8 b (at + 16) y;
    }

-- ---- what a write elsewhere leaves

module _ {lo hi : ℕ} {b d : List ℕ} (p : Only lo hi b d) (at : ℕ) where
  pub record_only : Outside lo hi at 24 → record_in d at ≡ record_in b at
  record_only o =
      let e0 = word_only p 1 at (⊎_elim (λ u. inl (omega arith)) (λ v. inr v) o) in
      let e1 = word_within p at 24 o 1 1 (omega arith) in
      let e2 = word_within p at 24 o 1 2 (omega arith) in
      let e3 = word_within p at 24 o 1 3 (omega arith) in
      let e4 = word_within p at 24 o 1 4 (omega arith) in
      let e5 = word_within p at 24 o 1 5 (omega arith) in
      let e6 = word_within p at 24 o 2 6 (omega arith) in
      let e7 = word_within p at 24 o 4 8 (omega arith) in
      let e8 = word_within p at 24 o 4 12 (omega arith) in
      let e9 = word_within p at 24 o 8 16 (omega arith) in
      cc

  pub rule_only : Outside lo hi at 8 → rule_in d at ≡ rule_in b at
  rule_only o =
      let e0 = word_only p 4 at (⊎_elim (λ u. inl (omega arith)) (λ v. inr v) o) in
      let e1 = word_within p at 8 o 4 4 (omega arith) in
      cc

-- ---- what a write of a record reaches: the bytes after each field's write, and then, from the last write back, what follows it

module _ (b : List ℕ) (at : ℕ) (r : Record) where
  abbrev kinded : List ℕ
  kinded = put 1 b at r.kind

  abbrev attributed : List ℕ
  attributed = put 1 kinded (at + 1) r.attribute

  abbrev tagged : List ℕ
  tagged = put 1 attributed (at + 2) r.tag

  abbrev scaled : List ℕ
  scaled = put 1 tagged (at + 3) r.scale

  abbrev levelled : List ℕ
  levelled = put 1 scaled (at + 4) r.level

  abbrev sized : List ℕ
  sized = put 1 levelled (at + 5) r.size

  abbrev lengthened : List ℕ
  lengthened = put 2 sized (at + 6) r.length

  abbrev started : List ℕ
  started = put 4 lengthened (at + 8) r.start

  abbrev costed : List ℕ
  costed = put 4 started (at + 12) r.cost

  abbrev whole : List ℕ
  whole = put 8 costed (at + 16) r.number

  -- one field's write and what follows it
  next : {d : List ℕ} (k j : ℕ) (x : ℕ) → j + k ≤ 24 → Only (at + (j + k)) (at + 24) (put k d (at + j) x) whole
      → Only (at + j) (at + 24) d whole
  next {d} k j x l o = only_then (omega arith) (omega arith) (omega arith) (omega arith) (only_put k d (at + j) x) o

  after_cost : Only (at + 16) (at + 24) costed whole
  after_cost = only_wide (omega arith) (omega arith) (only_put 8 costed (at + 16) r.number)

  after_start : Only (at + 12) (at + 24) started whole
  after_start = next 4 12 r.cost (omega arith) after_cost

  after_length : Only (at + 8) (at + 24) lengthened whole
  after_length = next 4 8 r.start (omega arith) after_start

  after_size : Only (at + 6) (at + 24) sized whole
  after_size = next 2 6 r.length (omega arith) after_length

  after_level : Only (at + 5) (at + 24) levelled whole
  after_level = next 1 5 r.size (omega arith) after_size

  after_scale : Only (at + 4) (at + 24) scaled whole
  after_scale = next 1 4 r.level (omega arith) after_level

  after_tag : Only (at + 3) (at + 24) tagged whole
  after_tag = next 1 3 r.scale (omega arith) after_scale

  after_attribute : Only (at + 2) (at + 24) attributed whole
  after_attribute = next 1 2 r.tag (omega arith) after_tag

  after_kind : Only (at + 1) (at + 24) kinded whole
  after_kind = next 1 1 r.attribute (omega arith) after_attribute

  pub only_put_record : Only at (at + 24) b (put_record_in b at r)
  unfolding put_record_in
  only_put_record = only_then (omega arith) (omega arith) (omega arith) (omega arith) (only_put 1 b at r.kind) after_kind

  pub record_back : RecordFits r → at + 24 ≤ length b → record_in (put_record_in b at r) at ≡ r
  unfolding put_record_in
  record_back f room =
      let long : length whole ≡ length b = after_kind.long ∙ (only_put 1 b at r.kind).long in
      let e0 = word_after 1 b at r.kind after_kind (inl (omega arith)) (omega arith) f.kind in
      let e1 = word_after 1 kinded (at + 1) r.attribute after_attribute (inl (omega arith)) (omega (arith, after_kind.long))
      f.attribute in
      let e2 = word_after 1 attributed (at + 2) r.tag after_tag (inl (omega arith)) (omega (arith, after_attribute.long)) f.tag in
      let e3 = word_after 1 tagged (at + 3) r.scale after_scale (inl (omega arith)) (omega (arith, after_tag.long)) f.scale in
      let e4 = word_after 1 scaled (at + 4) r.level after_level (inl (omega arith)) (omega (arith, after_scale.long)) f.level in
      let e5 = word_after 1 levelled (at + 5) r.size after_size (inl (omega arith)) (omega (arith, after_level.long)) f.size in
      let e6 = word_after 2 sized (at + 6) r.length after_length (inl (omega arith)) (omega (arith, after_size.long)) f.length in
      let e7 = word_after 4 lengthened (at + 8) r.start after_start (inl (omega arith)) (omega (arith, after_length.long)) f.start in
      let e8 = word_after 4 started (at + 12) r.cost after_cost (inl (omega arith)) (omega (arith, after_start.long)) f.cost in
      let e9 = word_back 8 costed (at + 16) r.number (omega (arith, after_cost.long)) f.number in
      λ j.
      record {
        kind = e0 j;
        attribute = e1 j;
        tag = e2 j;
        scale = e3 j;
        level = e4 j;
        size = e5 j;
        length = e6 j;
        start = e7 j;
        cost = e8 j;
        number = e9 j;
      }

  pub bytes_put_record : Bytes b → Bytes (put_record_in b at r)
  unfolding put_record_in
  bytes_put_record y =
      let front : Bytes tagged
      = bytes_put 1 attributed (at + 2) r.tag (bytes_put 1 kinded (at + 1) r.attribute (bytes_put 1 b at r.kind y)) in
      let middle : Bytes sized
      = bytes_put 1 levelled (at + 5) r.size (bytes_put 1 scaled (at + 4) r.level (bytes_put 1 tagged (at + 3) r.scale front)) in
      let run : Bytes started
      = bytes_put 4 lengthened (at + 8) r.start (bytes_put 2 sized (at + 6) r.length middle) in
      bytes_put 8 costed (at + 16) r.number (bytes_put 4 started (at + 12) r.cost run)

-- ---- and of a rule

module _ (b : List ℕ) (at : ℕ) (r : Rule) where
  abbrev identified : List ℕ
  identified = put 4 b at r.id

  rooted : Only (at + 4) (at + 8) identified (put_rule_in b at r)
  rooted = only_wide (omega arith) (omega arith) (only_put 4 identified (at + 4) r.root)

  pub only_put_rule : Only at (at + 8) b (put_rule_in b at r)
  only_put_rule = only_then (omega arith) (omega arith) (omega arith) (omega arith) (only_put 4 b at r.id) rooted

  pub rule_back : r.id < 4294967296 → r.root < 4294967296 → at + 8 ≤ length b → rule_in (put_rule_in b at r) at ≡ r
  rule_back f g room =
      let e0 = word_after 4 b at r.id rooted (inl (omega arith)) (omega arith) f in
      let e1 = word_back 4 identified (at + 4) r.root (omega (arith, (only_put 4 b at r.id).long)) g in
      λ j. record { id = e0 j; root = e1 j }

  pub bytes_put_rule : Bytes b → Bytes (put_rule_in b at r)
  bytes_put_rule y = bytes_put 4 identified (at + 4) r.root (bytes_put 4 b at r.id y)
