-- What a part's key is read from: five fields of its record, and its items. So a part that is written with a candidate's fields and items
-- has the candidate's key, and one whose record and items a change leaves alone keeps its key.
--     same_fields     equal fields and items, equal keys
--     key_read        the key of a part by what its record and its run hold
--     key_kept        a part that reads as before has its key as before
-- Assumes nothing.
use Rattle.std.specs.Prelude.{◌≡◌, List, ◌∷◌, ℕ, ◌+◌, ◌*◌, ◌<◌, length}
use Rattle.std.proofs.Math.Path.{ap}
use Rattle.std.proofs.Common.{◌∙◌}
use Rattle.std.proofs.Math.Dec.{ltb}
use Rattle.std.proofs.Math.ListN.{get_or}
use Rattle.lists.proofs.TabulateLaws.{tabulate_ext, tabulate_get_or}
use Rattle.store.specs.declared.Limits.{Limits}
use Rattle.store.specs.declared.Record.{Record}
use Rattle.store.specs.Records.{record_at}
use Rattle.store.specs.Tables.{is_join}
use Rattle.finding.specs.Keys.{key_of, item_at, items_of, key_at}

-- the fields that a key holds
pub record SameFields (r t : Record) : Type 0 where
  pub kind : r.kind ≡ t.kind
  pub attribute : r.attribute ≡ t.attribute
  pub tag : r.tag ≡ t.tag
  pub scale : r.scale ≡ t.scale
  pub number : r.number ≡ t.number

pub same_fields : (r t : Record) (items others : List ℕ) → SameFields r t → items ≡ others → key_of r items ≡ key_of t others
unfolding key_of
same_fields r t items others f all =
    let kind = f.kind in
    let attribute = f.attribute in
    let tag = f.tag in
    let scale = f.scale in
    let number = f.number in
    λ i. (kind i + 256 * (attribute i + 256 * (tag i + 256 * scale i))) ∷ number i ∷ length (all i) ∷ all i

module _ (limits : Limits) (b : List ℕ) (p : ℕ) where
  pub key_read : (content : Record) (items : List ℕ) → SameFields (record_at limits b p) content
      → (record_at limits b p).length ≡ length items
      → ((k : ℕ) → k < length items → item_at (is_join content) limits b ((record_at limits b p).start + k) ≡ get_or items k 0)
      → key_at limits b p ≡ key_of content items
  unfolding key_at
  key_read content items f long each =
      let r : Record = record_at limits b p in
      let sorts : is_join r ≡ is_join content = ap (λ (x : ℕ). ltb x 2) f.kind in
      same_fields r content (items_of limits b r) items f
      (rw (sorts, long)
      (tabulate_ext (length items) (λ k. item_at (is_join content) limits b (r.start + k)) (λ k. get_or items k 0) each
      ∙ tabulate_get_or items 0))

  pub key_kept : (after : List ℕ) → record_at limits after p ≡ record_at limits b p
      → ((k : ℕ) → k < (record_at limits b p).length
      → item_at (is_join (record_at limits b p)) limits after ((record_at limits b p).start + k)
      ≡ item_at (is_join (record_at limits b p)) limits b ((record_at limits b p).start + k))
      → key_at limits after p ≡ key_at limits b p
  unfolding key_at
  key_kept after e each =
      let r : Record = record_at limits b p in
      ap (λ (x : Record). key_of x (items_of limits after x)) e
      ∙ ap (key_of r)
      (tabulate_ext r.length (λ k. item_at (is_join r) limits after (r.start + k)) (λ k. item_at (is_join r) limits b (r.start + k)) each)
