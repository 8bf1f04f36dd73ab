-- Heads first: a part's key is its head followed by its items, so what comparing two heads leaves open the items settle, and where the
-- heads are the same so is the number of the items.
-- Assumes nothing.
use mathlib.Core.Path.{◌≡◌, refl, sym, ap, ◌∙◌}
use mathlib.Core.List.{List, map, ◌++◌}
use mathlib.Core.Logic.{◌≢◌}
use Prim.Native.Nat.{ℕ, ◌+◌, ◌*◌, ◌≤◌, ◌<◌}
use native.Mathlib.Omega.{arith}
use lib.Dec.{ltb}
use lib.ListN.{length, get_or}
use Rattle.words.specs.Word.{word}
use Rattle.words.proofs.WordLaws.{word_split}
use Rattle.lists.specs.Tabulate.{tabulate}
use Rattle.lists.proofs.TabulateLaws.{length_tabulate, get_or_tabulate}
use Rattle.std.specs.Cmp.Lexicographic.{slice_cmp}
use Rattle.std.specs.List.{range_with_len}
use Rattle.std.specs.Fn.{Called}
use Rattle.std.specs.Iterator.Adapters.{map_source, map_callee}
use Rattle.std.specs.declared.iter.Map.{Map}
use Rattle.std.specs.declared.ops.Range.{Range}
use Rattle.std.proofs.iter.Yields.{nat_range_steps}
use Rattle.std.proofs.lemmas.Iterator.{YieldsList, maps, YieldsList-from_range, YieldsList-from_map}
use denote.Param.Members.{Mut}
use Rattle.std.specs.Ordering.{nat_cmp, ordering_then}
use Rattle.std.specs.declared.cmp.Ordering.{Ordering}
use Rattle.std.specs.declared.cmp.Ordering.TheVariants.{Less, Equal, Greater}
use Rattle.store.specs.declared.Limits.{Limits}
use Rattle.store.specs.declared.Head.{Head}
use Rattle.store.specs.declared.Record.{Record}
use Rattle.store.specs.Layout.{parts_at}
use Rattle.store.specs.Records.{record_in, record_at}
use Rattle.store.specs.Heads.{head_at}
use Rattle.store.specs.Tables.{is_join}
use Rattle.finding.specs.KeyOrder.{key_order}
use Rattle.finding.specs.KeyOrderLaws.{then_assoc, then_end, order_append, order_equal}
use Rattle.finding.proofs.ItemLaws.{range_table, Agree, list_table, items_differ, items_equal}
use Rattle.finding.specs.Keys.{first_of, head_key, key_of, item_at, items_of, key_at, candidate_head, head_order, Gives}

-- the first four bytes as one number
first_word : (b : List ℕ) (at : ℕ) → word 4 b at ≡ first_of (record_in b at)
first_word b at =
    let two : at + 1 + 1 ≡ at + 2 = omega arith in
    let three : at + 2 + 1 ≡ at + 3 = omega arith in
    let a = word_split 1 3 b at in
    let t = rw two at (word_split 1 2 b (at + 1)) in
    let s = rw three at (word_split 1 1 b (at + 2)) in
    omega arith

key_head : (limits : Limits) (b : List ℕ) (p : ℕ)
    → key_at limits b p ≡ head_key (head_at limits b p) ++ items_of limits b (record_at limits b p)
unfolding key_at key_of
key_head limits b p =
    let r : Record = record_at limits b p in
    let f = sym (first_word b (parts_at limits + 24 * p)) in
    let n = length_tabulate r.length (λ k. item_at (is_join r) limits b (r.start + k)) in
    rw (f, n)

-- the same of a head that was read, of a part or of a candidate
pub part_key : (limits : Limits) (b : List ℕ) (q : ℕ) {k : Head} → k ≡ head_at limits b q
    → key_at limits b q ≡ head_key k ++ items_of limits b (record_at limits b q)
part_key limits b q e = rw e (key_head limits b q)

pub candidate_key_lem : (content : Record) (items : List ℕ) (n : ℕ) {k : Head} → k ≡ candidate_head content n → n ≡ length items
    → key_of content items ≡ head_key k ++ items
unfolding key_of
candidate_key_lem content items n ek e = rw (ek, e)

-- ---- runs

-- going over the places that a part's head tells of, each place read by a call, gives the part's items
pub run_yields : {F : Type 0} (g : Mut F (ℕ × Unit {0}) ℕ) (limits : Limits) (b : List ℕ) (p : ℕ) {h : Head} → h ≡ head_at limits b p
    → {s : Map (Range ℕ) F} {f : F} → map_source s ≡ record { start = h.start; end = h.start + h.length } → map_callee s ≡ f
    → ((k : ℕ) (r : ℕ) (q : F) → Called g f (k, tt) r q → (q ≡ f) × (r ≡ item_at (ltb h.kind 2) limits b k))
    → YieldsList (maps nat_range_steps g) (λ (r : ℕ). r) s (items_of limits b (record_at limits b p))
run_yields g limits b p {h} read source callee reads =
    let items : map (item_at (ltb h.kind 2) limits b) (range_with_len h.start h.length) ≡ items_of limits b (record_at limits b p)
    = range_table (item_at (ltb h.kind 2) limits b) h.length h.start ∙ rw read in
    rw items at
    (YieldsList-from_map g (item_at (ltb h.kind 2) limits b)
    (YieldsList-from_range h.start (h.start + h.length) h.length source (omega arith)) callee reads)

-- and so do those places as a table
run_table : (limits : Limits) (b : List ℕ) (p : ℕ) {h : Head} → h ≡ head_at limits b p
    → tabulate h.length (λ k. item_at (ltb h.kind 2) limits b (h.start + k)) ≡ items_of limits b (record_at limits b p)
run_table limits b p read = rw read

-- what tells that calls give the items
pub calls_give : (says : ℕ → ℕ → Type 0) (n : ℕ) (items : List ℕ) → length items ≡ n
    → ((k r : ℕ) → k < n → says k r → r ≡ get_or items k 0) → Gives says n items
calls_give says n items long each = record { long = long; each = each }

-- a call for each place of those that a part's head tells of gives the part's items
pub run_gives : {says : ℕ → ℕ → Type 0} (limits : Limits) (b : List ℕ) (p : ℕ) {h : Head} → h ≡ head_at limits b p
    → ((k r : ℕ) → says k r → r ≡ item_at (ltb h.kind 2) limits b (h.start + k))
    → Gives says h.length (items_of limits b (record_at limits b p))
run_gives {says} limits b p {h} read reads =
    let item : ℕ → ℕ = λ k. item_at (ltb h.kind 2) limits b (h.start + k) in
    rw (run_table limits b p read) at
    (calls_give says h.length (tabulate h.length item) (length_tabulate h.length item)
    (λ k r l e. reads k r e ∙ sym (get_or_tabulate h.length item 0 k l)))

-- ---- part p against a key whose head is k

-- heads are compared field by field
pub heads_order : (h k : Head)
    → ordering_then (ordering_then (nat_cmp h.first k.first) (nat_cmp h.number k.number)) (nat_cmp h.length k.length)
    ≡ key_order (head_key h) (head_key k)
unfolding key_order
heads_order h k =
    then_assoc (nat_cmp h.first k.first) (nat_cmp h.number k.number) (nat_cmp h.length k.length)
    ∙ ap (λ (o : Ordering). ordering_then (nat_cmp h.first k.first) (ordering_then (nat_cmp h.number k.number) o))
    (sym (then_end (nat_cmp h.length k.length)))

-- h is p's head as it was read, and o how the two heads compare
pub record Against (limits : Limits) (b : List ℕ) (p : ℕ) (h k : Head) (o : Ordering) : Type 0 where
  pub read : h ≡ head_at limits b p
  pub order : o ≡ key_order (head_key h) (head_key k)

-- what two reads and their comparison tell
pub against : {limits : Limits} {b : List ℕ} {p : ℕ} {h k : Head} {o : Ordering} → h ≡ head_at limits b p
    → o ≡ key_order (head_key h) (head_key k) → Against limits b p h k o
against read order = record { read = read; order = order }

module _ (limits : Limits) (b : List ℕ) (p : ℕ) {h : Head} (k : Head) {o : Ordering} (read : h ≡ head_at limits b p)
    (order : o ≡ key_order (head_key h) (head_key k)) (others : List ℕ) where
  -- what the heads leave open the items settle
  whole : key_order (key_at limits b p) (head_key k ++ others)
      ≡ ordering_then o (key_order (items_of limits b (record_at limits b p)) others)
  whole =
      rw (part_key limits b p read, order)
      (order_append (head_key h) (head_key k) (items_of limits b (record_at limits b p)) others refl)

  pub heads_settle : o ≢ Equal → o ≡ key_order (key_at limits b p) (head_key k ++ others)
  heads_settle ne = sym (whole ∙ decided o _ ne)
    where
      decided : (o r : Ordering) → o ≢ Equal → ordering_then o r ≡ o
      decided Less r ne = refl
      decided Equal r ne = absurd (ne refl)
      decided Greater r ne = refl

  pub items_settle : o ≡ Equal → {r : Ordering} → r ≡ slice_cmp nat_cmp (items_of limits b (record_at limits b p)) others
      → r ≡ key_order (key_at limits b p) (head_key k ++ others)
  unfolding key_order
  items_settle e f = f ∙ sym (whole ∙ rw e)

-- ---- part p against what calls give, place by place

module _ {limits : Limits} {b : List ℕ} {p : ℕ} {h k : Head} {o : Ordering} (w : Against limits b p h k o) (same : o ≡ Equal) where
  -- heads that are the same tell of as many items
  pub same_length : h.length ≡ k.length
  same_length = let heads : head_key h ≡ head_key k = order_equal (head_key h) (head_key k) (sym w.order ∙ same) in cc

  abbrev own : ℕ → ℕ
  own j = item_at (ltb h.kind 2) limits b (h.start + j)

  -- the first i calls gave what the part has there
  module _ {says : ℕ → ℕ → Type 0} {others : List ℕ} (gives : Gives says k.length others) (i : ℕ)
      (passed : (j : ℕ) → j < i → says j (own j)) where
    table : others ≡ tabulate h.length (λ j. get_or others j 0)
    table = let long : length others ≡ h.length = gives.long ∙ sym same_length in rw long at (list_table others)

    agree : i ≤ h.length → Agree own (λ j. get_or others j 0) i
    agree l j u = gives.each j (own j) (omega (arith, same_length)) (passed j u)

    settled : {r : Ordering} → r ≡ key_order (tabulate h.length own) others → r ≡ head_order limits b p k others
    unfolding key_order
    settled e = items_settle limits b p k w.read w.order others same (rw (run_table limits b p w.read) at e)

    -- the next two differ, and decide
    pub calls_differ : i < h.length → {x y : ℕ} → x ≡ own i → says i y → x ≢ y → {r : Ordering} → r ≡ nat_cmp x y
        → r ≡ head_order limits b p k others
    calls_differ l ex gave ne er =
        let ey = gives.each i _ (omega (arith, same_length)) gave in
        settled (items_differ table i (agree (omega arith)) l (λ e. ne (ex ∙ e ∙ sym ey)) (er ∙ rw (ex, ey)))

    -- or there are no more
    pub calls_end : i ≡ h.length → Equal ≡ head_order limits b p k others
    calls_end l = settled (items_equal table i (agree (omega arith)) (omega arith))
