-- WHAT A CHANGE OF THE RULES DOES TO THE BOOK: the rules are the old ones with one put in, with one taken away, or with their roots
-- renumbered, and nothing else changes.
--     rule_put_in, rule_taken_out, roots_renumbered
--     root_below, renumber_more          one root more, as a loop renumbers it
--     parted_place, place_exact          where an id is to stand; a live id is found at its place
-- Assumes nothing.
use mathlib.Core.Path.{◌≡◌, refl, sym, ap, ◌∙◌}
use mathlib.Core.List.{List, map}
use mathlib.Core.Logic.{inl, inr}
use Prim.Native.Nat.{ℕ, zero, suc, ◌+◌, ◌-◌, ◌≤◌, ◌<◌}
use native.Mathlib.Numerals.{add-one}
use native.Mathlib.Decide.{ℕ_discrete, dec_lt}
use native.Mathlib.Omega.{arith}
use lib.ListN.{length, get_or}
use Rattle.lists.specs.Tabulate.{tabulate}
use Rattle.lists.proofs.TabulateLaws.{tabulate_ext, tabulate_remove, map_tabulate}
use Rattle.std.specs.declared.cmp.Ordering.{Ordering}
use Rattle.std.specs.declared.cmp.Ordering.TheVariants.{Less, Greater}
use Rattle.lists.specs.Searching.{Parted}
use Rattle.words.specs.Word.{put}
use Rattle.words.specs.Frame.{Only, Bytes}
use Rattle.words.proofs.WordLaws.{word_back}
use Rattle.words.proofs.FrameLaws.{only_refl, only_wide, only_then, only_put, word_only, bytes_put}
use Rattle.store.specs.declared.Limits.{Limits}
use Rattle.store.specs.declared.Rule.{Rule}
use Rattle.store.specs.Layout.{rules_at, parts_at, Laid, rule_count_at}
use Rattle.store.specs.Records.{rule_count, rule_at, put_rule}
use Rattle.store.specs.Tables.{pair_at, rules_of}
use Rattle.store.specs.Runs.{Runs}
use Rattle.store.proofs.RecordLaws.{rule_only}
use Rattle.store.proofs.KeptLaws.{laid_kept, attributes_kept, entries_kept, parts_kept, record_kept, runs_kept, counts_kept}
use Rattle.changes.specs.Moving.{raised, lowered}
use Rattle.changes.specs.Placing.{inserted_at, removed_at}
use Rattle.changes.specs.Changes.{insert_rule, remove_rule, rerooted, renumber_roots}
use Rattle.changes.specs.Effects.{Ruled, AscendingIds, RulePlace, RootsBelow}
use Rattle.changes.proofs.PlacingLaws.{tabulate_insert}
use Rattle.changes.proofs.MovingLaws.{raised_only, raised_up, raised_bytes, lowered_only, lowered_down, lowered_bytes}
use Rattle.changes.proofs.TablesLaws.{RuleFits, rule_spot, rule_table}

abbrev pair_of : Rule → ℕ × ℕ
pair_of r = (r.id, r.root)

-- rules written: all else reads as it did
module _ (limits : Limits) (b e : List ℕ) (l : Laid limits b) (s : Runs limits b) (table : Only rules_at (parts_at limits) b e) where
  pub table_ruled : {m : List (ℕ × ℕ)} → rules_of e ≡ m → Bytes e → Ruled limits b m e
  table_ruled rules y =
      record {
        rules = rules;
        parts = parts_kept table limits (inl (omega arith)) (inr (omega arith)) s;
        records = record_kept table limits (inl (omega arith)) (inr (omega arith)) s;
        count = (counts_kept table limits (inl (omega arith)) (inr (omega arith)) s).0;
        runs =
            runs_kept table limits (inl (omega arith)) (inr (omega arith)) s
            (omega (arith, word_only table 4 0 (inl (omega arith)), s.counted.rules));
        laid = laid_kept table l;
        attributes = attributes_kept table (inl (omega arith));
        entries = λ k. entries_kept table limits k (inr (omega arith));
        bytes = y;
      }

  -- and the count with them
  module _ (n : ℕ) (few : n ≤ limits.rules) where
    abbrev d : List ℕ
    d = put 4 e rule_count_at n

    count : Only 0 4 e d
    count = only_put 4 e rule_count_at n

    pub count_back : rule_count d ≡ n
    count_back = word_back 4 e 0 n (omega (arith, table.long, l.room)) (omega (arith, l.within.rules))

    pub ruled : {m : List (ℕ × ℕ)} → rules_of d ≡ m → Bytes e → Ruled limits b m d
    ruled rules y =
        let first = table_ruled refl y in
        record {
          rules = rules;
          parts = parts_kept count limits (inr (omega arith)) (inr (omega arith)) first.runs ∙ first.parts;
          records = λ i u.
              record_kept count limits (inr (omega arith)) (inr (omega arith)) first.runs i (omega (arith, first.count))
              ∙ first.records i u;
          count = (counts_kept count limits (inr (omega arith)) (inr (omega arith)) first.runs).0 ∙ first.count;
          runs = runs_kept count limits (inr (omega arith)) (inr (omega arith)) first.runs (omega (arith, count_back));
          laid = laid_kept count first.laid;
          attributes = attributes_kept count (inr (omega arith)) ∙ first.attributes;
          entries = λ k. entries_kept count limits k (inr (omega arith)) ∙ first.entries k;
          bytes = bytes_put 4 e rule_count_at n y;
        }

module _ (limits : Limits) (b : List ℕ) (i : ℕ) (l : Laid limits b) (s : Runs limits b) (y : Bytes b) where
  abbrev n : ℕ
  n = rule_count b

  -- ---- a rule put in at place i

  module _ (r : Rule) (f : RuleFits r) (at : i ≤ n) (room : n < limits.rules) where
    abbrev gap : List ℕ
    gap = raised rule_at put_rule b i (n - i)

    abbrev filled : List ℕ
    filled = put_rule gap i r

    ends : i + (n - i) ≡ n
    ends = omega arith

    gap_only : Only (rule_spot (suc i)) (rule_spot (suc n)) b gap
    gap_only = rw ends at (raised_only rule_at put_rule rule_table b i (n - i))

    fill_only : Only (rule_spot i) (rule_spot (suc i)) gap filled
    fill_only = rule_table.reach gap i r

    put_table : Only rules_at (parts_at limits) b filled
    put_table = only_then (omega arith) (omega arith) (omega arith) (omega arith) gap_only fill_only

    counted : Only 0 4 filled (put 4 filled rule_count_at (n + 1))
    counted = only_put 4 filled rule_count_at (n + 1)

    after_count : (k : ℕ) → rule_at (put 4 filled rule_count_at (n + 1)) k ≡ rule_at filled k
    after_count k = rule_only counted (rule_spot k) (inr (omega arith))

    below : (k : ℕ) → k < i → rule_at filled k ≡ rule_at b k
    below k u =
        rule_table.apart fill_only k (inl (omega arith)) ∙ rule_table.apart gap_only k (inl (omega arith))

    here : rule_at filled i ≡ r
    here = rule_table.back gap i r f (omega (arith, gap_only.long, l.room))

    above : (k : ℕ) → i ≤ k → k < n → rule_at filled (suc k) ≡ rule_at b k
    above k u v =
        rule_table.apart fill_only (suc k) (inr (omega arith))
        ∙ raised_up rule_at put_rule rule_table b i (n - i) y (rw ends (omega (arith, l.room))) k u (omega arith)

    pub rule_put_in : Ruled limits b (inserted_at i (r.id, r.root) (rules_of b)) (insert_rule b i r)
    unfolding insert_rule rules_of
    rule_put_in =
        let whole = put 4 filled rule_count_at (n + 1) in
        let few : n + 1 ≤ limits.rules = omega arith in
        let rules : rules_of whole ≡ inserted_at i (r.id, r.root) (rules_of b)
        = ap (λ (m : ℕ). tabulate m (pair_at whole)) (count_back limits b filled l s put_table (n + 1) few ∙ add-one n)
        ∙ tabulate_insert n (pair_at b) (pair_at whole) i (r.id, r.root) at (λ k u. ap pair_of (after_count k ∙ below k u))
        (ap pair_of (after_count i ∙ here)) (λ k u v. ap pair_of (after_count (suc k) ∙ above k u v)) in
        ruled limits b filled l s put_table (n + 1) few rules
        (rule_table.bytes gap i r (raised_bytes rule_at put_rule rule_table b i (n - i) y))

  -- ---- the rule at place i taken away

  module _ (at : i < n) where
    abbrev closed : List ℕ
    closed = lowered rule_at put_rule b i (n - (i + 1))

    last : i + (n - (i + 1)) ≡ n - 1
    last = omega arith

    close_only : Only (rule_spot i) (rule_spot (n - 1)) b closed
    close_only = rw last at (lowered_only rule_at put_rule rule_table b i (n - (i + 1)))

    close_table : Only rules_at (parts_at limits) b closed
    close_table = only_wide (omega arith) (omega (arith, s.counted.rules)) close_only

    recounted : Only 0 4 closed (put 4 closed rule_count_at (n - 1))
    recounted = only_put 4 closed rule_count_at (n - 1)

    after_recount : (k : ℕ) → rule_at (put 4 closed rule_count_at (n - 1)) k ≡ rule_at closed k
    after_recount k = rule_only recounted (rule_spot k) (inr (omega arith))

    moved : (k : ℕ) → i ≤ k → k < n - 1 → rule_at closed k ≡ rule_at b (k + 1)
    moved k u v =
        lowered_down rule_at put_rule rule_table b i (n - (i + 1)) y (rw last (omega (arith, l.room, s.counted.rules))) k u (omega arith)
        ∙ ap (rule_at b) (sym (add-one k))

    pub rule_taken_out : Ruled limits b (removed_at i (rules_of b)) (remove_rule b i)
    unfolding remove_rule rules_of
    rule_taken_out =
        let whole = put 4 closed rule_count_at (n - 1) in
        let few : n - 1 ≤ limits.rules = omega (arith, s.counted.rules) in
        let rules : rules_of whole ≡ removed_at i (rules_of b)
        = ap (λ (m : ℕ). tabulate m (pair_at whole)) (count_back limits b closed l s close_table (n - 1) few)
        ∙ tabulate_remove n (pair_at b) (pair_at whole) i at
        (λ k u. ap pair_of (after_recount k ∙ rule_table.apart close_only k (inl (omega arith))))
        (λ k u v. ap pair_of (after_recount k ∙ moved k u v)) in
        ruled limits b closed l s close_table (n - 1) few rules (lowered_bytes rule_at put_rule rule_table b i (n - (i + 1)) y)

-- ---- roots renumbered

module _ (b news : List ℕ) where
  renumbered_only : (n : ℕ) → Only rules_at (rule_spot n) b (renumber_roots b news n)
  unfolding renumber_roots
  renumbered_only zero = only_refl rules_at (rule_spot 0) b
  renumbered_only (suc n) =
      only_then (omega arith) (omega arith) (omega arith) (omega arith) (renumbered_only n)
      (rule_table.reach (renumber_roots b news n) n (rerooted (rule_at b n) (get_or news (rule_at b n).root 0)))

  -- the next rule has not been written over
  pub rule_unread : (n : ℕ) {d : List ℕ} {r : Rule} → d ≡ renumber_roots b news n → r ≡ rule_at d n → r ≡ rule_at b n
  rule_unread n ed er = er ∙ ap (λ (x : List ℕ). rule_at x n) ed ∙ rule_table.apart (renumbered_only n) n (inr (omega arith))

  pub root_below : {n i : ℕ} {d : List ℕ} {r : Rule} → RootsBelow b n → d ≡ renumber_roots b news i → r ≡ rule_at d i
      → i < rule_count b → r.root < n
  root_below {n} {i} below ed er h = omega (arith, below i h, ap (λ (x : Rule). x.root) (rule_unread i ed er))

  -- one root more, as a loop renumbers it
  pub renumber_more : (n root : ℕ) {d e : List ℕ} {r : Rule} → d ≡ renumber_roots b news n → r ≡ rule_at d n
      → root ≡ get_or news r.root 0 → e ≡ put_rule d n (rerooted r root) → e ≡ renumber_roots b news (n + 1)
  unfolding renumber_roots
  renumber_more n root {d} {e} {r} ed er eroot ee =
      let same : r ≡ rule_at b n = rule_unread n ed er in
      let new : rerooted r root ≡ rerooted (rule_at b n) (get_or news (rule_at b n).root 0)
      = ap (rerooted r) eroot ∙ ap (λ (x : Rule). rerooted x (get_or news x.root 0)) same in
      ee ∙ ap (put_rule d n) new ∙ ap (λ (x : List ℕ). put_rule x n (rerooted (rule_at b n) (get_or news (rule_at b n).root 0))) ed
      ∙ ap (renumber_roots b news) (sym (add-one n))

  module _ (y : Bytes b) (f : (k : ℕ) → get_or news k 0 < 65536) where
    renumbered_bytes : (n : ℕ) → Bytes (renumber_roots b news n)
    unfolding renumber_roots
    renumbered_bytes zero = y
    renumbered_bytes (suc n) =
        rule_table.bytes (renumber_roots b news n) n (rerooted (rule_at b n) (get_or news (rule_at b n).root 0)) (renumbered_bytes n)

    renumbered : (n : ℕ) → rule_spot n ≤ length b → (i : ℕ) → i < n
        → rule_at (renumber_roots b news n) i ≡ rerooted (rule_at b i) (get_or news (rule_at b i).root 0)
    unfolding renumber_roots
    renumbered zero room i u = absurd (omega arith)
    renumbered (suc n) room i u =
        let x = rerooted (rule_at b n) (get_or news (rule_at b n).root 0) in
        elim (ℕ_discrete i n) [
          | yes e ↦ rw e
              (rule_table.back (renumber_roots b news n) n x
              ((rule_table.fits b n y).0, omega (arith, f (rule_at b n).root))
              (omega (arith, (renumbered_only n).long)))
          | no ne ↦
              rule_table.apart (rule_table.reach (renumber_roots b news n) n x) i (inl (omega (arith, ne)))
              ∙ renumbered n (omega arith) i (omega (arith, ne))
        ]

    pub roots_renumbered : (limits : Limits) → Laid limits b → Runs limits b
        → Ruled limits b (map (λ r. (r.0, get_or news r.1 0)) (rules_of b)) (renumber_roots b news (rule_count b))
    unfolding rules_of
    roots_renumbered limits l s =
        let n = rule_count b in
        let d = renumber_roots b news n in
        let table : Only rules_at (parts_at limits) b d = only_wide (omega arith) (omega (arith, s.counted.rules)) (renumbered_only n) in
        let room : rule_spot n ≤ length b = omega (arith, l.room, s.counted.rules) in
        let rules : rules_of d ≡ map (λ r. (r.0, get_or news r.1 0)) (rules_of b)
        = ap (λ (m : ℕ). tabulate m (pair_at d)) (word_only table 4 0 (inl (omega arith)))
        ∙ tabulate_ext n (pair_at d) (λ i. ((rule_at b i).id, get_or news (rule_at b i).root 0)) (λ i u. ap pair_of (renumbered n room i u))
        ∙ sym (map_tabulate (λ (r : ℕ × ℕ). (r.0, get_or news r.1 0)) n (pair_at b)) in
        table_ruled limits b d l s table rules (renumbered_bytes n)

-- ---- the place of an id, and a live id stands at its place

-- the place that a search by halving left is the id's
pub parted_place : {says : ℕ → Ordering → Type 0} (b : List ℕ) (id p : ℕ) → AscendingIds b
    → ((k : ℕ) → says k Less → (rule_at b k).id < id) → ((k : ℕ) → says k Greater → id ≤ (rule_at b k).id)
    → Parted says (rule_count b) p → RulePlace b id p
parted_place b id p up under over parted =
    record {
      most = parted.bound;
      before = λ i u.
          let last : p - 1 + 1 ≡ p = omega arith in
          let below : (rule_at b (p - 1)).id < id = under (p - 1) (parted.less (p - 1) last) in
          elim (ℕ_discrete i (p - 1)) [
            | yes e ↦ rw e below
            | no ne ↦ omega (arith, below, up i (p - 1) (omega (arith, ne)) (omega (arith, parted.bound)))
          ];
      after = λ i u l.
          let above : id ≤ (rule_at b p).id = over p (parted.greater (omega arith)) in
          elim (ℕ_discrete p i) [
            | yes e ↦ omega (arith, rw e at above)
            | no ne ↦ omega (arith, above, up p i (omega (arith, ne)) l)
          ];
    }

pub place_exact : (b : List ℕ) (id k : ℕ) → AscendingIds b → RulePlace b id k → (i : ℕ) → i < rule_count b → (rule_at b i).id ≡ id → i ≡ k
place_exact b id k up p i l e =
    elim (ℕ_discrete i k) [
      | yes q ↦ q
      | no ne ↦ elim (dec_lt i k) [
        | yes u ↦ absurd (omega (arith, p.before i u))
        | no v ↦ absurd (omega (arith, v, ne, up k i (omega (arith, v, ne)) l, p.after k (omega arith) (omega (arith, v, ne))))
      ]
    ]
