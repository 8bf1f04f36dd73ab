-- ONE PART MORE, of either kind: its run is written at the end of its table, then its record, then the counts. The parts are the old ones
-- and the new one, the marks hold again, and every other table reads as it did.
--     placed_fits                        a record with its run
--     New                                what must be known of the run and the record
--     appended                           what follows
--     record_new, place_run, element_run     what the last part's record and runs are read as
-- Assumes nothing.
use mathlib.Core.Path.{◌≡◌, refl, sym, ap, ◌∙◌}
use mathlib.Core.Bool.{Bool, true, false}
use mathlib.Core.List.{List}
use mathlib.Core.Logic.{inl, inr}
use Prim.Native.Nat.{ℕ, suc, ◌+◌, ◌*◌, ◌≤◌, ◌<◌}
use native.Mathlib.Numerals.{add-one}
use native.Mathlib.Decide.{ℕ_discrete}
use native.Mathlib.Omega.{arith}
use lib.ListN.{length}
use Rattle.lists.specs.Tabulate.{tabulate}
use Rattle.lists.proofs.TabulateLaws.{tabulate_more}
use Rattle.words.specs.Word.{put}
use Rattle.words.specs.Frame.{Only}
use Rattle.words.proofs.WordLaws.{word_back}
use Rattle.words.proofs.FrameLaws.{only_then, only_put, word_only, word_after}
use Rattle.words.proofs.SignLaws.{signed_only}
use Rattle.store.specs.declared.Limits.{Limits}
use Rattle.store.specs.declared.Record.{Record}
use Rattle.store.specs.Layout.{parts_at, places_at, elements_at, order_at, Laid, part_count_at, place_count_at, element_count_at}
use Rattle.model.specs.Parts.{Part}
use Rattle.store.specs.Records.{part_count, place_count, element_count, record_at, put_record, place_at, element_at, RecordFits}
use Rattle.store.specs.Tables.{is_join, part_at, parts_of}
use Rattle.store.specs.Runs.{places_in, elements_in, places_before, elements_before, ChildrenBelow, Blank, JoinAt, Runs}
use Rattle.store.proofs.RecordLaws.{record_only, only_put_record, record_back}
use Rattle.store.proofs.RunsLaws.{part_same, sum_ext, join_same, join_end, predicate_end}
use Rattle.store.proofs.RunsLaws.{places_join, places_predicate, elements_join, elements_predicate}
use Rattle.store.proofs.KeptLaws.{laid_kept, attributes_kept, rules_kept, entries_kept}
use Rattle.changes.specs.Changes.{placed, closed}
use Rattle.changes.specs.Effects.{Appended}

-- a record with its run fits as it did
pub placed_fits : {r : Record} {n at : ℕ} → RecordFits r → n ≤ 65535 → at ≤ 65535 → RecordFits (placed r n at)
placed_fits f h k =
    record {
      kind = f.kind;
      attribute = f.attribute;
      tag = f.tag;
      scale = f.scale;
      level = f.level;
      size = f.size;
      length = omega arith;
      start = omega arith;
      cost = f.cost;
      number = f.number;
    }

module _ (limits : Limits) (b : List ℕ) (l : Laid limits b) (s : Runs limits b) (room : part_count b < limits.parts) where
  abbrev n : ℕ
  n = part_count b

  -- d is b with the new part's run written, w is its record, p and e are the places and elements then in use
  pub record New (d : List ℕ) (p e : ℕ) (w : Record) : Type 0 where
    pub only : Only (places_at limits) (order_at limits) b d
    pub places_low : (k : ℕ) → k < place_count b → place_at limits d k ≡ place_at limits b k
    pub elements_low : (k : ℕ) → k < element_count b → element_at limits d k ≡ element_at limits b k
    pub fits : RecordFits w
    pub places_most : p ≤ limits.places
    pub elements_most : e ≤ limits.elements
    pub join : is_join w ≡ true → (w.start ≡ place_count b) × (p ≡ place_count b + w.length) × (e ≡ element_count b)
    pub predicate : is_join w ≡ false → (w.start ≡ element_count b) × (p ≡ place_count b) × (e ≡ element_count b + w.length)
    pub children : is_join w ≡ true → ChildrenBelow limits d (place_count b) w.length n
    pub blank : is_join w ≡ true → Blank w

  module _ (run : List ℕ) (p e : ℕ) (w : Record) (new : New run p e w) where
    abbrev at : ℕ
    at = parts_at limits + 24 * n

    abbrev recorded : List ℕ
    recorded = put_record limits run n w

    abbrev counted : List ℕ
    counted = put 4 recorded part_count_at (n + 1)

    abbrev places_counted : List ℕ
    places_counted = put 4 counted place_count_at p

    abbrev d : List ℕ
    d = closed limits run n w p e

    -- what each write reaches
    by_record : Only at (at + 24) run recorded
    by_record = only_put_record run at w

    by_elements : Only 12 16 places_counted d
    by_elements = only_put 4 places_counted element_count_at e

    by_places : Only 8 16 counted d
    by_places =
        only_then (omega arith) (omega arith) (omega arith) (omega arith) (only_put 4 counted place_count_at p) by_elements

    by_counts : Only 4 16 recorded d
    by_counts =
        only_then (omega arith) (omega arith) (omega arith) (omega arith) (only_put 4 recorded part_count_at (n + 1)) by_places

    -- all of it lies between the counts and the order table, but for the counts themselves
    by_tables : Only (parts_at limits) (order_at limits) b recorded
    by_tables = only_then (omega arith) (omega arith) (omega arith) (omega arith) new.only by_record

    long : 4 + 4 ≤ length recorded
    long = omega (arith, by_tables.long, l.room)

    counted_long : 12 + 4 ≤ length counted
    counted_long = omega (arith, by_tables.long, l.room, (only_put 4 recorded part_count_at (n + 1)).long)

    part_count_lem : part_count d ≡ n + 1
    part_count_lem = word_after 4 recorded 4 (n + 1) by_places (inl (omega arith)) long (omega (arith, l.within.parts))

    place_count_lem : place_count d ≡ p
    place_count_lem =
        word_after 4 counted 8 p by_elements (inl (omega arith)) (omega (arith, counted_long))
        (omega (arith, new.places_most, l.within.places))

    element_count_lem : element_count d ≡ e
    element_count_lem =
        word_back 4 places_counted 12 e
        (omega (arith, counted_long, (only_put 4 counted place_count_at p).long))
        (omega (arith, new.elements_most, l.within.elements))

    pub record_new : record_at limits d n ≡ w
    record_new =
        record_only by_counts at (inr (omega arith)) ∙ record_back run at w new.fits (omega (arith, new.only.long, l.room))

    record_old : (q : ℕ) → q < n → record_at limits d q ≡ record_at limits b q
    record_old q u =
        record_only by_counts (parts_at limits + 24 * q) (inr (omega arith))
        ∙ record_only by_record (parts_at limits + 24 * q) (inl (omega arith))
        ∙ record_only new.only (parts_at limits + 24 * q) (inl (omega arith))

    pub place_run : (k : ℕ) → place_at limits d k ≡ place_at limits run k
    place_run k =
        word_only by_counts 2 (places_at limits + 2 * k) (inr (omega arith))
        ∙ word_only by_record 2 (places_at limits + 2 * k) (inr (omega arith))

    pub element_run : (k : ℕ) → element_at limits d k ≡ element_at limits run k
    element_run k =
        signed_only by_counts (elements_at limits + 8 * k) (inr (omega arith))
        ∙ signed_only by_record (elements_at limits + 8 * k) (inr (omega arith))

    part_old : (q : ℕ) → q < n → part_at limits d q ≡ part_at limits b q
    part_old q u =
        part_same limits b q d q (record_old q u)
        (λ h k v.
        place_run ((record_at limits b q).start + k)
        ∙ new.places_low ((record_at limits b q).start + k) (omega (arith, join_end limits b q s u h)))
        (λ h k v.
        element_run ((record_at limits b q).start + k)
        ∙ new.elements_low ((record_at limits b q).start + k) (omega (arith, predicate_end limits b q s u h)))

    places_sum : (q : ℕ) → q ≤ n → places_before limits d q ≡ places_before limits b q
    places_sum q u = sum_ext places_in limits b d q (λ i v. record_old i (omega arith))

    elements_sum : (q : ℕ) → q ≤ n → elements_before limits d q ≡ elements_before limits b q
    elements_sum q u = sum_ext elements_in limits b d q (λ i v. record_old i (omega arith))

    sums : (t : Bool) → is_join w ≡ t → (places_before limits d (suc n) ≡ p) × (elements_before limits d (suc n) ≡ e)
    sums t h =
        let g : is_join (record_at limits d n) ≡ t = ap is_join record_new ∙ h in
        let k = ap (λ (r : Record). r.length) record_new in
        let x = places_sum n (omega arith) ∙ s.places in
        let y = elements_sum n (omega arith) ∙ s.elements in
        go t h g k x y
      where
        go : (t : Bool) → is_join w ≡ t → is_join (record_at limits d n) ≡ t → (record_at limits d n).length ≡ w.length
            → places_before limits d n ≡ place_count b → elements_before limits d n ≡ element_count b
            → (places_before limits d (suc n) ≡ p) × (elements_before limits d (suc n) ≡ e)
        go true h g k x y =
            (omega (arith, places_join limits d n g, (new.join h).1), omega (arith, elements_join limits d n g, (new.join h).2))
        go false h g k x y = (
          omega (arith, places_predicate limits d n g, (new.predicate h).1),
          omega (arith, elements_predicate limits d n g, (new.predicate h).2),
        )

    -- what holds of each old part and of the new one holds of all
    each : {Q : ℕ → Type 0} → ((q : ℕ) → q < n → Q q) → Q n → (q : ℕ) → q < part_count d → Q q
    each old last q u = elim (ℕ_discrete q n) [ yes x ↦ rw x last | no ne ↦ old q (omega (arith, ne, part_count_lem)) ]

    join_new : is_join (record_at limits d n) ≡ true → JoinAt limits d n
    join_new h =
        let g : is_join w ≡ true = sym (ap is_join record_new) ∙ h in
        let x : places_before limits d n ≡ place_count b = places_sum n (omega arith) ∙ s.places in
        record {
          start = ap (λ (r : Record). r.start) record_new ∙ (new.join g).0 ∙ sym x;
          children = λ k u.
              rw x
              (omega (
                arith,
                place_run (place_count b + k),
                new.children g k (omega (arith, ap (λ (r : Record). r.length) record_new)),
              ));
          blank = rw record_new (new.blank g);
        }

    runs : Runs limits d
    runs =
        record {
          counted =
              record {
                rules =
                    omega (
                      arith,
                      s.counted.rules,
                      word_only by_counts 4 0 (inl (omega arith)),
                      word_only by_tables 4 0 (inl (omega arith)),
                    );
                parts = omega (arith, part_count_lem);
                places = omega (arith, place_count_lem, new.places_most);
                elements = omega (arith, element_count_lem, new.elements_most);
              };
          places = ap (places_before limits d) (part_count_lem ∙ add-one n) ∙ (sums (is_join w) refl).0 ∙ sym place_count_lem;
          elements = ap (elements_before limits d) (part_count_lem ∙ add-one n) ∙ (sums (is_join w) refl).1 ∙ sym element_count_lem;
          joins =
              each {Q = λ q. is_join (record_at limits d q) ≡ true → JoinAt limits d q}
              (λ q u h.
              let g : is_join (record_at limits b q) ≡ true = sym (ap is_join (record_old q u)) ∙ h in
              let j = s.joins q u g in
              join_same limits b q d (record_old q u) (places_sum q (omega arith))
              (λ k v.
              place_run (places_before limits b q + k)
              ∙ new.places_low (places_before limits b q + k) (omega (arith, join_end limits b q s u g, j.start))) j)
              join_new;
          predicates =
              each {Q = λ q. is_join (record_at limits d q) ≡ false → (record_at limits d q).start ≡ elements_before limits d q}
              (λ q u h.
              ap (λ (r : Record). r.start) (record_old q u)
              ∙ s.predicates q u (sym (ap is_join (record_old q u)) ∙ h)
              ∙ sym (elements_sum q (omega arith)))
              (λ h.
              ap (λ (r : Record). r.start) record_new
              ∙ (new.predicate (sym (ap is_join record_new) ∙ h)).0
              ∙ sym s.elements
              ∙ sym (elements_sum n (omega arith)));
        }

    pub appended : (x : Part) → part_at limits d n ≡ x → Appended limits b w x d
    unfolding parts_of
    appended x last =
        record {
          parts =
              ap (λ (k : ℕ). tabulate k (part_at limits d)) (part_count_lem ∙ add-one n)
              ∙ tabulate_more n (part_at limits b) (part_at limits d) x last part_old;
          old = record_old;
          new = record_new;
          count = part_count_lem;
          runs = runs;
          laid = laid_kept by_counts (laid_kept by_tables l);
          rules =
              rules_kept by_counts (inl (omega arith)) (inr (omega arith))
              ∙ rules_kept by_tables (inl (omega arith)) (inl (omega (arith, s.counted.rules)));
          attributes = attributes_kept by_counts (inr (omega arith)) ∙ attributes_kept by_tables (inl (omega arith));
          entries = λ m.
              entries_kept by_counts limits m (inr (omega arith)) ∙ entries_kept by_tables limits m (inr (omega arith));
        }
