-- What a write leaves: each table that it does not reach reads as it did.
--     laid_kept, counts_kept             the room, and the counts
--     attributes_kept, rules_kept, entries_kept, parts_kept    the tables
--     runs_kept                          the marks
-- Assumes nothing.
use mathlib.Core.Path.{◌≡◌, sym, ap, ◌∙◌}
use mathlib.Core.Bool.{true}
use mathlib.Core.List.{List}
use mathlib.Core.Logic.{◌⊎◌, inl, inr, ⊎_elim}
use Prim.Native.Nat.{ℕ, ◌+◌, ◌*◌, ◌≤◌, ◌<◌}
use native.Mathlib.Omega.{arith}
use Rattle.attributes.specs.Table.{table_size}
use Rattle.lists.proofs.TabulateLaws.{tabulate_ext}
use Rattle.words.specs.Frame.{Only, Outside}
use Rattle.words.proofs.FrameLaws.{word_only, part_only}
use Rattle.words.proofs.SignLaws.{signed_only}
use Rattle.store.specs.declared.Limits.{Limits}
use Rattle.store.specs.declared.Record.{Record}
use Rattle.store.specs.declared.Rule.{Rule}
use Rattle.store.specs.Layout.{attributes_at, rules_at, parts_at, places_at, elements_at, order_at, Laid, attributes_of}
use Rattle.store.specs.Layout.{rule_count_at, part_count_at}
use Rattle.store.specs.Records.{rule_count, part_count, place_count, element_count, record_at, place_at, entry_at}
use Rattle.store.specs.Tables.{is_join, part_at, parts_of, pair_at, rules_of, entries_of}
use Rattle.store.specs.Runs.{places_in, elements_in, places_before, elements_before, Runs}
use Rattle.store.proofs.RecordLaws.{record_only, rule_only}
use Rattle.store.proofs.RunsLaws.{part_same, sum_ext, join_same, join_end, predicate_end}

module _ {lo hi : ℕ} {b d : List ℕ} (p : Only lo hi b d) where
  pub laid_kept : {limits : Limits} → Laid limits b → Laid limits d
  laid_kept l = record { within = l.within; room = omega (arith, l.room, p.long) }

  pub attributes_kept : Outside lo hi attributes_at table_size → attributes_of d ≡ attributes_of b
  attributes_kept o = part_only p attributes_at table_size o

  pub rules_kept : Outside lo hi rule_count_at 4 → Outside lo hi rules_at (8 * rule_count b) → rules_of d ≡ rules_of b
  unfolding rules_of
  rules_kept c t =
      rw (word_only p 4 rule_count_at c)
      (tabulate_ext (rule_count b) (pair_at d) (pair_at b)
      (λ i l.
      ap (λ (r : Rule). (r.id, r.root))
      (rule_only p (rules_at + 8 * i) (⊎_elim (λ u. inl (omega arith)) (λ v. inr (omega arith)) t))))

  module _ (limits : Limits) where
    pub entries_kept : (n : ℕ) → Outside lo hi (order_at limits) (2 * n) → entries_of limits d n ≡ entries_of limits b n
    unfolding entries_of
    entries_kept n t =
        tabulate_ext n (entry_at limits d) (entry_at limits b)
        (λ i l. word_only p 2 (order_at limits + 2 * i) (⊎_elim (λ u. inl (omega arith)) (λ v. inr (omega arith)) t))

    -- the counts of parts, places and elements, and the three tables
    module _ (c : Outside lo hi part_count_at 12) (t : (order_at limits ≤ lo) ⊎ (hi ≤ parts_at limits)) (s : Runs limits b) where
      part_count_lem : part_count d ≡ part_count b
      part_count_lem = word_only p 4 4 (⊎_elim (λ u. inl (omega arith)) (λ v. inr (omega arith)) c)

      place_count_lem : place_count d ≡ place_count b
      place_count_lem = word_only p 4 8 (⊎_elim (λ u. inl (omega arith)) (λ v. inr (omega arith)) c)

      element_count_lem : element_count d ≡ element_count b
      element_count_lem = word_only p 4 12 (⊎_elim (λ u. inl (omega arith)) (λ v. inr (omega arith)) c)

      pub counts_kept : (part_count d ≡ part_count b) × (place_count d ≡ place_count b) × (element_count d ≡ element_count b)
      counts_kept = (part_count_lem, place_count_lem, element_count_lem)

      pub record_kept : (i : ℕ) → i < part_count b → record_at limits d i ≡ record_at limits b i
      record_kept i l =
          record_only p (parts_at limits + 24 * i)
          (⊎_elim (λ u. inl (omega (arith, s.counted.parts))) (λ v. inr (omega arith)) t)

      place_kept : (k : ℕ) → k < place_count b → place_at limits d k ≡ place_at limits b k
      place_kept k l =
          word_only p 2 (places_at limits + 2 * k)
          (⊎_elim (λ u. inl (omega (arith, s.counted.places))) (λ v. inr (omega arith)) t)

      pub part_kept : (i : ℕ) → i < part_count b → part_at limits d i ≡ part_at limits b i
      part_kept i l =
          part_same limits b i d i (record_kept i l)
          (λ h k u. place_kept ((record_at limits b i).start + k) (omega (arith, join_end limits b i s l h)))
          (λ h k u.
          signed_only p (elements_at limits + 8 * ((record_at limits b i).start + k))
          (⊎_elim
          (λ v. inl (omega (arith, predicate_end limits b i s l h, s.counted.elements)))
          (λ v. inr (omega arith)) t))

      pub parts_kept : parts_of limits d ≡ parts_of limits b
      unfolding parts_of
      parts_kept = rw part_count_lem (tabulate_ext (part_count b) (part_at limits d) (part_at limits b) part_kept)

      places_sum : (i : ℕ) → i ≤ part_count b → places_before limits d i ≡ places_before limits b i
      places_sum i l = sum_ext places_in limits b d i (λ q u. record_kept q (omega arith))

      elements_sum : (i : ℕ) → i ≤ part_count b → elements_before limits d i ≡ elements_before limits b i
      elements_sum i l = sum_ext elements_in limits b d i (λ q u. record_kept q (omega arith))

      pub runs_kept : rule_count d ≤ limits.rules → Runs limits d
      runs_kept few =
          record {
            counted =
                record {
                  rules = few;
                  parts = omega (arith, part_count_lem, s.counted.parts);
                  places = omega (arith, place_count_lem, s.counted.places);
                  elements = omega (arith, element_count_lem, s.counted.elements);
                };
            places = ap (places_before limits d) part_count_lem ∙ places_sum (part_count b) (omega arith) ∙ s.places ∙ sym place_count_lem;
            elements =
                ap (elements_before limits d) part_count_lem ∙ elements_sum (part_count b) (omega arith) ∙ s.elements
                ∙ sym element_count_lem;
            joins = λ i l h.
                let u : i < part_count b = omega (arith, part_count_lem) in
                let g : is_join (record_at limits b i) ≡ true = sym (ap is_join (record_kept i u)) ∙ h in
                let j = s.joins i u g in
                join_same limits b i d (record_kept i u) (places_sum i (omega arith))
                (λ k v. place_kept (places_before limits b i + k) (omega (arith, join_end limits b i s u g, j.start))) j;
            predicates = λ i l h.
                let u : i < part_count b = omega (arith, part_count_lem) in
                let e = record_kept i u in
                ap (λ (x : Record). x.start) e ∙ s.predicates i u (sym (ap is_join e) ∙ h) ∙ sym (elements_sum i (omega arith));
          }
