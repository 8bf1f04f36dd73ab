-- Laws of reports: there is one only (`report_one`); a search of a book that stands for live rules gives it (`search_report`), and a search
-- of any sound book that of the rules read from it (`sound_report`). Assumes nothing.
use Rattle.std.specs.Prelude.{◌≡◌, List, ℕ}
use Rattle.std.proofs.Common.{ap, sym, ◌∙◌}
use Rattle.evaluation.specs.declared.Truth.{Truth}
use Rattle.evaluation.specs.declared.Truth.TheVariants.{True}
use Rattle.lists.specs.Places.{All, Any, at}
use Rattle.lists.proofs.PlacesLaws.{holds, all_map, all_at, all_self, any_map, any_mapped, any_unmapped}
use Rattle.lists.specs.Counting.{Cover}
use Rattle.lists.specs.OrderLaws.{number_strict}
use Rattle.lists.proofs.AscendingLaws.{ascending_equal}
use Rattle.predicates.specs.Predicate.{Predicate}
use Rattle.ast.specs.Trees.{Flat, flat_value}
use Rattle.ast.proofs.SameLaws.{same_value}
use Rattle.model.specs.Parts.{flat_at}
use Rattle.model.specs.Rules.{Rule, moved}
use Rattle.model.specs.Book.{Book, tree_of}
use Rattle.model.specs.Sound.{Sound}
use Rattle.model.specs.Search.{value_at, search}
use Rattle.model.proofs.SearchLaws.{reported_iff, reported_ascends}
use Rattle.histories.specs.Stands.{Stands}
use Rattle.histories.proofs.StandsLaws.{forth, back}
use Rattle.histories.specs.Report.{Report, rules_read}

module _ {S : Type 0} (truth : S → Truth) where
  module _ {live live' : List (Rule S)} {ids ids' : List ℕ} (r : Report truth live ids) (r' : Report truth live' ids') where
    -- where one history's live rules are among the other's, so is its report
    report_among : All (λ e. Any (λ e'. e ≡ e') live') live → Cover ◌≡◌ ids ids'
    report_among h = all_map (λ i a. (r'.exact i).1 (carry i ((r.exact i).0 a))) (all_self ids)
      where
        carry : (i : ℕ) → Any (λ e. (i ≡ e.id) × (truth e.root ≡ True)) live → Any (λ e. (i ≡ e.id) × (truth e.root ≡ True)) live'
        carry i a =
            let worth : Rule S → Truth = λ x. truth x.root in
            any_map (λ e q. ((holds a).0 ∙ ap (λ (x : Rule S). x.id) q, ap worth (sym q) ∙ (holds a).1)) (all_at h a)

  pub report_one : {live live' : List (Rule S)} {ids ids' : List ℕ} → Report truth live ids → Report truth live' ids'
      → All (λ e. Any (λ e'. e ≡ e') live') live → All (λ e. Any (λ e'. e ≡ e') live) live' → ids ≡ ids'
  report_one r r' h k = ascending_equal number_strict r.ascending r'.ascending (report_among r r' h) (report_among r' r k)

  -- sheets that are worth the same have the same report
  pub report_worth : (truth' : S → Truth) → ((s : S) → truth s ≡ truth' s) → {live : List (Rule S)} {ids : List ℕ}
      → Report truth live ids → Report truth' live ids
  report_worth truth' e r = record {
    ascending = r.ascending;
    exact = λ i. (
      λ a. any_map (λ x q. (q.0, sym (e x.root) ∙ q.1)) ((r.exact i).0 a),
      λ a. (r.exact i).1 (any_map (λ x q. (q.0, e x.root ∙ q.1)) a),
    );
  }

module _ {S : Type 0} (tree : S → Flat Predicate) (longest : ℕ) (b : Book) (live : List (Rule S)) (t : Stands tree longest b live)
    (v : Predicate → Truth) where
  pub search_report : Report (λ s. flat_value v (tree s)) live (search v b)
  search_report = record {
    ascending = reported_ascends (value_at v b.parts) t.sound.ascending;
    exact = λ i. (
      λ a. out i ((reported_iff (value_at v b.parts) i b.rules).0 a),
      λ a. (reported_iff (value_at v b.parts) i b.rules).1 (into i a),
    );
  }
    where
      out : (i : ℕ) → Any (λ r. (i ≡ r.id) × (value_at v b.parts r.root ≡ True)) b.rules
          → Any (λ e. (i ≡ e.id) × (flat_value v (tree e.root) ≡ True)) live
      out i a =
          any_map (λ e q. ((holds a).0 ∙ q.0, sym (same_value v (tree_of b.parts (at a)) (tree e.root) q.1) ∙ (holds a).1))
          (all_at (forth tree longest b live t) a)

      into : (i : ℕ) → Any (λ e. (i ≡ e.id) × (flat_value v (tree e.root) ≡ True)) live
          → Any (λ r. (i ≡ r.id) × (value_at v b.parts r.root ≡ True)) b.rules
      into i a =
          any_map (λ r q. ((holds a).0 ∙ q.0, sym (same_value v (tree (at a).root) (tree_of b.parts r) q.1) ∙ (holds a).1))
          (all_at (back tree longest b live t) a)

pub sound_report : {most : ℕ} (b : Book) → Sound most b → (v : Predicate → Truth) → Report (flat_value v) (rules_read b) (search v b)
sound_report b s v =
    let value = value_at v b.parts in
    let read : Rule ℕ → Rule (Flat Predicate) = moved (flat_at b.parts) in
    record {
      ascending = reported_ascends value s.ascending;
      exact = λ i. (
        λ a. any_mapped read ((reported_iff value i b.rules).0 a),
        λ a. (reported_iff value i b.rules).1 (any_unmapped read (λ r. (i ≡ r.id) × (flat_value v r.root ≡ True)) b.rules a),
      );
    }
