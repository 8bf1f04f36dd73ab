-- Laws of the parts that are kept, where the children of marked parts are marked.
--   kept_meanings   the kept parts mean what they meant
--   kept_number     and each by its new number
--   kept_sound      they are sound
-- Assumes nothing.
use Rattle.std.specs.Prelude.{◌≡◌, refl, Bool, List, [], map, ℕ, zero, ◌≤◌, ◌<◌, length}
use Rattle.std.proofs.Common.{ap, sym, ◌∙◌, subst, zero-add, arith}
use Rattle.std.proofs.lemmas.Simd.{map-map}
use Rattle.std.proofs.Math.Decide.{ℕ_discrete}
use Rattle.std.proofs.lemmas.List.{length-map}
use Rattle.std.proofs.Math.ListN.{get_or-map}
use Rattle.evaluation.specs.declared.Operator.TheVariants.{Or}
use Rattle.lists.specs.Places.{All, Distinct}
use Rattle.lists.proofs.PlacesLaws.{all_map, all_both, all_get_or, all_mapped, map_same, pairwise_get_or, get_or_pairwise}
use Rattle.lists.specs.Sort.{Sorted}
use Rattle.lists.specs.PairOrder.{by_cost}
use Rattle.lists.specs.Sift.{Marked, sift, rank}
use Rattle.lists.proofs.SiftLaws.{rank_lt, rank_onto, sift_rank, sift_length, sift_map, sift_all, sift_pairwise, sift_each}
use Rattle.predicates.specs.Predicate.{Predicate}
use Rattle.ast.specs.Trees.{Flat, node, trees}
use Rattle.ast.specs.Flattening.{Unlike}
use Rattle.ast.specs.Same.{Same}
use Rattle.ast.specs.Parts.{size}
use Rattle.ast.specs.Rules.{rule_cost}
use Rattle.model.specs.Parts.{Part, alone, over, children_of, part_at, nothing, flat_in, flat_of, meanings, flat_at, cost_at}
use Rattle.model.specs.Parts.{Below, Ordered}
use Rattle.model.proofs.PartsLaws.{meanings_fixed, meanings_unique, in_meanings, flat_at_part, part_below, part_ordered}
use Rattle.model.specs.Sound.{Two, UnlikeChildren, Canonical, SoundParts}
use Rattle.model.proofs.SoundLaws.{equal_same, meanings_distinct}
use Rattle.model.proofs.MovedLaws.{sorted_moved}
use Rattle.model.specs.Marks.{renumber, kept}

pub children_renumbered : (m : List Bool) (p : Part) → children_of (renumber m p) ≡ map (rank m) (children_of p)
children_renumbered m (alone p) = refl
children_renumbered m (over o cs) = refl

renumbered_means : (m : List Bool) (ds : List (Flat Predicate)) (p : Part)
    → All (λ c. flat_in ds c ≡ flat_in (sift m ds) (rank m c)) (children_of p)
    → flat_of ds p ≡ flat_of (sift m ds) (renumber m p)
renumbered_means m ds (alone p) h = refl
renumbered_means m ds (over o cs) h =
    ap (λ (l : List (Flat Predicate)). node o (trees l))
    (map_same (flat_in ds) (λ c. flat_in (sift m ds) (rank m c)) h ∙ sym (map-map (flat_in (sift m ds)) (rank m) cs))

renumbered_two : (m : List Bool) (p : Part) → Two p → Two (renumber m p)
renumbered_two m (alone p) h = tt
renumbered_two m (over o cs) h = omega (arith, length-map cs (rank m))

renumbered_unlike : (m : List Bool) (f g : ℕ → Flat Predicate) (p : Part) → All (λ c. f c ≡ g (rank m c)) (children_of p)
    → UnlikeChildren f p → UnlikeChildren g (renumber m p)
renumbered_unlike m f g (alone p) h u = tt
renumbered_unlike m f g (over o cs) h u = all_mapped (rank m) (all_map (λ c e. subst (Unlike o) e.0 e.1) (all_both h u))

module _ (ps : List Part) (m : List Bool) (o : Ordered zero ps)
    (closed : (i : ℕ) → i < length ps → Marked m i → All (Marked m) (children_of (part_at ps i))) where
  -- number i is marked, and in range
  abbrev Stays : ℕ → Type 0
  Stays i = Marked m i × (i < length ps)

  children_stay : (i : ℕ) → Stays i → All Stays (children_of (part_at ps i))
  children_stay i h = all_both (closed i h.1 h.0) (all_map (λ c l. omega (arith, h.1)) (part_below ps o i h.1))

  -- ---- by number

  pub kept_length : length (kept m ps) ≡ rank m (length ps)
  kept_length = length-map (sift m ps) (renumber m) ∙ sift_length m ps

  pub kept_part : (i : ℕ) → Stays i → part_at (kept m ps) (rank m i) ≡ renumber m (part_at ps i)
  kept_part i h =
      get_or-map (renumber m) (sift m ps) (rank m i) (over Or [])
      ∙ ap (renumber m) (sift_rank m ps i (over Or []) h.0 h.1)

  -- each number of a kept part is the new number of one that stays
  pub kept_onto : (q : ℕ) → q < length (kept m ps) → (i : ℕ) × Stays i × (rank m i ≡ q)
  kept_onto q h =
      let r = rank_onto m (length ps) q (subst (λ n. q < n) kept_length h) in
      (r.0, (r.2, r.1), r.3)

  -- a fact of what stays, by old number, is one of the kept parts, by new number
  each_kept : (P : ℕ → Type 0) → ((i : ℕ) → Stays i → P (rank m i)) → (q : ℕ) → q < length (kept m ps) → P q
  each_kept P f q h = let r = kept_onto q h in subst P r.2 (f r.0 r.1)

  kept_ordered : Ordered zero (kept m ps)
  kept_ordered =
      part_ordered zero (kept m ps)
      (λ q h. subst (λ n. Below n (part_at (kept m ps) q)) (sym (zero-add q)) (each_kept Right right q h))
    where
      Right : ℕ → Type 0
      Right q = Below q (part_at (kept m ps) q)

      right : (i : ℕ) → Stays i → Below (rank m i) (part_at (kept m ps) (rank m i))
      right i h =
          let below = all_map (λ c k. rank_lt m c i k.0 k.1) (all_both (closed i h.1 h.0) (part_below ps o i h.1)) in
          subst (λ p. Below (rank m i) p) (sym (kept_part i h))
          (subst (λ l. All (λ c. c < rank m i) l) (sym (children_renumbered m (part_at ps i))) (all_mapped (rank m) below))

  -- ---- what they mean

  stays_means : (i : ℕ) → Stays i → flat_at ps i ≡ flat_in (sift m (meanings ps)) (rank m i)
  stays_means i h = sym (sift_rank m (meanings ps) i nothing h.0 (in_meanings ps h.1))

  part_means : (i : ℕ) → Stays i → flat_of (meanings ps) (part_at ps i) ≡ flat_of (sift m (meanings ps)) (renumber m (part_at ps i))
  part_means i h = renumbered_means m (meanings ps) (part_at ps i) (all_map stays_means (children_stay i h))

  pub kept_meanings : meanings (kept m ps) ≡ sift m (meanings ps)
  kept_meanings =
      let ds = meanings ps in
      let each = sift_each m ps (over Or []) (λ i h k. part_means i (h, k)) in
      let e : sift m ds ≡ map (flat_of (sift m ds)) (kept m ps) =
      ap (sift m) (meanings_fixed ps o) ∙ sift_map (flat_of ds) m ps
      ∙ map_same (flat_of ds) (λ p. flat_of (sift m ds) (renumber m p)) each
      ∙ sym (map-map (flat_of (sift m ds)) (renumber m) (sift m ps)) in
      sym (meanings_unique (kept m ps) (sift m ds) kept_ordered e)

  pub kept_number : (i : ℕ) → Stays i → flat_at ps i ≡ flat_at (kept m ps) (rank m i)
  kept_number i h = stays_means i h ∙ sym (ap (λ (l : List (Flat Predicate)). flat_in l (rank m i)) kept_meanings)

  -- ---- the marks

  rank_keeps : (x y : ℕ) → Stays x → Stays y → x ≤ y → rank m x ≤ rank m y
  rank_keeps x y h k l =
      elim (ℕ_discrete x y) [
        | yes e ↦ omega (arith, ap (rank m) e)
        | no n ↦ omega (arith, rank_lt m x y h.0 (omega (arith, n)))
      ]

  kept_unlike : (i : ℕ) → Stays i → UnlikeChildren (flat_at ps) (part_at ps i)
      → UnlikeChildren (flat_at (kept m ps)) (renumber m (part_at ps i))
  kept_unlike i h u = renumbered_unlike m (flat_at ps) (flat_at (kept m ps)) (part_at ps i) (all_map kept_number (children_stay i h)) u

  kept_canonical : (i : ℕ) → Stays i → Canonical (cost_at ps) (part_at ps i) → Canonical (cost_at (kept m ps)) (renumber m (part_at ps i))
  kept_canonical i h c =
      let costs : (x : ℕ) → Stays x → cost_at ps x ≡ cost_at (kept m ps) (rank m x) = λ x k. ap rule_cost (kept_number x k) in
      subst (λ l. Sorted (by_cost (cost_at (kept m ps))) l) (sym (children_renumbered m (part_at ps i)))
      (sorted_moved (cost_at ps) (cost_at (kept m ps)) (rank m) rank_keeps costs (children_stay i h) c)

  kept_distinct : Distinct Same (meanings ps) → Distinct ◌≡◌ (kept m ps)
  kept_distinct d =
      let apart = subst (λ l. Distinct Same l) (sym kept_meanings) (sift_pairwise m d) in
      get_or_pairwise (kept m ps) (over Or [])
      (λ q r l k e.
      let by = flat_at_part (kept m ps) kept_ordered in
      let same = by q ∙ ap (flat_of (meanings (kept m ps))) e ∙ sym (by r) in
      pairwise_get_or apart q r nothing l (in_meanings (kept m ps) k) (equal_same same))

  pub kept_sound : {most : ℕ} → SoundParts most ps → SoundParts most (kept m ps)
  kept_sound {most} s =
      let each : (P : Part → Type 0) → ((i : ℕ) → Stays i → P (renumber m (part_at ps i))) → All P (kept m ps) =
      λ P f. all_mapped (renumber m) (sift_each m ps (over Or []) (λ i h k. f i (h, k))) in
      record {
        ordered = kept_ordered;
        two = each Two (λ i h. renumbered_two m (part_at ps i) (all_get_or s.two i (over Or []) h.1));
        unlike = each (UnlikeChildren (flat_at (kept m ps))) (λ i h. kept_unlike i h (all_get_or s.unlike i (over Or []) h.1));
        canonical = each (Canonical (cost_at (kept m ps))) (λ i h. kept_canonical i h (all_get_or s.canonical i (over Or []) h.1));
        distinct = kept_distinct (meanings_distinct s);
        small = subst (λ l. All (λ f. size f ≤ most) l) (sym kept_meanings) (sift_all m s.small);
      }
