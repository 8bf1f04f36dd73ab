-- Marks of a part whose children get other numbers, or whose children's numbers mean the same elsewhere. Numbers are moved in order, as a
-- delete does, or stay, as in an insert. Assumes nothing.
use Rattle.std.specs.Prelude.{◌≡◌, true, ◌⊎◌, List, map, ℕ, ◌≤◌, ◌<◌}
use Rattle.std.proofs.Common.{sym, ◌∙◌, subst, inl, inr, map-id, arith, le-leb}
use Rattle.lists.specs.Places.{All}
use Rattle.lists.proofs.PlacesLaws.{all_map, all_both, pairwise_mapped}
use Rattle.lists.specs.Sort.{Sorted}
use Rattle.lists.specs.PairOrder.{by_cost}
use Rattle.lists.proofs.PairOrderLaws.{pair_less, pair_same, pair_true}
use Rattle.predicates.specs.Predicate.{Predicate}
use Rattle.ast.specs.Trees.{Flat}
use Rattle.ast.specs.Flattening.{Unlike}
use Rattle.model.specs.Parts.{Part, alone, over, children_of}
use Rattle.model.specs.Sound.{UnlikeChildren, Canonical}

-- numbers in canonical order stay so where they are moved in order and cost what they cost
module _ (cost cost' move : ℕ → ℕ) {P : ℕ → Type 0} (keeps : (x y : ℕ) → P x → P y → x ≤ y → move x ≤ move y)
    (costs : (x : ℕ) → P x → cost x ≡ cost' (move x)) where
  moved_before : (x y : ℕ) → P x → P y → by_cost cost x y ≡ true → by_cost cost' (move x) (move y) ≡ true
  moved_before x y p q h = go (pair_true (cost x, x) (cost y, y) h)
    where
      go : (cost x < cost y) ⊎ ((cost x ≡ cost y) × (x ≤ y)) → by_cost cost' (move x) (move y) ≡ true
      go (inl l) = pair_less (cost' (move x), move x) (cost' (move y), move y) (omega (arith, costs x p, costs y q))
      go (inr e) =
          pair_same (cost' (move x), move x) (cost' (move y), move y) (sym (costs x p) ∙ e.0 ∙ costs y q)
          ∙ le-leb (move x) (move y) (keeps x y p q e.1)

  pub sorted_moved : {cs : List ℕ} → All P cs → Sorted (by_cost cost) cs → Sorted (by_cost cost') (map move cs)
  sorted_moved h s = pairwise_mapped move moved_before h s

-- a part's marks go by what its children mean and cost
pub unlike_agree : (f g : ℕ → Flat Predicate) (p : Part) → All (λ c. f c ≡ g c) (children_of p) → UnlikeChildren f p → UnlikeChildren g p
unlike_agree f g (alone p) h u = tt
unlike_agree f g (over o cs) h u = all_map (λ c e. subst (Unlike o) e.0 e.1) (all_both h u)

pub canonical_agree : (f g : ℕ → ℕ) (p : Part) → All (λ c. f c ≡ g c) (children_of p) → Canonical f p → Canonical g p
canonical_agree f g p h c =
    subst (λ l. Sorted (by_cost g) l) (map-id (children_of p)) (sorted_moved f g (λ x. x) (λ x y e k l. l) (λ x e. e) h c)
