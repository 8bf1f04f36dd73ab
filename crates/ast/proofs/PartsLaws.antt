-- Laws of parts: level, cost and size are kept by `Same`, a node has them by its children, and the same rules have the same subexpressions.
-- Assumes nothing.
use Rattle.std.specs.Prelude.{◌≡◌, ℕ, ◌+◌, ◌-◌, ◌*◌, max}
use Rattle.std.proofs.Math.Path.{refl, ap}
use Rattle.std.proofs.Common.{ap₂, sym, subst₂, arith}
use mathlib.Core.List.{List, [], ◌∷◌, ◌++◌, map, flat_map}
use Rattle.evaluation.specs.declared.Operator.{Operator}
use Rattle.lists.specs.Places.{All, none, both, Any, here, there, at, rest}
use Rattle.lists.proofs.PlacesLaws.{holds, no_any, all_of, all_append, all_map, all_both, any_left, any_right, any_at}
use Rattle.lists.specs.Bag.{Bag, bnil, bcons}
use Rattle.lists.proofs.BagLaws.{bag_cover, bag_length, bag_sum}
use Rattle.lists.specs.Counting.{Cover}
use Rattle.lists.proofs.CountingLaws.{cover_right}
use Rattle.ast.specs.Trees.{Flat, leaf, node, Flats, done, more, kids}
use Rattle.ast.specs.TreesLaws.{flat_ind, fold_node}
use Rattle.ast.specs.Same.{Same}
use Rattle.ast.proofs.SameLaws.{same_node, fold_same}
use Rattle.ast.specs.Parts.{subexpressions, subexpressions_under, subexpressions_of, greatest, total}
use Rattle.ast.specs.Parts.{level_over, level, join_cost, cost_over, cost, size_over, size}

-- ---- level, cost and size

greatest_rest : {P : ℕ → Type 0} {l : List ℕ} (a : Any P l) → greatest l ≡ max (at a) (greatest (rest a))
greatest_rest (here p) = refl
greatest_rest (there a) = omega (arith, greatest_rest a)

greatest_bag : (l m : List ℕ) → Bag ◌≡◌ l m → greatest l ≡ greatest m
greatest_bag l m bnil = refl
greatest_bag l m (bcons {xs = xs} a t) = omega (arith, greatest_bag xs (rest a) t, holds a, greatest_rest a)

total_bag : (l m : List ℕ) → Bag ◌≡◌ l m → total l ≡ total m
total_bag l m b = bag_sum (λ n. n) (λ n. n) (λ x y e. e) b

module _ {Q : Type 0} where
  pub level_same : (f g : Flat Q) → Same f g → level f ≡ level g
  level_same = fold_same _ _ (λ o l m b. ap (λ (n : ℕ). 1 + n) (greatest_bag l m b))

  pub cost_same : (own_cost : Q → ℕ) (f g : Flat Q) → Same f g → cost own_cost f ≡ cost own_cost g
  cost_same own_cost = fold_same _ _ (λ o l m b. ap₂ (λ (s k : ℕ). s + join_cost o * (k - 1)) (total_bag l m b) (bag_length b))

  pub size_same : (f g : Flat Q) → Same f g → size f ≡ size g
  size_same = fold_same _ _ (λ o l m b. ap₂ (λ (s k : ℕ). s + (k - 1)) (total_bag l m b) (bag_length b))

  -- a node's, by its list of children
  pub level_node : (o : Operator) (fs : Flats Q) → level (node o fs) ≡ level_over o (map level (kids fs))
  level_node = fold_node (λ q. 1) level_over

  pub cost_node : (own_cost : Q → ℕ) (o : Operator) (fs : Flats Q) → cost own_cost (node o fs) ≡ cost_over o (map (cost own_cost) (kids fs))
  cost_node own_cost = fold_node own_cost cost_over

  pub size_node : (o : Operator) (fs : Flats Q) → size (node o fs) ≡ size_over o (map size (kids fs))
  size_node = fold_node (λ q. 1) size_over

-- ---- the subexpressions of the same rules

module _ {A B : Type 0} (g : A → List B) {P : B → Type 0} where
  pub all_flat_map : {l : List A} → All (λ x. All P (g x)) l → All P (flat_map g l)
  unfolding flat_map
  all_flat_map none = none
  all_flat_map (both h k) = all_append h (all_flat_map k)

  pub any_flat_map : (l : List A) → Any (λ x. Any P (g x)) l → Any P (flat_map g l)
  unfolding flat_map
  any_flat_map [] a = absurd (no_any a)
  any_flat_map (x ∷ l) (here a) = any_left (flat_map g l) a
  any_flat_map (x ∷ l) (there a) = any_right (g x) (any_flat_map l a)

module _ {Q : Type 0} where
  pub under_kids : (fs : Flats Q) → subexpressions_under fs ≡ subexpressions_of (kids fs)
  unfolding flat_map
  under_kids done = refl
  under_kids (more f fs) = ap (λ (l : List (Flat Q)). subexpressions f ++ l) (under_kids fs)

  -- each subexpression of f is one of g
  abbrev Covered : Flat Q → Flat Q → Type 0
  Covered f g = Cover Same (subexpressions f) (subexpressions g)

  covered_all : {l m : List (Flat Q)} → All (λ f. (g : Flat Q) → Same f g → Covered f g) l → Cover Same l m
      → Cover Same (subexpressions_of l) (subexpressions_of m)
  covered_all {m = m} h k = all_flat_map subexpressions (all_map (λ f p. one f p.0 p.1) (all_both h k))
    where
      one : (f : Flat Q) → ((g : Flat Q) → Same f g → Covered f g) → Any (Same f) m → Cover Same (subexpressions f) (subexpressions_of m)
      one f c a =
          all_map (λ s b. any_flat_map subexpressions m (any_at {Q = λ g. Any (Same s) (subexpressions g)} a b)) (c (at a) (holds a))

  pub same_covered : (f g : Flat Q) → Same f g → Covered f g
  unfolding Same
  same_covered = flat_ind (λ f. (g : Flat Q) → Same f g → Covered f g) at_leaf at_node
    where
      at_leaf : (p : Q) (g : Flat Q) → Same (leaf p) g → Covered (leaf p) g
      at_leaf p (leaf q) s = both (here s) none
      at_leaf p (node o gs) s = absurd s

      at_node : (o : Operator) (fs : Flats Q) → All (λ f. (g : Flat Q) → Same f g → Covered f g) (kids fs)
          → (g : Flat Q) → Same (node o fs) g → Covered (node o fs) g
      at_node o fs h (leaf q) s = absurd s
      at_node o fs h (node o' gs) s =
          let c = covered_all h (bag_cover ((same_node o o' fs gs).0 s).1) in
          both (here s) (cover_right (node o' gs ∷ []) (subst₂ (λ l m. Cover Same l m) (sym (under_kids fs)) (sym (under_kids gs)) c))

  -- the subexpressions of rules among others are among those of the others
  pub rules_covered : {rules rules' : List (Flat Q)} → Cover Same rules rules'
      → Cover Same (subexpressions_of rules) (subexpressions_of rules')
  rules_covered {rules} h = covered_all (all_of same_covered rules) h
