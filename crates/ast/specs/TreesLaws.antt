-- Laws of flattened rules as data: induction, children as a list, and what a fold gives of a node. Assumes nothing.
use Rattle.std.specs.Prelude.{◌≡◌, refl, List, [], ◌∷◌, map}
use Rattle.std.proofs.Common.{ap}
use Rattle.evaluation.specs.declared.Operator.{Operator}
use Rattle.lists.specs.Places.{All, none, both}
use Rattle.ast.specs.Trees.{Flat, leaf, node, Flats, done, more, kids, trees, fold, folds}

-- what holds of predicates, and of a node whenever it holds of all its children, holds of every flattened rule
unfoldable mutual
  pub flat_ind : {Q : Type 0} (P : Flat Q → Type 0)
      → ((q : Q) → P (leaf q)) → ((o : Operator) (fs : Flats Q) → All P (kids fs) → P (node o fs)) → (f : Flat Q) → P f
  flat_ind P h k (leaf q) = h q
  flat_ind P h k (node o fs) = k o fs (flats_ind P h k fs)

  pub flats_ind : {Q : Type 0} (P : Flat Q → Type 0)
      → ((q : Q) → P (leaf q)) → ((o : Operator) (fs : Flats Q) → All P (kids fs) → P (node o fs)) → (fs : Flats Q) → All P (kids fs)
  flats_ind P h k done = none
  flats_ind P h k (more f fs) = both (flat_ind P h k f) (flats_ind P h k fs)

module _ {Q : Type 0} where
  pub kids_trees : (l : List (Flat Q)) → kids (trees l) ≡ l
  kids_trees [] = refl
  kids_trees (f ∷ l) = ap (λ (r : List (Flat Q)). f ∷ r) (kids_trees l)

  pub trees_kids : (fs : Flats Q) → trees (kids fs) ≡ fs
  trees_kids done = refl
  trees_kids (more f fs) = ap (more f) (trees_kids fs)

module _ {Q A : Type 0} (v : Q → A) (join : Operator → List A → A) where
  pub folds_map : (fs : Flats Q) → folds v join fs ≡ map (fold v join) (kids fs)
  folds_map done = refl
  folds_map (more f fs) = ap (λ (l : List A). fold v join f ∷ l) (folds_map fs)

  pub fold_node : (o : Operator) (fs : Flats Q) → fold v join (node o fs) ≡ join o (map (fold v join) (kids fs))
  fold_node o fs = ap (join o) (folds_map fs)
