-- Laws of `Same`: it is an equivalence, and a fold that ignores the order of children, such as Kleene's value, gives the same of the same
-- rules. Assumes nothing.
use Rattle.std.specs.Prelude.{◌≡◌, ◌↔◌}
use Rattle.std.proofs.Math.Path.{refl, ap, sym, subst}
use Rattle.std.proofs.Common.{ap₂, ◌∙◌, subst₂}
use mathlib.Core.List.{List, [], map}
use Rattle.evaluation.specs.declared.Truth.{Truth}
use Rattle.evaluation.specs.declared.Operator.{Operator}
use Rattle.evaluation.specs.Kleene.{join_of, join_all}
use Rattle.evaluation.specs.KleeneLaws.{join_swap}
use Rattle.lists.specs.Places.{All, none, both, Any, here, there, at, rest}
use Rattle.lists.proofs.PlacesLaws.{holds, any_at, rest_at}
use Rattle.lists.specs.Equivalence.{Equivalence}
use Rattle.lists.specs.Bag.{Bag, bnil, bcons}
use Rattle.lists.proofs.BagLaws.{bag_refl, bag_sym, bag_trans, bag_map}
use Rattle.ast.specs.Trees.{Flat, leaf, node, Flats, done, more, kids, trees, fold, flat_value}
use Rattle.ast.specs.TreesLaws.{flat_ind, kids_trees, fold_node}
use Rattle.ast.specs.Same.{Same, SameBag}

-- ---- the children of the same nodes are a bag

module _ {Q : Type 0} where
  to_bag : (fs : Flats Q) {gs : List (Flat Q)} → SameBag fs gs → Bag Same (kids fs) gs
  unfolding Same
  to_bag done s = subst (λ l. Bag Same [] l) (sym s) bnil
  to_bag (more f fs) s = bcons s.0 (to_bag fs s.1)

  of_bag : (fs : Flats Q) {gs : List (Flat Q)} → Bag Same (kids fs) gs → SameBag fs gs
  unfolding Same
  of_bag done bnil = refl
  of_bag (more f fs) (bcons a t) = (a, of_bag fs t)

  -- two nodes are the same exactly where their operators are equal and their children agree as bags
  pub same_node : (o o' : Operator) (fs gs : Flats Q) → Same (node o fs) (node o' gs) ↔ ((o ≡ o') × Bag Same (kids fs) (kids gs))
  unfolding Same
  same_node o o' fs gs = (λ s. (s.0, to_bag fs s.1), λ b. (b.0, of_bag fs b.1))

  pub same_trees : (o o' : Operator) (l m : List (Flat Q)) → Same (node o (trees l)) (node o' (trees m)) ↔ ((o ≡ o') × Bag Same l m)
  same_trees o o' l m =
      subst₂ (λ x y. Same (node o (trees l)) (node o' (trees m)) ↔ ((o ≡ o') × Bag Same x y)) (kids_trees l) (kids_trees m)
      (same_node o o' (trees l) (trees m))

  -- ---- an equivalence

  same_refl : (f : Flat Q) → Same f f
  unfolding Same
  same_refl = flat_ind (λ f. Same f f) (λ q. refl) (λ o fs h. (refl, of_bag fs (bag_refl h)))

  same_sym : (f g : Flat Q) → Same f g → Same g f
  unfolding Same
  same_sym = flat_ind (λ f. (g : Flat Q) → Same f g → Same g f) at_leaf at_node
    where
      at_leaf : (p : Q) (g : Flat Q) → Same (leaf p) g → Same g (leaf p)
      at_leaf p (leaf q) e = sym e
      at_leaf p (node o gs) e = e

      at_node : (o : Operator) (fs : Flats Q) → All (λ f. (g : Flat Q) → Same f g → Same g f) (kids fs)
          → (g : Flat Q) → Same (node o fs) g → Same g (node o fs)
      at_node o fs h (leaf q) e = e
      at_node o fs h (node o' gs) e = (sym e.0, of_bag gs (bag_sym h (to_bag fs e.1)))

  same_trans : (f g h : Flat Q) → Same f g → Same g h → Same f h
  unfolding Same
  same_trans = flat_ind (λ f. (g h : Flat Q) → Same f g → Same g h → Same f h) at_leaf at_node
    where
      at_leaf : (p : Q) (g h : Flat Q) → Same (leaf p) g → Same g h → Same (leaf p) h
      at_leaf p (leaf q) (leaf r) e k = e ∙ k
      at_leaf p (leaf q) (node o hs) e k = k
      at_leaf p (node o gs) h e k = absurd e

      at_node : (o : Operator) (fs : Flats Q) → All (λ f. (g h : Flat Q) → Same f g → Same g h → Same f h) (kids fs)
          → (g h : Flat Q) → Same (node o fs) g → Same g h → Same (node o fs) h
      at_node o fs t (leaf q) h e k = absurd e
      at_node o fs t (node o' gs) (leaf q) e k = k
      at_node o fs t (node o' gs) (node o'' hs) e k = (e.0 ∙ k.0, of_bag fs (bag_trans t (to_bag fs e.1) (to_bag gs k.1)))

  pub same_equivalence : Equivalence (Same {Q = Q})
  same_equivalence = record { reflexive = same_refl; symmetric = same_sym; transitive = same_trans }

-- ---- what ignores the order of children

-- a bag of one relation is one of another, where the elements on the left say so
bag_with : {A : Type 0} {R S : A → A → Type 0} {xs ys : List A} → All (λ x. (y : A) → R x y → S x y) xs → Bag R xs ys → Bag S xs ys
bag_with none bnil = bnil
bag_with {S = S} (both h k) (bcons {x = x} {xs = xs} a t) =
    let s = h (at a) (holds a) in
    bcons (any_at {Q = S x} a s) (subst (λ l. Bag S xs l) (sym (rest_at (S x) a s)) (bag_with k t))

module _ {Q A : Type 0} (v : Q → A) (join : Operator → List A → A)
    (free : (o : Operator) (l m : List A) → Bag ◌≡◌ l m → join o l ≡ join o m) where
  pub fold_same : (f g : Flat Q) → Same f g → fold v join f ≡ fold v join g
  unfolding Same
  fold_same = flat_ind (λ f. (g : Flat Q) → Same f g → fold v join f ≡ fold v join g) at_leaf at_node
    where
      at_leaf : (p : Q) (g : Flat Q) → Same (leaf p) g → v p ≡ fold v join g
      at_leaf p (leaf q) s = ap v s
      at_leaf p (node o gs) s = absurd s

      at_node : (o : Operator) (fs : Flats Q) → All (λ f. (g : Flat Q) → Same f g → fold v join f ≡ fold v join g) (kids fs)
          → (g : Flat Q) → Same (node o fs) g → fold v join (node o fs) ≡ fold v join g
      at_node o fs h (leaf q) s = absurd s
      at_node o fs h (node o' gs) s =
          let b = bag_map (fold v join) (λ f g e. e) (bag_with h (to_bag fs s.1)) in
          let e = ap (λ (q : Operator). join q (map (fold v join) (kids gs))) s.0 in
          fold_node v join o fs ∙ free o _ _ b ∙ e ∙ sym (fold_node v join o' gs)

-- ---- Kleene's value

join_all_rest : (o : Operator) {P : Truth → Type 0} {l : List Truth} (a : Any P l) → join_all o l ≡ join_of o (at a) (join_all o (rest a))
join_all_rest o (here p) = refl
join_all_rest o (there {x = x} a) = ap (join_of o x) (join_all_rest o a) ∙ join_swap o x (at a) (join_all o (rest a))

join_all_bag : (o : Operator) (l m : List Truth) → Bag ◌≡◌ l m → join_all o l ≡ join_all o m
join_all_bag o l m bnil = refl
join_all_bag o l m (bcons {xs = xs} a t) = ap₂ (join_of o) (holds a) (join_all_bag o xs (rest a) t) ∙ sym (join_all_rest o a)

-- the same rules have the same value, whatever the predicates are worth
pub same_value : {Q : Type 0} (v : Q → Truth) (f g : Flat Q) → Same f g → flat_value v f ≡ flat_value v g
same_value v = fold_same v join_all join_all_bag
