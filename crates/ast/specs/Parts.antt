-- The parts of rules: the subexpressions of a flattened rule, and the level, cost and size of each. What a predicate costs is a parameter.
-- Laws in `PartsLaws` and `SizeLaws`. Assumes nothing: these are definitions.
use mathlib.Core.List.{List, [], ◌∷◌, ◌++◌, flat_map}
use Rattle.std.specs.Prelude.{ℕ, ◌+◌, ◌-◌, ◌*◌, max, length}
use Rattle.evaluation.specs.declared.Operator.{Operator}
use Rattle.evaluation.specs.declared.Operator.TheVariants.{And, Or}
use Rattle.lists.specs.Places.{sum}
use Rattle.ast.specs.Trees.{Flat, leaf, node, Flats, done, more, fold}

-- the subexpressions of a rule, the root included
abbrev mutual
  pub subexpressions : {Q : Type 0} → Flat Q → List (Flat Q)
  subexpressions (leaf q) = leaf q ∷ []
  subexpressions (node o fs) = node o fs ∷ subexpressions_under fs

  pub subexpressions_under : {Q : Type 0} → Flats Q → List (Flat Q)
  subexpressions_under done = []
  subexpressions_under (more f fs) = subexpressions f ++ subexpressions_under fs

-- the subexpressions of all rules, repeats and all
abbrev pub subexpressions_of : {Q : Type 0} → List (Flat Q) → List (Flat Q)
subexpressions_of rules = flat_map subexpressions rules

-- ---- level, cost and size

abbrev pub greatest : List ℕ → ℕ
greatest [] = 0
greatest (n ∷ ns) = max n (greatest ns)

abbrev pub total : List ℕ → ℕ
total ns = sum (λ n. n) ns

-- level: of a predicate 1, otherwise 1 more than the greatest child's
abbrev pub level_over : Operator → List ℕ → ℕ
level_over o levels = 1 + greatest levels

abbrev pub level : {Q : Type 0} → Flat Q → ℕ
level = fold (λ q. 1) level_over

-- cost: of a predicate its own, otherwise the children's together, and for each child after the first 50 in an And, 60 in an Or
abbrev pub join_cost : Operator → ℕ
join_cost And = 50
join_cost Or = 60

abbrev pub cost_over : Operator → List ℕ → ℕ
cost_over o costs = total costs + join_cost o * (length costs - 1)

abbrev pub cost : {Q : Type 0} → (Q → ℕ) → Flat Q → ℕ
cost own_cost = fold own_cost cost_over

-- size, the entries of the flattened sheet: a predicate is one, an operator over k children k − 1
abbrev pub size_over : Operator → List ℕ → ℕ
size_over o sizes = total sizes + (length sizes - 1)

abbrev pub size : {Q : Type 0} → Flat Q → ℕ
size = fold (λ q. 1) size_over
