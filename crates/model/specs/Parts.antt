-- The parts of a book. They stand in a list, and a part's number is its place there, from zero. A part is a predicate, or an operator over
-- the numbers of its children, which are smaller than its own. So what the parts mean, as flattened rules, is worked out from the first
-- part to the last. Laws in `PartsLaws`. Assumes nothing: these are definitions.
use Rattle.std.specs.Prelude.{◌≡◌, List, [], ◌∷◌, ◌++◌, map, ℕ, suc, ◌<◌, length, get_or}
use Rattle.std.proofs.Common.{ap, ap₂, arith}
use Rattle.std.proofs.Math.Decide.{ℕ_discrete}
use Rattle.evaluation.specs.declared.Operator.{Operator}
use Rattle.evaluation.specs.declared.Operator.TheVariants.{Or}
use Rattle.lists.specs.Places.{All, Any, list?}
use Rattle.predicates.specs.Predicate.{Predicate, list_length}
use Rattle.predicates.proofs.Deciding.{predicate?}
use Rattle.ast.specs.Trees.{Flat, leaf, node, done, trees}
use Rattle.ast.specs.OperatorLaws.{operator?}
use Rattle.ast.specs.Parts.{level, size}
use Rattle.ast.specs.Rules.{rule_cost}

pub data Part : Type 0 where
  alone : Predicate → Part
  over : Operator → List ℕ → Part

abbrev pub children_of : Part → List ℕ
children_of (alone p) = []
children_of (over o cs) = cs

-- the part of a number; past the last part, where a sound book names none, an Or over nothing
abbrev pub part_at : List Part → ℕ → Part
part_at ps i = get_or ps i (over Or [])

-- ---- what parts mean

-- what a number past the last part means
abbrev pub nothing : Flat Predicate
nothing = node Or done

-- the meaning of a number, where ds are the meanings of the parts
abbrev pub flat_in : List (Flat Predicate) → ℕ → Flat Predicate
flat_in ds i = get_or ds i nothing

-- the meaning of a part, over the meanings of the parts before it
abbrev pub flat_of : List (Flat Predicate) → Part → Flat Predicate
flat_of ds (alone p) = leaf p
flat_of ds (over o cs) = node o (trees (map (flat_in ds) cs))

-- the meanings ds of the parts before, and after them those of these parts, each over those before it
abbrev pub meanings_after : List (Flat Predicate) → List Part → List (Flat Predicate)
meanings_after ds [] = ds
meanings_after ds (p ∷ ps) = meanings_after (ds ++ (flat_of ds p ∷ [])) ps

abbrev pub meanings : List Part → List (Flat Predicate)
meanings ps = meanings_after [] ps

abbrev pub flat_at : List Part → ℕ → Flat Predicate
flat_at ps i = flat_in (meanings ps) i

-- level, cost and size of a part are those of its meaning
abbrev pub level_at : List Part → ℕ → ℕ
level_at ps i = level (flat_at ps i)

abbrev pub cost_at : List Part → ℕ → ℕ
cost_at ps i = rule_cost (flat_at ps i)

abbrev pub size_at : List Part → ℕ → ℕ
size_at ps i = size (flat_at ps i)

-- the child places and the list elements that a part takes
abbrev pub part_places : Part → ℕ
part_places p = length (children_of p)

abbrev pub part_elements : Part → ℕ
part_elements (alone p) = list_length p
part_elements (over o cs) = 0

-- ---- children before parents

-- each child's number is below n
abbrev pub Below : ℕ → Part → Type 0
Below n p = All (λ c. c < n) (children_of p)

-- each part's children stand before it, where n parts stand before these
abbrev pub Ordered : ℕ → List Part → Type 0
Ordered n [] = Unit {0}
Ordered n (p ∷ ps) = Below n p × Ordered (suc n) ps

-- number i is a child of one of the parts
abbrev pub ChildOf : List Part → ℕ → Type 0
ChildOf ps i = Any (λ p. Any (λ c. i ≡ c) (children_of p)) ps

-- ---- equality of parts is decided, by comparing

unfoldable pub part? : (x y : Part) → Dec (x ≡ y)
unfolding predicate? operator? list? ℕ_discrete
part? (alone p) (alone q) = go (predicate? p q)
  where
    go : Dec (p ≡ q) → Dec (alone p ≡ alone q)
    go (yes e) = yes (ap alone e)
    go (no n) = no (λ e. n cc)
part? (alone p) (over o cs) = no (λ e. let z : ◌≡◌ {A = ℕ} 0 1 = cc in omega arith)
part? (over o cs) (alone q) = no (λ e. let z : ◌≡◌ {A = ℕ} 0 1 = cc in omega arith)
part? (over o cs) (over o' ds) = go (operator? o o') (list? ℕ_discrete cs ds)
  where
    go : Dec (o ≡ o') → Dec (cs ≡ ds) → Dec (over o cs ≡ over o' ds)
    go (yes e) (yes k) = yes (ap₂ over e k)
    go (yes e) (no n) = no (λ k. n cc)
    go (no n) r = no (λ k. n cc)
