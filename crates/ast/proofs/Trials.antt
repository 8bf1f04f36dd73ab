-- Trials: P1, P2, P3, P4 and P12 of the paper, each by computing. Assumes nothing.
use Rattle.std.specs.Prelude.{◌≡◌, refl, Bool, true, false, ℕ, ℤ, pos}
use mathlib.Core.List.{List, [], ◌∷◌, flat_map}
use Rattle.evaluation.specs.declared.Operator.{Operator}
use Rattle.evaluation.specs.declared.Operator.TheVariants.{And, Or}
use Rattle.lists.specs.Places.{sum}
use Rattle.lists.specs.Counting.{dedup}
use Rattle.predicates.specs.Kinds.{kind_of, numbered, kinds}
use Rattle.predicates.specs.Predicate.{Predicate}
use Rattle.predicates.proofs.Deciding.{predicate?}
use Rattle.ast.specs.Trees.{Join, Not, Value, Flat, leaf, node, trees}
use Rattle.ast.specs.Flattening.{optimize}
use Rattle.ast.specs.Same.{same?}
use Rattle.ast.specs.Parts.{level}
use Rattle.ast.specs.Rules.{rule_cost, room_of}

-- the letters of the paper, each the number of an attribute
abbrev a : ℕ
a = 0

abbrev b : ℕ
b = 1

abbrev c : ℕ
c = 2

abbrev d : ℕ
d = 3

-- a letter's variable, negated or not
abbrev variable : Bool → ℕ → Predicate
variable false n = record { attribute = n; kind = 10; tag = 0; number = pos 0; scale = 0; elements = [] }
variable true n = record { attribute = n; kind = 11; tag = 0; number = pos 0; scale = 0; elements = [] }

abbrev is : ℕ → Flat Predicate
is n = leaf (variable false n)

abbrev is_not : ℕ → Flat Predicate
is_not n = leaf (variable true n)

-- predicates with a list of integers
abbrev inside : ℕ → List ℤ → Flat Predicate
inside n l = leaf (record { attribute = n; kind = 20; tag = 4; number = pos 0; scale = 0; elements = l })

abbrev one_of : ℕ → List ℤ → Flat Predicate
one_of n l = leaf (record { attribute = n; kind = 50; tag = 4; number = pos 0; scale = 0; elements = l })

abbrev both : Operator → Flat Predicate → Flat Predicate → Flat Predicate
both o f g = node o (trees (f ∷ g ∷ []))

pub P1 : optimize variable (Not (Join And (Value a) (Not (Join Or (Value b) (Value c))))) ≡ node Or (trees (is_not a ∷ is b ∷ is c ∷ []))
P1 = refl

abbrev nested : Flat Predicate
nested = both And (is a) (both Or (is b) (both And (is c) (is d)))

pub P2 : (level nested ≡ 4) × (room_of (nested ∷ []) ≡ record { rules = 1; parts = 7; places = 6; elements = 0 })
unfolding flat_map dedup same? predicate? sum
P2 = (refl, refl)

pub P3 : rule_cost (both And (inside a (pos 1 ∷ pos 2 ∷ pos 3 ∷ [])) (is b)) ≡ 53
unfolding sum kind_of numbered kinds
P3 = refl

pub P4 : rule_cost (both Or (one_of a (pos 1 ∷ pos 2 ∷ pos 3 ∷ pos 4 ∷ [])) (is b)) ≡ 68
unfolding sum kind_of numbered kinds
P4 = refl

pub P12 : room_of (both And (is a) (is a) ∷ []) ≡ record { rules = 1; parts = 2; places = 2; elements = 0 }
unfolding flat_map dedup same? predicate? sum
P12 = refl
