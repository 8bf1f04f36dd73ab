-- The kinds of predicates: the number of each in the rule sheet, the kind that says the opposite, and what a kind costs.
-- Laws in `KindsLaws`.
-- Assumes nothing: these are definitions.
use Rattle.std.specs.Prelude.{cond, List, [], ◌∷◌, ℕ, ◌*◌, eqb}
use Rattle.predicates.specs.declared.SetOperator.{SetOperator}
use Rattle.predicates.specs.declared.SetOperator.TheVariants.{NotIn, In}
use Rattle.predicates.specs.declared.ComparisonOperator.{ComparisonOperator}
use Rattle.predicates.specs.declared.ComparisonOperator.TheVariants.{LessThan, LessThanEqual, GreaterThanEqual, GreaterThan}
use Rattle.predicates.specs.declared.EqualityOperator.{EqualityOperator}
use Rattle.predicates.specs.declared.EqualityOperator.TheVariants.{Equal, NotEqual}
use Rattle.predicates.specs.declared.ListOperator.{ListOperator}
use Rattle.predicates.specs.declared.ListOperator.TheVariants.{OneOf, NoneOf, AllOf, NotAllOf}
use Rattle.predicates.specs.declared.NullOperator.{NullOperator}
use Rattle.predicates.specs.declared.NullOperator.TheVariants.{IsNull, IsNotNull, IsEmpty, IsNotEmpty}
use Rattle.predicates.specs.declared.PredicateKind.{PredicateKind}
use Rattle.predicates.specs.declared.PredicateKind.TheVariants.{Variable, NegatedVariable, Set, Comparison, Equality, Null}
use Rattle.predicates.specs.declared.PredicateKind.TheVariants.{List as Lists}

-- ---- the table of the rule sheet

abbrev pub number_of : PredicateKind → ℕ
number_of Variable = 10
number_of NegatedVariable = 11
number_of (Set In) = 20
number_of (Set NotIn) = 21
number_of (Comparison LessThan) = 30
number_of (Comparison LessThanEqual) = 31
number_of (Comparison GreaterThanEqual) = 32
number_of (Comparison GreaterThan) = 33
number_of (Equality Equal) = 40
number_of (Equality NotEqual) = 41
number_of (Lists OneOf) = 50
number_of (Lists NoneOf) = 51
number_of (Lists AllOf) = 52
number_of (Lists NotAllOf) = 53
number_of (Null IsNull) = 60
number_of (Null IsNotNull) = 61
number_of (Null IsEmpty) = 62
number_of (Null IsNotEmpty) = 63

unfoldable pub kinds : List PredicateKind
kinds =
    Variable
    ∷ NegatedVariable
    ∷ Set In
    ∷ Set NotIn
    ∷ Comparison LessThan
    ∷ Comparison LessThanEqual
    ∷ Comparison GreaterThanEqual
    ∷ Comparison GreaterThan
    ∷ Equality Equal
    ∷ Equality NotEqual
    ∷ Lists OneOf
    ∷ Lists NoneOf
    ∷ Lists AllOf
    ∷ Lists NotAllOf
    ∷ Null IsNull
    ∷ Null IsNotNull
    ∷ Null IsEmpty
    ∷ Null IsNotEmpty
    ∷ []

-- the kind of that number among some; where none has it, is not empty. No sound book has such a number
unfoldable pub numbered : ℕ → List PredicateKind → PredicateKind
numbered n [] = Null IsNotEmpty
numbered n (k ∷ ks) = cond (eqb n (number_of k)) k (numbered n ks)

unfoldable pub kind_of : ℕ → PredicateKind
kind_of n = numbered n kinds

-- ---- negation

abbrev pub set_negated : SetOperator → SetOperator
set_negated NotIn = In
set_negated In = NotIn

abbrev pub comparison_negated : ComparisonOperator → ComparisonOperator
comparison_negated LessThan = GreaterThanEqual
comparison_negated LessThanEqual = GreaterThan
comparison_negated GreaterThanEqual = LessThan
comparison_negated GreaterThan = LessThanEqual

abbrev pub equality_negated : EqualityOperator → EqualityOperator
equality_negated Equal = NotEqual
equality_negated NotEqual = Equal

abbrev pub list_negated : ListOperator → ListOperator
list_negated OneOf = NoneOf
list_negated NoneOf = OneOf
list_negated AllOf = NotAllOf
list_negated NotAllOf = AllOf

abbrev pub null_negated : NullOperator → NullOperator
null_negated IsNull = IsNotNull
null_negated IsNotNull = IsNull
null_negated IsEmpty = IsNotEmpty
null_negated IsNotEmpty = IsEmpty

abbrev pub negated_of : PredicateKind → PredicateKind
negated_of Variable = NegatedVariable
negated_of NegatedVariable = Variable
negated_of (Set o) = Set (set_negated o)
negated_of (Comparison o) = Comparison (comparison_negated o)
negated_of (Equality o) = Equality (equality_negated o)
negated_of (Lists o) = Lists (list_negated o)
negated_of (Null o) = Null (null_negated o)

-- the same by numbers
unfoldable pub negated_number : ℕ → ℕ
negated_number n = number_of (negated_of (kind_of n))

-- ---- cost

-- what an element of the list costs: 1 in the set kinds, 2 in the list kinds, nothing in the others
abbrev pub element_cost : PredicateKind → ℕ
element_cost Variable = 0
element_cost NegatedVariable = 0
element_cost (Set o) = 1
element_cost (Comparison o) = 0
element_cost (Equality o) = 0
element_cost (Lists o) = 2
element_cost (Null o) = 0

-- the cost of a kind with a list of n elements
abbrev pub cost_of : PredicateKind → ℕ → ℕ
cost_of k n = element_cost k * n
