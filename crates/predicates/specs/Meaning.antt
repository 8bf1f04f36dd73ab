-- What a predicate says of a value, which stands on the left. Laws in `MeaningLaws`.
-- Integers, decimals and words are amounts, compared by their exact values; lists are sets.
-- Assumes nothing: these are definitions.
use Rattle.std.specs.Prelude.{◌≡◌, Bool, true, false, cond, not, ◌||◌, List, ℕ, ◌≤◌, eqb, ℤ, pos, length}
use Rattle.decimals.specs.declared.Decimal.{Decimal}
use Rattle.std.specs.declared.cmp.Ordering.{Ordering}
use Rattle.std.specs.Ordering.{is_lt, is_le, is_eq, is_ne, is_ge, is_gt}
use Rattle.decimals.specs.Decimals.{scale_limit, compare_of}
use Rattle.evaluation.specs.declared.Truth.{Truth}
use Rattle.evaluation.specs.declared.Truth.TheVariants.{False, Undefined, True}
use Rattle.events.specs.declared.AttributeValue.{AttributeValue}
use Rattle.events.specs.declared.AttributeValue.TheVariants as Value
use Rattle.events.specs.Values.{value_number}
use Rattle.lists.specs.Sets.{within, shares, inside, ascends}
use Rattle.predicates.specs.declared.SetOperator.{SetOperator}
use Rattle.predicates.specs.declared.SetOperator.TheVariants.{NotIn, In}
use Rattle.predicates.specs.declared.ComparisonOperator.{ComparisonOperator}
use Rattle.predicates.specs.declared.ComparisonOperator.TheVariants.{LessThan, LessThanEqual, GreaterThanEqual, GreaterThan}
use Rattle.predicates.specs.declared.EqualityOperator.{EqualityOperator}
use Rattle.predicates.specs.declared.EqualityOperator.TheVariants.{Equal, NotEqual}
use Rattle.predicates.specs.declared.ListOperator.{ListOperator}
use Rattle.predicates.specs.declared.ListOperator.TheVariants.{OneOf, NoneOf, AllOf, NotAllOf}
use Rattle.predicates.specs.declared.NullOperator.{NullOperator}
use Rattle.predicates.specs.declared.NullOperator.TheVariants.{IsNull, IsNotNull, IsEmpty, IsNotEmpty}
use Rattle.predicates.specs.declared.PredicateKind.{PredicateKind}
use Rattle.predicates.specs.declared.PredicateKind.TheVariants.{Variable, NegatedVariable, Set, Comparison, Equality, Null}
use Rattle.predicates.specs.declared.PredicateKind.TheVariants.{List as Lists}
use Rattle.predicates.specs.declared.Literal.{Literal}
use Rattle.predicates.specs.Kinds.{kind_of, negated_number}
use Rattle.predicates.specs.Suits.{tag_of, suits_of}
use Rattle.predicates.specs.Predicate.{Predicate}

-- ---- what stands in a value and in a literal

-- an integer, or a word's number, as a decimal
abbrev pub whole : ℤ → Decimal
whole x = record { number = x; scale = 0 }

abbrev pub boolean_in : AttributeValue → Bool
boolean_in Value.Undefined = false
boolean_in (Value.Boolean b) = b
boolean_in (Value.Integer x) = false
boolean_in (Value.Float d) = false
boolean_in (Value.String w) = false
boolean_in Value.IntegerList = false
boolean_in Value.StringList = false

abbrev pub amount_in : AttributeValue → Decimal
amount_in Value.Undefined = whole (pos 0)
amount_in (Value.Boolean b) = whole (pos 0)
amount_in (Value.Integer x) = whole x
amount_in (Value.Float d) = d
amount_in (Value.String w) = whole w.0
amount_in Value.IntegerList = whole (pos 0)
amount_in Value.StringList = whole (pos 0)

abbrev pub amount_of : Literal → Decimal
amount_of Literal.Nothing = whole (pos 0)
amount_of (Literal.Integer x) = whole x
amount_of (Literal.Float d) = d
amount_of (Literal.String w) = whole w.0
amount_of Literal.IntegerList = whole (pos 0)
amount_of Literal.StringList = whole (pos 0)

-- ---- the operators

abbrev pub comparison_holds : ComparisonOperator → Ordering → Bool
comparison_holds LessThan o = is_lt o
comparison_holds LessThanEqual o = is_le o
comparison_holds GreaterThanEqual o = is_ge o
comparison_holds GreaterThan o = is_gt o

abbrev pub equality_holds : EqualityOperator → Ordering → Bool
equality_holds Equal o = is_eq o
equality_holds NotEqual o = is_ne o

-- the value and the literal's elements
abbrev pub set_holds : SetOperator → ℤ → List ℤ → Bool
set_holds In x elements = within x elements
set_holds NotIn x elements = not (within x elements)

-- the value's list and the literal's elements
abbrev pub list_holds : ListOperator → List ℤ → List ℤ → Bool
list_holds OneOf list elements = shares list elements
list_holds NoneOf list elements = not (shares list elements)
list_holds AllOf list elements = inside list elements
list_holds NotAllOf list elements = not (inside list elements)

abbrev pub null_holds : NullOperator → AttributeValue → List ℤ → Bool
null_holds IsNull v list = eqb (value_number v) 0
null_holds IsNotNull v list = not (eqb (value_number v) 0)
null_holds IsEmpty v list = eqb (length list) 0
null_holds IsNotEmpty v list = not (eqb (length list) 0)

-- ---- the whole: a kind, a literal with its elements, a value with its list

-- plain truth
abbrev pub holds_of : PredicateKind → Literal → List ℤ → AttributeValue → List ℤ → Bool
holds_of Variable i elements v list = boolean_in v
holds_of NegatedVariable i elements v list = not (boolean_in v)
holds_of (Set o) i elements v list = set_holds o (amount_in v).number elements
holds_of (Comparison o) i elements v list = comparison_holds o (compare_of (amount_in v) (amount_of i))
holds_of (Equality o) i elements v list = equality_holds o (compare_of (amount_in v) (amount_of i))
holds_of (Lists o) i elements v list = list_holds o list elements
holds_of (Null o) i elements v list = null_holds o v list

-- is null and is not null ask of every value, undefined or not
abbrev pub null_asked : NullOperator → Bool
null_asked IsNull = true
null_asked IsNotNull = true
null_asked IsEmpty = false
null_asked IsNotEmpty = false

abbrev pub asks_null : PredicateKind → Bool
asks_null Variable = false
asks_null NegatedVariable = false
asks_null (Set o) = false
asks_null (Comparison o) = false
asks_null (Equality o) = false
asks_null (Lists o) = false
asks_null (Null o) = null_asked o

-- every other kind has an answer only for a value of a kind that it suits, so for none that is undefined
unfoldable pub answers : PredicateKind → Literal → AttributeValue → Bool
answers k i v = asks_null k || suits_of k (tag_of i) (value_number v)

-- whether there is an answer, and the answer
abbrev pub truth_of : Bool → Bool → Truth
truth_of false b = Undefined
truth_of true false = False
truth_of true true = True

unfoldable pub evaluate_of : PredicateKind → Literal → List ℤ → AttributeValue → List ℤ → Truth
evaluate_of k i elements v list = truth_of (answers k i v) (holds_of k i elements v list)

-- what evaluating asks for: scales within their range, lists that ascend strictly
pub record Ready (i : Literal) (elements : List ℤ) (v : AttributeValue) (list : List ℤ) : Type 0 where
  pub literal_scale : (amount_of i).scale ≤ scale_limit
  pub value_scale : (amount_in v).scale ≤ scale_limit
  pub elements_ascend : ascends elements ≡ true
  pub list_ascends : ascends list ≡ true

-- ---- the same of a predicate as a book keeps it

-- the literal of a tag, a number and a scale; a tag that is none of the sheet's says nothing
unfoldable pub literal_from : ℕ → ℤ → ℕ → Literal
literal_from tag x y =
    cond (eqb tag 1) (Literal.Integer x)
    (cond (eqb tag 2) (Literal.Float (record { number = x; scale = y }))
    (cond (eqb tag 3) (Literal.String (record { 0 = x }))
    (cond (eqb tag 4) Literal.IntegerList
    (cond (eqb tag 5) Literal.StringList Literal.Nothing))))

abbrev pub literal_of : Predicate → Literal
literal_of p = literal_from p.tag p.number p.scale

unfoldable pub says : Predicate → AttributeValue → List ℤ → Truth
says p v list = evaluate_of (kind_of p.kind) (literal_of p) p.elements v list

-- the predicate of the opposite kind
abbrev pub negated_predicate : Predicate → Predicate
negated_predicate p =
    record {
      attribute = p.attribute;
      kind = negated_number p.kind;
      tag = p.tag;
      number = p.number;
      scale = p.scale;
      elements = p.elements;
    }
