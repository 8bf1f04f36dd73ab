-- A law over the kinds of predicates holds if it holds at each of them; there both of its sides compute.
-- Assumes nothing.
use Rattle.predicates.specs.declared.SetOperator.TheVariants.{NotIn, In}
use Rattle.predicates.specs.declared.ComparisonOperator.TheVariants.{LessThan, LessThanEqual, GreaterThanEqual, GreaterThan}
use Rattle.predicates.specs.declared.EqualityOperator.TheVariants.{Equal, NotEqual}
use Rattle.predicates.specs.declared.ListOperator.TheVariants.{OneOf, NoneOf, AllOf, NotAllOf}
use Rattle.predicates.specs.declared.NullOperator.TheVariants.{IsNull, IsNotNull, IsEmpty, IsNotEmpty}
use Rattle.predicates.specs.declared.PredicateKind.{PredicateKind}
use Rattle.predicates.specs.declared.PredicateKind.TheVariants.{Variable, NegatedVariable, Set, Comparison, Equality, List, Null}

pub record EachKind (P : PredicateKind → Type 0) : Type 0 where
  pub variable : P Variable × P NegatedVariable
  pub set : P (Set In) × P (Set NotIn)
  pub comparison : P (Comparison LessThan) × P (Comparison LessThanEqual) × P (Comparison GreaterThanEqual) × P (Comparison GreaterThan)
  pub equality : P (Equality Equal) × P (Equality NotEqual)
  pub list : P (List OneOf) × P (List NoneOf) × P (List AllOf) × P (List NotAllOf)
  pub null : P (Null IsNull) × P (Null IsNotNull) × P (Null IsEmpty) × P (Null IsNotEmpty)

pub each_kind : (P : PredicateKind → Type 0) → EachKind P → (k : PredicateKind) → P k
each_kind P h Variable = h.variable.0
each_kind P h NegatedVariable = h.variable.1
each_kind P h (Set In) = h.set.0
each_kind P h (Set NotIn) = h.set.1
each_kind P h (Comparison LessThan) = h.comparison.0
each_kind P h (Comparison LessThanEqual) = h.comparison.1
each_kind P h (Comparison GreaterThanEqual) = h.comparison.2
each_kind P h (Comparison GreaterThan) = h.comparison.3
each_kind P h (Equality Equal) = h.equality.0
each_kind P h (Equality NotEqual) = h.equality.1
each_kind P h (List OneOf) = h.list.0
each_kind P h (List NoneOf) = h.list.1
each_kind P h (List AllOf) = h.list.2
each_kind P h (List NotAllOf) = h.list.3
each_kind P h (Null IsNull) = h.null.0
each_kind P h (Null IsNotNull) = h.null.1
each_kind P h (Null IsEmpty) = h.null.2
each_kind P h (Null IsNotEmpty) = h.null.3
