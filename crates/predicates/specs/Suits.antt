-- Which literals and which attributes suit which kind of predicate. All else is refused by 6. Laws in `SuitsLaws`.
-- A literal is known by its tag in the rule sheet, an attribute by the number of its kind.
-- Assumes nothing: these are definitions.
use Rattle.std.specs.Prelude.{Bool, ◌&&◌, ◌||◌, ℕ, eqb}
use Rattle.attributes.specs.declared.AttributeKind.{AttributeKind}
use Rattle.attributes.specs.declared.AttributeKind.TheVariants.{Boolean, Integer, Float, String, IntegerList, StringList}
use Rattle.attributes.specs.Kinds.{kind_number}
use Rattle.predicates.specs.declared.NullOperator.{NullOperator}
use Rattle.predicates.specs.declared.NullOperator.TheVariants.{IsNull, IsNotNull, IsEmpty, IsNotEmpty}
use Rattle.predicates.specs.declared.PredicateKind.{PredicateKind}
use Rattle.predicates.specs.declared.PredicateKind.TheVariants.{Variable, NegatedVariable, Set, Comparison, Equality, Null}
use Rattle.predicates.specs.declared.PredicateKind.TheVariants.{List as Lists}
use Rattle.predicates.specs.declared.Literal.{Literal}
use Rattle.predicates.specs.declared.Literal.TheVariants as Of

abbrev pub tag_of : Literal → ℕ
tag_of Of.Nothing = 0
tag_of (Of.Integer x) = 1
tag_of (Of.Float d) = 2
tag_of (Of.String w) = 3
tag_of Of.IntegerList = 4
tag_of Of.StringList = 5

-- a literal of the wanted tag for an attribute of the wanted kind
unfoldable pub pair : ℕ → ℕ → ℕ → AttributeKind → Bool
pair tag attribute wanted kind = eqb tag wanted && eqb attribute (kind_number kind)

-- null and not null: the four scalar kinds; empty and not empty: the two list kinds
abbrev pub null_suits : NullOperator → ℕ → ℕ → Bool
null_suits IsNull t a = (pair t a 0 Boolean || pair t a 0 Integer) || (pair t a 0 Float || pair t a 0 String)
null_suits IsNotNull t a = (pair t a 0 Boolean || pair t a 0 Integer) || (pair t a 0 Float || pair t a 0 String)
null_suits IsEmpty t a = pair t a 0 IntegerList || pair t a 0 StringList
null_suits IsNotEmpty t a = pair t a 0 IntegerList || pair t a 0 StringList

-- variable: boolean; set: integer and string, list of the same; comparison: integer, float; equality: integer, float, string;
-- list kinds: integer list, string list
abbrev pub suits_of : PredicateKind → ℕ → ℕ → Bool
suits_of Variable t a = pair t a 0 Boolean
suits_of NegatedVariable t a = pair t a 0 Boolean
suits_of (Set o) t a = pair t a 4 Integer || pair t a 5 String
suits_of (Comparison o) t a = pair t a 1 Integer || pair t a 2 Float
suits_of (Equality o) t a = (pair t a 1 Integer || pair t a 2 Float) || pair t a 3 String
suits_of (Lists o) t a = pair t a 4 IntegerList || pair t a 5 StringList
suits_of (Null o) t a = null_suits o t a
