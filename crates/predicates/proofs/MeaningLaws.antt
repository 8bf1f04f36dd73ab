-- Laws of what predicates say:
-- `negation` and `negation_says`: the negated predicate says Kleene's Not of what the predicate says, of every value, undefined or not;
-- `suiting_answers` and `suiting_says`: a predicate that suits its literal and the kind of the value is never undefined;
-- `on_undefined_lem`: what each kind says of an undefined value;
-- `literal_scale`: the literal that a book keeps has a scale in range where the kept one is.
-- Assumes nothing.
use Rattle.std.specs.Prelude.{◌≡◌, refl, Bool, true, false, cond, not, List, ℕ, zero, suc, ◌≤◌, eqb, ℤ, length}
use Rattle.std.proofs.Common.{sym, ◌∙◌, arith}
use Rattle.std.proofs.Math.Path.{ap, ap₂}
use Rattle.std.proofs.Math.Bool.{◌||◌, or-false}
use Rattle.std.proofs.Common.{Ordering, Less, Equal, Greater}
use Rattle.std.specs.Ordering.{is_lt, is_le, is_eq, is_ne, is_ge, is_gt}
use Rattle.decimals.specs.Decimals.{scale_limit, compare_of}
use Rattle.evaluation.specs.declared.Truth.{Truth}
use Rattle.evaluation.specs.declared.Truth.TheVariants.{False, Undefined, True}
use Rattle.evaluation.specs.Kleene.{not_of}
use Rattle.events.specs.declared.AttributeValue.{AttributeValue}
use Rattle.events.specs.declared.AttributeValue.TheVariants as Value
use Rattle.lists.specs.Sets.{within, shares, inside}
use Rattle.predicates.specs.declared.NullOperator.{NullOperator}
use Rattle.predicates.specs.declared.NullOperator.TheVariants.{IsNull, IsNotNull, IsEmpty, IsNotEmpty}
use Rattle.predicates.specs.declared.PredicateKind.{PredicateKind}
use Rattle.predicates.specs.declared.PredicateKind.TheVariants.{Variable, NegatedVariable, Set, Comparison, Equality, Null}
use Rattle.predicates.specs.declared.PredicateKind.TheVariants.{List as Lists}
use Rattle.predicates.specs.declared.Literal.{Literal}
use Rattle.predicates.specs.Kinds.{kind_of, negated_of}
use Rattle.predicates.specs.KindsLaws.{kind_negated}
use Rattle.predicates.specs.Suits.{tag_of, suits_of}
use Rattle.predicates.specs.SuitsLaws.{suits_negated, suits_none, suits_tag}
use Rattle.predicates.specs.EachKind.{each_kind}
use Rattle.predicates.specs.Predicate.{Predicate}
use Rattle.events.specs.Values.{value_number}
use Rattle.predicates.specs.Meaning.{boolean_in, amount_in, amount_of, holds_of, asks_null}
use Rattle.predicates.specs.Meaning.{answers, truth_of, evaluate_of, literal_from, literal_of, says, negated_predicate}

-- ---- negation

not_not : (b : Bool) → b ≡ not (not b)
not_not true = refl
not_not false = refl

not_lt : (o : Ordering) → is_ge o ≡ not (is_lt o)
not_lt Less = refl
not_lt Equal = refl
not_lt Greater = refl

not_le : (o : Ordering) → is_gt o ≡ not (is_le o)
not_le Less = refl
not_le Equal = refl
not_le Greater = refl

not_ge : (o : Ordering) → is_lt o ≡ not (is_ge o)
not_ge Less = refl
not_ge Equal = refl
not_ge Greater = refl

not_gt : (o : Ordering) → is_le o ≡ not (is_gt o)
not_gt Less = refl
not_gt Equal = refl
not_gt Greater = refl

not_eq : (o : Ordering) → is_ne o ≡ not (is_eq o)
not_eq Less = refl
not_eq Equal = refl
not_eq Greater = refl

not_ne : (o : Ordering) → is_eq o ≡ not (is_ne o)
not_ne Less = refl
not_ne Equal = refl
not_ne Greater = refl

truth_not : (a b : Bool) → truth_of a (not b) ≡ not_of (truth_of a b)
truth_not false b = refl
truth_not true false = refl
truth_not true true = refl

asks_negated : (k : PredicateKind) → asks_null (negated_of k) ≡ asks_null k
asks_negated = each_kind (λ k. asks_null (negated_of k) ≡ asks_null k) (search)

module _ (i : Literal) (elements : List ℤ) (v : AttributeValue) (list : List ℤ) where
  holds_negated : (k : PredicateKind) → holds_of (negated_of k) i elements v list ≡ not (holds_of k i elements v list)
  holds_negated =
      let o = compare_of (amount_in v) (amount_of i) in
      each_kind (λ k. holds_of (negated_of k) i elements v list ≡ not (holds_of k i elements v list))
      (record {
        variable = (refl, not_not (boolean_in v));
        set = (refl, not_not (within (amount_in v).number elements));
        comparison = (not_lt o, not_le o, not_ge o, not_gt o);
        equality = (not_eq o, not_ne o);
        list = (refl, not_not (shares list elements), refl, not_not (inside list elements));
        null = (refl, not_not (eqb (value_number v) 0), refl, not_not (eqb (length list) 0));
      })

  pub negation : (k : PredicateKind) → evaluate_of (negated_of k) i elements v list ≡ not_of (evaluate_of k i elements v list)
  unfolding evaluate_of answers
  negation k =
      ap₂ truth_of (ap₂ ◌||◌ (asks_negated k) (suits_negated k (tag_of i) (value_number v))) (holds_negated k)
      ∙ truth_not (answers k i v) (holds_of k i elements v list)

pub negation_says : (p : Predicate) (v : AttributeValue) (list : List ℤ) → says (negated_predicate p) v list ≡ not_of (says p v list)
unfolding says
negation_says p v list =
    ap (λ (k : PredicateKind). evaluate_of k (literal_of p) p.elements v list) (kind_negated p.kind)
    ∙ negation (literal_of p) p.elements v list (kind_of p.kind)

-- ---- where there is an answer

or_true : (a b : Bool) → b ≡ true → (a || b) ≡ true
or_true true b e = refl
or_true false b e = e

defined : (b : Bool) → truth_of true b ≡ Undefined → ⊥
defined false e = let z : ◌≡◌ {A = ℕ} 0 1 = cc in omega arith
defined true e = let z : ◌≡◌ {A = ℕ} 0 1 = cc in omega arith

pub suiting_answers : (k : PredicateKind) (i : Literal) (elements : List ℤ) (v : AttributeValue) (list : List ℤ)
    → suits_of k (tag_of i) (value_number v) ≡ true → evaluate_of k i elements v list ≡ Undefined → ⊥
unfolding evaluate_of answers
suiting_answers k i elements v list s e =
    defined (holds_of k i elements v list)
    (sym (ap (λ (a : Bool). truth_of a (holds_of k i elements v list)) (or_true (asks_null k) (suits_of k (tag_of i) (value_number v)) s))
    ∙ e)

-- is null true, is not null false, every other kind undefined
abbrev pub null_on_undefined : NullOperator → Truth
null_on_undefined IsNull = True
null_on_undefined IsNotNull = False
null_on_undefined IsEmpty = Undefined
null_on_undefined IsNotEmpty = Undefined

abbrev pub on_undefined : PredicateKind → Truth
on_undefined Variable = Undefined
on_undefined NegatedVariable = Undefined
on_undefined (Set o) = Undefined
on_undefined (Comparison o) = Undefined
on_undefined (Equality o) = Undefined
on_undefined (Lists o) = Undefined
on_undefined (Null o) = null_on_undefined o

module _ (i : Literal) (elements list : List ℤ) where
  none_answers : (k : PredicateKind) → answers k i Value.Undefined ≡ asks_null k
  unfolding answers
  none_answers k = ap (λ (b : Bool). asks_null k || b) (suits_none k (tag_of i)) ∙ or-false (asks_null k)

  pub on_undefined_lem : (k : PredicateKind) → evaluate_of k i elements Value.Undefined list ≡ on_undefined k
  unfolding evaluate_of
  on_undefined_lem k =
      ap (λ (a : Bool). truth_of a (holds_of k i elements Value.Undefined list)) (none_answers k)
      ∙ each_kind (λ q. truth_of (asks_null q) (holds_of q i elements Value.Undefined list) ≡ on_undefined q) (search) k

-- ---- the literal that a book keeps

literal_tag : (t : ℕ) (x : ℤ) (y : ℕ) → t ≤ 5 → tag_of (literal_from t x y) ≡ t
unfolding literal_from
literal_tag zero x y h = refl
literal_tag (suc zero) x y h = refl
literal_tag (suc (suc zero)) x y h = refl
literal_tag (suc (suc (suc zero))) x y h = refl
literal_tag (suc (suc (suc (suc zero)))) x y h = refl
literal_tag (suc (suc (suc (suc (suc zero))))) x y h = refl
literal_tag (suc (suc (suc (suc (suc (suc t)))))) x y h = absurd (omega arith)

in_range_lem : (b : Bool) (l r : Literal) → (amount_of l).scale ≤ scale_limit → (amount_of r).scale ≤ scale_limit
    → (amount_of (cond b l r)).scale ≤ scale_limit
in_range_lem true l r h k = h
in_range_lem false l r h k = k

pub literal_scale : (t : ℕ) (x : ℤ) (y : ℕ) → y ≤ scale_limit → (amount_of (literal_from t x y)).scale ≤ scale_limit
unfolding literal_from
literal_scale t x y h =
    in_range_lem (eqb t 1) _ _ (omega arith)
    (in_range_lem (eqb t 2) _ _ h
    (in_range_lem (eqb t 3) _ _ (omega arith)
    (in_range_lem (eqb t 4) _ _ (omega arith)
    (in_range_lem (eqb t 5) _ _ (omega arith) (omega arith)))))

-- a predicate as a book keeps it, which suits its attribute, on a value of the attribute's kind
pub suiting_says : (p : Predicate) (v : AttributeValue) (list : List ℤ)
    → suits_of (kind_of p.kind) p.tag (value_number v) ≡ true → says p v list ≡ Undefined → ⊥
unfolding says
suiting_says p v list s =
    let k = kind_of p.kind in
    let same_tag : tag_of (literal_of p) ≡ p.tag = literal_tag p.tag p.number p.scale (suits_tag p.tag (value_number v) k s) in
    suiting_answers k (literal_of p) p.elements v list (ap (λ (t : ℕ). suits_of k t (value_number v)) same_tag ∙ s)
