-- What suits, held to the arms of `validate_predicate` in the Rust, in their order: one computed test over every kind, every tag and every
-- kind of attribute. A kind and the one that says the opposite suit the same; nothing suits a value without a kind; and what suits has one
-- of the six tags.
-- Assumes nothing.
use Rattle.std.specs.Prelude.{◌≡◌, refl, Bool, true, false, cond, not, ◌&&◌, ◌||◌, List, [], ◌∷◌, ℕ, ◌≤◌, eqb}
use Rattle.std.proofs.Math.Bool.{and-false}
use native.Mathlib.Omega.{arith}
use borrow.Author.Tests.{eqb-true}
use Rattle.attributes.specs.declared.AttributeKind.{AttributeKind}
use Rattle.attributes.specs.declared.AttributeKind.TheVariants.{Boolean, Integer, Float, String, IntegerList, StringList}
use Rattle.attributes.specs.Kinds.{kind_number}
use Rattle.lists.specs.BoolLaws.{and_left}
use Rattle.predicates.specs.declared.NullOperator.{NullOperator}
use Rattle.predicates.specs.declared.NullOperator.TheVariants.{IsNull, IsNotNull, IsEmpty, IsNotEmpty}
use Rattle.predicates.specs.declared.PredicateKind.{PredicateKind}
use Rattle.predicates.specs.declared.PredicateKind.TheVariants.{Variable, NegatedVariable, Set, Comparison, Equality, Null}
use Rattle.predicates.specs.declared.PredicateKind.TheVariants.{List as Lists}
use Rattle.predicates.specs.Kinds.{kinds, negated_of}
use Rattle.predicates.specs.Suits.{pair, null_suits, suits_of}
use Rattle.predicates.specs.EachKind.{each_kind}

-- an arm: the tag of the literal and the kind of the attribute
record Arm : Type 0 where
  tag : ℕ
  attribute : AttributeKind

abbrev with : ℕ → AttributeKind → Arm
with t a = record { tag = t; attribute = a }

abbrev null_arms : NullOperator → List Arm
null_arms IsEmpty = with 0 StringList ∷ with 0 IntegerList ∷ []
null_arms IsNotEmpty = with 0 StringList ∷ with 0 IntegerList ∷ []
null_arms IsNull = with 0 Integer ∷ with 0 Float ∷ with 0 String ∷ with 0 Boolean ∷ []
null_arms IsNotNull = with 0 Integer ∷ with 0 Float ∷ with 0 String ∷ with 0 Boolean ∷ []

abbrev arms : PredicateKind → List Arm
arms (Set o) = with 5 String ∷ with 4 Integer ∷ []
arms (Comparison o) = with 1 Integer ∷ with 2 Float ∷ []
arms (Equality o) = with 1 Integer ∷ with 2 Float ∷ with 3 String ∷ []
arms (Lists o) = with 4 IntegerList ∷ with 5 StringList ∷ []
arms Variable = with 0 Boolean ∷ []
arms NegatedVariable = with 0 Boolean ∷ []
arms (Null o) = null_arms o

abbrev among : ℕ → ℕ → List Arm → Bool
among t a [] = false
among t a (r ∷ rs) = (eqb t r.tag && eqb a (kind_number r.attribute)) || among t a rs

abbrev for_all : {A : Type 0} → (A → Bool) → List A → Bool
for_all f [] = true
for_all f (x ∷ l) = f x && for_all f l

abbrev same : Bool → Bool → Bool
same a b = cond a b (not b)

-- the six tags and the six kinds of attributes
abbrev tags : List ℕ
tags = 0 ∷ 1 ∷ 2 ∷ 3 ∷ 4 ∷ 5 ∷ []

abbrev attributes : List ℕ
attributes = 1 ∷ 2 ∷ 3 ∷ 4 ∷ 5 ∷ 6 ∷ []

pub suits_as_validated : for_all (λ k. for_all (λ t. for_all (λ a. same (suits_of k t a) (among t a (arms k))) attributes) tags) kinds
    ≡ true
unfolding kinds pair
suits_as_validated = refl

pub suits_negated : (k : PredicateKind) (t a : ℕ) → suits_of (negated_of k) t a ≡ suits_of k t a
suits_negated = each_kind (λ k. (t a : ℕ) → suits_of (negated_of k) t a ≡ suits_of k t a) (search)

-- ---- undefined has no kind

pair_none : (t wanted : ℕ) (kind : AttributeKind) → pair t 0 wanted kind ≡ false
unfolding pair
pair_none t wanted Boolean = and-false (eqb t wanted)
pair_none t wanted Integer = and-false (eqb t wanted)
pair_none t wanted Float = and-false (eqb t wanted)
pair_none t wanted String = and-false (eqb t wanted)
pair_none t wanted IntegerList = and-false (eqb t wanted)
pair_none t wanted StringList = and-false (eqb t wanted)

pub suits_none : (k : PredicateKind) (t : ℕ) → suits_of k t 0 ≡ false
suits_none =
    each_kind (λ k. (t : ℕ) → suits_of k t 0 ≡ false)
    (record {
      variable = (λ t. simp pair_none, λ t. simp pair_none);
      set = (λ t. simp pair_none, λ t. simp pair_none);
      comparison = (λ t. simp pair_none, λ t. simp pair_none, λ t. simp pair_none, λ t. simp pair_none);
      equality = (λ t. simp pair_none, λ t. simp pair_none);
      list = (λ t. simp pair_none, λ t. simp pair_none, λ t. simp pair_none, λ t. simp pair_none);
      null = (λ t. simp pair_none, λ t. simp pair_none, λ t. simp pair_none, λ t. simp pair_none);
    })

-- ---- the tags

either : {X : Type 0} (a b : Bool) → (a ≡ true → X) → (b ≡ true → X) → (a || b) ≡ true → X
either true b f g e = f refl
either false b f g e = g e

module _ (t a : ℕ) where
  pair_tag : (wanted : ℕ) (kind : AttributeKind) → wanted ≤ 5 → pair t a wanted kind ≡ true → t ≤ 5
  unfolding pair
  pair_tag wanted kind h e =
      let same_tag : t ≡ wanted = eqb-true t wanted (and_left (eqb t wanted) (eqb a (kind_number kind)) e) in
      omega arith

  two_tags : (u : ℕ) (x : AttributeKind) (w : ℕ) (y : AttributeKind) → u ≤ 5 → w ≤ 5 → (pair t a u x || pair t a w y) ≡ true → t ≤ 5
  two_tags u x w y g h = either (pair t a u x) (pair t a w y) (pair_tag u x g) (pair_tag w y h)

  scalar_tags : null_suits IsNull t a ≡ true → t ≤ 5
  scalar_tags =
      either (pair t a 0 Boolean || pair t a 0 Integer) (pair t a 0 Float || pair t a 0 String)
      (two_tags 0 Boolean 0 Integer (omega arith) (omega arith))
      (two_tags 0 Float 0 String (omega arith) (omega arith))

  pub suits_tag : (k : PredicateKind) → suits_of k t a ≡ true → t ≤ 5
  suits_tag Variable = pair_tag 0 Boolean (omega arith)
  suits_tag NegatedVariable = pair_tag 0 Boolean (omega arith)
  suits_tag (Set o) = two_tags 4 Integer 5 String (omega arith) (omega arith)
  suits_tag (Comparison o) = two_tags 1 Integer 2 Float (omega arith) (omega arith)
  suits_tag (Equality o) =
      either (pair t a 1 Integer || pair t a 2 Float) (pair t a 3 String)
      (two_tags 1 Integer 2 Float (omega arith) (omega arith))
      (pair_tag 3 String (omega arith))
  suits_tag (Lists o) = two_tags 4 IntegerList 5 StringList (omega arith) (omega arith)
  suits_tag (Null IsNull) = scalar_tags
  suits_tag (Null IsNotNull) = scalar_tags
  suits_tag (Null IsEmpty) = two_tags 0 IntegerList 0 StringList (omega arith) (omega arith)
  suits_tag (Null IsNotEmpty) = two_tags 0 IntegerList 0 StringList (omega arith) (omega arith)
