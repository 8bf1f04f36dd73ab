-- Rules as trees: `Tree` is a rule as its sheet spells it (`Node` in the Rust), `Flat` a rule as the book keeps it (`OptimizedNode`).
-- And and Or share a constructor and the operator stands beside it. A predicate may be of any type. Laws in `TreesLaws`.
-- Assumes nothing: these are definitions.
use Rattle.std.specs.Prelude.{List, [], ◌∷◌, ℕ, ◌+◌}
use Rattle.evaluation.specs.declared.Truth.{Truth}
use Rattle.evaluation.specs.declared.Operator.{Operator}
use Rattle.evaluation.specs.Kleene.{not_of, join_of, join_all}

pub data Tree (P : Type 0) : Type 0 where
  Join : Operator → Tree P → Tree P → Tree P
  Not : Tree P → Tree P
  Value : P → Tree P

-- Kleene's value of a tree, where v is what each predicate is worth
abbrev pub value : {P : Type 0} → (P → Truth) → Tree P → Truth
value v (Join o a b) = join_of o (value v a) (value v b)
value v (Not a) = not_of (value v a)
value v (Value p) = v p

-- the entries of a tree's sheet
abbrev pub entries : {P : Type 0} → Tree P → ℕ
entries (Join o a b) = 1 + entries a + entries b
entries (Not a) = 1 + entries a
entries (Value p) = 1

-- A flattened rule is a predicate, or an operator over any number of flattened rules.
-- These are a type beside it, because a list of `Flat` may not stand in the definition of `Flat`.
mutual
  pub data Flat (Q : Type 0) : Type 0 where
    leaf : Q → Flat Q
    node : Operator → Flats Q → Flat Q

  pub data Flats (Q : Type 0) : Type 0 where
    done : Flats Q
    more : Flat Q → Flats Q → Flats Q

-- children as a list, and a list as children
abbrev pub kids : {Q : Type 0} → Flats Q → List (Flat Q)
kids done = []
kids (more f fs) = f ∷ kids fs

abbrev pub trees : {Q : Type 0} → List (Flat Q) → Flats Q
trees [] = done
trees (f ∷ fs) = more f (trees fs)

-- what is worked out from the predicates upwards: v of a predicate, and of a node `join o` of what its children gave
abbrev mutual
  pub fold : {Q A : Type 0} → (Q → A) → (Operator → List A → A) → Flat Q → A
  fold v join (leaf q) = v q
  fold v join (node o fs) = join o (folds v join fs)

  pub folds : {Q A : Type 0} → (Q → A) → (Operator → List A → A) → Flats Q → List A
  folds v join done = []
  folds v join (more f fs) = fold v join f ∷ folds v join fs

-- Kleene's value of a flattened rule
abbrev pub flat_value : {Q : Type 0} → (Q → Truth) → Flat Q → Truth
flat_value v = fold v join_all
