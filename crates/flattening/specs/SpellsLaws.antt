-- What the kind of an entry says of the tree that stands there. Assumes nothing.
use Rattle.std.proofs.Math.Path.{◌≡◌, refl, ap}
use Rattle.std.proofs.Common.{sym, ◌∙◌, arith, ne_eqb}
use Rattle.std.specs.Prelude.{true, false, ◌||◌, List, ℕ, ◌+◌, ◌≤◌, eqb, ℤ}
use Rattle.std.proofs.Math.Decide.{ℕ_discrete}
use Rattle.evaluation.specs.declared.Operator.{Operator}
use Rattle.evaluation.specs.declared.Operator.TheVariants.{And, Or}
use Rattle.ast.specs.Trees.{Tree, Join, Not, Value, entries}
use Rattle.sheets.specs.Entries.{kind_of}
use Rattle.sheets.specs.declared.Shape.TheVariants.{Joins, Negates, Stands}
use Rattle.sheets.specs.Spells.{shape_of, Spells}
use Rattle.flattening.specs.Kinds.{kind_number, operator_numbered}

-- ---- kinds and shapes

pub shape_joins : (o : Operator) → shape_of (kind_number o) ≡ Joins o
unfolding shape_of
shape_joins And = refl
shape_joins Or = refl

numbered : (o : Operator) → operator_numbered (kind_number o) ≡ o
numbered And = refl
numbered Or = refl

-- a kind is an operator's, Not's or a predicate's
data Kind (k : ℕ) : Type 0 where
  joined : (o : Operator) → k ≡ kind_number o → shape_of k ≡ Joins o → Kind k
  negated : k ≡ 3 → shape_of k ≡ Negates → Kind k
  standing : (eqb k 1 || eqb k 2) ≡ false → shape_of k ≡ Stands → Kind k

kind : (k : ℕ) → Kind k
unfolding shape_of
kind k = go (ℕ_discrete k 1) (ℕ_discrete k 2) (ℕ_discrete k 3)
  where
    go : Dec (k ≡ 1) → Dec (k ≡ 2) → Dec (k ≡ 3) → Kind k
    go (yes e) b c = joined And e (ap shape_of e ∙ shape_joins And)
    go (no a) (yes e) c = joined Or e (ap shape_of e ∙ shape_joins Or)
    go (no a) (no b) (yes e) = negated e (ap shape_of e)
    go (no a) (no b) (no c) = standing (rw (ne_eqb k 1 a, ne_eqb k 2 b)) (rw (ne_eqb k 1 a, ne_eqb k 2 b, ne_eqb k 3 c))

pub shape_negates : shape_of 3 ≡ Negates
unfolding shape_of
shape_negates = refl

module _ (k : ℕ) where
  pub negates_kind : shape_of k ≡ Negates → k ≡ 3
  negates_kind h = go (kind k)
    where
      go : Kind k → k ≡ 3
      go (joined o e s) = absurd (let z : ◌≡◌ {A = ℕ} 0 1 = cc in omega arith)
      go (negated e s) = e
      go (standing t s) = absurd (let z : ◌≡◌ {A = ℕ} 0 1 = cc in omega arith)

  pub joins_kind : (o : Operator) → shape_of k ≡ Joins o → k ≡ kind_number o
  joins_kind o h = go (kind k)
    where
      go : Kind k → k ≡ kind_number o
      go (joined o' e s) = let same : o' ≡ o = cc in e ∙ ap kind_number same
      go (negated e s) = absurd (let z : ◌≡◌ {A = ℕ} 0 1 = cc in omega arith)
      go (standing t s) = absurd (let z : ◌≡◌ {A = ℕ} 0 1 = cc in omega arith)

  -- by the test that the code makes
  pub shape_operator : (eqb k 1 || eqb k 2) ≡ true → shape_of k ≡ Joins (operator_numbered k)
  shape_operator h = go (kind k)
    where
      go : Kind k → shape_of k ≡ Joins (operator_numbered k)
      go (joined o e s) = s ∙ ap Joins (sym (ap operator_numbered e ∙ numbered o))
      go (negated e s) = absurd (let f : false ≡ true = rw e at h in let z : ◌≡◌ {A = ℕ} 0 1 = cc in omega arith)
      go (standing t s) = absurd (let z : ◌≡◌ {A = ℕ} 0 1 = cc in omega arith)

  pub shape_stands : (k ≡ 3 → ⊥) → (eqb k 1 || eqb k 2) ≡ false → shape_of k ≡ Stands
  shape_stands n h = go (kind k)
    where
      tested : (o : Operator) → (eqb (kind_number o) 1 || eqb (kind_number o) 2) ≡ true
      tested And = refl
      tested Or = refl

      go : Kind k → shape_of k ≡ Stands
      go (joined o e s) =
          let f : (eqb (kind_number o) 1 || eqb (kind_number o) 2) ≡ false = rw e at h in
          let g = tested o in
          absurd (let z : ◌≡◌ {A = ℕ} 0 1 = cc in omega arith)
      go (negated e s) = absurd (n e)
      go (standing t s) = s

-- ---- the tree that stands at an entry, by the entry's shape

module _ (first : ℕ) (s : List ℤ) where
  pub spells_not : (t : Tree ℕ) (i j : ℕ) → shape_of (kind_of first s i) ≡ Negates → Spells first s t i j
      → (a : Tree ℕ) × (t ≡ Not a) × Spells first s a (i + 1) j
  unfolding Spells
  spells_not (Value p) i j e h = let f = h.2 in absurd (let z : ◌≡◌ {A = ℕ} 0 1 = cc in omega arith)
  spells_not (Not a) i j e h = (a, refl, h.1)
  spells_not (Join o a b) i j e h = let f = h.1 in absurd (let z : ◌≡◌ {A = ℕ} 0 1 = cc in omega arith)

  pub spells_join : (o : Operator) (t : Tree ℕ) (i j : ℕ) → shape_of (kind_of first s i) ≡ Joins o → Spells first s t i j
      → (a : Tree ℕ) × (b : Tree ℕ) × (m : ℕ) × (t ≡ Join o a b) × Spells first s a (i + 1) m × Spells first s b m j
  unfolding Spells
  spells_join o (Value p) i j e h = let f = h.2 in absurd (let z : ◌≡◌ {A = ℕ} 0 1 = cc in omega arith)
  spells_join o (Not a) i j e h = let f = h.0 in absurd (let z : ◌≡◌ {A = ℕ} 0 1 = cc in omega arith)
  spells_join o (Join o' a b) i j e h =
      let f = h.1 in
      let same : o' ≡ o = cc in
      (a, b, h.0, ap (λ (q : Operator). Join q a b) same, h.2, h.3)

  pub spells_value : (t : Tree ℕ) (i j : ℕ) → shape_of (kind_of first s i) ≡ Stands → Spells first s t i j → (t ≡ Value i) × (j ≡ i + 1)
  unfolding Spells
  spells_value (Value p) i j e h = (ap Value h.0, h.1)
  spells_value (Not a) i j e h = let f = h.0 in absurd (let z : ◌≡◌ {A = ℕ} 0 1 = cc in omega arith)
  spells_value (Join o a b) i j e h = let f = h.1 in absurd (let z : ◌≡◌ {A = ℕ} 0 1 = cc in omega arith)

pub entries_some : (t : Tree ℕ) → 1 ≤ entries t
entries_some (Value p) = omega arith
entries_some (Not a) = omega arith
entries_some (Join o a b) = omega arith
