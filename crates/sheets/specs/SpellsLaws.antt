-- Laws of `Spells` and of shapes: a tree takes up as many entries as it has, and no two trees are spelled by the same entries.
-- Assumes nothing.
use Rattle.std.specs.Prelude.{◌≡◌, refl, true, false, List, ℕ, zero, suc, ◌+◌, ◌≤◌, ℤ}
use Rattle.std.proofs.Math.Path.{sym, subst⁻¹}
use Rattle.std.proofs.Common.{ap, ap₂, ◌∙◌, true≢false, ne_eqb}
use native.Mathlib.Omega.{arith}
use Rattle.std.proofs.lemmas.Bool.{false_from_ne_true}
use Rattle.lists.specs.And.{◌and◌}
use Rattle.attributes.specs.Table.{is_between}
use Rattle.ast.specs.Trees.{Tree, Join, Not, Value, entries}
use Rattle.sheets.specs.declared.Shape.TheVariants.{Stands}
use Rattle.sheets.specs.Spells.{shape_of, Spells}
use Rattle.sheets.specs.TableLaws.{between_told}

-- an entry has one shape
never : {A : Type 0} → ◌≡◌ {A = ℕ} 0 1 → A
never z = absurd (omega arith)

-- a kind is a predicate's exactly where it is outside 1 to 3
pub shape_stands : (k : ℕ) → is_between 1 k 3 ≡ false → shape_of k ≡ Stands
unfolding shape_of is_between ◌and◌
shape_stands k h = rw (ne_eqb k 1 (apart 1 refl), ne_eqb k 2 (apart 2 refl), ne_eqb k 3 (apart 3 refl))
  where
    apart : (m : ℕ) → is_between 1 m 3 ≡ true → ¬ (k ≡ m)
    apart m b e = true≢false (sym b ∙ ap (λ (n : ℕ). is_between 1 n 3) (sym e) ∙ h)

pub stands_shape : (k : ℕ) → shape_of k ≡ Stands → is_between 1 k 3 ≡ false
unfolding shape_of
stands_shape k h = false_from_ne_true _ (λ e. let r = between_told 1 k 3 e in operator k r.0 r.1 h)
  where
    operator : (m : ℕ) → 1 ≤ m → m ≤ 3 → ¬ (shape_of m ≡ Stands)
    operator zero l u e = absurd (omega arith)
    operator (suc zero) l u e = never (cc)
    operator (suc (suc zero)) l u e = never (cc)
    operator (suc (suc (suc zero))) l u e = never (cc)
    operator (suc (suc (suc (suc m)))) l u e = absurd (omega arith)

module _ (first : ℕ) (s : List ℤ) where
  pub spells_size : (t : Tree ℕ) (i j : ℕ) → Spells first s t i j → j ≡ i + entries t
  unfolding Spells
  spells_size (Value p) i j h = h.1
  spells_size (Not a) i j h = let e = spells_size a (i + 1) j h.1 in omega arith
  spells_size (Join o a b) i j h =
      let e = spells_size a (i + 1) h.0 h.2 in
      let f = spells_size b h.0 j h.3 in
      omega arith

  pub one_tree_lem : (t u : Tree ℕ) (i j k : ℕ) → Spells first s t i j → Spells first s u i k → (t ≡ u) × (j ≡ k)
  unfolding Spells
  one_tree_lem (Value p) (Value q) i j k h g = (ap Value (h.0 ∙ sym g.0), h.1 ∙ sym g.1)
  one_tree_lem (Value p) (Not c) i j k h g = let e = h.2 in let f = g.0 in never (cc)
  one_tree_lem (Value p) (Join o c d) i j k h g = let e = h.2 in let f = g.1 in never (cc)
  one_tree_lem (Not a) (Value q) i j k h g = let e = h.0 in let f = g.2 in never (cc)
  one_tree_lem (Not a) (Not c) i j k h g = let r = one_tree_lem a c (i + 1) j k h.1 g.1 in (ap Not r.0, r.1)
  one_tree_lem (Not a) (Join o c d) i j k h g = let e = h.0 in let f = g.1 in never (cc)
  one_tree_lem (Join o a b) (Value q) i j k h g = let e = h.1 in let f = g.2 in never (cc)
  one_tree_lem (Join o a b) (Not c) i j k h g = let e = h.1 in let f = g.0 in never (cc)
  one_tree_lem (Join o a b) (Join q c d) i j k h g =
      let e = h.1 in
      let f = g.1 in
      let same : o ≡ q = cc in
      let left = one_tree_lem a c (i + 1) h.0 g.0 h.2 g.2 in
      let right = one_tree_lem b d h.0 j k h.3 (subst⁻¹ (λ (m : ℕ). Spells first s d m k) left.1 g.3) in
      (rw same (ap₂ (Join q) left.0 right.0), right.1)
