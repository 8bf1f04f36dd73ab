-- Reading the entries by a count of the subtrees still owed finds exactly the tree that they spell: `owed_tree` and `tree_owed` are the two
-- directions. Assumes nothing.
use Rattle.std.specs.Prelude.{◌≡◌, true, List, eqb, ℤ}
use Rattle.std.proofs.Math.Path.{refl, ap, subst}
use Rattle.std.proofs.Common.{sym, ◌∙◌, add-one}
use Prim.Native.Nat.{ℕ, zero, suc, ◌+◌, ◌-◌, ◌≤◌, ◌<◌}
use native.Mathlib.Omega.{arith}
use borrow.Author.Tests.{ltb-true, lt-ltb, eqb-true, eq-eqb}
use Rattle.lists.specs.AndLaws.{and_left, and_right, and_both}
use Rattle.lists.specs.Below.{all_below}
use Rattle.lists.specs.BelowLaws.{below_none, below_more, below_each, below_all}
use Rattle.ast.specs.Trees.{Tree, Join, Not, Value}
use Rattle.sheets.specs.Entries.{kind_of}
use Rattle.sheets.specs.declared.Shape.{Shape}
use Rattle.sheets.specs.declared.Shape.TheVariants.{Joins, Negates, Stands}
use Rattle.sheets.specs.Spells.{shape_of, Spells}
use Rattle.sheets.specs.Form.{subtrees, owed_at, owes, one_tree}
use Rattle.sheets.proofs.SheetTests.{sheet_tests}
use Rattle.sheets.specs.RangeLaws.{Range, range_one, range_more, range_join}

pub subtrees_most : (h : Shape) → subtrees h ≤ 2
subtrees_most (Joins o) = omega arith
subtrees_most Negates = omega arith
subtrees_most Stands = omega arith

module _ (first : ℕ) (s : List ℤ) where
  pub owed_first : owed_at first s 0 ≡ 1
  unfolding owed_at
  owed_first = refl

  pub owed_next : (i : ℕ) → owed_at first s (i + 1) ≡ owed_at first s i + subtrees (shape_of (kind_of first s i)) - 1
  unfolding owed_at
  owed_next i = ap (owed_at first s) (add-one i)

  -- ---- from the count to the tree

  -- the entries from i up to j are k trees
  abbrev Forest : ℕ → ℕ → ℕ → Type 0
  Forest zero i j = i ≡ j
  Forest (suc k) i j = (t : Tree ℕ) × (m : ℕ) × Spells first s t i m × Forest k m j

  -- an entry before as many trees as it asks for, and k more
  plant : (h : Shape) (i j k m : ℕ) → shape_of (kind_of first s i) ≡ h → m ≡ k + subtrees h → Forest m (i + 1) j → Forest (suc k) i j
  unfolding Spells
  plant (Joins o) i j k m e f w =
      let two : m ≡ suc (suc k) = omega arith in
      let v : Forest (suc (suc k)) (i + 1) j = subst (λ (n : ℕ). Forest n (i + 1) j) two w in
      let b = v.3 in
      (Join o v.0 b.0, b.1, (v.1, e, v.2, b.2), b.3)
  plant Negates i j k m e f w =
      let one : m ≡ suc k = omega arith in
      let v : Forest (suc k) (i + 1) j = subst (λ (n : ℕ). Forest n (i + 1) j) one w in
      (Not v.0, v.1, (e, v.2), v.3)
  plant Stands i j k m e f w =
      let none : m ≡ k = omega arith in
      (Value i, i + 1, (refl, refl, e), subst (λ (n : ℕ). Forest n (i + 1) j) none w)

  grow : (d i : ℕ) → ((m : ℕ) → m < i + d → 0 < owed_at first s m) → owed_at first s (i + d) ≡ 0 → Forest (owed_at first s i) i (i + d)
  grow zero i owed end =
      let e : i + 0 ≡ i = omega arith in
      let none : owed_at first s i ≡ 0 = ap (owed_at first s) (sym e) ∙ end in
      rw (none, e) refl
  grow (suc d) i owed end =
      let e : i + suc d ≡ i + 1 + d = omega arith in
      let some = owed i (omega arith) in
      let k = owed_at first s i - 1 in
      let here : owed_at first s i ≡ suc k = omega arith in
      let next = owed_next i in
      let w = grow d (i + 1) (λ m l. owed m (omega arith)) (ap (owed_at first s) (sym e) ∙ end) in
      let more : owed_at first s (i + 1) ≡ k + subtrees (shape_of (kind_of first s i)) = omega arith in
      let v = subst (λ (j : ℕ). Forest (owed_at first s (i + 1)) (i + 1) j) (sym e) w in
      subst (λ (o : ℕ). Forest o i (i + suc d)) (sym here) (plant (shape_of (kind_of first s i)) i (i + suc d) k _ refl more v)

  pub owed_tree : (n : ℕ) → one_tree first s n ≡ true → (t : Tree ℕ) × Spells first s t 0 n
  unfolding one_tree
  owed_tree n h =
      let each = below_each (owes first s) n (and_left (all_below (owes first s) n) (eqb (owed_at first s n) 0) h) in
      let end = eqb-true (owed_at first s n) 0 (and_right (all_below (owes first s) n) (eqb (owed_at first s n) 0) h) in
      let e : 0 + n ≡ n = omega arith in
      let w = grow n 0 (λ m l. ltb-true 0 (owed_at first s m) (each m (omega arith))) (ap (owed_at first s) e ∙ end) in
      let v : Forest 1 0 (0 + n) = subst (λ (o : ℕ). Forest o 0 (0 + n)) owed_first w in
      (v.0, subst (λ (j : ℕ). Spells first s v.0 0 j) (v.3 ∙ e) v.2)

  -- ---- from the tree to the count

  -- a tree from i up to j leaves one subtree less owed, and each of its entries was owed
  pub record Paid (i j k : ℕ) : Type 0 where
    pub left : owed_at first s j ≡ k
    pub owed : Range (λ m. 0 < owed_at first s m) i j

  pay : (t : Tree ℕ) (i j k : ℕ) → Spells first s t i j → owed_at first s i ≡ suc k → Paid i j k
  unfolding Spells
  pay (Value p) i j k h o =
      let next = owed_next i in
      let one : j ≡ i + 1 = h.1 in
      let none : subtrees (shape_of (kind_of first s i)) ≡ 0 = ap subtrees h.2 in
      let left : owed_at first s (i + 1) ≡ k = omega arith in
      record { left = ap (owed_at first s) one ∙ left; owed = rw one (range_one (λ m. 0 < owed_at first s m) i (omega arith)) }
  pay (Not a) i j k h o =
      let next = owed_next i in
      let one : subtrees (shape_of (kind_of first s i)) ≡ 1 = ap subtrees h.0 in
      let r = pay a (i + 1) j k h.1 (omega arith) in
      record { left = r.left; owed = range_more i j (omega arith) r.owed }
  pay (Join o a b) i j k h q =
      let next = owed_next i in
      let two : subtrees (shape_of (kind_of first s i)) ≡ 2 = ap subtrees h.1 in
      let r = pay a (i + 1) h.0 (suc k) h.2 (omega arith) in
      let v = pay b h.0 j k h.3 r.left in
      record {
        left = v.left;
        owed = range_more i j (omega arith) (range_join (i + 1) h.0 j r.owed v.owed);
      }

  pub tree_owed : (n : ℕ) → (t : Tree ℕ) × Spells first s t 0 n → one_tree first s n ≡ true
  unfolding one_tree
  tree_owed n t =
      let r = pay t.0 0 n 0 t.1 owed_first in
      and_both _ _ (below_all (owes first s) n (λ m l. lt-ltb 0 (owed_at first s m) (r.owed m (omega arith) l))) (eq-eqb _ 0 r.left)

-- ---- what a loop over the entries needs

pub subtrees_few : (first : ℕ) (s : List ℤ) (i : ℕ) → subtrees (shape_of (kind_of first s i)) ≤ 2
subtrees_few first s i = subtrees_most _

pub ruleset owed_steps = (sheet_tests, owed_first, owed_next, subtrees_few, below_none, below_more)
