-- The cases of `flatten` and `collect` without the code: what a place to flatten has, and what each leaves of what its calls left.
-- Assumes nothing.
use mathlib.Core.Path.{◌≡◌, refl, sym, ap, subst, subst⁻¹, ◌∙◌}
use mathlib.Core.Bool.{Bool, not}
use mathlib.Core.List.{List}
use Prim.Native.Nat.{ℕ, ◌+◌, ◌*◌, ◌<◌, ◌≤◌}
use native.Mathlib.Omega.{arith}
use lib.ListN.{length, set}
use lib.IntN.{ℤ}
use Rattle.evaluation.specs.declared.Operator.{Operator}
use Rattle.evaluation.specs.declared.Operator.TheVariants.{And, Or}
use Rattle.evaluation.specs.Kleene.{operator_under}
use Rattle.ast.specs.Trees.{Tree, Join, Not, Value, entries, Flats, node, kids}
use Rattle.ast.specs.Flattening.{◌⧺◌, splice, joined, flat, Unlike}
use Rattle.ast.proofs.FlatteningLaws.{splice_own, splice_unlike}
use Rattle.sheets.specs.Entries.{kind_of}
use Rattle.sheets.specs.declared.Shape.{Shape}
use Rattle.sheets.specs.declared.Shape.TheVariants.{Joins, Negates, Stands}
use Rattle.sheets.specs.Spells.{shape_of, Spells}
use Rattle.flattening.specs.Codes.{predicate_code, operator_code, codes_under}
use Rattle.flattening.proofs.CodesLaws.{node_long, kids_most, codes_most, spliced_most}
use Rattle.sheets.specs.SpellsLaws.{spells_size}
use Rattle.flattening.specs.SpellsLaws.{spells_not, spells_join, spells_value, entries_some}
use Rattle.flattening.specs.Writing.{Ready, Wrote, Flattens, Collects}
use Rattle.flattening.specs.declared.Written.{Written}
use Rattle.flattening.proofs.WritingLaws.{wrote_leaf, wrote_both, wrote_node}

-- an operator's tree, flattened, and what it brings to its own operator
module _ (o p : Operator) (negate : Bool) (same : p ≡ operator_under negate o) (t a b : Tree ℕ) (e : t ≡ Join o a b) where
  abbrev children : Flats ℕ
  children = splice p (flat predicate_code negate a) ⧺ splice p (flat predicate_code negate b)

  flat_join : flat predicate_code negate t ≡ node p children
  flat_join =
      ap (flat predicate_code negate) e
      ∙ ap (λ (q : Operator). joined q (flat predicate_code negate a) (flat predicate_code negate b)) (sym same)

  splice_join : splice p (flat predicate_code negate t) ≡ children
  splice_join = ap (splice p) flat_join ∙ splice_own p children

-- ---- how far `collect` is from moving on: it hands an entry of another operator to `flatten`, which hands it back with its own

abbrev apart : Operator → Operator → ℕ
apart And And = 0
apart And Or = 2
apart Or And = 2
apart Or Or = 0

unfoldable pub lag : Operator → Bool → Shape → ℕ
lag parent negate (Joins o) = apart (operator_under negate o) parent
lag parent negate Negates = 2
lag parent negate Stands = 2

-- an entry that is no node of the operator above it
abbrev pub Other : Operator → Bool → Shape → Type 0
Other parent negate (Joins o) = ¬ (parent ≡ operator_under negate o)
Other parent negate Negates = ⊥
Other parent negate Stands = Unit {0}

apart_same : (o p : Operator) → o ≡ p → apart o p ≡ 0
apart_same And And e = refl
apart_same And Or e = cc
apart_same Or And e = cc
apart_same Or Or e = refl

apart_other : (o p : Operator) → ¬ (o ≡ p) → apart o p ≡ 2
apart_other And And n = absurd (n refl)
apart_other And Or n = refl
apart_other Or And n = refl
apart_other Or Or n = absurd (n refl)

apart_most : (o p : Operator) → apart o p ≤ 2
apart_most And And = omega arith
apart_most And Or = omega arith
apart_most Or And = omega arith
apart_most Or Or = omega arith

module _ (parent : Operator) (negate : Bool) where
  pub lag_own : (shape : Shape) (o : Operator) → shape ≡ Joins o → parent ≡ operator_under negate o → lag parent negate shape ≡ 0
  unfolding lag
  lag_own shape o e h = ap (lag parent negate) e ∙ apart_same _ _ (sym h)

  pub lag_other : (shape : Shape) → Other parent negate shape → lag parent negate shape ≡ 2
  unfolding lag
  lag_other (Joins o) n = apart_other _ _ (λ e. n (sym e))
  lag_other Negates n = refl
  lag_other Stands n = refl

  pub lag_most : (shape : Shape) → lag parent negate shape ≤ 2
  unfolding lag
  lag_most (Joins o) = apart_most _ _
  lag_most Negates = omega arith
  lag_most Stands = omega arith

-- ---- what a place to flatten has

pub record Room (first : ℕ) (s : List ℤ) (i at size : ℕ) : Type 0 where
  pub inside : first + 5 * i + 5 ≤ length s
  pub small : i < 128
  pub room : at < size

module _ (first : ℕ) (s : List ℤ) (i at size : ℕ) (rd : Ready first s i at size) where
  pub ready_room : Room first s i at size
  ready_room =
      let e = spells_size first s rd.tree i rd.end rd.spells in
      let p = entries_some rd.tree in
      let q = rd.inside in
      let r = rd.small in
      let u = rd.room in
      record { inside = omega arith; small = omega arith; room = omega arith }

  pub ready_not : shape_of (kind_of first s i) ≡ Negates → Ready first s (i + 1) at size
  ready_not h =
      let v = spells_not first s rd.tree i rd.end h rd.spells in
      let u = rd.room in
      record { tree = v.0; end = rd.end; spells = v.2; inside = rd.inside; small = rd.small; room = omega arith }

  -- after an operator's children: they are few, and there is a place for it
  pub ready_node : (o : Operator) → shape_of (kind_of first s i) ≡ Joins o → (negate : Bool) (own : Operator)
      → own ≡ operator_under negate o
      → (out out' : List ℕ) (r : Written) → Collects own first s i negate at out out' r → (r.count ≤ 128) × (r.at < size)
  ready_node o h negate own same out out' r collected =
      let v = spells_join first s o rd.tree i rd.end h rd.spells in
      let w = collected rd.tree rd.end rd.spells in
      let fs = children o own negate same rd.tree v.0 v.1 v.3 in
      let whole = flat_join o own negate same rd.tree v.0 v.1 v.3 in
      let inside = splice_join o own negate same rd.tree v.0 v.1 v.3 in
      let e = spells_size first s rd.tree i rd.end rd.spells in
      let l : 1 + length (codes_under fs) ≤ entries rd.tree =
      omega (arith, node_long own fs, rw whole at (codes_most predicate_code negate rd.tree)) in
      let m = kids_most fs in
      let a : r.at ≡ at + length (codes_under fs) = rw inside at w.ended in
      let b : r.count ≡ length (kids fs) = rw inside at w.many in
      let q = rd.small in
      let u = rd.room in
      (omega arith, omega arith)

  module _ (o : Operator) (h : shape_of (kind_of first s i) ≡ Joins o) where
    pub ready_left : Ready first s (i + 1) at size
    ready_left =
        let v = spells_join first s o rd.tree i rd.end h rd.spells in
        let e = spells_size first s v.1 v.2 rd.end v.5 in
        let q = rd.inside in
        let r = rd.small in
        let u = rd.room in
        record { tree = v.0; end = v.2; spells = v.4; inside = omega arith; small = omega arith; room = omega arith }

    module _ (p : Operator) (negate : Bool) (out out₁ : List ℕ) (left : Written)
        (collected : Collects p first s (i + 1) negate at out out₁ left) where
      -- after the left subtree the right one stands there, and the reading has moved on
      pub ready_right : Ready first s left.next left.at size × (i < left.next)
      ready_right =
          let v = spells_join first s o rd.tree i rd.end h rd.spells in
          let w = collected v.0 v.2 v.4 in
          let e = spells_size first s v.0 (i + 1) v.2 v.4 in
          let l = spliced_most predicate_code p negate v.0 in
          let a = w.read in
          let b = w.ended in
          let u = rd.room in (
            record {
              tree = v.1;
              end = rd.end;
              spells = subst⁻¹ (λ (k : ℕ). Spells first s v.1 k rd.end) a v.5;
              inside = rd.inside;
              small = rd.small;
              room = omega arith;
            },
            omega arith,
          )

      -- the children of both are few
      pub few : (out₂ : List ℕ) (right : Written) → Collects p first s left.next negate left.at out₁ out₂ right
          → left.count + right.count ≤ 128
      few out₂ right collected₂ =
          let v = spells_join first s o rd.tree i rd.end h rd.spells in
          let w = collected v.0 v.2 v.4 in
          let w₂ = collected₂ v.1 rd.end (subst⁻¹ (λ (k : ℕ). Spells first s v.1 k rd.end) w.read v.5) in
          let fs = splice p (flat predicate_code negate v.0) in
          let gs = splice p (flat predicate_code negate v.1) in
          omega (
            arith,
            spells_size first s v.0 (i + 1) v.2 v.4,
            spells_size first s v.1 v.2 rd.end v.5,
            spliced_most predicate_code p negate v.0,
            spliced_most predicate_code p negate v.1,
            kids_most fs,
            kids_most gs,
            w.many,
            w₂.many,
            rd.small,
          )

-- ---- what each case leaves

module _ (first : ℕ) (s : List ℤ) (i : ℕ) (negate : Bool) (at : ℕ) (out : List ℕ) where
  module _ (h : shape_of (kind_of first s i) ≡ Negates) (out' : List ℕ) (r : Written) where
    pub flatten_not : Flattens first s (i + 1) (not negate) at out out' r → Flattens first s i negate at out out' r
    flatten_not f t j sp = let v = spells_not first s t i j h sp in rw v.1 (f v.0 j v.2)

    pub collect_not : (p : Operator) → Collects p first s (i + 1) (not negate) at out out' r → Collects p first s i negate at out out' r
    collect_not p f t j sp = let v = spells_not first s t i j h sp in rw v.1 (f v.0 j v.2)

  pub flatten_predicate : shape_of (kind_of first s i) ≡ Stands
      → Flattens first s i negate at out (set out at (predicate_code negate i)) (record { next = i + 1; at = at + 1; count = 1 })
  flatten_predicate h t j sp =
      let v = spells_value first s t i j h sp in
      rw (v.0, v.1) (wrote_leaf (predicate_code negate i) i at out)

  module _ (o : Operator) (h : shape_of (kind_of first s i) ≡ Joins o) (p : Operator) (same : p ≡ operator_under negate o) where
    pub flatten_node : (out' : List ℕ) (r : Written) → Collects p first s i negate at out out' r
        → Flattens first s i negate at out (set out' r.at (operator_code p r.count))
        (record { next = r.next; at = r.at + 1; count = 1 })
    flatten_node out' r collected t j sp =
        let v = spells_join first s o t i j h sp in
        let fs = children o p negate same t v.0 v.1 v.3 in
        let w : Wrote fs j at out out' r = rw (splice_join o p negate same t v.0 v.1 v.3) at (collected t j sp) in
        rw (flat_join o p negate same t v.0 v.1 v.3) (wrote_node p fs j at out out' r w)

    pub collect_both : (out₁ out₂ : List ℕ) (left right : Written)
        → Collects p first s (i + 1) negate at out out₁ left → Collects p first s left.next negate left.at out₁ out₂ right
        → Collects p first s i negate at out out₂ (record { next = right.next; at = right.at; count = left.count + right.count })
    collect_both out₁ out₂ left right collected collected₂ t j sp =
        let v = spells_join first s o t i j h sp in
        let w = collected v.0 v.2 v.4 in
        let w₂ = collected₂ v.1 j (subst⁻¹ (λ (k : ℕ). Spells first s v.1 k j) w.read v.5) in
        let fs = splice p (flat predicate_code negate v.0) in
        let gs = splice p (flat predicate_code negate v.1) in
        rw (splice_join o p negate same t v.0 v.1 v.3) (wrote_both fs gs v.2 j at out out₁ out₂ left right w w₂)

  -- what is no node of the operator above it stands as it is
  module _ (p : Operator) (other : Other p negate (shape_of (kind_of first s i))) where
    unlike : (t : Tree ℕ) (j : ℕ) → Spells first s t i j → Unlike p (flat predicate_code negate t)
    unfolding Spells
    unlike (Join o a b) j sp = subst (Other p negate) sp.1 other
    unlike (Not a) j sp = absurd (subst (Other p negate) sp.0 other)
    unlike (Value k) j sp = tt

    pub collect_other : (out' : List ℕ) (r : Written) → Flattens first s i negate at out out' r → Collects p first s i negate at out out' r
    collect_other out' r f t j sp = rw (splice_unlike p (flat predicate_code negate t) (unlike t j sp)) (f t j sp)
