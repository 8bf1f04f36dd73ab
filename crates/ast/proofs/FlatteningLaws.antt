-- Laws of flattening: it keeps the value of a rule, whatever the predicates are worth, and what it leaves is flattened. Assumes nothing.
use Rattle.std.specs.Prelude.{◌≡◌, refl, Bool, true, false, not, List, ◌∷◌, ◌++◌, ◌≤◌, length}
use Rattle.std.proofs.Common.{sym, ap, ap₂, ◌∙◌, arith, length-append}
use Rattle.evaluation.specs.declared.Truth.{Truth}
use Rattle.evaluation.specs.declared.Operator.{Operator}
use Rattle.evaluation.specs.declared.Operator.TheVariants.{And, Or}
use Rattle.evaluation.specs.Kleene.{join_of, operator_under, truth_under, join_all}
use Rattle.evaluation.specs.KleeneLaws.{not_not, de_morgan_under, join_unit_right, join_all_append}
use Rattle.ast.specs.Trees.{Tree, Join, Not, Value, value, Flat, leaf, node, Flats, done, more, kids, fold, folds, flat_value}
use Rattle.ast.specs.OperatorLaws.{And≢Or}
use Rattle.ast.specs.Flattening.{one, ◌⧺◌, splice, joined, flat, optimize, Unlike, Flattened, FlattenedUnder}

-- ---- children after children

module _ {Q : Type 0} where
  pub kids_append : (fs gs : Flats Q) → kids (fs ⧺ gs) ≡ kids fs ++ kids gs
  kids_append done gs = refl
  kids_append (more f fs) gs = ap (λ (l : List (Flat Q)). f ∷ l) (kids_append fs gs)

  pub folds_append : {A : Type 0} (v : Q → A) (join : Operator → List A → A) (fs gs : Flats Q)
      → folds v join (fs ⧺ gs) ≡ folds v join fs ++ folds v join gs
  folds_append v join done gs = refl
  folds_append {A = A} v join (more f fs) gs = ap (λ (l : List A). fold v join f ∷ l) (folds_append v join fs gs)

  -- what a rule brings to its own operator, and to another
  pub splice_own : (o : Operator) (fs : Flats Q) → splice o (node o fs) ≡ fs
  splice_own And fs = refl
  splice_own Or fs = refl

  pub splice_unlike : (o : Operator) (f : Flat Q) → Unlike o f → splice o f ≡ one f
  splice_unlike o (leaf q) u = refl
  splice_unlike And (node And fs) u = absurd (u refl)
  splice_unlike And (node Or fs) u = refl
  splice_unlike Or (node And fs) u = refl
  splice_unlike Or (node Or fs) u = absurd (u refl)

-- ---- the value

module _ {Q : Type 0} (w : Q → Truth) where
  splice_value : (o : Operator) (f : Flat Q) → join_all o (folds w join_all (splice o f)) ≡ flat_value w f
  splice_value o (leaf q) = join_unit_right o (w q)
  splice_value And (node And fs) = refl
  splice_value And (node Or fs) = join_unit_right And (flat_value w (node Or fs))
  splice_value Or (node And fs) = join_unit_right Or (flat_value w (node And fs))
  splice_value Or (node Or fs) = refl

  joined_value : (o : Operator) (f g : Flat Q) → flat_value w (joined o f g) ≡ join_of o (flat_value w f) (flat_value w g)
  joined_value o f g =
      ap (join_all o) (folds_append w join_all (splice o f) (splice o g))
      ∙ join_all_append o (folds w join_all (splice o f)) (folds w join_all (splice o g))
      ∙ ap₂ (join_of o) (splice_value o f) (splice_value o g)

-- where the kept predicate is worth what the sheet's is worth, or Kleene's Not of it where it was negated
module _ {P Q : Type 0} (lit : Bool → P → Q) (v : P → Truth) (w : Q → Truth)
    (worth : (negate : Bool) (p : P) → w (lit negate p) ≡ truth_under negate (v p)) where
  pub flat_value_lem : (negate : Bool) (t : Tree P) → flat_value w (flat lit negate t) ≡ truth_under negate (value v t)
  flat_value_lem negate (Join o a b) =
      joined_value w (operator_under negate o) (flat lit negate a) (flat lit negate b)
      ∙ ap₂ (join_of (operator_under negate o)) (flat_value_lem negate a) (flat_value_lem negate b)
      ∙ de_morgan_under negate o (value v a) (value v b)
  flat_value_lem false (Not a) = flat_value_lem true a
  flat_value_lem true (Not a) = flat_value_lem false a ∙ sym (not_not (value v a))
  flat_value_lem negate (Value p) = worth negate p

  -- flattening keeps the value
  pub optimize_value : (t : Tree P) → flat_value w (optimize lit t) ≡ value v t
  optimize_value t = flat_value_lem false t

-- ---- the form

module _ {Q : Type 0} where
  under_append : (o : Operator) (fs gs : Flats Q) → FlattenedUnder o fs → FlattenedUnder o gs → FlattenedUnder o (fs ⧺ gs)
  under_append o done gs h k = k
  under_append o (more f fs) gs h k = (h.0, h.1, under_append o fs gs h.2 k)

  splice_flattened : (o : Operator) (f : Flat Q) → Flattened f → (1 ≤ length (kids (splice o f))) × FlattenedUnder o (splice o f)
  splice_flattened o (leaf q) h = (omega arith, (tt, tt, tt))
  splice_flattened And (node And fs) h = (omega arith, h.1)
  splice_flattened And (node Or fs) h = (omega arith, (And≢Or, h, tt))
  splice_flattened Or (node And fs) h = (omega arith, (λ e. And≢Or (sym e), h, tt))
  splice_flattened Or (node Or fs) h = (omega arith, h.1)

  joined_flattened : (o : Operator) (f g : Flat Q) → Flattened f → Flattened g → Flattened (joined o f g)
  joined_flattened o f g h k =
      let fs = splice o f in
      let gs = splice o g in
      let x = splice_flattened o f h in
      let y = splice_flattened o g k in
      (omega (arith, ap length (kids_append fs gs), length-append (kids fs) (kids gs), x.0, y.0), under_append o fs gs x.1 y.1)

-- what flattening leaves is flattened
pub flat_flattened : {P Q : Type 0} (lit : Bool → P → Q) (negate : Bool) (t : Tree P) → Flattened (flat lit negate t)
flat_flattened lit negate (Join o a b) =
    let h = flat_flattened lit negate a in
    let k = flat_flattened lit negate b in
    joined_flattened (operator_under negate o) (flat lit negate a) (flat lit negate b) h k
flat_flattened lit negate (Not a) = flat_flattened lit (not negate) a
flat_flattened lit negate (Value p) = tt
