-- `flatten` and `collect`, which call each other over the sheet's remaining entries, meet their contracts. Assumes nothing.
use Rattle.std.specs.Prelude.{◌≡◌, ℕ, ◌+◌}
use Rattle.std.proofs.Common.{sym, ◌∙◌, arith, rules, subst}
use Rattle.std.proofs.Math.Path.{subst⁻¹}
use Rattle.std.proofs.Math.Bool.{not}
use Rattle.sheets.specs.Entries.{kind_of}
use Rattle.sheets.specs.Spells.{shape_of}
use Rattle.flattening.specs.Writing.{Ready}
use Rattle.flattening.proofs.CollectingLaws.{Other, lag_own, lag_other, lag_most}
use Rattle.flattening.proofs.CollectingLaws.{ready_room, ready_not, ready_node, ready_left, ready_right, few}
use Rattle.flattening.proofs.CollectingLaws.{flatten_not, flatten_predicate, flatten_node, collect_not, collect_both, collect_other}
use Rattle.flattening.proofs.+collect_flatten.Goals as goal
use Rattle.flattening.proofs.+collect_flatten.Goals.{collect-in_default-via-in-Joins+else-eq, collect-in_default-via-in_default}

-- ---- `collect`

pub collect-shape-requires : goal.collect-shape-requires
collect-shape-requires t c = let r = ready_room _ _ _ _ _ c.requires in omega arith

pub collect-overflow_add-i : goal.collect-overflow_add-i
collect-overflow_add-i t c = let r = ready_room _ _ _ _ _ c.requires in omega arith

pub collect-collect-requires : goal.collect-collect-requires
collect-collect-requires t c =
    let a = c.args in
    let r = ready_room _ _ _ _ _ c.requires in
    let l = lag_most a.parent (not a.negate) (shape_of (kind_of a.sheet.now.first a.sheet.now.numbers.now (a.i + 1))) in
    (omega arith, ready_not _ _ _ _ _ c.requires (sym c.in-Negates.ensures))

pub collect-returns-in-Negates : goal.collect-returns-in-Negates
collect-returns-in-Negates t c = collect_not _ _ _ _ _ _ (sym c.in-Negates.ensures) _ _ _ c.collect.ensures

pub collect-overflow_add-i-in-Joins : goal.collect-overflow_add-i-in-Joins
collect-overflow_add-i-in-Joins t c = let r = ready_room _ _ _ _ _ c.requires in omega arith

pub collect-collect-left-requires : goal.collect-collect-left-requires
collect-collect-left-requires t c =
    let a = c.args in
    let r = ready_room _ _ _ _ _ c.requires in
    let l = lag_most a.parent a.negate (shape_of (kind_of a.sheet.now.first a.sheet.now.numbers.now (a.i + 1))) in
    (omega arith, ready_left _ _ _ _ _ c.requires _ (sym c.in-Joins.ensures))

pub collect-collect-right-requires : goal.collect-collect-right-requires
collect-collect-right-requires t c =
    let a = c.args in
    let s = a.sheet.now.numbers.now in
    let d = c.collect-left in
    let r = ready_room _ _ _ _ _ c.requires in
    let m = ready_right _ _ _ _ _ c.requires _ (sym c.in-Joins.ensures) _ _ _ _ d.result d.ensures in
    let n = m.1 in
    let l = lag_most a.parent a.negate (shape_of (kind_of a.sheet.now.first s d.result.next)) in
    (omega arith, subst⁻¹ (λ (k : ℕ). Ready a.sheet.now.first s d.result.next d.result.at k) d.auto.out m.0)

pub collect-overflow_add-result : goal.collect-overflow_add-result
collect-overflow_add-result t c =
    let d = c.collect-left in
    let e = c.collect-right in
    let f = few _ _ _ _ _ c.requires _ (sym c.in-Joins.ensures) _ _ _ _ d.result d.ensures _ e.result e.ensures in
    omega arith

pub collect-returns-in-Joins : goal.collect-returns-in-Joins
collect-returns-in-Joins t c =
    let a = c.args in
    let d = c.collect-left in
    let e = c.collect-right in
    let same : c.under.result ≡ a.parent = search rules in
    let own = sym same ∙ c.under.ensures in
    collect_both _ _ _ _ _ _ _ (sym c.in-Joins.ensures) a.parent own _ _ d.result e.result d.ensures e.ensures

pub collect-flatten-requires : goal.collect-flatten-requires
collect-flatten-requires t c =
    let a = c.args in
    let shape = shape_of (kind_of a.sheet.now.first a.sheet.now.numbers.now a.i) in
    let other : Other a.parent a.negate shape = elim c.in_default.branch [
      | collect-in_default-via-in-Joins+else-eq w ↦
          let unlike : ¬ (w.under.result ≡ a.parent) = search rules in
          subst (Other a.parent a.negate) w.in-Joins.ensures (λ e. unlike (w.under.ensures ∙ sym e))
      | collect-in_default-via-in_default w ↦ subst (Other a.parent a.negate) w.in_default.ensures tt
    ] in
    let l = lag_other a.parent a.negate shape other in
    (omega arith, c.requires)

pub collect-returns-in_default : goal.collect-returns-in_default
collect-returns-in_default t c =
    let a = c.args in
    let other : Other a.parent a.negate (shape_of (kind_of a.sheet.now.first a.sheet.now.numbers.now a.i)) = elim c.in_default.branch [
      | collect-in_default-via-in-Joins+else-eq w ↦
          let unlike : ¬ (w.under.result ≡ a.parent) = search rules in
          subst (Other a.parent a.negate) w.in-Joins.ensures (λ e. unlike (w.under.ensures ∙ sym e))
      | collect-in_default-via-in_default w ↦ subst (Other a.parent a.negate) w.in_default.ensures tt
    ] in
    collect_other _ _ _ _ _ _ _ other _ _ c.flatten.ensures

-- ---- `flatten`

pub flatten-shape-requires : goal.flatten-shape-requires
flatten-shape-requires t c = let r = ready_room _ _ _ _ _ c.requires in omega arith

pub flatten-overflow_add-i : goal.flatten-overflow_add-i
flatten-overflow_add-i t c = let r = ready_room _ _ _ _ _ c.requires in omega arith

pub flatten-flatten-requires : goal.flatten-flatten-requires
flatten-flatten-requires t c =
    let r = ready_room _ _ _ _ _ c.requires in (omega arith, ready_not _ _ _ _ _ c.requires (sym c.in-Negates.ensures))

pub flatten-returns-in-Negates : goal.flatten-returns-in-Negates
flatten-returns-in-Negates t c = flatten_not _ _ _ _ _ _ (sym c.in-Negates.ensures) _ _ c.flatten.ensures

pub flatten-collect-children-requires : goal.flatten-collect-children-requires
flatten-collect-children-requires t c =
    let a = c.args in
    let l = lag_own c.under-own.result a.negate _ _ (sym c.in-Joins.ensures) c.under-own.ensures in
    (omega arith, c.requires)

-- after the children: they are few, and there is a place for the operator
pub flatten-operator_code-requires : goal.flatten-operator_code-requires
flatten-operator_code-requires t c =
    let r = c.collect-children in
    (ready_node _ _ _ _ _ c.requires _ (sym c.in-Joins.ensures) _ _ c.under-own.ensures _ _ r.result r.ensures).0

pub flatten-offset_bounds-out-children : goal.flatten-offset_bounds-out-children
flatten-offset_bounds-out-children t c =
    let r = c.collect-children in
    let p = (ready_node _ _ _ _ _ c.requires _ (sym c.in-Joins.ensures) _ _ c.under-own.ensures _ _ r.result r.ensures).1 in
    omega arith

pub flatten-bounds-out-children : goal.flatten-bounds-out-children
flatten-bounds-out-children t c =
    let r = c.collect-children in
    let p = (ready_node _ _ _ _ _ c.requires _ (sym c.in-Joins.ensures) _ _ c.under-own.ensures _ _ r.result r.ensures).1 in
    omega (arith, r.auto.out)

pub flatten-overflow_add-result : goal.flatten-overflow_add-result
flatten-overflow_add-result t c =
    let r = c.collect-children in
    let p = (ready_node _ _ _ _ _ c.requires _ (sym c.in-Joins.ensures) _ _ c.under-own.ensures _ _ r.result r.ensures).1 in
    omega arith

pub flatten-returns-in-Joins : goal.flatten-returns-in-Joins
flatten-returns-in-Joins t c =
    rw c.operator_code.ensures
    (flatten_node _ _ _ _ _ _ _ (sym c.in-Joins.ensures) _ c.under-own.ensures _ _ c.collect-children.ensures)

pub flatten-predicate_code-requires : goal.flatten-predicate_code-requires
flatten-predicate_code-requires t c = let r = ready_room _ _ _ _ _ c.requires in omega arith

pub flatten-bounds-out-at : goal.flatten-bounds-out-at
flatten-bounds-out-at t c = let r = ready_room _ _ _ _ _ c.requires in omega arith

pub flatten-returns-in-Stands : goal.flatten-returns-in-Stands
flatten-returns-in-Stands t c = rw c.predicate_code.ensures (flatten_predicate _ _ _ _ _ _ (sym c.in-Stands.ensures))
