-- `filling::set_when` meets its contract: each way out is a case of the outcome. Assumes nothing.
use Rattle.std.proofs.Common.{◌≡◌, ℕ, Ok, Err, true, false, sym, ap, ◌∙◌, rules}
use Rattle.filling.specs.declared.Setting.TheVariants.{Set, NotSet}
use Rattle.filling.specs.Setting.{with_reading}
use Rattle.filling.specs.Filling.{handed_back}
use Rattle.filling.proofs.FillingLaws.{filled_at, filled_refused}
use Rattle.filling.proofs.set_when.Goals as goal
use Rattle.filling.proofs.set_when.Goals.{then-fresh, else-fresh}

pub returns-in_err-i : goal.returns-in_err-i
returns-in_err-i c =
    let e : c.from_residual.result ≡ Err c.in_err-i.field-0.0 = search rules in
    rw e (sym (filled_refused c.args.fresh _ _ _ _ _ c.in_err-i.field-0.0 (sym c.in_err-i.ensures.answer)))

pub returns : goal.returns
returns c =
    let a = c.args in
    let place = ap (λ (i : ℕ). with_reading a.event.now i c.if-fresh.reading.0 a.list.now) c.in_ok-i.ensures.place in
    let after = c.set_reading.ensures ∙ place in
    elim c.if-fresh.branch [
      | then-fresh w ↦ let done = filled_at true _ _ _ _ _ (sym c.in_ok-i.ensures.answer) in
          rw (w.reading-is, w.if-fresh.true) (ap (handed_back (Ok Set)) (rw w.reading-is at after) ∙ sym done)
      | else-fresh w ↦ let done = filled_at false _ _ _ _ _ (sym c.in_ok-i.ensures.answer) in
          rw (w.reading-is, w.if-fresh.false) (ap (handed_back (Ok NotSet)) (rw w.reading-is at after) ∙ sym done)
    ]
