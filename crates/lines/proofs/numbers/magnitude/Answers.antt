-- `lines::numbers::magnitude` meets its contract. Assumes nothing.
use Rattle.std.proofs.Common.{arith, tests, sym, ◌∙◌}
use Rattle.lines.specs.NumbersLaws.{after_start, after_empty, after_read, after_stop, after_whole, step_made}
use Rattle.lines.proofs.numbers.magnitude.Goals as goal

pub returns-then-is_empty : goal.returns-then-is_empty
returns-then-is_empty c = grind (arith, tests, after_empty)

pub loop-digit-init : goal.loop-digit-init
loop-digit-init c = record { within = omega arith; rest = grind (arith, tests, after_start) }

pub returns-in_err-value : goal.returns-in_err-value
returns-in_err-value c =
    let l = c.loop-digit in
    let none = sym c.with_digit.ensures ∙ c.in_err-value.was in
    c.from_residual.ensures
    ∙ sym (l.invariant.rest ∙ after_stop c.args.most l.value c.args.digits.now l.digit-index c.loop-digit-test.true none)

pub loop-digit-preserved : goal.loop-digit-preserved
loop-digit-preserved c =
    let a = c.args in
    let l = c.loop-digit in
    let made = sym c.with_digit.ensures ∙ c.in_ok-value.was in
    record {
      within = (step_made _ _ _ _ made).within;
      rest = l.invariant.rest ∙ after_read a.most l.value a.digits.now l.digit-index _ c.loop-digit-test.true made;
    }

pub returns : goal.returns
returns c =
    let a = c.args in
    let l = c.loop-digit in
    sym (l.invariant.rest ∙ after_whole a.most l.value a.digits.now l.digit-index c.loop-digit-test.false l.invariant.within)
