-- `decimals::normal` meets its contract: a zero taken off keeps the normal form, and what has none left to take off is its own.
-- Assumes nothing.
use mathlib.Core.Path.{sym, ◌∙◌}
use native.Mathlib.Omega.{arith}
use Rattle.decimals.proofs.SignLaws.{quot_back}
use Rattle.decimals.proofs.ShorteningLaws.{normal_stop, normal_step}
use Rattle.decimals.proofs.normal.Goals as goal

pub overflow_sub-scale : goal.overflow_sub-scale
overflow_sub-scale c =
    let u = sym c.is_normal.ensures ∙ c.loop-number-test.true in
    (normal_step c.loop-number.rest u).0

pub loop-number-smaller : goal.loop-number-smaller
loop-number-smaller c = let h = overflow_sub-scale c in omega arith

pub loop-number-preserved : goal.loop-number-preserved
loop-number-preserved c =
    let u = sym c.is_normal.ensures ∙ c.loop-number-test.true in
    rw (quot_back c.loop-number.rest.number (omega arith))
    (c.loop-number.invariant ∙ (normal_step c.loop-number.rest u).1)

pub returns : goal.returns
returns c =
    let s = sym c.is_normal.ensures ∙ c.loop-number-test.false in
    sym (c.loop-number.invariant ∙ normal_stop c.loop-number.rest s)
