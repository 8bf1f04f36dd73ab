-- `decimals::raised` meets its contract: past the powers that the machine holds the quotient is 0 and the remainder b itself.
-- Assumes nothing.
use mathlib.Core.Path.{sym, ap₂, ◌∙◌}
use Prim.Native.Nat.{◌^◌}
use Rattle.std.specs.Ordering.{ordering_then}
use Rattle.decimals.proofs.ScaleLaws.{ten_pos}
use Rattle.decimals.proofs.DivisionLaws.{divided, far}
use Rattle.decimals.proofs.SignLaws.{back, quot_back, rem_back, power_fits, power_back, power_divides}
use Rattle.decimals.proofs.raised.Goals as goal

pub returns-then-k-gt-GREATEST_POWER : goal.returns-then-k-gt-GREATEST_POWER
returns-then-k-gt-GREATEST_POWER c =
    let a = c.args in
    let f = c.ranges in
    c.then.ensures
    ∙ ap₂ ordering_then c.cmp.ensures c.cmp-then-k-gt-GREATEST_POWER.ensures
    ∙ rw (back a.a f.a.sfits, back a.b f.b.sfits)
    (sym (far a.a a.b a.k f.b c.if-k-gt-GREATEST_POWER.true))

pub overflow_cast-power : goal.overflow_cast-power
overflow_cast-power c = power_fits c.ten_to-power.result c.args.k c.ten_to-power.ensures c.if-k-gt-GREATEST_POWER.false

pub nonzero_div-b : goal.nonzero_div-b
nonzero_div-b c =
    power_divides c.ten_to-power.result c.args.k c.ten_to-power.ensures c.if-k-gt-GREATEST_POWER.false c.args.b c.ranges.b.sfits

pub nonzero_rem-b : goal.nonzero_rem-b
nonzero_rem-b c =
    power_divides c.ten_to-power.result c.args.k c.ten_to-power.ensures c.if-k-gt-GREATEST_POWER.false c.args.b c.ranges.b.sfits

pub returns : goal.returns
returns c =
    let a = c.args in
    let f = c.ranges in
    let p = c.ten_to-power.result in
    c.then-2.ensures
    ∙ ap₂ ordering_then c.cmp-2.ensures c.cmp-3.ensures
    ∙ rw (power_back p a.k c.ten_to-power.ensures c.if-k-gt-GREATEST_POWER.false, back a.a f.a.sfits)
    (rw (quot_back a.b f.b.sfits p, rem_back a.b f.b.sfits p, c.ten_to-power.ensures)
    (sym (divided (10 ^ a.k) (ten_pos a.k) a.a a.b)))
