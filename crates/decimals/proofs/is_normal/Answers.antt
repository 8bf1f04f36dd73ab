-- `decimals::is_normal` meets its contract: the remainder's bits are 0 exactly where the number ends in 0.
-- Assumes nothing.
use borrow.Author.Tests.{eq-eqb, ne_eqb}
use native.Mathlib.Omega.{arith}
use Rattle.decimals.specs.Normal.{is_normal}
use Rattle.decimals.proofs.SignLaws.{rem_bits}
use Rattle.decimals.proofs.is_normal.Goals as goal

pub returns-then-decimal-eq0 : goal.returns-then-decimal-eq0
unfolding is_normal
returns-then-decimal-eq0 c = rw (eq-eqb c.args.decimal.scale 0 c.if-decimal-eq0.true)

pub returns-else-decimal-eq0 : goal.returns-else-decimal-eq0
unfolding is_normal
returns-else-decimal-eq0 c =
    let d = c.args.decimal in
    rw (rem_bits d.number (omega arith), ne_eqb d.scale 0 c.if-decimal-eq0.false)
