-- `changes::remove_rule` meets its contract. Assumes nothing.
use native.Mathlib.Omega.{arith}
use Rattle.store.specs.Records.{rule_at, put_rule}
use Rattle.changes.proofs.MovingLaws.{lower_more, lower_end}
use Rattle.changes.proofs.WritingLaws.{rule_removed}
use Rattle.changes.proofs.remove_rule.Goals as goal

pub loop-k-preserved : goal.loop-k-preserved
loop-k-preserved c =
    let h = c.loop-k in
    lower_more rule_at put_rule h.k c.get_count-count.result (omega arith) h.invariant c.get_rule-moved.ensures c.put_rule.ensures

pub returns : goal.returns
returns c =
    let h = c.loop-k in
    rule_removed c.args.bytes.now c.args.i c.get_count-count.ensures
    (lower_end rule_at put_rule h.k c.get_count-count.result (omega arith) h.invariant) c.put_count.ensures
