-- `changes::insert_rule` meets its contract. Assumes nothing.
use native.Mathlib.Omega.{arith}
use Rattle.store.specs.Records.{rule_at, put_rule}
use Rattle.changes.proofs.MovingLaws.{raise_more, raise_end}
use Rattle.changes.proofs.WritingLaws.{rule_inserted}
use Rattle.changes.proofs.insert_rule.Goals as goal

pub loop-k-preserved : goal.loop-k-preserved
loop-k-preserved c =
    raise_more rule_at put_rule c.args.i c.loop-k.k (omega arith) c.loop-k.invariant c.get_rule-moved.ensures c.put_rule.ensures

pub returns : goal.returns
returns c =
    let a = c.args in
    rule_inserted a.bytes.now a.i a.rule c.get_count-count.ensures
    (raise_end rule_at put_rule a.i c.loop-k.k (omega arith) c.loop-k.invariant) c.put_rule-2.ensures c.put_count.ensures
