-- `changes::remove_rule` meets its contract. Assumes nothing.
use mathlib.Core.Path.{◌≡◌}
use Prim.Native.Nat.{◌+◌, ◌-◌}
use Rattle.store.specs.Records.{rule_at, put_rule}
use Rattle.changes.specs.Moving.{lowered}
use Rattle.changes.proofs.remove_rule.Given as goal

abbrev pub invariant-loop-k : goal.invariant-loop-k
invariant-loop-k l =
    lowered rule_at put_rule l.bytes l.k (l.count - (l.k + 1)) ≡ lowered rule_at put_rule l.initial.bytes l.i (l.count - (l.i + 1))
