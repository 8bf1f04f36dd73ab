-- `changes::insert_rule` meets its contract. Assumes nothing.
use mathlib.Core.Path.{◌≡◌}
use Prim.Native.Nat.{◌-◌}
use Rattle.store.specs.Records.{rule_at, put_rule}
use Rattle.changes.specs.Moving.{raised}
use Rattle.changes.proofs.insert_rule.Given as goal

abbrev pub invariant-loop-k : goal.invariant-loop-k
invariant-loop-k l =
    raised rule_at put_rule l.bytes l.i (l.k - l.i) ≡ raised rule_at put_rule l.initial.bytes l.i (l.count - l.i)
