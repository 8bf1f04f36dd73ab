-- `changes::insert_entry` meets its contract. Assumes nothing.
use mathlib.Core.Path.{◌≡◌}
use Prim.Native.Nat.{◌-◌}
use Rattle.store.specs.Records.{entry_at, put_entry}
use Rattle.changes.specs.Moving.{raised}
use Rattle.changes.proofs.insert_entry.Given as goal

abbrev pub invariant-loop-j : goal.invariant-loop-j
invariant-loop-j l =
    raised (entry_at l.limits) (put_entry l.limits) l.bytes l.k (l.j - l.k)
    ≡ raised (entry_at l.limits) (put_entry l.limits) l.initial.bytes l.k (l.n - l.k)
