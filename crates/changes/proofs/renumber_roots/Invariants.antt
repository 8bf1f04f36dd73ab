-- `changes::renumber_roots` meets its contract. Assumes nothing.
use mathlib.Core.Path.{◌≡◌}
use Rattle.changes.specs.Changes.{renumber_roots}
use Rattle.changes.proofs.renumber_roots.Given as goal

abbrev pub invariant-loop-i : goal.invariant-loop-i
invariant-loop-i l = l.bytes ≡ renumber_roots l.initial.bytes l.news l.i
