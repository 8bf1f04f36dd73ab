-- `changes::write_children` meets its contract. Assumes nothing.
use mathlib.Core.Path.{◌≡◌}
use Rattle.changes.specs.Changes.{put_children}
use Rattle.changes.proofs.write_children.Given as goal

abbrev pub invariant-loop-k : goal.invariant-loop-k
invariant-loop-k l = l.bytes ≡ put_children l.limits l.initial.bytes l.at l.children l.k
