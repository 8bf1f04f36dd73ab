-- `finding::order_ascends` meets its contract. The loop's invariant: the entries passed are tested. Assumes nothing.
use mathlib.Core.Path.{◌≡◌}
use mathlib.Core.Bool.{true}
use Rattle.lists.specs.Below.{all_below}
use Rattle.finding.specs.Ascent.{entry_b}
use Rattle.finding.proofs.order_ascends.Given as goal

abbrev pub invariant-loop-k : goal.invariant-loop-k
invariant-loop-k l = all_below (entry_b l.limits l.bytes l.count) l.k ≡ true
