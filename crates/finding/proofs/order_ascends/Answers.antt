-- `finding::order_ascends` meets its contract: where the rules of the mark leave a goal. Assumes nothing.
use native.Mathlib.Omega.{arith}
use Rattle.finding.proofs.MarkLaws.{mark_neighbours}
use Rattle.finding.proofs.order_ascends.Goals as goal

pub rises-requires : goal.rises-requires
rises-requires c = mark_neighbours _ _ _ c.loop-k.k c.loop-k-test.true c.loop-k.invariant (omega arith) c.requires
