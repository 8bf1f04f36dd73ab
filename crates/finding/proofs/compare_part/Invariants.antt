-- `finding::compare_part` meets its contract. The loop's invariant: at each place passed the call gave the part's item, so the rest
-- decides. Assumes nothing.
use Prim.Native.Nat.{ℕ, ◌+◌, ◌<◌}
use lib.Dec.{ltb}
use Rattle.finding.specs.Keys.{item_at}
use Rattle.finding.proofs.compare_part.Given as goal

abbrev pub invariant-loop-k : goal.invariant-loop-k
invariant-loop-k g l =
    (j : ℕ) → j < l.k → goal.F-post g l.item j (item_at (ltb l.own.kind 2) l.limits l.bytes (l.own.start + j))
