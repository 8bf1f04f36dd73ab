-- `changes::write_children` meets its contract. Assumes nothing.
use Prim.Native.Nat.{ℕ, ◌+◌, ◌*◌}
use lib.ListN.{get_or}
use Rattle.words.proofs.RunLaws.{wrote_more}
use Rattle.store.specs.Layout.{places_at}
use Rattle.changes.proofs.write_children.Goals as goal

pub loop-k-preserved : goal.loop-k-preserved
loop-k-preserved c =
    let a = c.args in
    let spot = λ (j : ℕ). places_at a.limits + 2 * (a.at + j) in
    wrote_more 2 a.bytes.now spot (λ j. get_or a.children.now j 0) c.loop-k.k c.loop-k.invariant c.put_place.ensures
