-- `changes::insert_entry` meets its contract. Assumes nothing.
use native.Mathlib.Omega.{arith}
use Rattle.store.specs.Records.{entry_at, put_entry}
use Rattle.changes.proofs.MovingLaws.{raise_more, raise_end}
use Rattle.changes.proofs.WritingLaws.{entry_inserted}
use Rattle.changes.proofs.insert_entry.Goals as goal

pub loop-j-preserved : goal.loop-j-preserved
loop-j-preserved c =
    let a = c.args in
    raise_more (entry_at a.limits) (put_entry a.limits) a.k c.loop-j.j (omega arith) c.loop-j.invariant c.get_entry-moved.ensures
    c.put_entry.ensures

pub returns : goal.returns
returns c =
    let a = c.args in
    entry_inserted a.limits a.bytes.now a.n a.k a.part
    (raise_end (entry_at a.limits) (put_entry a.limits) a.k c.loop-j.j (omega arith) c.loop-j.invariant) c.put_entry-2.ensures
