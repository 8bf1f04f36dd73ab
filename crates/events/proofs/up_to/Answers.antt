-- `events::up_to` meets its contract. Assumes nothing.
use mir.Facts.{to_z-of_z}
use Rattle.events.proofs.RangeLaws.{contained}
use Rattle.events.proofs.up_to.Goals as goal

pub returns : goal.returns
returns c = let n = c.new.ensures in
    contained c.args.number c.args.limit _ _ _ _ n.start (rw (to_z-of_z c.ranges.limit) at n.end) n.exhausted
    (rw (to_z-of_z c.ranges.number) at c.contains.ensures.value)
