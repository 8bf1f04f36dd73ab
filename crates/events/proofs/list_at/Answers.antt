-- `events::list_at` meets its contract. Assumes nothing.
use Rattle.events.proofs.PartLaws.{part_list}
use Rattle.events.proofs.list_at.Goals as goal

pub returns : goal.returns
returns c = part_list _ _ _ _ c.min.ensures
