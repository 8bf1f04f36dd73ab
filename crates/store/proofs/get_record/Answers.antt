-- `store::get_record` meets its contract. The check finds this alone, but must-fail/tag_read_from_the_attribute.edit is to fall by a fact.
-- Assumes nothing.
use Rattle.store.proofs.get_record.Goals as goal

pub returns : goal.returns
returns c = cc
