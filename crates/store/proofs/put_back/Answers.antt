-- `store::put_back` meets its contract. The check finds this alone, but must-fail/cost_written_over_the_number.edit is to fall by a fact.
-- Assumes nothing.
use Rattle.store.proofs.put_back.Goals as goal

pub returns : goal.returns
returns c = cc
