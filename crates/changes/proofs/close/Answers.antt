-- `changes::close` meets its contract. The check finds this alone, but must-fail/running_sum_not_moved.edit is to fall by a fact.
-- Assumes nothing.
use Rattle.changes.proofs.close.Goals as goal

pub returns : goal.returns
returns c = cc
