-- `evaluation::is_evaluated` meets its contract. Assumes nothing.
use Rattle.evaluation.proofs.BitLaws.{bit_told}
use Rattle.evaluation.proofs.is_evaluated.Goals as goal

pub returns : goal.returns
returns c = bit_told _ 2
