-- `evaluation::set_result` meets its contract. Assumes nothing.
use Rattle.evaluation.specs.Results.{result_byte}
use Rattle.evaluation.proofs.BitLaws.{marked}
use Rattle.evaluation.proofs.set_result.Goals as goal

pub returns : goal.returns
unfolding result_byte
returns c = rw (c.answer_bits.ensures, marked c.args.value)
