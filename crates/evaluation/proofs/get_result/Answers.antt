-- `evaluation::get_result` meets its contract. Assumes nothing.
use Rattle.evaluation.specs.Results.{outcome_of}
use Rattle.evaluation.proofs.BitLaws.{bit_clear, bit_stands}
use Rattle.evaluation.proofs.get_result.Goals as goal

pub returns-then-byte-eq0 : goal.returns-then-byte-eq0
unfolding outcome_of
returns-then-byte-eq0 c = simp (bit_clear _ 2 c.if-byte-eq0.true)

pub returns-then-byte-ne0 : goal.returns-then-byte-ne0
unfolding outcome_of
returns-then-byte-ne0 c = simp (bit_stands _ 2 c.if-byte-eq0.false, bit_stands _ 0 c.if-byte-ne0.true)

pub returns-then-byte-ne0-2 : goal.returns-then-byte-ne0-2
unfolding outcome_of
returns-then-byte-ne0-2 c =
    simp (bit_stands _ 2 c.if-byte-eq0.false, bit_clear _ 0 c.if-byte-ne0.false, bit_stands _ 1 c.if-byte-ne0-2.true)

pub returns : goal.returns
unfolding outcome_of
returns c =
    simp (bit_stands _ 2 c.if-byte-eq0.false, bit_clear _ 0 c.if-byte-ne0.false, bit_clear _ 1 c.if-byte-ne0-2.false)
