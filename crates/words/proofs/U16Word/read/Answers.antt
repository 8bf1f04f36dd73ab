-- `read` of `u16` meets its contract. Assumes nothing.
use mathlib.Core.Path.{◌∙◌}
use Rattle.words.proofs.BytesLaws.{read_word}
use Rattle.words.proofs.U16Word.read.Goals as goal

pub returns : goal.returns
returns c = c.from_le_bytes.ensures ∙ read_word 1 c.args.bytes.now c.args.at c.part.ensures
