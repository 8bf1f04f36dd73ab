-- `write` of `u16` meets its contract. Assumes nothing.
use mathlib.Core.Path.{◌∙◌}
use Rattle.words.proofs.BytesLaws.{write_word}
use Rattle.words.proofs.U16Word.write.Goals as goal

pub returns : goal.returns
returns c =
    write_word 2 c.args.bytes.now c.args.at c.args.self c.requires
    (c.copy_from_slice.ensures.after ∙ c.to_le_bytes.ensures)
