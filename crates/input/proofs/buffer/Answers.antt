-- `input::buffer` meets its contract: each place holds the value that the array was made of. Assumes nothing.
use Rattle.std.proofs.lemmas.List.{get_or-replicate}
use Rattle.input.proofs.buffer.Goals as goal

pub returns : goal.returns
returns c i l = get_or-replicate _ i 0 0 l
