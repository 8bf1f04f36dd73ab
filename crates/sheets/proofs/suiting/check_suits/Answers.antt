-- `sheets::suiting::check_suits` meets its contract: an attribute that is asked for its kind is one of the table. Assumes nothing.
use Rattle.std.proofs.Common.{arith}
use Rattle.sheets.proofs.suiting.check_suits.Goals as goal

pub by_id-found-requires : goal.by_id-found-requires
by_id-found-requires c = (c.requires.size, omega (arith, c.if-len-attribute.false, c.len.ensures, c.requires.few))
