-- `filling::write_row` meets its contract. Assumes nothing.
use Rattle.filling.proofs.RowLaws.{row_written}
use Rattle.filling.proofs.write_row.Goals as goal

pub returns : goal.returns
returns c = row_written _ c.args.places.now _ _ _ c.copy_from_slice.ensures.after c.requires.1 c.requires.0
