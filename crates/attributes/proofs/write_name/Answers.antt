-- `attributes::write_name` meets its contract. Assumes nothing.
use Rattle.attributes.proofs.NameLaws.{name_written}
use Rattle.attributes.proofs.write_name.Goals as goal

pub returns : goal.returns
returns c = let a = c.args in
    name_written a.table.now a.name.now a.at c.requires.0 c.requires.1 c.copy_from_slice.new.self c.fill.new.self
    c.copy_from_slice.ensures.after (c.fill.ensures.after (λ y e. e))
