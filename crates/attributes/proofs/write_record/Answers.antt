-- `attributes::write_record` meets its contract. Assumes nothing.
use Rattle.std.proofs.Common.{◌∙◌}
use Rattle.attributes.specs.Kinds.{kind_number}
use Rattle.attributes.proofs.NameLaws.{record_written}
use Rattle.attributes.proofs.write_record.Goals as goal

pub returns : goal.returns
returns c =
    let a = c.args in
    let p = c.record_at-at.ensures in
    c.write_name.ensures ∙ rw c.from.ensures (record_written a.table.now _ _ (kind_number a.kind) a.name.now c.len.ensures p)
