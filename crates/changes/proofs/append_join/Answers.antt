-- `changes::append_join` meets its contract. Assumes nothing.
use Rattle.changes.proofs.WritingLaws.{join_room, join_put}
use Rattle.changes.proofs.append_join.Goals as goal

pub close-requires : goal.close-requires
close-requires c =
    let a = c.args in
    join_room a.limits a.bytes.now a.children.now c.get_count-start.ensures c.write_children.ensures c.requires

pub returns : goal.returns
returns c =
    let a = c.args in
    join_put a.limits a.bytes.now a.children.now c.get_count-start.ensures c.write_children.ensures a.content c.place.ensures
    c.close.ensures
