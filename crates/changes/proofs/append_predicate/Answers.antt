-- `changes::append_predicate` meets its contract. Assumes nothing.
use Rattle.changes.proofs.WritingLaws.{predicate_room, predicate_put}
use Rattle.changes.proofs.append_predicate.Goals as goal

pub close-requires : goal.close-requires
close-requires c =
    let a = c.args in
    predicate_room a.limits a.bytes.now a.list.now c.get_count-start.ensures c.write_elements.ensures c.requires

pub returns : goal.returns
returns c =
    let a = c.args in
    predicate_put a.limits a.bytes.now a.list.now c.get_count-start.ensures c.write_elements.ensures a.content c.place.ensures
    c.close.ensures
