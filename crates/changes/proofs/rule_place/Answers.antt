-- `changes::rule_place` meets its contract, whether the id is there or not: the comparison never answers Equal. Assumes nothing.
use borrow.Author.Rules.{rules}
use Rattle.changes.proofs.RulesLaws.{parted_place}
use Rattle.changes.proofs.rule_place.Goals as goal

pub returns-in-Ok-2 : goal.returns-in-Ok-2
returns-in-Ok-2 c =
    let a = c.args in
    parted_place a.bytes.now a.id c.in-Ok.place c.requires.2 (λ k h. search rules) (λ k h. search rules)
    (rw c.get_count.ensures at c.in-Ok.ensures)
