-- `filling::Dates::is_fresh` meets its contract. Assumes nothing.
use Rattle.std.proofs.Common.{sym, ◌∙◌}
use borrow.Author.Tests.{le-leb, lt-leb}
use Rattle.lists.specs.AndLaws.{and_first, and_skip}
use Rattle.filling.specs.Ages.{is_fresh}
use Rattle.filling.proofs.Dates.is_fresh.Goals as goal

pub returns-then-saturating_sub-tolerance : goal.returns-then-saturating_sub-tolerance
unfolding is_fresh
returns-then-saturating_sub-tolerance c =
    let near = le-leb _ _ c.if-saturating_sub-tolerance.true in
    rw (c.saturating_sub-then-saturating_sub-tolerance.ensures) (sym (and_skip _ _ (rw c.saturating_sub.ensures at near)))

pub returns-else-saturating_sub-tolerance : goal.returns-else-saturating_sub-tolerance
unfolding is_fresh
returns-else-saturating_sub-tolerance c =
    let far = lt-leb _ _ c.if-saturating_sub-tolerance.false in
    far ∙ sym (and_first _ _ (rw c.saturating_sub.ensures at far))
