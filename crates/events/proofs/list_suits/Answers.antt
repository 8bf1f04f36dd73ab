-- `events::list_suits` meets its contract. Assumes nothing.
use Rattle.std.proofs.Common.{sym, ◌∙◌}
use borrow.Author.Tests.{le-leb, lt-leb}
use Rattle.lists.specs.And.{◌and◌}
use Rattle.lists.specs.AndLaws.{and_first, and_skip}
use Rattle.events.specs.Suits.{◌implies◌, list_suits}
use Rattle.events.proofs.list_suits.Goals as goal

pub returns-then-not-is_list : goal.returns-then-not-is_list
unfolding list_suits ◌implies◌ ◌and◌
returns-then-not-is_list c = rw (sym c.is_list.ensures ∙ c.if-not-is_list.true, c.if-not-is_list.true)

pub returns-then-length-le-LIST_LIMIT : goal.returns-then-length-le-LIST_LIMIT
unfolding list_suits ◌implies◌
returns-then-length-le-LIST_LIMIT c =
    rw (sym c.is_list.ensures ∙ c.if-not-is_list.false)
    (c.ascending.ensures ∙ sym (and_skip _ _ (le-leb _ _ c.if-length-le-LIST_LIMIT.true)))

pub returns-else-length-le-LIST_LIMIT : goal.returns-else-length-le-LIST_LIMIT
unfolding list_suits ◌implies◌
returns-else-length-le-LIST_LIMIT c =
    let long = lt-leb _ _ c.if-length-le-LIST_LIMIT.false in
    rw (sym c.is_list.ensures ∙ c.if-not-is_list.false) (long ∙ sym (and_first _ _ long))
