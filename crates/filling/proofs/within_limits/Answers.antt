-- `filling::within_limits` meets its contract at a list of words. Assumes nothing.
use Rattle.std.proofs.Common.{sym, ◌∙◌}
use Rattle.lists.specs.AndLaws.{and_first, and_skip}
use Rattle.filling.proofs.within_limits.Goals as goal

pub returns-then-list_within : goal.returns-then-list_within
returns-then-list_within c =
    rw c.in-StringList.is
    (c.all_words.ensures ∙ sym (and_skip _ _ (sym c.list_within-in-StringList.ensures ∙ c.if-list_within.true)))

pub returns-else-list_within : goal.returns-else-list_within
returns-else-list_within c =
    rw c.in-StringList.is
    (c.if-list_within.false ∙ sym (and_first _ _ (sym c.list_within-in-StringList.ensures ∙ c.if-list_within.false)))
