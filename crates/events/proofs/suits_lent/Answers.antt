-- `events::suits_lent` meets its contract: each way out is a case of the test. Assumes nothing.
use Rattle.std.proofs.Common.{◌∙◌, rules}
use borrow.Author.Tests.{tests}
use Rattle.lists.proofs.AllLaws.{range_all}
use Rattle.events.specs.declared.Event.{Event}
use Rattle.events.specs.Events.{event_of}
use Rattle.events.specs.Suits.{suits_at}
use Rattle.events.proofs.SuitsLaws.{suits_told, count_differs}
use Rattle.events.proofs.suits_lent.Goals as goal

pub returns-then-count-len : goal.returns-then-count-len
returns-then-count-len c =
    let a = c.args in
    let t = a.table.bytes.now in
    let e : Event = event_of a.count a.kinds.now a.numbers.now a.scales.now a.lengths.now a.lists.now in
    suits_told t e (c.if-count-len.true ∙ c.len.ensures.count) c.all.result
    (range_all _ (suits_at t e) a.count _ c.all.ensures.ran (λ x b q k. search (rules, tests)))

pub returns-else-count-len : goal.returns-else-count-len
returns-else-count-len c = let a = c.args in
    count_differs a.table.bytes.now (event_of a.count a.kinds.now a.numbers.now a.scales.now a.lengths.now a.lists.now)
    c.len.result c.len.ensures.count c.if-count-len.false
