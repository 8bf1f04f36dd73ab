-- `sheets::form::Entries::lists_short` meets its contract: each number below n is asked. Assumes nothing.
use Rattle.std.proofs.Common.{rules, tests}
use Rattle.sheets.specs.Form.{list_short}
use Rattle.lists.proofs.AllLaws.{range_all}
use Rattle.sheets.proofs.form.Entries.lists_short.Goals as goal

pub returns : goal.returns
returns c =
    let s = c.args.self in
    range_all _ (list_short s.sheet.first s.sheet.numbers.now) s.count _ c.all.ensures.ran (λ x b q k. search (rules, tests))
