-- `sheets::form::Entries::all_fit` meets its contract: each number below n is asked. Assumes nothing.
use Rattle.std.proofs.Common.{rules, tests}
use Rattle.sheets.specs.WellFormed.{entry_fits_at}
use Rattle.lists.proofs.AllLaws.{range_all}
use Rattle.sheets.proofs.form.Entries.all_fit.Goals as goal

pub returns : goal.returns
returns c =
    let s = c.args.self in
    range_all _ (entry_fits_at s.sheet.first s.sheet.numbers.now) s.count _ c.all.ensures.ran (λ x b q k. search (rules, tests))
