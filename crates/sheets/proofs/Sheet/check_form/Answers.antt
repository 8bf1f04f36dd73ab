-- `sheets::Sheet::check_form` meets its contract: a number that passes both tests is at most the limit. The rest by rules.
-- Assumes nothing.
use Rattle.std.specs.Prelude.{◌≡◌, FitsSigned}
use Rattle.std.proofs.Common.{ap, ◌∙◌, arith, rules, w64}
use Rattle.std.proofs.lemmas.Int.{to_z-of_z}
use Rattle.sheets.specs.Entries.{natural_of}
use Rattle.sheets.specs.WellFormed.{count_of, count_at}
use Rattle.sheets.proofs.AnswersLaws.{counting}
use Rattle.sheets.proofs.Sheet.check_form.Goals as goal

pub check_entries-requires : goal.check_entries-requires
check_entries-requires c =
    let sheet = c.args.self in
    let fits : FitsSigned w64 (count_at sheet.first sheet.numbers.now) = search rules in
    let read = to_z-of_z w64 _ fits in
    let counted = counting sheet.first sheet.numbers.now c.if-self.false (rw read at c.if-n-lt1.false) (rw read at c.if-n.false) in
    let e : c.natural.result ≡ count_of sheet.first sheet.numbers.now = c.natural.ensures ∙ ap natural_of read in
    (omega arith, rw e counted.few)
