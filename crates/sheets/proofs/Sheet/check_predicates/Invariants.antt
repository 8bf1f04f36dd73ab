-- `sheets::Sheet::check_predicates` meets its contract. The invariant: no entry passed is refused. Assumes nothing.
use Rattle.std.specs.Prelude.{◌≡◌}
use Rattle.error.specs.Answers.{Done}
use Rattle.sheets.specs.WellFormed.{count_of}
use Rattle.sheets.specs.Suiting.{entries_answer}
use Rattle.sheets.proofs.Sheet.check_predicates.Given as goal

abbrev pub invariant-loop-i : goal.invariant-loop-i
invariant-loop-i l =
    (l.n ≡ count_of l.self.first l.self.numbers.now)
    × (entries_answer l.attributes l.self.first l.self.numbers.now l.i ≡ Done)
