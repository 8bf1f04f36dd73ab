-- `lines::rows::read_row` meets its contract. The invariant: the words passed are numbers and stand in `out`, so the row is what the words
-- that are left make of it. Assumes nothing.
use Rattle.std.proofs.Common.{◌≡◌, length, ◌≤◌, drop}
use Rattle.std.proofs.lemmas.List.Edits.{sets}
use Rattle.lines.specs.Words.{words_from}
use Rattle.lines.specs.Rows.{leading, row_from}
use Rattle.lines.proofs.rows.read_row.Given as goal

abbrev pub invariant-loop-word : goal.invariant-loop-word
invariant-loop-word l =
    let words = words_from l.line l.at in
    let left = drop l.count words in
    record {
      passed : l.count ≡ length l.yielded;
      room : l.count ≤ length l.out;
      same_room : length l.out ≡ length l.initial.out;
      row : row_from (length l.initial.out) 0 words ≡ row_from (length l.initial.out) l.count left;
      places : sets l.initial.out 0 (leading words) ≡ sets l.out l.count (leading left);
    }
