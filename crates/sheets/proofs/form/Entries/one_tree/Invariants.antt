-- `sheets::form::Entries::one_tree` meets its contract. The invariant: the count is of the subtrees owed, and each entry passed was owed.
-- Assumes nothing.
use Rattle.std.specs.Prelude.{◌≡◌, true, ◌+◌, ◌≤◌}
use Rattle.lists.specs.Below.{all_below}
use Rattle.sheets.specs.Form.{owed_at, owes}
use Rattle.sheets.proofs.form.Entries.one_tree.Given as goal

abbrev pub invariant-loop-i : goal.invariant-loop-i
invariant-loop-i l =
    (l.owed ≡ owed_at l.self.sheet.first l.self.sheet.numbers.now l.i)
    × (l.owed ≤ l.i + 1)
    × (all_below (owes l.self.sheet.first l.self.sheet.numbers.now) l.i ≡ true)
