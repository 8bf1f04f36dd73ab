-- `sheets::form::Entries::lists_fit` meets its contract. The invariant: the next list is to start where the last ended, and each list
-- passed fits. Assumes nothing.
use Rattle.std.specs.Prelude.{◌≡◌, true, ◌+◌, ◌≤◌, length}
use Rattle.lists.specs.Below.{all_below}
use Rattle.sheets.specs.Bodies.{start_at, bodies_at}
use Rattle.sheets.specs.Form.{list_fits_at}
use Rattle.sheets.proofs.form.Entries.lists_fit.Given as goal

abbrev pub invariant-loop-i : goal.invariant-loop-i
invariant-loop-i l =
    let e = l.self in
    let s = e.sheet.numbers.now in
    (l.start ≡ start_at e.sheet.first s l.i)
    × (bodies_at e.sheet.first e.count + l.start ≤ length s)
    × (all_below (list_fits_at e.sheet.first s e.count) l.i ≡ true)
