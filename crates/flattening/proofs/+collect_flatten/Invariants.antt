-- `flatten` and `collect`, which call each other over the sheet's remaining entries, end. The measure counts three for each number of the
-- sheet after the first i; `flatten` adds one, and `collect` its lag: two where it hands the entry on to `flatten`, none where it goes on
-- to the entry's children. Assumes nothing.
use Rattle.std.specs.Prelude.{◌+◌, ◌*◌, ◌-◌, length}
use Rattle.sheets.specs.Entries.{kind_of}
use Rattle.sheets.specs.Spells.{shape_of}
use Rattle.flattening.proofs.CollectingLaws.{lag}
use Rattle.flattening.proofs.+collect_flatten.Given as goal

abbrev pub decreases-collect : goal.decreases-collect
decreases-collect l =
    let s = l.sheet.now.numbers.now in 3 * (length s - l.i) + lag l.parent l.negate (shape_of (kind_of l.sheet.now.first s l.i))

abbrev pub decreases-flatten : goal.decreases-flatten
decreases-flatten l = 3 * (length l.sheet.now.numbers.now - l.i) + 1
