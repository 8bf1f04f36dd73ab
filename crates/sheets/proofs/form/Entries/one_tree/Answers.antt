-- `sheets::form::Entries::one_tree` meets its contract: an entry that is not owed is at fault. The rest by the rules of the count.
-- Assumes nothing.
use Rattle.std.specs.Prelude.{◌≤◌}
use Rattle.std.proofs.Common.{sym, arith, le-ltb}
use Rattle.lists.specs.AndLaws.{and_first}
use Rattle.lists.specs.BelowLaws.{below_broken}
use Rattle.sheets.specs.Form.{owed_at, one_tree}
use Rattle.sheets.proofs.form.Entries.one_tree.Goals as goal

pub returns-then-owed-eq0 : goal.returns-then-owed-eq0
unfolding one_tree
returns-then-owed-eq0 c =
    let h = c.loop-i.invariant in
    let sheet = c.args.self.sheet in
    let none : owed_at sheet.first sheet.numbers.now c.loop-i.i ≤ 0 = omega arith in
    sym (and_first _ _ (below_broken _ c.loop-i.i _ (omega arith) (le-ltb 0 _ none)))
