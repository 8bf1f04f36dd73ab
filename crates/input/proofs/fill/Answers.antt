-- `input::fill` meets its contract: what stood in the window is moved, and the read is behind it. Assumes nothing.
use Rattle.std.proofs.Common.{◌∙◌, arith, rules, tests}
use borrow.Rule.Slice.PartMut.{mid_len}
use Rattle.input.proofs.ReadingLaws.{filled}
use Rattle.input.proofs.fill.Goals as goal

pub returns : goal.returns
returns g c = filled _ c.copy_within.new.self c.read-got.new.buf _ _ c.requires c.copy_within.ensures.after c.copy_within.ensures.len
    (c.read-got.auto.buf ∙ mid_len _ _ c.copy_within.new.self (omega arith)) (search (rules, tests))
