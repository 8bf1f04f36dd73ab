-- `decimals::compare` meets its contract: by how the two scales stand.
-- Assumes nothing.
use mathlib.Core.Path.{ap, ◌∙◌}
use native.Mathlib.Nat.{le_of_lt}
use native.Mathlib.Omega.{arith}
use Rattle.std.specs.Ordering.{ordering_reverse}
use Rattle.decimals.proofs.ScaleLaws.{same_scale, lesser_scale, greater_scale}
use Rattle.decimals.proofs.SignLaws.{back}
use Rattle.decimals.proofs.compare.Goals as goal

pub returns-then-left-right : goal.returns-then-left-right
returns-then-left-right c =
    let a = c.args in
    c.cmp.ensures ∙ same_scale a.left a.right c.if-left-right.true

pub returns-then-left-right-2 : goal.returns-then-left-right-2
returns-then-left-right-2 c =
    let left = back c.args.left.number (omega arith) in
    let right = back c.args.right.number (omega arith) in
    c.raised.ensures
    ∙ rw (left, right) (lesser_scale c.args.left c.args.right (le_of_lt c.if-left-right-2.true) c.requires.1)

pub returns : goal.returns
returns c =
    let right = back c.args.right.number (omega arith) in
    let left = back c.args.left.number (omega arith) in
    c.reverse.ensures
    ∙ ap ordering_reverse c.raised-2.ensures
    ∙ rw (right, left) (greater_scale c.args.left c.args.right c.if-left-right-2.false c.requires.0)
