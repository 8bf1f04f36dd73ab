-- `finding::compare_part` meets its contract: the heads decide, or leave it to the items. The loop's invariant: at each place passed the
-- call gave the part's item, so the rest decides. Assumes nothing.
use Prim.Native.Nat.{◌<◌}
use native.Mathlib.Omega.{arith}
use Rattle.std.proofs.Common.{rules}
use Rattle.finding.proofs.HeadLaws.{Against, against, same_length, heads_settle, calls_differ, calls_end}
use Rattle.finding.proofs.compare_part.Goals as goal

pub returns-then-is_ne : goal.returns-then-is_ne
returns-then-is_ne g c others gives =
    let a = c.args in
    heads_settle a.limits a.bytes.now a.p a.head c.get_head-own.ensures c.compare_heads-order.ensures others (search rules)

pub item-y-requires : goal.item-y-requires
item-y-requires g c =
    let a = c.args in
    let w : Against a.limits a.bytes.now a.p c.get_head-own.result a.head c.compare_heads-order.result
    = against c.get_head-own.ensures c.compare_heads-order.ensures in
    let l : c.loop-k.k < a.head.length = omega (arith, same_length w (search rules)) in
    search rules

pub returns-then-x-y : goal.returns-then-x-y
returns-then-x-y g c others gives =
    let a = c.args in
    let w : Against a.limits a.bytes.now a.p c.get_head-own.result a.head c.compare_heads-order.result
    = against c.get_head-own.ensures c.compare_heads-order.ensures in
    let at = c.loop-k in
    calls_differ w (search rules) gives at.k at.invariant c.loop-k-test.true c.get_item-x.ensures (search rules) c.if-x-y.true c.cmp.ensures

pub returns : goal.returns
returns g c others gives =
    let a = c.args in
    let w : Against a.limits a.bytes.now a.p c.get_head-own.result a.head c.compare_heads-order.result
    = against c.get_head-own.ensures c.compare_heads-order.ensures in
    let at = c.loop-k in
    calls_end w (search rules) gives at.k at.invariant (omega arith)
