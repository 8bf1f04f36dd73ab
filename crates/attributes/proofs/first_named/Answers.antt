-- `attributes::first_named` meets its contract. Assumes nothing.
use Rattle.std.proofs.Common.{sym}
use Rattle.attributes.specs.Table.{named}
use Rattle.attributes.specs.TableLaws.{first_none, first_here, first_more}
use Rattle.attributes.proofs.NameLaws.{named_told}
use Rattle.attributes.proofs.first_named.Goals as goal

pub loop-i-init : goal.loop-i-init
loop-i-init c = let a = c.args in first_none (named a.table.now a.name.now)

pub returns-then-same_bytes : goal.returns-then-same_bytes
returns-then-same_bytes c =
    let a = c.args in
    let h = c.loop-i in
    let here = named_told a.table.now a.name.now _ h.i c.name_of.ensures c.same_bytes.ensures c.if-same_bytes.true in
    sym (first_here (named a.table.now a.name.now) h.i a.count c.loop-i-test.true h.invariant here)

pub loop-i-preserved : goal.loop-i-preserved
loop-i-preserved c =
    let a = c.args in
    let h = c.loop-i in
    let here = named_told a.table.now a.name.now _ h.i c.name_of.ensures c.same_bytes.ensures c.if-same_bytes.false in
    first_more (named a.table.now a.name.now) h.i h.invariant here
