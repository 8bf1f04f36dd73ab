-- `attributes::define` meets its contract: each way out is a case of the outcome. Assumes nothing.
use Rattle.std.proofs.Common.{ap, sym, ◌∙◌, arith, rules}
use Rattle.attributes.specs.Table.{name_limit}
use Rattle.attributes.specs.Definitions.{outcome}
use Rattle.attributes.proofs.RangeLaws.{contained}
use Rattle.attributes.proofs.NameLaws.{long_refused, twice_refused, new_taken}
use Rattle.attributes.proofs.define.Goals as goal

pub returns-then-not-contains : goal.returns-then-not-contains
returns-then-not-contains c = let a = c.args in
    let n = c.new.ensures in
    let told = contained 1 a.definition.length name_limit _ _ _ _ n.start n.end n.exhausted c.contains.ensures.value in
    long_refused a.table.now a.definition _ told c.if-not-contains.true

pub returns-then-is_some : goal.returns-then-is_some
returns-then-is_some c = let a = c.args in
    let n = c.new.ensures in
    let told = contained 1 a.definition.length name_limit _ _ _ _ n.start n.end n.exhausted c.contains.ensures.value in
    twice_refused a.table.now a.definition _ told c.if-not-contains.false c.len.result c.len.ensures (omega arith)
    c.by_name.result c.by_name.ensures (sym c.is_some.ensures ∙ c.if-is_some.true)

pub write_record-requires : goal.write_record-requires
write_record-requires c = (c.requires, omega (arith, c.len.ensures), search rules)

pub returns : goal.returns
returns c = let a = c.args in
    let n = c.new.ensures in
    let told = contained 1 a.definition.length name_limit _ _ _ _ n.start n.end n.exhausted c.contains.ensures.value in
    ap (outcome 0) c.write_record.ensures
    ∙ new_taken a.table.now a.definition _ told c.if-not-contains.false c.len.result c.len.ensures (omega arith)
    c.by_name.result c.by_name.ensures (sym c.is_some.ensures ∙ c.if-is_some.false)
