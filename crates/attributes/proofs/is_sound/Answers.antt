-- `attributes::is_sound` meets its contract: each way out is a case of the test. Assumes nothing.
use Rattle.std.proofs.Common.{sym, ◌∙◌, true≢false, arith, rules}
use borrow.Author.Tests.{tests, ne_eqb}
use Rattle.lists.proofs.AllLaws.{range_all}
use Rattle.attributes.specs.Sound.{sound_attribute}
use Rattle.attributes.proofs.SoundTold.{size_broken, count_broken, all_told}
use Rattle.attributes.proofs.is_sound.Goals as goal
use Rattle.attributes.proofs.is_sound.Goals.{then-table-eq-TABLE_SIZE, else-table-eq-TABLE_SIZE}

pub returns-then-len-le-ATTRIBUTE_LIMIT : goal.returns-then-len-le-ATTRIBUTE_LIMIT
returns-then-len-le-ATTRIBUTE_LIMIT c =
    let t = c.args.table.now in
    let n = c.len-then-len-le-ATTRIBUTE_LIMIT in
    let h = range_all _ (sound_attribute t) n.result _ c.all.ensures.ran (λ x b q k. search (rules, tests)) in
    elim c.if-table-eq-TABLE_SIZE.branch [
      | then-table-eq-TABLE_SIZE w ↦ all_told t n.result n.ensures (omega arith) (search (rules, tests)) c.all.result h
      | else-table-eq-TABLE_SIZE w ↦
          absurd (true≢false (sym c.if-len-le-ATTRIBUTE_LIMIT.true ∙ w.value-is ∙ ne_eqb _ _ w.if-table-eq-TABLE_SIZE.false))
    ]

pub returns-else-len-le-ATTRIBUTE_LIMIT : goal.returns-else-len-le-ATTRIBUTE_LIMIT
returns-else-len-le-ATTRIBUTE_LIMIT c =
    let t = c.args.table.now in
    elim c.if-table-eq-TABLE_SIZE.branch [
      | then-table-eq-TABLE_SIZE w ↦ c.if-len-le-ATTRIBUTE_LIMIT.false ∙ count_broken t w.len.result w.len.ensures (search (rules, tests))
      | else-table-eq-TABLE_SIZE w ↦ c.if-len-le-ATTRIBUTE_LIMIT.false ∙ size_broken t w.if-table-eq-TABLE_SIZE.false
    ]
