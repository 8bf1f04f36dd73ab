-- `attributes::attribute_sound` meets its contract: each way out is a case of the test. Assumes nothing.
use Rattle.std.proofs.Common.{sym, ◌∙◌, true≢false}
use Rattle.attributes.specs.Table.{name_limit, kind_at}
use Rattle.attributes.proofs.RangeLaws.{contained}
use Rattle.attributes.proofs.SoundTold.{kind_told, kind_broken, length_broken, new_told}
use Rattle.attributes.proofs.attribute_sound.Goals as goal
use Rattle.attributes.proofs.attribute_sound.Goals.{then-is_ok, else-is_ok}

pub returns-then-contains : goal.returns-then-contains
returns-then-contains c = let a = c.args in
    let kinded = kind_told _ (kind_at a.table.now a.i) c.by_id-kind.ensures _ c.try_from.ensures _ c.is_ok.ensures.value in
    elim c.if-is_ok.branch [
      | then-is_ok w ↦ let m = w.new.ensures in
          let long = contained 1 w.length_of.result name_limit _ _ _ _ m.start m.end m.exhausted w.contains.ensures.value in
          new_told a.table.now a.i _ _ kinded w.if-is_ok.true (rw w.length_of.ensures at long) (sym w.value-is ∙ c.if-contains.true)
          _ c.name_of.ensures _ _ c.first_named.ensures c.is_none.ensures
      | else-is_ok w ↦ absurd (true≢false (sym c.if-contains.true ∙ w.value-is ∙ w.if-is_ok.false))
    ]

pub returns-else-contains : goal.returns-else-contains
returns-else-contains c = let a = c.args in
    let kinded = kind_told _ (kind_at a.table.now a.i) c.by_id-kind.ensures _ c.try_from.ensures _ c.is_ok.ensures.value in
    elim c.if-is_ok.branch [
      | then-is_ok w ↦ let m = w.new.ensures in
          let long = contained 1 w.length_of.result name_limit _ _ _ _ m.start m.end m.exhausted w.contains.ensures.value in
          c.if-contains.false ∙ length_broken a.table.now a.i _ (rw w.length_of.ensures at long) (sym w.value-is ∙ c.if-contains.false)
      | else-is_ok w ↦ c.if-contains.false ∙ kind_broken a.table.now a.i _ kinded w.if-is_ok.false
    ]
