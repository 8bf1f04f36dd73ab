-- `sheets::form::Entries::list_fits` meets its contract. Assumes nothing.
use Rattle.std.specs.Prelude.{◌≡◌, true, ◌+◌, ◌-◌, ◌≤◌, length, take, drop}
use Rattle.std.proofs.Common.{sym, ◌∙◌, arith, take_all, length-drop}
use Rattle.sheets.specs.Table.{has_list}
use Rattle.sheets.specs.Bodies.{tag_of, bodies_at}
use Rattle.sheets.proofs.ListFitsLaws.{fits_listed}
use Rattle.sheets.proofs.form.Entries.list_fits.Goals as goal

pub returns-then-size-bodies : goal.returns-then-size-bodies
returns-then-size-bodies c =
    let e = c.args.self in
    let a = c.args in
    let s = e.sheet.numbers.now in
    let from = bodies_at e.sheet.first e.count + a.start in
    let rest : take (length s - from) (drop from s) ≡ drop from s = take_all _ _ (omega (arith, length-drop from s)) in
    let room = rw c.bodies.ensures at c.if-size-bodies.true in
    let inside : from + a.size ≤ length s = omega (arith, rw rest at room.1, length-drop from s) in
    let told = c.if-not-has_list.false in
    let listed : has_list (tag_of e.sheet.first s a.i) ≡ true = cc in
    rw (c.field-tag.ensures, c.bodies.ensures, rest) at c.elements_fit.ensures
    ∙ sym (fits_listed _ _ _ _ _ _ listed (sym c.field.ensures ∙ room.0) inside)
