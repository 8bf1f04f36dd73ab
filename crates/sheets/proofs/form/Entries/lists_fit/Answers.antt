-- `sheets::form::Entries::lists_fit` meets its contract: a list that doesn't fit is at fault, and the last ends the sheet. The rest by the
-- rules of the walk. Assumes nothing.
use Rattle.std.specs.Prelude.{◌≡◌, false}
use Rattle.std.proofs.Common.{sym, ap, ◌∙◌, arith}
use Rattle.lists.specs.AndLaws.{and_first, and_skip}
use Rattle.lists.specs.BelowLaws.{below_broken}
use Rattle.sheets.specs.Bodies.{start_at}
use Rattle.sheets.specs.Form.{list_fits_at, lists_fit}
use Rattle.sheets.proofs.form.Entries.lists_fit.Goals as goal

pub returns-then-not-list_fits : goal.returns-then-not-list_fits
unfolding lists_fit
returns-then-not-list_fits c =
    let e = c.args.self in
    let h = c.loop-i.invariant in
    let told = c.if-not-list_fits.true in
    let fits : list_fits_at e.sheet.first e.sheet.numbers.now e.count c.loop-i.i ≡ false = cc in
    sym (and_first _ _ (below_broken _ c.loop-i.i _ (omega arith) fits))

pub returns : goal.returns
unfolding lists_fit
returns c =
    let e = c.args.self in
    let s = e.sheet.numbers.now in
    let h = c.loop-i.invariant in
    let end : c.loop-i.i ≡ e.count = omega arith in
    let start : c.loop-i.start ≡ start_at e.sheet.first s e.count = h.0 ∙ ap (start_at e.sheet.first s) end in
    rw (c.bodies.ensures, start) (sym (and_skip _ _ (rw end at h.2)))
