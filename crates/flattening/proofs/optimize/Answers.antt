-- `flattening::optimize` meets its contract: at most one tree stands in the sheet, so its codes are at most 128. Assumes nothing.
use mathlib.Core.Bool.{false}
use native.Mathlib.Omega.{arith}
use Rattle.ast.specs.Flattening.{optimize}
use Rattle.flattening.specs.Codes.{predicate_code}
use Rattle.flattening.proofs.CodesLaws.{codes_most}
use Rattle.sheets.specs.SpellsLaws.{spells_size, one_tree_lem}
use Rattle.flattening.proofs.WritingLaws.{wrote_whole}
use Rattle.flattening.proofs.optimize.Goals as goal

pub returns : goal.returns
returns c t j sp =
    let s = c.args.sheet.numbers.now in
    let first = c.args.sheet.first in
    let rd = c.requires in
    let same = (one_tree_lem first s t rd.tree 0 j rd.end sp rd.spells).1 in
    let w = c.flatten-written.ensures t j sp in
    wrote_whole (optimize predicate_code t) j _ c.flatten-written.result w
    (omega (arith, codes_most predicate_code false t, spells_size first s t 0 j sp, rd.small))
