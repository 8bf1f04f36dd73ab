-- `sheets::Sheet::read_predicate` meets its contract. Assumes nothing.
use Rattle.std.specs.Prelude.{◌≡◌, true, false, FitsSigned}
use Rattle.std.proofs.Common.{arith, rules, w64}
use Rattle.std.proofs.lemmas.Int.{to_z-of_z}
use Rattle.sheets.specs.Table.{has_list}
use Rattle.sheets.specs.Bodies.{tag_of}
use Rattle.sheets.specs.ReadingLaws.{readable, entry_listed, entry_unlisted}
use Rattle.sheets.proofs.Sheet.read_predicate.Goals as goal

pub overflow_cast-bare : goal.overflow_cast-bare
overflow_cast-bare c =
    let a = c.args in
    let r = readable a.self.first a.self.numbers.now a.n a.i c.requires.0 c.requires.1 in
    let k = r.kinds in
    let e = c.field-2.ensures in
    omega arith

pub overflow_cast-bare-2 : goal.overflow_cast-bare-2
overflow_cast-bare-2 c =
    let a = c.args in
    let r = readable a.self.first a.self.numbers.now a.n a.i c.requires.0 c.requires.1 in
    let t = r.tags in
    let e = c.field-tag.ensures in
    omega arith

pub scaled-literal-requires : goal.scaled-literal-requires
scaled-literal-requires c =
    let a = c.args in
    let r = readable a.self.first a.self.numbers.now a.n a.i c.requires.0 c.requires.1 in
    let unlisted : has_list (tag_of a.self.first a.self.numbers.now a.i) ≡ false = cc in
    (r.inside, r.scales unlisted)

pub returns-then-has_list : goal.returns-then-has_list
returns-then-has_list c =
    let a = c.args in
    let listed : has_list (tag_of a.self.first a.self.numbers.now a.i) ≡ true = cc in
    rw (c.field.ensures, c.field-2.ensures, c.field-tag.ensures, c.field-then-has_list.ensures, c.field-then-has_list-2.ensures)
    (entry_listed a.self.first a.self.numbers.now a.n a.i listed)

pub returns-else-has_list : goal.returns-else-has_list
returns-else-has_list c =
    let a = c.args in
    let unlisted : has_list (tag_of a.self.first a.self.numbers.now a.i) ≡ false = cc in
    let fits : FitsSigned w64 c.scaled-literal.result.number = search rules in
    let number = to_z-of_z w64 _ fits in
    rw (number, c.scaled-literal.ensures, c.field.ensures, c.field-2.ensures, c.field-tag.ensures)
    (entry_unlisted a.self.first a.self.numbers.now a.n a.i unlisted)
