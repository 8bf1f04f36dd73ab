-- `lines::numbers::read_u64` meets its contract. Assumes nothing.
use Rattle.std.proofs.Common.{ap, sym, ◌∙◌}
use Rattle.lines.specs.Numbers.{magnitude_of}
use Rattle.lines.specs.NumbersLaws.{unsigned_minus, unsigned_plain}
use Rattle.lines.proofs.numbers.read_u64.Goals as goal

pub returns-in-Some : goal.returns-in-Some
returns-in-Some c =
    let minus = c.in-Some.ensures in
    c.magnitude.ensures ∙ ap (magnitude_of 0) minus.1 ∙ sym (unsigned_minus c.args.word.now minus.0 c.args.most)

pub returns-in-None : goal.returns-in-None
returns-in-None c = c.magnitude-in-None.ensures ∙ sym (unsigned_plain c.args.word.now c.in-None.ensures c.args.most)
