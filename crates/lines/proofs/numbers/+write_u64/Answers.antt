-- `lines::numbers::write_u64`, which calls itself for the tenth part, meets its contract. Assumes nothing.
use native.Mathlib.Omega.{arith}
use Rattle.lines.specs.DigitsLaws.{digits_some, length_more}
use Rattle.lines.proofs.WritingLaws.{wrote_small, wrote_more}
use Rattle.lines.proofs.numbers.+write_u64.Goals as goal

pub bounds-out-at : goal.bounds-out-at
bounds-out-at t c = omega (arith, digits_some c.args.x)

pub returns-then-x-lt10 : goal.returns-then-x-lt10
returns-then-x-lt10 t c = wrote_small c.args.out.now c.args.at c.args.x _ c.if-x-lt10.true c.digit.ensures

pub write_u64-last-requires : goal.write_u64-last-requires
write_u64-last-requires t c = let more = length_more c.args.x c.if-x-lt10.false in (omega arith, omega arith)

pub bounds-out-last : goal.bounds-out-last
bounds-out-last t c =
    let more = length_more c.args.x c.if-x-lt10.false in
    omega (arith, c.write_u64-last.ensures.0, c.write_u64-last.auto.out)

pub overflow_add-result-2 : goal.overflow_add-result-2
overflow_add-result-2 t c =
    let more = length_more c.args.x c.if-x-lt10.false in
    omega (arith, c.write_u64-last.ensures.0, c.write_u64-last.auto.out)

pub returns : goal.returns
returns t c =
    let a = c.args in
    wrote_more a.out.now a.at a.x _ _ _ c.if-x-lt10.false c.digit-2.ensures c.write_u64-last.ensures
