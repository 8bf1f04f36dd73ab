-- `lines::numbers::write_u64`, which calls itself for the tenth part, meets its contract. The measure is the number. Assumes nothing.
use Rattle.lines.proofs.numbers.+write_u64.Given as goal

abbrev pub decreases-write_u64 : goal.decreases-write_u64
decreases-write_u64 l = l.x
