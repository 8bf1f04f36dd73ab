-- What the two tests of a word come to, for the check to try: numbers compared, and the parts of an `and`. Assumes nothing.
use Rattle.std.proofs.lemmas.Bool.Decides.{nat_tests}
use Rattle.lists.specs.AndLaws.{and_first, and_skip}

pub ruleset word_tests = (nat_tests, and_first, and_skip)
