-- `lines::keywords::truth_of` meets its contract: its table in the code is the one of the definition. Assumes nothing.
use Rattle.std.proofs.Common.{◌∙◌}
use Rattle.lines.specs.Keywords.{truths}
use Rattle.lines.specs.KeywordsLaws.{by_place}
use Rattle.lines.proofs.keywords.truth_of.Goals as goal

pub returns : goal.returns
returns c = c.look_up.ensures ∙ by_place c.args.word.now truths
