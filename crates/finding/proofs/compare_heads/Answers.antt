-- `finding::compare_heads` meets its contract. Assumes nothing.
use mathlib.Core.Path.{◌∙◌}
use Rattle.finding.proofs.HeadLaws.{heads_order}
use Rattle.finding.proofs.compare_heads.Goals as goal

pub returns : goal.returns
returns c = c.cmp.ensures ∙ heads_order c.args.a c.args.b
