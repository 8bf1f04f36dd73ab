-- `finding::compare_parts` meets its contract: the items are those of part q. Assumes nothing.
use mathlib.Core.Path.{sym, ap, ◌∙◌}
use Rattle.std.proofs.Common.{rules}
use Rattle.finding.specs.Keys.{part_order}
use Rattle.finding.proofs.HeadLaws.{part_key, run_gives}
use Rattle.finding.proofs.compare_parts.Goals as goal

pub returns : goal.returns
returns c =
    let a = c.args in
    let head = c.get_head-head.ensures in
    c.compare_part.ensures _ (run_gives a.limits a.bytes.now a.q head (λ k r h. search rules))
    ∙ ap (part_order a.limits a.bytes.now a.p) (sym (part_key a.limits a.bytes.now a.q head))
