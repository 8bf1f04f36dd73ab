-- `changes::renumber_roots` meets its contract. Assumes nothing.
use native.Mathlib.Omega.{arith}
use Rattle.changes.proofs.RulesLaws.{root_below}
use Rattle.changes.proofs.renumber_roots.Goals as goal

pub bounds-news-rule : goal.bounds-news-rule
bounds-news-rule c =
    root_below c.args.bytes.now c.args.news.now c.requires.2 c.loop-i.invariant c.get_rule-rule.ensures
    (omega (arith, c.get_count-i-end.ensures))
