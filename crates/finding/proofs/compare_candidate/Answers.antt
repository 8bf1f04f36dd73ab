-- `finding::compare_candidate` meets its contract: the items are the candidate's, each as its word. Assumes nothing.
use mathlib.Core.Path.{◌≡◌, sym, ap, ◌∙◌}
use mathlib.Core.List.{map}
use lib.ListN.{length, length-map}
use Rattle.std.proofs.Common.{rules}
use Rattle.store.specs.declared.Head.{Head}
use Rattle.finding.specs.Keys.{part_order}
use Rattle.finding.proofs.HeadLaws.{candidate_key_lem, calls_give}
use Rattle.finding.proofs.compare_candidate.Goals as goal

pub returns : goal.returns
returns g c =
    let a = c.args in
    let word = g.T.Item.word in
    let long : length a.items.now ≡ c.candidate_head-head.result.length = ap (λ (h : Head). h.length) (sym c.candidate_head-head.ensures) in
    c.compare_part.ensures (map word a.items.now)
    (calls_give _ _ _ (length-map a.items.now word ∙ long) (λ k r l h. search rules))
    ∙ ap (part_order a.limits a.bytes.now a.p)
    (rw (g.met.T.Item.each a.items.now)
    (sym (candidate_key_lem a.content (map word a.items.now) (length a.items.now) c.candidate_head-head.ensures
    (sym (length-map a.items.now word)))))
