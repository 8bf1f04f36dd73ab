-- The closure `word` of `finding::compare_candidate` meets its contract. Assumes nothing.
use Rattle.finding.proofs.ItemLaws.{word_at}
use Rattle.finding.proofs.fn.compare_candidate.word.Goals as goal

pub returns : goal.returns
returns g c = word_at g.T.Item.word c.captures.items.now c.args.k c.requires c.index-items-k.is c.word.ensures
