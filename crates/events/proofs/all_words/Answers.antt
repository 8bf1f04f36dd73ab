-- `events::all_words` meets its contract. Assumes nothing.
use Rattle.std.proofs.Common.{◌≡◌, true, false, rules}
use borrow.Author.Tests.{tests}
use Rattle.std.proofs.lemmas.Iterator.{cases_from_all, YieldsList-from_slice}
use Rattle.events.specs.Values.{is_word}
use Rattle.events.proofs.WordsLaws.{words_told}
use Rattle.events.proofs.all_words.Goals as goal

pub returns : goal.returns
returns c =
    words_told c.args.list.now c.all.result
    (cases_from_all _ _ _ (λ x. is_word x ≡ true) (λ x. is_word x ≡ false) c.all.ensures.ran (YieldsList-from_slice c.args.list.now cc)
    (λ x q k. search (rules, tests)) (λ x q k. search (rules, tests)))
