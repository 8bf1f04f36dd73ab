-- `sheets::form::all_words` meets its contract: each element is asked. Assumes nothing.
use Rattle.std.specs.Prelude.{pos}
use Rattle.std.proofs.Common.{rules, tests}
use Rattle.sheets.specs.Bodies.{is_word, all_words}
use Rattle.lists.proofs.AllLaws.{slice_all}
use Rattle.sheets.proofs.form.all_words.Goals as goal

pub returns : goal.returns
unfolding all_words is_word
returns c = slice_all _ is_word c.args.elements.now (pos 0) _ c.all.ensures.ran (cc) (λ x b q k. search (rules, tests))
