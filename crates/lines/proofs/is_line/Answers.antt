-- `lines::is_line` meets its contract. The invariant: every word passed is right, so the line is what the words that are left make of it.
-- Assumes nothing.
use mathlib.Core.Path.{sym, ap, ◌∙◌}
use native.Mathlib.Omega.{arith}
use borrow.Author.Tests.{le-leb, lt-leb}
use Rattle.lists.specs.AndLaws.{and_first, and_second, and_both}
use Rattle.lines.specs.Words.{every, is_word, is_line}
use Rattle.lines.specs.WordsLaws.{words_whole, words_step, words_none, every_none, every_first, every_rest}
use Rattle.lines.proofs.is_line.Goals as goal

pub returns-then-line-gt-LINE_LIMIT : goal.returns-then-line-gt-LINE_LIMIT
unfolding is_line
returns-then-line-gt-LINE_LIMIT c = sym (and_first _ _ (lt-leb _ _ c.if-line-gt-LINE_LIMIT.true))

pub loop-at-init : goal.loop-at-init
loop-at-init c = (omega arith, omega arith, ap (every is_word) (sym (words_whole c.args.line.now)))

pub returns-then-not-is_word : goal.returns-then-not-is_word
unfolding is_line
returns-then-not-is_word c =
    let l = c.loop-at in
    let here = rw c.word_end-end.ensures.exact at (sym c.is_word.ensures ∙ c.if-not-is_word.true) in
    let step = words_step c.args.line.now l.at c.loop-at-test.true in
    sym (and_second _ _ (l.invariant.2 ∙ ap (every is_word) step ∙ every_first is_word _ _ here))

pub loop-at-preserved : goal.loop-at-preserved
loop-at-preserved c =
    let l = c.loop-at in
    let end = c.word_end-end.ensures.exact in
    let here = rw end at (sym c.is_word.ensures ∙ c.if-not-is_word.false) in
    let step = words_step c.args.line.now l.at c.loop-at-test.true in
    (omega arith, l.invariant.1, l.invariant.2 ∙ ap (every is_word) step ∙ rw end (every_rest is_word _ _ here))

pub returns : goal.returns
unfolding is_line
returns c =
    let l = c.loop-at in
    let none = words_none c.args.line.now l.at c.loop-at-test.false in
    sym (and_both _ _ (le-leb _ _ l.invariant.1) (l.invariant.2 ∙ ap (every is_word) none ∙ every_none is_word))
