-- `lines::rows::read_row` meets its contract. Assumes nothing.
use Rattle.std.proofs.Common.{rules, tests, sym, ◌∙◌, arith, [], ◌∷◌, length-append, drop}
use lib.ListN.{length-set}
use Rattle.std.proofs.lemmas.Iterator.Splits.{YieldsList-from_slice_split}
use Rattle.std.proofs.lemmas.Iterator.Consumers.{YieldsList-at}
use mir.Syntax.{w64}
use mir.ValLaws.{to_z-of_z}
use Rattle.lines.specs.NumbersLaws.{number_fits}
use Rattle.lines.specs.Words.{words_from}
use Rattle.lines.specs.Rows.{leading}
use Rattle.lines.specs.WordsLaws.{words_none}
use Rattle.lines.specs.RowsLaws.{row_done, row_more, row_none, row_full, places_done, places_more, places_none, places_full}
use Rattle.lines.proofs.LibraryLaws.{is_space, words_next, words_passed}
use Rattle.lines.proofs.rows.read_row.Goals as goal

pub returns-in_default : goal.returns-in_default
returns-in_default c =
    let h = c.in_default.ensures.lookup in
    let none = words_none c.args.line.now c.args.at (omega (arith, h.0)) in
    rw none (sym (row_done _ 0 (omega arith)), sym (places_done _ 0))

pub returns-then-out-count : goal.returns-then-out-count
returns-then-out-count c =
    let l = c.loop-word in
    let h = c.in-Some.ensures.lookup.0 in
    let e = c.split-word-items.ensures in
    let it = c.into_iter-word-iterator.ensures.into_iter_gives in
    let next = words_next _ _ c.args.at h.0 h.2
    (YieldsList-at it (YieldsList-from_slice_split _ is_space _ e.rest e.done e.closure (λ x r q k. search (rules, tests))))
    l.yielded l.yielded_by l.count l.invariant.passed _ _ _ c.in-Some-word.is c.next.ensures.steps in
    let left = drop l.count (words_from c.args.line.now c.args.at) in (
      sym (l.invariant.row ∙ rw next (row_full _ l.count _ _ (omega (arith, l.invariant.same_room)))),
      sym (l.invariant.places ∙ places_full (leading left) l.out l.count c.if-out-count.true),
    )

pub returns-in_err-out : goal.returns-in_err-out
returns-in_err-out c =
    let l = c.loop-word in
    let h = c.in-Some.ensures.lookup.0 in
    let e = c.split-word-items.ensures in
    let it = c.into_iter-word-iterator.ensures.into_iter_gives in
    let next = words_next _ _ c.args.at h.0 h.2
    (YieldsList-at it (YieldsList-from_slice_split _ is_space _ e.rest e.done e.closure (λ x r q k. search (rules, tests))))
    l.yielded l.yielded_by l.count l.invariant.passed _ _ _ c.in-Some-word.is c.next.ensures.steps in
    let read = sym c.read_i64.ensures ∙ c.in_err-out.was in (
      c.from_residual.ensures ∙ sym (l.invariant.row ∙ rw next (row_none _ l.count _ _ read)),
      sym (l.invariant.places ∙ rw next (places_none l.out l.count _ _ read)),
    )

pub loop-word-preserved : goal.loop-word-preserved
loop-word-preserved c =
    let l = c.loop-word in
    let h = c.in-Some.ensures.lookup.0 in
    let e = c.split-word-items.ensures in
    let it = c.into_iter-word-iterator.ensures.into_iter_gives in
    let next = words_next _ _ c.args.at h.0 h.2
    (YieldsList-at it (YieldsList-from_slice_split _ is_space _ e.rest e.done e.closure (λ x r q k. search (rules, tests))))
    l.yielded l.yielded_by l.count l.invariant.passed _ _ _ c.in-Some-word.is c.next.ensures.steps in
    let read = sym c.read_i64.ensures ∙ c.in_ok-out.was in
    record {
      passed = omega (arith, l.invariant.passed, length-append l.yielded (c.in-Some-word.word ∷ []));
      room = simp length-set (omega arith);
      same_room = simp length-set l.invariant.same_room;
      row = l.invariant.row ∙ rw next (row_more _ l.count _ _ _ read);
      places = l.invariant.places ∙ rw (next, to_z-of_z w64 _ (number_fits _ _ read)) (places_more l.out l.count _ _ _ read);
    }

pub returns : goal.returns
returns c =
    let l = c.loop-word in
    let h = c.in-Some.ensures.lookup.0 in
    let e = c.split-word-items.ensures in
    let it = c.into_iter-word-iterator.ensures.into_iter_gives in
    let passed = words_passed _ _ c.args.at h.0 h.2
    (YieldsList-at it (YieldsList-from_slice_split _ is_space _ e.rest e.done e.closure (λ x r q k. search (rules, tests))))
    l.yielded l.yielded_by l.count l.invariant.passed _ _ c.in-None.is c.next.ensures.steps in (
      sym (l.invariant.row ∙ rw passed (row_done _ l.count (omega (arith, l.invariant.room)))),
      sym (l.invariant.places ∙ rw passed (places_done l.out l.count)),
    )
