-- Laws of whole steps.
--     cut_within                                        what is cut out of a window lies within the buffer
--     hand_disordered, hand_outside                     a window that is not within the buffer
--     hand_line, hand_long, hand_end, hand_more         the step that the code makes of a cut
--     filled_more                                       what a read leaves: what stood there, and more
--     filled                                            a read behind what was moved to the start of the buffer
-- Assumes nothing.
use Rattle.std.specs.Prelude.{◌≡◌, refl, Bool, true, false, cond, List, ◌++◌, ℕ, ◌+◌, ◌-◌, ◌≤◌, ◌<◌, leb, ltb, eqb, length, drop}
use Rattle.std.proofs.Common.{sym, ap, ◌∙◌, arith, lt-ltb, le-ltb, le-leb, take-append-drop, take, take-take, length-drop, length-take-le}
use Rattle.std.specs.List.{copy_within}
use Rattle.std.proofs.lemmas.Grind.{common_steps}
use Rattle.std.proofs.lemmas.Slice.{take-put_mid_below}
use borrow.Rule.Slice.PartMut.{put_mid, same_len_mid}
use borrow.Author.Tests.{eqb-true}
use Rattle.std.proofs.Math.Decide.{dec_lt}
use Rattle.std.proofs.lemmas.Bool.{lt-leb}
use Rattle.lists.specs.And.{◌and◌}
use Rattle.lists.specs.AndLaws.{and_first, and_second, and_both}
use Rattle.lines.specs.Words.{line_limit, line_end, LineEnds}
use Rattle.lines.specs.WordsLaws.{line_ends}
use Rattle.input.specs.declared.Window.{Window}
use Rattle.input.specs.declared.Step.TheVariants.{Line, TooLong, More, End}
use Rattle.input.specs.Cut.{unread, Fine, emptied_of, past_of, whole_of, part_of, cut_of}
use Rattle.input.specs.Reading.{Filled, step_of, Within, Handed}

module _ (b : List ℕ) (w : Window) where
  module _ (fine : Fine b w) where
    whole_within : (e : ℕ) → w.from ≤ e → e < w.to → Within b (whole_of w e)
    unfolding whole_of
    whole_within e l m = go w.passing (leb (e - w.from) line_limit)
      where
        past : Fine b (past_of w e)
        past = record { ordered = omega arith; within = fine.within }

        go : (t u : Bool)
            → Within b (cond t (More (past_of w e)) (cond u (Line w.from e (past_of w e)) (TooLong w.from e (past_of w e))))
        go true u = past
        go false true = (l, omega (arith, fine.within), past)
        go false false = (l, omega (arith, fine.within), past)

    partial_within : Within b (part_of w)
    unfolding part_of
    partial_within = go w.passing w.ended (ltb line_limit (w.to - w.from)) (eqb w.from w.to)
      where
        emptied : (t : Bool) → Fine b (emptied_of w t)
        emptied t = record { ordered = omega arith; within = fine.within }

        go : (t u x y : Bool) → Within b (
            cond t (cond u End (More (emptied_of w true)))
            (cond x (TooLong w.from w.to (emptied_of w true))
            (cond u (cond y End (Line w.from w.to (emptied_of w false))) (More w))))
        go true true x y = tt
        go true false x y = emptied true
        go false u true y = (fine.ordered, fine.within, emptied true)
        go false true false true = tt
        go false true false false = (fine.ordered, fine.within, emptied false)
        go false false false y = fine

    pub cut_within : Within b (cut_of b w)
    unfolding cut_of
    cut_within = go (dec_lt (line_end b w.from w.to) w.to) (line_ends b w.from w.to fine.ordered fine.within)
      where
        go : Dec (line_end b w.from w.to < w.to) → LineEnds b w.from w.to (line_end b w.from w.to) → Within b (cut_of b w)
        go (yes l) ends = rw (lt-ltb _ _ l) (whole_within (line_end b w.from w.to) ends.after l)
        go (no n) ends = rw (le-ltb (line_end b w.from w.to) w.to (omega (arith, n))) partial_within

    step_cut : step_of b w ≡ cut_of b w
    unfolding step_of
    step_cut = rw (and_both _ _ (le-leb _ _ fine.ordered) (le-leb _ _ fine.within))

    module _ (s e : ℕ) (n : Window) where
      pub hand_line : cut_of b w ≡ Line s e n → Handed b w b (Line s e n)
      hand_line h = record { given = rw (step_cut, h) (refl, refl); within = rw h at cut_within }

      pub hand_long : cut_of b w ≡ TooLong s e n → Handed b w b (TooLong s e n)
      hand_long h = record { given = rw (step_cut, h) (refl, refl); within = rw h at cut_within }

    pub hand_end : cut_of b w ≡ End → Handed b w b End
    hand_end h = record { given = rw (step_cut, h) (refl, refl); within = tt }

    pub hand_more : (n : Window) (after : List ℕ) (m : Window) → cut_of b w ≡ More n → Filled b n after m → Handed b w after (More m)
    hand_more n after m h f = record { given = rw (step_cut, h) (m, refl, f); within = f.fine }

  stopped : (leb w.from w.to and leb w.to (length b)) ≡ false → Handed b w b End
  unfolding step_of
  stopped e = record { given = rw e (refl, refl); within = tt }

  pub hand_disordered : w.to < w.from → Handed b w b End
  hand_disordered l = stopped (and_first _ _ (lt-leb _ _ l))

  pub hand_outside : length b < w.to → Handed b w b End
  hand_outside l = stopped (and_second _ _ (lt-leb _ _ l))

-- what a read leaves is what stood there, with more behind it
pub filled_more : (b : List ℕ) (w : Window) (after : List ℕ) (n : Window) → Filled b w after n
    → unread after n ≡ unread b w ++ drop (length (unread b w)) (unread after n)
filled_more b w after n f =
    sym (take-append-drop (length (unread b w)) (unread after n))
    ∙ ap (λ (x : List ℕ). x ++ drop (length (unread b w)) (unread after n)) f.kept

-- what stood in a window stands at the start of the buffer m once it is moved there, and `got` is written behind it
pub filled : (b m got : List ℕ) (w : Window) (count : ℕ) → Fine b w → m ≡ copy_within b w.from w.to 0 → length m ≡ length b
    → length got ≡ length m - (w.to - w.from) → count ≤ length got
    → Filled b w (put_mid (w.to - w.from) (length m - (w.to - w.from)) m got)
    (record { from = 0; to = w.to - w.from + count; ended = eqb count 0; passing = w.passing })
filled b m got w count fine moved same size few =
    let held = w.to - w.from in
    let kept : take held m ≡ take held (drop w.from b) = grind (arith, common_steps) in
    let below : take held (put_mid held (length m - held) m got) ≡ take held m
    = take-put_mid_below held _ m got held (omega arith) (omega arith) in
    let long : length (unread b w) ≡ held = length-take-le held (drop w.from b) (omega (arith, length-drop w.from b)) in
    let whole : length (put_mid held (length m - held) m got) ≡ length m = same_len_mid held _ m got (grind (arith, common_steps)) in
    record {
      fine = record { ordered = omega arith; within = omega (arith, whole) };
      kept = rw long (take-take held (held + count - 0) _ (omega arith) ∙ below ∙ kept);
      at_end = λ none. let e : held + count - 0 ≡ held = omega (arith, eqb-true count 0 none) in rw e (below ∙ kept);
      alike = refl;
    }
