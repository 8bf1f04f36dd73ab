-- `input::advance` meets its contract. Assumes nothing.
use Rattle.std.specs.Prelude.{◌≡◌, List, ℕ, ◌<◌, ◌≤◌, length}
use Rattle.std.proofs.Common.{sym, ◌∙◌, refl}
use mathlib.Core.Logic.{◌⊎◌, inl, inr}
use Rattle.input.specs.declared.Window.{Window}
use Rattle.input.specs.declared.Step.{Step}
use Rattle.input.specs.declared.Step.TheVariants.{Line, TooLong, More, End}
use Rattle.input.specs.Cut.{Fine, cut_of}
use Rattle.input.specs.Reading.{Handed}
use Rattle.input.proofs.ReadingLaws.{cut_within, hand_disordered, hand_outside, hand_line, hand_long, hand_end, hand_more}
use Rattle.input.proofs.advance.Goals as goal

module _ (b : List ℕ) (w : Window) where
  -- a window that is not within the buffer
  stray : (w.to < w.from) ⊎ ((w.from ≤ w.to) × (length b < w.to)) → Handed b w b End
  stray (inl l) = hand_disordered b w l
  stray (inr h) = hand_outside b w h.1

  -- a step that asks for no more is handed on
  handed : Fine b w → (s : Step) → cut_of b w ≡ s → ((n : Window) → s ≡ More n → ⊥) → Handed b w b s
  handed fine (Line s e n) h ne = hand_line b w fine s e n h
  handed fine (TooLong s e n) h ne = hand_long b w fine s e n h
  handed fine (More n) h ne = absurd (ne n refl)
  handed fine End h ne = hand_end b w fine h

pub returns-then-window : goal.returns-then-window
returns-then-window g c = stray _ _ c.then-window.either

pub more-requires : goal.more-requires
more-requires g c =
    let fine : Fine c.args.buffer.now c.args.window = record { ordered = c.if-window.false; within = c.if-buffer-window.false } in
    rw (sym c.cut.ensures ∙ c.in-More.is) at (cut_within _ _ fine)

pub returns-in-More : goal.returns-in-More
returns-in-More g c =
    hand_more _ _ (record { ordered = c.if-window.false; within = c.if-buffer-window.false }) _ _ _ (sym c.in-More.ensures) c.more.ensures

pub returns-in_default : goal.returns-in_default
returns-in_default g c =
    handed _ _ (record { ordered = c.if-window.false; within = c.if-buffer-window.false }) _ (sym c.cut.ensures) c.in_default.not-More
