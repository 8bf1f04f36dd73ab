-- What a window on a buffer hands out next. Laws in `CutLaws`: whatever is still to be read, nothing is lost and nothing made up.
-- Assumes nothing: these are definitions.
use Rattle.std.specs.Prelude.{◌≡◌, Bool, true, false, cond, List, [], ◌∷◌, ◌++◌, ℕ, suc, ◌+◌, ◌-◌, ◌≤◌, ◌<◌, leb, ltb, eqb, length}
use Rattle.std.specs.Prelude.{take, drop}
use Rattle.lines.specs.Text.{newline}
use Rattle.lines.specs.Parts.{place_of}
use Rattle.lines.specs.Words.{line_limit, lines_of, line_end}
use Rattle.input.specs.declared.Window.{Window}
use Rattle.input.specs.declared.Step.{Step}
use Rattle.input.specs.declared.Step.TheVariants.{Line, TooLong, More, End}

-- ---- windows

-- what stands in a buffer from one place up to another
abbrev pub part : List ℕ → ℕ → ℕ → List ℕ
part b from to = take (to - from) (drop from b)

-- before anything was read
abbrev pub nothing_read : Window
nothing_read = record { from = 0; to = 0; ended = false; passing = false }

-- what was read and not handed out
abbrev pub unread : List ℕ → Window → List ℕ
unread b w = part b w.from w.to

-- the window lies within the buffer
pub record Fine (b : List ℕ) (w : Window) : Type 0 where
  pub ordered : w.from ≤ w.to
  pub within : w.to ≤ length b

-- ---- a step, as the code takes it

-- all of the window handed out or passed over
abbrev pub emptied_of : Window → Bool → Window
emptied_of w p = record { from = w.to; to = w.to; ended = w.ended; passing = p }

-- past a newline at e
abbrev pub past_of : Window → ℕ → Window
past_of w e = record { from = e + 1; to = w.to; ended = w.ended; passing = false }

-- a newline stands at e: what is before it is a line, or the rest of one
unfoldable pub whole_of : Window → ℕ → Step
whole_of w e =
    cond w.passing (More (past_of w e))
    (cond (leb (e - w.from) line_limit) (Line w.from e (past_of w e)) (TooLong w.from e (past_of w e)))

-- there is no newline: at the input's end what is left is a line, and before that a line is told only where it is too long already
unfoldable pub part_of : Window → Step
part_of w =
    cond w.passing (cond w.ended End (More (emptied_of w true)))
    (cond (ltb line_limit (w.to - w.from)) (TooLong w.from w.to (emptied_of w true))
    (cond w.ended (cond (eqb w.from w.to) End (Line w.from w.to (emptied_of w false))) (More w)))

unfoldable pub cut_of : List ℕ → Window → Step
cut_of b w =
    let e = line_end b w.from w.to in
    cond (ltb e w.to) (whole_of w e) (part_of w)

-- ---- what a step must be

-- the lines that are due of input yet to be handed out; where a line is being passed over, those behind its newline
abbrev pub due : Bool → List ℕ → List (List ℕ)
due false bytes = lines_of bytes
due true bytes = lines_of (drop (suc (place_of newline bytes)) bytes)

-- what is due of a window, before input that has yet to be read
abbrev pub due_of : List ℕ → Window → List ℕ → List (List ℕ)
due_of b w later = due w.passing (unread b w ++ later)

-- A line that is handed out is the next that is due, and within the limit. One that is told as too long is the next that is due: it begins
-- with the part that is handed out, which is past the limit. Otherwise the same is due as before, and at the end nothing.
abbrev pub Right : List ℕ → Window → List ℕ → Step → Type 0
Right b w later (Line s e n) = (due_of b w later ≡ part b s e ∷ due_of b n later) × (length (part b s e) ≤ line_limit)
Right b w later (TooLong s e n) =
    ((x : List ℕ) × (due_of b w later ≡ (part b s e ++ x) ∷ due_of b n later)) × (line_limit < length (part b s e))
Right b w later (More n) = due_of b w later ≡ due_of b n later
Right b w later End = due_of b w later ≡ []
