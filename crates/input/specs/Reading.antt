-- What reading does to a buffer and its window, and what a whole step does. Laws in `ReadingLaws`.
-- Assumes nothing: these are definitions.
use Rattle.std.specs.Prelude.{◌≡◌, true, cond, List, ℕ, ◌≤◌, leb, length, take}
use Rattle.lists.specs.And.{◌and◌}
use Rattle.input.specs.declared.Window.{Window}
use Rattle.input.specs.declared.Step.{Step}
use Rattle.input.specs.declared.Step.TheVariants.{Line, TooLong, More, End}
use Rattle.input.specs.Cut.{unread, Fine, cut_of}

-- After a read, or none: what stood in the window stands there still, with what was read behind it. Where the input has ended nothing came.
pub record Filled (b : List ℕ) (w : Window) (after : List ℕ) (n : Window) : Type 0 where
  pub fine : Fine after n
  pub kept : take (length (unread b w)) (unread after n) ≡ unread b w
  pub at_end : n.ended ≡ true → unread after n ≡ unread b w
  pub alike : n.passing ≡ w.passing

-- a window that is not within the buffer is taken for the end
unfoldable pub step_of : List ℕ → Window → Step
step_of b w = cond (leb w.from w.to and leb w.to (length b)) (cut_of b w) End

-- the step is handed on as it is, but where it asks for more there has been a read
abbrev pub Given : List ℕ → Step → List ℕ → Step → Type 0
Given b (Line s e n) after r = (r ≡ Line s e n) × (after ≡ b)
Given b (TooLong s e n) after r = (r ≡ TooLong s e n) × (after ≡ b)
Given b (More w) after r = (n : Window) × (r ≡ More n) × Filled b w after n
Given b End after r = (r ≡ End) × (after ≡ b)

-- what is handed out lies within the buffer, and so does the window
abbrev pub Within : List ℕ → Step → Type 0
Within b (Line s e n) = (s ≤ e) × (e ≤ length b) × Fine b n
Within b (TooLong s e n) = (s ≤ e) × (e ≤ length b) × Fine b n
Within b (More n) = Fine b n
Within b End = Unit {0}

pub record Handed (b : List ℕ) (w : Window) (after : List ℕ) (r : Step) : Type 0 where
  pub given : Given b (step_of b w) after r
  pub within : Within after r
