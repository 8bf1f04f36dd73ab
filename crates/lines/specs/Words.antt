-- The words of a line, and the lines of a run of bytes. Laws in `WordsLaws`.
-- Assumes nothing: these are definitions.
use Rattle.std.specs.Prelude.{◌≡◌, Bool, true, cond, List, [], ◌∷◌, ℕ, ◌+◌, ◌-◌, ◌≤◌, eqb, leb, length, take, drop}
use Rattle.lists.specs.And.{◌and◌}
use Rattle.lines.specs.Text.{newline, space, hash}
use Rattle.lines.specs.Parts.{place_of, parted}

-- ---- the limits

-- the most bytes of a word
abbrev pub word_limit : ℕ
word_limit = 64

-- the most bytes of a line, its newline not counted
abbrev pub line_limit : ℕ
line_limit = 65536

-- ---- words

-- The line is parted at every space. So two spaces in a row have an empty word between them, a space at either end has one beside it,
-- and the empty line is one empty word.
unfoldable pub words_of : List ℕ → List (List ℕ)
words_of line = parted space ([] ∷ []) line

-- the words from a place on; one past the line's end there are none left
unfoldable pub words_from : List ℕ → ℕ → List (List ℕ)
words_from line at = cond (leb at (length line)) (words_of (drop at line)) []

-- where the word that begins at a place ends: at the next space, or with the line
unfoldable pub word_end : List ℕ → ℕ → ℕ
word_end line at = at + place_of space (drop at line)

-- the same with its bounds, which follow, so that whoever cuts the word out has them at hand
pub record WordEnds (line : List ℕ) (at end : ℕ) : Type 0 where
  pub exact : end ≡ word_end line at
  pub after : at ≤ end
  pub within : end ≤ length line

-- ---- what a line must be

-- the test holds of each
unfoldable pub every : {A : Type 0} → (A → Bool) → List A → Bool
every f [] = true
every f (x ∷ xs) = f x and every f xs

-- a word is no longer than the limit, and not empty: words stand between single spaces
unfoldable pub is_word : List ℕ → Bool
is_word w = leb 1 (length w) and leb (length w) word_limit

-- words between single spaces, and no more of them than the limit allows
unfoldable pub is_line : List ℕ → Bool
is_line line = leb (length line) line_limit and every is_word (words_of line)

-- a line that is empty or begins with # asks for nothing
unfoldable pub is_silent : List ℕ → Bool
is_silent [] = true
is_silent (b ∷ bs) = eqb b hash

-- ---- lines

-- Each line ends in a newline, which is no part of it; the last may lack it.
unfoldable pub lines_of : List ℕ → List (List ℕ)
lines_of bytes = parted newline [] bytes

-- the first newline from one place up to another, or the second place
unfoldable pub line_end : List ℕ → ℕ → ℕ → ℕ
line_end bytes from to = from + place_of newline (take (to - from) (drop from bytes))

pub record LineEnds (bytes : List ℕ) (from to end : ℕ) : Type 0 where
  pub exact : end ≡ line_end bytes from to
  pub after : from ≤ end
  pub within : end ≤ to
