-- `lines::is_line` meets its contract. The invariant: every word passed is right, so the line is what the words that are left make of it.
-- Assumes nothing.
use mathlib.Core.Path.{◌≡◌}
use Prim.Native.Nat.{◌+◌, ◌-◌, ◌≤◌}
use lib.ListN.{length}
use Rattle.lines.specs.Words.{line_limit, words_of, words_from, every, is_word}
use Rattle.lines.proofs.is_line.Given as goal

abbrev pub invariant-loop-at : goal.invariant-loop-at
invariant-loop-at l =
    (l.at ≤ length l.line + 1) × (length l.line ≤ line_limit) × (every is_word (words_of l.line) ≡ every is_word (words_from l.line l.at))

abbrev pub decreases-loop-at : goal.decreases-loop-at
decreases-loop-at l = length l.line + 1 - l.at
