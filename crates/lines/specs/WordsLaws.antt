-- Laws of words, as a walk along a line uses them.
--     words_whole, words_step, words_none   at the start all words are left, a step hands out the first of them, past the end none is left
--     word_ends, line_ends                  where a word or a line ends, with the bounds
--     every_none, every_first, every_rest, every_front   a test of each, one after the other
-- Assumes nothing.
use Rattle.std.specs.Prelude.{◌≡◌, Bool, true, false, length, take}
use Rattle.std.proofs.Math.Path.{refl}
use Rattle.std.proofs.Common.{sym, ap, ◌∙◌, le-leb, drop-drop, take_all, length-take-le}
use mathlib.Core.List.{List, [], ◌∷◌, append-nil}
use Prim.Native.Nat.{ℕ, suc, ◌+◌, ◌-◌, ◌≤◌, ◌<◌}
use Rattle.std.proofs.Math.Decide.{dec_lt}
use native.Mathlib.Omega.{arith}
use Rattle.std.proofs.lemmas.Bool.{lt-leb}
use Rattle.std.proofs.Math.ListN.{drop, length-drop}
use Rattle.lists.specs.AndLaws.{and_first, and_skip, and_left, and_right}
use Rattle.lines.specs.Text.{newline, space}
use Rattle.lines.specs.Parts.{place_of, parted}
use Rattle.lines.specs.PartsLaws.{place_within, parted_at, parted_words}
use Rattle.lines.specs.Words.{words_of, words_from, word_end, WordEnds, line_end, LineEnds, every}

pub words_whole : (line : List ℕ) → words_from line 0 ≡ words_of line
unfolding words_from
words_whole line = rw (le-leb 0 (length line) (omega arith))

module _ (line : List ℕ) (at : ℕ) where
  pub words_none : length line < at → words_from line at ≡ []
  unfolding words_from
  words_none l = rw (lt-leb at (length line) l)

  words_here : at ≤ length line → words_from line at ≡ words_of (drop at line)
  unfolding words_from
  words_here l = rw (le-leb at (length line) l)

module _ (line : List ℕ) (at : ℕ) (inside : at ≤ length line) where
  pub word_ends : WordEnds line at (word_end line at)
  unfolding word_end
  word_ends =
      let w = place_within space (drop at line) in
      let e = length-drop at line in
      record { exact = refl; after = omega arith; within = omega arith }

  -- the first of the words that are left, and those that are left behind it
  pub words_step : words_from line at ≡ take (word_end line at - at) (drop at line) ∷ words_from line (word_end line at + 1)
  unfolding word_end words_of
  words_step = words_here line at inside ∙ go (dec_lt p (length rest))
    where
      rest : List ℕ
      rest = drop at line

      p : ℕ
      p = place_of space rest

      go : Dec (p < length rest) → words_of rest ≡ take (at + p - at) rest ∷ words_from line (at + p + 1)
      go (yes l) =
          let long = length-drop at line in
          let one : at + p - at ≡ p = omega arith in
          let two : at + suc p ≡ at + p + 1 = omega arith in
          sym (ap (parted space ([] ∷ [])) (append-nil rest))
          ∙ parted_at space ([] ∷ []) [] rest l
          ∙ rw (one, append-nil, drop-drop, two) (rw (words_here line (at + p + 1) (omega arith)))
      go (no n) =
          let within = place_within space rest in
          let long = length-drop at line in
          parted_words space rest (omega (arith, n))
          ∙ rw (take_all (at + p - at) rest (omega (arith, n)), words_none line (at + p + 1) (omega (arith, n)))

pub line_ends : (bytes : List ℕ) (from to : ℕ) → from ≤ to → to ≤ length bytes → LineEnds bytes from to (line_end bytes from to)
unfolding line_end
line_ends bytes from to l m =
    let w = place_within newline (take (to - from) (drop from bytes)) in
    let e = length-take-le (to - from) (drop from bytes) (omega (arith, length-drop from bytes)) in
    record { exact = refl; after = omega arith; within = omega arith }

module _ {A : Type 0} (f : A → Bool) where
  pub every_none : every f [] ≡ true
  unfolding every
  every_none = refl

  module _ (x : A) (xs : List A) where
    pub every_first : f x ≡ false → every f (x ∷ xs) ≡ false
    unfolding every
    every_first e = and_first (f x) (every f xs) e

    pub every_rest : f x ≡ true → every f (x ∷ xs) ≡ every f xs
    unfolding every
    every_rest e = and_skip (f x) (every f xs) e

    pub every_front : every f (x ∷ xs) ≡ true → (f x ≡ true) × (every f xs ≡ true)
    unfolding every
    every_front h = (and_left (f x) (every f xs) h, and_right (f x) (every f xs) h)
