-- The words of a line as the standard library's iterators give them.
--     split_words, every_all       all of them, and a test of each
--     words_next, words_passed     those from a place on, as a `for` yields them
-- Assumes nothing.
use Rattle.std.specs.Prelude.{◌≡◌, refl, Bool, true, false, List, [], ◌∷◌, ℕ, ◌≤◌, ◌+◌, ◌-◌, eqb, ◌&&◌, length, drop}
use Rattle.std.proofs.Common.{arith, le-leb, add-one, drop-cons, take_all, length-drop, drop_of_length-le}
use Rattle.std.specs.List.{slice_split, onto_first, list_all, slice_range}
use Rattle.std.specs.Prelude.{Option, Some, None}
use Rattle.std.specs.Iterator.{Yields}
use Rattle.std.proofs.lemmas.Iterator.{YieldsList}
use Rattle.std.proofs.lemmas.Iterator.Consumers.{YieldsList-turn, YieldsList-end}
use Rattle.lists.specs.And.{◌and◌}
use Rattle.lines.specs.Text.{space}
use Rattle.lines.specs.Parts.{on_first, parted}
use Rattle.lines.specs.Words.{words_of, words_from, every}

abbrev pub is_space : ℕ → Bool
is_space b = eqb b space

onto : (b : ℕ) (parts : List (List ℕ)) → on_first b parts ≡ onto_first b parts
unfolding on_first
onto b [] = refl
onto b (part ∷ parts) = refl

pub split_words : (line : List ℕ) → words_of line ≡ slice_split is_space line
unfolding words_of parted
split_words [] = refl
split_words (b ∷ bs) = rw (split_words bs, onto) refl

pub every_all : {A : Type 0} (f : A → Bool) (xs : List A) → every f xs ≡ list_all f xs
unfolding every ◌and◌
every_all f [] = refl
every_all f (x ∷ xs) = go (f x) (every_all f xs)
  where
    go : (t : Bool) → every f xs ≡ list_all f xs → (t and every f xs) ≡ (t && list_all f xs)
    go true ih = ih
    go false ih = refl

-- the words from a place on are those of what stands from there on
module _ (line rest : List ℕ) (at : ℕ) (inside : at ≤ length line) (same : rest ≡ slice_range line at (length line)) where
  words_rest : words_from line at ≡ slice_split is_space rest
  unfolding words_from
  words_rest =
      rw (le-leb at (length line) inside, same, take_all (length line - at) (drop at line) (omega (arith, length-drop at line)))
      (split_words (drop at line))

  -- a `for` along them, which has yielded k of them: the next is w, or all are passed
  module _ {S A : Type 0} {steps : S → Option A → S → Type 0} {v : A → List ℕ} {s t : S}
      (road : YieldsList steps v s (slice_split is_space rest))
      (ws : List A) (yields : Yields steps s ws t) (k : ℕ) (same_count : k ≡ length ws) (r : Option A) (u : S) where
    pub words_next : (w : A) → r ≡ Some w → steps t r u → drop k (words_from line at) ≡ v w ∷ drop (k + 1) (words_from line at)
    words_next w is p =
        let h = YieldsList-turn road ws t yields r u w is p in
        rw (same_count, words_rest, add-one, drop-cons (slice_split is_space rest) (length ws) (v w) h.0, ← h.1)

    pub words_passed : r ≡ None → steps t r u → drop k (words_from line at) ≡ []
    words_passed is p =
        let h = YieldsList-end road ws t yields r u is p in
        rw words_rest (drop_of_length-le (slice_split is_space rest) (omega (arith, same_count, h.1)))
