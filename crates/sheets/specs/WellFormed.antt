-- A well-formed sheet, and what insert answers for a sheet's form, in the order of refusals. Both are facts; the tests that compute stand
-- in `Form`, and `FormLaws` shows that they agree. Assumes nothing: these are definitions.
use Rattle.std.specs.Prelude.{◌≡◌, Bool, true, List, ℕ, ◌+◌, ◌-◌, ◌<◌, ◌≤◌, length, get_or, ℤ, pos, ◌<ℤ◌}
use Rattle.error.specs.Answers.{Answer, Done, Refused}
use Rattle.error.specs.declared.Refusal.TheVariants.{SheetMalformed, LimitPassed}
use Rattle.lists.specs.Sets.{ascends, list_limit}
use Rattle.ast.specs.Trees.{Tree}
use Rattle.sheets.specs.Entries.{natural_of, field_of, kind_of}
use Rattle.sheets.specs.Table.{entry_limit, has_list, entry_fits}
use Rattle.sheets.specs.Spells.{Spells}
use Rattle.sheets.specs.Bodies.{tag_of, list_length_at, start_at, bodies_at, elements_at, all_words}

-- n, which stands right before the first entry
abbrev pub count_at : ℕ → List ℤ → ℤ
count_at first s = get_or s (first - 1) (pos 0)

-- as a natural number, where it is one
abbrev pub count_of : ℕ → List ℤ → ℕ
count_of first s = natural_of (count_at first s)

-- entry i by itself
abbrev pub entry_fits_at : ℕ → List ℤ → ℕ → Bool
entry_fits_at first s i =
    entry_fits (kind_of first s i) (field_of first s i 1) (tag_of first s i) (field_of first s i 3) (field_of first s i 4)

-- the list of entry i, in a sheet of n entries
pub record Listed (first : ℕ) (s : List ℤ) (n i : ℕ) : Type 0 where
  pub start : field_of first s i 3 ≡ start_at first s i
  pub inside : bodies_at first n + start_at first s i + list_length_at first s i ≤ length s
  pub ascending : ascends (elements_at first s n i) ≡ true
  pub words : tag_of first s i ≡ 5 → all_words (elements_at first s n i) ≡ true

-- a sheet of n entries
pub record WellFormed (first : ℕ) (s : List ℤ) (n : ℕ) : Type 0 where
  -- n entries of five numbers, each of which is one
  pub room : bodies_at first n ≤ length s
  pub entry : (i : ℕ) → i < n → entry_fits_at first s i ≡ true
  -- in prefix order they make one tree
  pub tree : (t : Tree ℕ) × Spells first s t 0 n
  -- the lists stand one after the other, and the last ends the sheet
  pub lists : (i : ℕ) → i < n → has_list (tag_of first s i) ≡ true → Listed first s n i
  pub end : bodies_at first n + start_at first s n ≡ length s

-- ---- the answer

-- the sheet has a number n of entries, from 1 to the limit
pub record Counted (first : ℕ) (s : List ℤ) (n : ℕ) : Type 0 where
  pub reached : first ≤ length s
  pub count : count_at first s ≡ pos n
  pub some : 1 ≤ n
  pub few : n ≤ entry_limit

-- and is well formed, with lists of at most 32 elements
pub record Accepted (first : ℕ) (s : List ℤ) (n : ℕ) : Type 0 where
  pub counted : Counted first s n
  pub formed : WellFormed first s n
  pub short : (i : ℕ) → i < n → list_length_at first s i ≤ list_limit

pub data Answers (first : ℕ) (s : List ℤ) : Answer → Type 0 where
  empty : length s < first → Answers first s (Refused SheetMalformed)
  none : first ≤ length s → count_at first s <ℤ pos 1 → Answers first s (Refused SheetMalformed)
  many : first ≤ length s → pos entry_limit <ℤ count_at first s → Answers first s (Refused LimitPassed)
  malformed : (n : ℕ) → Counted first s n → ¬ WellFormed first s n → Answers first s (Refused SheetMalformed)
  long : (n : ℕ) → Counted first s n → WellFormed first s n
      → (i : ℕ) → i < n → list_limit < list_length_at first s i → Answers first s (Refused LimitPassed)
  good : (n : ℕ) → Accepted first s n → Answers first s Done
