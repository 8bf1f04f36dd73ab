-- The lists of a rule sheet: how long each is, where it starts in the bodies and which elements it has.
-- Assumes nothing: these are definitions.
use Rattle.std.specs.Prelude.{Bool, true, cond, List, ℕ, zero, suc, ◌+◌, ◌*◌, eqb, length, get_or, take, drop, ℤ, pos}
use Rattle.lists.specs.And.{◌and◌}
use Rattle.lists.specs.Below.{all_below}
use Rattle.lists.specs.Sets.{ascends}
use Rattle.attributes.specs.Table.{is_between}
use Rattle.sheets.specs.Entries.{natural_of, field_of}
use Rattle.sheets.specs.Table.{word_limit, has_list}

abbrev pub tag_of : ℕ → List ℤ → ℕ → ℕ
tag_of first s i = field_of first s i 2

-- the length of the list of entry i, 0 where it has none
unfoldable pub list_length_at : ℕ → List ℤ → ℕ → ℕ
list_length_at first s i = cond (has_list (tag_of first s i)) (field_of first s i 4) 0

-- where the list of entry i starts: the first at 0, each next where the last ended
unfoldable pub start_at : ℕ → List ℤ → ℕ → ℕ
start_at first s zero = 0
start_at first s (suc i) = start_at first s i + list_length_at first s i

-- where the bodies begin in a sheet of n entries
abbrev pub bodies_at : ℕ → ℕ → ℕ
bodies_at first n = first + 5 * n

abbrev pub elements_at : ℕ → List ℤ → ℕ → ℕ → List ℤ
elements_at first s n i = take (list_length_at first s i) (drop (bodies_at first n + start_at first s i) s)

-- ---- what the elements may be

unfoldable pub is_word : ℤ → Bool
is_word z = is_between 1 (natural_of z) word_limit

abbrev pub word_at : List ℤ → ℕ → Bool
word_at l k = is_word (get_or l k (pos 0))

unfoldable pub all_words : List ℤ → Bool
all_words l = all_below (word_at l) (length l)

-- they ascend strictly, and under tag 5 they are words
unfoldable pub elements_fit : ℕ → List ℤ → Bool
elements_fit tag l = ascends l and cond (eqb tag 5) (all_words l) true
