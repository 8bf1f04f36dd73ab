-- Where the numbers of a rule sheet stand. The first entry stands at a place `first`, and n right before it: at 0, with `first` 1, in the
-- edition of today. Assumes nothing: these are definitions.
use Rattle.std.specs.Prelude.{List, ℕ, ◌+◌, ◌*◌, get_or, ℤ, pos, negsuc}

-- a number of a sheet as a natural number; a negative one becomes 2^64 − 1, which is no kind, tag, start, length, scale or word
unfoldable pub natural_of : ℤ → ℕ
natural_of (pos n) = n
natural_of (negsuc n) = 18446744073709551615

-- number j of entry i: kind, attribute, tag, x, y
abbrev pub field_of : ℕ → List ℤ → ℕ → ℕ → ℕ
field_of first s i j = natural_of (get_or s (first + 5 * i + j) (pos 0))

abbrev pub kind_of : ℕ → List ℤ → ℕ → ℕ
kind_of first s i = field_of first s i 0
