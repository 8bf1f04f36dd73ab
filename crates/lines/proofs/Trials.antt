-- Words and lines read by the definitions themselves.
-- Assumes nothing.
use Rattle.std.specs.Prelude.{◌≡◌, refl, true, false, [], ◌∷◌, map, ◌-◌, ◌^◌, pos, negsuc, ℕ, ℤ, Option, Some, None}
use Prim.Native.String.{String}
use Rattle.lists.specs.And.{◌and◌}
use Rattle.lines.specs.Text.{bytes_of}
use Rattle.lines.specs.Parts.{on_first, parted}
use Rattle.lines.specs.Words.{words_of, lines_of, every, is_word, is_line}
use Rattle.lines.specs.Colon.{last_colon}
use Rattle.lines.specs.Numbers.{is_digit, value_after, is_numeral, is_negative, is_integer, integer_of, is_within, number_of, unsigned_of}
use Rattle.lines.specs.Digits.{digits_in, digits_of}

-- ---- words and lines

-- two spaces in a row, and one at the end: each leaves an empty word
pub words_split : words_of (bytes_of "a  bc ") ≡ bytes_of "a" ∷ [] ∷ bytes_of "bc" ∷ [] ∷ []
unfolding words_of parted on_first
words_split = refl

pub line_with_two_spaces : is_line (bytes_of "a  bc") ≡ false
unfolding is_line is_word words_of parted on_first every ◌and◌
line_with_two_spaces = refl

pub line_of_two_words : is_line (bytes_of "a bc") ≡ true
unfolding is_line is_word words_of parted on_first every ◌and◌
line_of_two_words = refl

-- the last line lacks its newline
pub lines_split : lines_of (bytes_of "a\n\nbc") ≡ bytes_of "a" ∷ [] ∷ bytes_of "bc" ∷ []
unfolding lines_of parted on_first
lines_split = refl

pub lines_ended : lines_of (bytes_of "a\nbc\n") ≡ bytes_of "a" ∷ bytes_of "bc" ∷ []
unfolding lines_of parted on_first
lines_ended = refl

pub colon_last : last_colon (bytes_of "a:b:float") ≡ Some 3
unfolding last_colon
colon_last = refl

-- ---- numbers: a table of words and what each says

abbrev signed : String → Option ℤ
signed s = number_of (bytes_of s)

pub signed_words : map signed
    ("9223372036854775807"
    ∷ "9223372036854775808"
    ∷ "-9223372036854775808"
    ∷ "-9223372036854775809"
    ∷ "0000000000000000000000000000000000000000000000000000000000007"
    ∷ "-0"
    ∷ "-007"
    ∷ "+1"
    ∷ ""
    ∷ "-"
    ∷ "1-"
    ∷ "--1"
    ∷ "12a"
    ∷ [])
    ≡ Some (pos (2 ^ 63 - 1))
    ∷ None
    ∷ Some (negsuc (2 ^ 63 - 1))
    ∷ None
    ∷ Some (pos 7)
    ∷ Some (pos 0)
    ∷ Some (negsuc 6)
    ∷ None
    ∷ None
    ∷ None
    ∷ None
    ∷ None
    ∷ None
    ∷ []
unfolding number_of is_integer integer_of is_numeral is_negative is_within value_after every is_digit ◌and◌
signed_words = refl

abbrev stamp : String → Option ℕ
stamp s = unsigned_of (2 ^ 64 - 1) (bytes_of s)

pub stamp_words : map stamp
    ("18446744073709551615"
    ∷ "18446744073709551616"
    ∷ "-0"
    ∷ "-1"
    ∷ "0018"
    ∷ [])
    ≡ Some (2 ^ 64 - 1)
    ∷ None
    ∷ Some 0
    ∷ None
    ∷ Some 18
    ∷ []
unfolding unsigned_of is_integer integer_of is_numeral is_negative is_within value_after every is_digit ◌and◌
stamp_words = refl

abbrev id : String → Option ℕ
id s = unsigned_of 4294967295 (bytes_of s)

pub id_words : map id ("4294967295" ∷ "4294967296" ∷ "-0" ∷ "-1" ∷ [])
    ≡ Some 4294967295 ∷ None ∷ Some 0 ∷ None ∷ []
unfolding unsigned_of is_integer integer_of is_numeral is_negative is_within value_after every is_digit ◌and◌
id_words = refl

-- ---- written

pub digits_written : map digits_of (0 ∷ 7 ∷ 10 ∷ 907 ∷ []) ≡ bytes_of "0" ∷ bytes_of "7" ∷ bytes_of "10" ∷ bytes_of "907" ∷ []
unfolding digits_of digits_in
digits_written = refl
