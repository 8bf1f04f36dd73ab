-- What a word says as a number: an optional minus sign and decimal digits, at least one. Leading zeros and -0 are numbers.
-- Laws in `NumbersLaws`. Assumes nothing: these are definitions.
use Rattle.std.specs.Prelude.{Bool, false, cond, List, [], ◌∷◌, ℕ, ◌+◌, ◌*◌, ◌-◌, ◌^◌, eqb, leb, ℤ, pos, negsuc, neg_ℤ, nat_abs, drop}
use Rattle.std.specs.Prelude.{Option, Some, None}
use Rattle.std.specs.Int.Signed.{le_z}
use Rattle.lists.specs.And.{◌and◌}
use Rattle.lines.specs.Text.{minus}
use Rattle.lines.specs.Words.{every}

-- ---- digits

-- the digit that stands for 0; the other nine follow it
abbrev pub zero_digit : ℕ
zero_digit = 48

unfoldable pub is_digit : ℕ → Bool
is_digit b = leb zero_digit b and leb b (zero_digit + 9)

-- digits worth v, and one digit more
abbrev pub with_digit : ℕ → ℕ → ℕ
with_digit v b = v * 10 + (b - zero_digit)

-- what digits are worth that stand behind others worth v
unfoldable pub value_after : ℕ → List ℕ → ℕ
value_after v [] = v
value_after v (b ∷ bs) = value_after (with_digit v b) bs

-- at least one digit, and nothing else
unfoldable pub is_numeral : List ℕ → Bool
is_numeral [] = false
is_numeral (b ∷ bs) = every is_digit (b ∷ bs)

-- ---- an integer

unfoldable pub is_negative : List ℕ → Bool
is_negative [] = false
is_negative (b ∷ bs) = eqb b minus

-- the word without its sign
abbrev pub unsigned_part : List ℕ → List ℕ
unsigned_part w = cond (is_negative w) (drop 1 w) w

unfoldable pub is_integer : List ℕ → Bool
is_integer w = is_numeral (unsigned_part w)

unfoldable pub integer_of : List ℕ → ℤ
integer_of w =
    let v = value_after 0 (unsigned_part w) in
    cond (is_negative w) (neg_ℤ (pos v)) (pos v)

-- ---- a number of a command: an integer in its range

unfoldable pub is_within : ℤ → ℤ → ℤ → Bool
is_within least z most = le_z least z and le_z z most

-- from -2^63 to 2^63 - 1
unfoldable pub number_of : List ℕ → Option ℤ
number_of w = cond (is_integer w and is_within (negsuc (2 ^ 63 - 1)) (integer_of w) (pos (2 ^ 63 - 1))) (Some (integer_of w)) None

-- from 0 to a limit: 2^64 - 1 for a stamp, 4,294,967,295 for an id. -0 is the number 0, so it lies in every such range.
unfoldable pub unsigned_of : ℕ → List ℕ → Option ℕ
unsigned_of most w =
    cond (is_integer w and is_within (pos 0) (integer_of w) (pos most)) (Some (nat_abs (integer_of w))) None

-- digits worth v and one byte more, where that is a digit and the worth stays within a limit
unfoldable pub step_of : ℕ → ℕ → ℕ → Option ℕ
step_of most v b = cond (is_digit b and leb (with_digit v b) most) (Some (with_digit v b)) None

-- digits alone, worth a limit at the most
unfoldable pub magnitude_of : ℕ → List ℕ → Option ℕ
magnitude_of most w = cond (is_numeral w and leb (value_after 0 w) most) (Some (value_after 0 w)) None
