-- A natural number written in decimal, without leading zeros. Laws in `DigitsLaws`.
-- Assumes nothing: these are definitions.
use Rattle.std.specs.Prelude.{cond, List, [], ◌∷◌, ◌++◌, ℕ, zero, suc, ◌+◌, ◌/◌, ◌%◌, ltb}
use Rattle.lines.specs.Numbers.{zero_digit}

-- the digit for a number below ten
abbrev pub digit_for : ℕ → ℕ
digit_for d = zero_digit + d

-- the digits of n in at most k steps: those of its tenth part, and the last digit
unfoldable pub digits_in : ℕ → ℕ → List ℕ
digits_in zero n = digit_for (n % 10) ∷ []
digits_in (suc k) n = cond (ltb n 10) (digit_for n ∷ []) (digits_in k (n / 10) ++ (digit_for (n % 10) ∷ []))

-- n steps are more than enough
unfoldable pub digits_of : ℕ → List ℕ
digits_of n = digits_in n n

-- the most digits of a number of 64 bits
abbrev pub digit_limit : ℕ
digit_limit = 20
