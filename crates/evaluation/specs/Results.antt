-- The result bytes of a search, one for each part: two bits for the answer and a mark that there is one.
-- Assumes nothing.
use Rattle.std.specs.Prelude.{Bool, cond, ℕ, ◌+◌, ◌/◌, ◌%◌, eqb}
use Rattle.std.specs.declared.option.Option.{Option}
use Rattle.std.specs.declared.option.Option.TheVariants.{None, Some}
use Rattle.evaluation.specs.declared.Truth.{Truth}
use Rattle.evaluation.specs.declared.Truth.TheVariants.{False, Undefined, True}

-- the bits: 1 failed, 2 success, 4 evaluated
abbrev pub failed : ℕ → Bool
failed byte = eqb (byte / 1 % 2) 1

abbrev pub success : ℕ → Bool
success byte = eqb (byte / 2 % 2) 1

abbrev pub evaluated : ℕ → Bool
evaluated byte = eqb (byte / 4 % 2) 1

-- the byte of a value: the bits of its answer, and the mark
abbrev pub answer_bits : Truth → ℕ
answer_bits False = 1
answer_bits Undefined = 0
answer_bits True = 2

unfoldable pub result_byte : Truth → ℕ
result_byte value = answer_bits value + 4

-- the answer in the bits of any byte
abbrev pub answer_of : ℕ → Truth
answer_of byte = cond (failed byte) False (cond (success byte) True Undefined)

-- what any byte says of its part: no answer without the mark
unfoldable pub outcome_of : ℕ → Option Truth
outcome_of byte = cond (evaluated byte) (Some (answer_of byte)) None
