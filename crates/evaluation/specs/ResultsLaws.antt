-- What was set is got, elsewhere nothing changes, and fresh results have no answer anywhere.
-- Assumes nothing.
use Rattle.std.specs.Prelude.{◌≡◌, refl, true, false, List, ◌≢◌, ℕ, zero, suc, ◌<◌, ◌≤◌, length, get_or, set, replicate}
use Rattle.std.proofs.Common.{ap, ◌∙◌, arith, get_or-set_same, get_or-set_other}
use Rattle.std.specs.declared.option.Option.TheVariants.{None, Some}
use Rattle.evaluation.specs.declared.Truth.{Truth}
use Rattle.evaluation.specs.Each.{each}
use Rattle.evaluation.specs.Results.{evaluated, answer_bits, result_byte, answer_of, outcome_of}

pub bits_small : (value : Truth) → answer_bits value ≤ 2
bits_small = each (λ value. answer_bits value ≤ 2) (omega arith, omega arith, omega arith)

-- the byte of a value says that value
pub outcome_byte : (value : Truth) → outcome_of (result_byte value) ≡ Some value
unfolding outcome_of result_byte
outcome_byte = each (λ value. outcome_of (result_byte value) ≡ Some value) (search)

-- the mark decides whether there is an answer
pub outcome_marked : (byte : ℕ) → evaluated byte ≡ true → outcome_of byte ≡ Some (answer_of byte)
unfolding outcome_of
outcome_marked byte e = rw e

pub outcome_unmarked : (byte : ℕ) → evaluated byte ≡ false → outcome_of byte ≡ None
unfolding outcome_of
outcome_unmarked byte e = rw e

module _ (results : List ℕ) (part : ℕ) (value : Truth) where
  pub set_got : part < length results → outcome_of (get_or (set results part (result_byte value)) part 0) ≡ Some value
  set_got h = ap outcome_of (get_or-set_same results part (result_byte value) 0 h) ∙ outcome_byte value

  pub set_elsewhere : (other : ℕ) → other ≢ part
      → outcome_of (get_or (set results part (result_byte value)) other 0) ≡ outcome_of (get_or results other 0)
  set_elsewhere other ne = ap outcome_of (get_or-set_other results part other (result_byte value) 0 ne)

-- results that are all 0
pub fresh_unvalued : (n part : ℕ) → outcome_of (get_or (replicate n 0) part 0) ≡ None
unfolding outcome_of
fresh_unvalued zero part = refl
fresh_unvalued (suc n) zero = refl
fresh_unvalued (suc n) (suc part) = fresh_unvalued n part
