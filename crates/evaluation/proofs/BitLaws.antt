-- A bit of a byte as its mask finds it, and the mark beside the bits of an answer. Assumes nothing.
use mathlib.Core.Path.{◌≡◌, refl, sym, ◌∙◌}
use mathlib.Core.Bool.{true, false, not}
use mathlib.Core.Logic.{◌≢◌}
use Prim.Native.Nat.{ℕ, zero, suc, ◌+◌, ◌/◌, ◌%◌, ◌^◌, ◌*◌, ◌<◌}
use native.Mathlib.Nat.{one-le-pow}
use native.Mathlib.Omega.{arith}
use lib.Bits.{bit_and, bit_or}
use lib.Dec.{eqb}
use borrow.Author.Tests.{eq-eqb, ne_eqb}
use Rattle.std.proofs.lemmas.Nat.Bits.{and_pow, bit_at-lt}
use Rattle.evaluation.specs.declared.Truth.{Truth}
use Rattle.evaluation.specs.Each.{each}
use Rattle.evaluation.specs.Results.{answer_bits}

-- a bit times a power that is not 0 is 0 exactly where the bit is
bit : (b p : ℕ) → b < 2 → 0 < p → not (eqb (b * p) 0) ≡ eqb b 1
bit zero p l h = rw (eq-eqb (0 * p) 0 (omega arith))
bit (suc zero) p l h = rw (ne_eqb (1 * p) 0 (λ e. omega arith))
bit (suc (suc b)) p l h = absurd (omega arith)

module _ (byte k : ℕ) where
  pub bit_told : not (eqb (bit_and byte (2 ^ k)) 0) ≡ eqb (byte / 2 ^ k % 2) 1
  bit_told = rw (and_pow byte k) (bit (byte / 2 ^ k % 2) (2 ^ k) (bit_at-lt byte k) (one-le-pow k 2 (omega arith)))

  pub bit_clear : bit_and byte (2 ^ k) ≡ 0 → eqb (byte / 2 ^ k % 2) 1 ≡ false
  bit_clear e = sym bit_told ∙ rw (eq-eqb _ 0 e)

  pub bit_stands : bit_and byte (2 ^ k) ≢ 0 → eqb (byte / 2 ^ k % 2) 1 ≡ true
  bit_stands e = sym bit_told ∙ rw (ne_eqb _ 0 e)

pub marked : (value : Truth) → bit_or (answer_bits value) 4 ≡ answer_bits value + 4
marked = each (λ value. bit_or (answer_bits value) 4 ≡ answer_bits value + 4) (refl, refl, refl)
