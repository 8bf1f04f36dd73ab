-- The laws of words and frames for a signed number in 8 bytes, in two's complement. Assumes nothing.
use mathlib.Core.Path.{◌≡◌, sym, ap, ◌∙◌}
use mathlib.Core.List.{List}
use Prim.Native.Nat.{ℕ, ◌+◌, ◌≤◌}
use lib.IntN.{ℤ}
use lib.ListN.{length}
use mir.Syntax.{w64}
use mir.Val.{to_z, of_z, Fits, SFits}
use mir.ValLaws.{to_z-of_z, of_z-to_z, to_z-Fits, of_z_fits}
use Rattle.words.specs.Word.{word, signed_word, put_signed}
use Rattle.words.specs.Frame.{Only, Outside, Bytes}
use Rattle.words.proofs.WordLaws.{word_back}
use Rattle.words.proofs.FrameLaws.{only_put, word_only, word_within, bytes_put, word_lt}

-- equal bits, equal numbers
pub same_bits : (y z : ℤ) → SFits w64 y → SFits w64 z → of_z w64 y ≡ of_z w64 z → y ≡ z
same_bits y z f g e = sym (to_z-of_z w64 y f) ∙ ap (to_z w64) e ∙ to_z-of_z w64 z g

pub only_put_signed : (b : List ℕ) (at : ℕ) (z : ℤ) → Only at (at + 8) b (put_signed b at z)
unfolding put_signed
only_put_signed b at z = only_put 8 b at (of_z w64 z)

pub bytes_put_signed : (b : List ℕ) (at : ℕ) (z : ℤ) → Bytes b → Bytes (put_signed b at z)
unfolding put_signed
bytes_put_signed b at z y = bytes_put 8 b at (of_z w64 z) y

module _ {lo hi : ℕ} {b d : List ℕ} (p : Only lo hi b d) where
  pub signed_only : (at : ℕ) → Outside lo hi at 8 → signed_word d at ≡ signed_word b at
  unfolding signed_word
  signed_only at o = ap (to_z w64) (word_only p 8 at o)

  pub signed_within : (at n : ℕ) → Outside lo hi at n → (j : ℕ) → j + 8 ≤ n → signed_word d (at + j) ≡ signed_word b (at + j)
  unfolding signed_word
  signed_within at n o j l = ap (to_z w64) (word_within p at n o 8 j l)

-- what was written is read
pub signed_back : (b : List ℕ) (at : ℕ) (z : ℤ) → at + 8 ≤ length b → SFits w64 z → signed_word (put_signed b at z) at ≡ z
unfolding signed_word put_signed
signed_back b at z r f = ap (to_z w64) (word_back 8 b at (of_z w64 z) r (of_z_fits w64 z f).fits) ∙ to_z-of_z w64 z f

module _ (b : List ℕ) (at : ℕ) (y : Bytes b) where
  word_fits : Fits w64 (word 8 b at)
  word_fits = record { fits = word_lt 8 b at y }

  -- what is read fits 64 bits
  pub signed_fits : SFits w64 (signed_word b at)
  unfolding signed_word
  signed_fits = to_z-Fits w64 (word 8 b at) word_fits

  -- and its bits are the bytes
  pub signed_bits : of_z w64 (signed_word b at) ≡ word 8 b at
  unfolding signed_word
  signed_bits = of_z-to_z w64 (word 8 b at) word_fits
