-- Numbers in bytes, least significant byte first, over the width k in bytes: what stands at a place, and the bytes with a number put there.
-- Assumes nothing.
use Rattle.std.specs.Prelude.{ℕ, zero, suc, ◌+◌, ◌*◌, ◌/◌, ◌%◌, List, get_or, set, ℤ}
use Rattle.std.specs.Int.{w64}
use Rattle.std.proofs.Common.{to_z, of_z}

-- the number in the k bytes of b from at
unfoldable pub word : ℕ → List ℕ → ℕ → ℕ
word zero b at = 0
word (suc k) b at = get_or b at 0 + 256 * word k b (suc at)

-- b with the k low bytes of x from at
unfoldable pub put : ℕ → List ℕ → ℕ → ℕ → List ℕ
put zero b at x = b
put (suc k) b at x = put k (set b at (x % 256)) (suc at) (x / 256)

-- the signed number, in two's complement, in the 8 bytes of b from at
unfoldable pub signed_word : List ℕ → ℕ → ℤ
signed_word b at = to_z w64 (word 8 b at)

-- b with the signed number z in the 8 bytes from at
unfoldable pub put_signed : List ℕ → ℕ → ℤ → List ℕ
put_signed b at z = put 8 b at (of_z w64 z)
