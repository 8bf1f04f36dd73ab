-- What a write leaves alone. One predicate serves every write, of one number or of many.
-- Assumes nothing.
use Rattle.std.specs.Prelude.{◌≡◌, List, ◌⊎◌, ℕ, ◌+◌, ◌≤◌, ◌<◌, length, get_or}

-- d is as long as b, and differs from it only from lo up to hi, hi left out
pub record Only (lo hi : ℕ) (b d : List ℕ) : Type 0 where
  pub long : length d ≡ length b
  pub kept : (i : ℕ) → (i < lo) ⊎ (hi ≤ i) → get_or d i 0 ≡ get_or b i 0

-- none of the k places from at stands from lo up to hi
abbrev pub Outside : ℕ → ℕ → ℕ → ℕ → Type 0
Outside lo hi at k = (at + k ≤ lo) ⊎ (hi ≤ at)

-- every element is a byte; past the end 0 is read, a byte too
abbrev pub Bytes : List ℕ → Type 0
Bytes b = (i : ℕ) → get_or b i 0 < 256
