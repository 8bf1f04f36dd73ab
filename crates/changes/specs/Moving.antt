-- Entries of a table moved by one place, over what reads an entry and what writes one, so that the rules and the order table share it.
-- Laws in proofs/MovingLaws.antt. Assumes nothing: these are definitions.
use Rattle.std.specs.Prelude.{List, ℕ, zero, suc, ◌+◌}

module _ {A : Type 0} (read : List ℕ → ℕ → A) (write : List ℕ → ℕ → A → List ℕ) where
  -- the n entries from k on moved up by one, the last first
  unfoldable pub raised : List ℕ → ℕ → ℕ → List ℕ
  raised b k zero = b
  raised b k (suc n) = raised (write b (k + suc n) (read b (k + n))) k n

  -- the n entries after entry k moved down by one, the first first
  unfoldable pub lowered : List ℕ → ℕ → ℕ → List ℕ
  lowered b k zero = b
  lowered b k (suc n) = lowered (write b k (read b (suc k))) (suc k) n
