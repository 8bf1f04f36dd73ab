-- The test that every number below n passes: what a loop that checks one number after the other answers. Laws in `BelowLaws`.
-- Assumes nothing: this is a definition.
use Rattle.std.specs.Prelude.{Bool, true, ℕ, zero, suc}
use Rattle.lists.specs.And.{◌and◌}

unfoldable pub all_below : (ℕ → Bool) → ℕ → Bool
all_below f zero = true
all_below f (suc n) = all_below f n and f n
