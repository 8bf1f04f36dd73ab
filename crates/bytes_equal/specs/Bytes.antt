-- The test that two lists hold the same bytes. Laws in `BytesLaws`.
-- Assumes nothing: these are definitions.
use Rattle.std.specs.Prelude.{Bool, List, ℕ, eqb, length, get_or}
use Rattle.lists.specs.And.{◌and◌}
use Rattle.lists.specs.Below.{all_below}

abbrev pub same_at : List ℕ → List ℕ → ℕ → Bool
same_at m n k = eqb (get_or m k 0) (get_or n k 0)

-- as many bytes, and each the same
unfoldable pub same_bytes : List ℕ → List ℕ → Bool
same_bytes m n = eqb (length m) (length n) and all_below (same_at m n) (length m)
