-- Tests joined. The library's `◌&&◌` computes away at sight, so that a law about it cannot find its arguments; this one stays.
-- Laws in `AndLaws`. Assumes nothing: this is a definition.
use Rattle.std.specs.Prelude.{Bool, true, false}

-- both hold
infixl 35 ◌and◌
unfoldable pub ◌and◌ : Bool → Bool → Bool
true and b = b
false and b = false
