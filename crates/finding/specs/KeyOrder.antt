-- THE ORDER OF KEYS. A key is a list of unsigned numbers; two keys compare number by number, and the first that differ decide; of two keys
-- one of which begins with the other the shorter is less. Laws in `KeyOrderLaws`. Assumes nothing.
use Rattle.std.specs.Prelude.{List, ℕ}
use Rattle.std.specs.declared.cmp.Ordering.{Ordering}
use Rattle.std.specs.Ordering.{nat_cmp}
use Rattle.std.specs.Cmp.Lexicographic.{slice_cmp}

unfoldable pub key_order : List ℕ → List ℕ → Ordering
key_order = slice_cmp nat_cmp
