-- Words read as a row of numbers, into places that the caller lends. Laws in `RowsLaws`.
-- Assumes nothing: these are definitions.
use Rattle.std.specs.Prelude.{cond, List, [], ◌∷◌, ℕ, ◌+◌, eqb, leb, ℤ, length, Option, Some, None}
use Rattle.lists.specs.And.{◌and◌}
use Rattle.lines.specs.Numbers.{number_of}

abbrev pub before : Option ℤ → List ℤ → List ℤ
before (Some z) zs = z ∷ zs
before None zs = []

-- the numbers up to the first word that is none
unfoldable pub leading : List (List ℕ) → List ℤ
leading [] = []
leading (w ∷ ws) = before (number_of w) (leading ws)

-- Behind `count` numbers that stand already, out of `room` places: how many there are in all, where every word is a number and there is a
-- place for each.
unfoldable pub row_from : ℕ → ℕ → List (List ℕ) → Option ℕ
row_from room count ws =
    cond (eqb (length (leading ws)) (length ws) and leb (count + length ws) room) (Some (count + length ws)) None
