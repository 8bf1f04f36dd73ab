-- The last colon of a word: in `open` a name stands before it and a kind after it. Laws in `ColonLaws`.
-- Assumes nothing: these are definitions.
use Rattle.std.specs.Prelude.{cond, List, [], ◌∷◌, ℕ, zero, suc, eqb, take, drop, Option, Some, None}
use Rattle.lines.specs.Text.{colon}

-- a place found behind one byte more; where none was, that byte itself may be it
abbrev pub behind : ℕ → Option ℕ → Option ℕ
behind b (Some i) = Some (suc i)
behind b None = cond (eqb b colon) (Some zero) None

unfoldable pub last_colon : List ℕ → Option ℕ
last_colon [] = None
last_colon (b ∷ bs) = behind b (last_colon bs)

-- the name and the kind, for a colon at i
abbrev pub name_before : ℕ → List ℕ → List ℕ
name_before i w = take i w

abbrev pub kind_after : ℕ → List ℕ → List ℕ
kind_after i w = drop (suc i) w
