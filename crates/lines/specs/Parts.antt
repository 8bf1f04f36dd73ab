-- A list of bytes parted at every byte of one kind. Laws in `PartsLaws`.
-- Assumes nothing: these are definitions.
use Rattle.std.specs.Prelude.{cond, List, [], ◌∷◌, ℕ, zero, suc, eqb}

-- the place of the first such byte, or the length where there is none
unfoldable pub place_of : ℕ → List ℕ → ℕ
place_of s [] = zero
place_of s (b ∷ bs) = cond (eqb b s) zero (suc (place_of s bs))

-- one byte more at the front of the first part
unfoldable pub on_first : ℕ → List (List ℕ) → List (List ℕ)
on_first b [] = (b ∷ []) ∷ []
on_first b (p ∷ ps) = (b ∷ p) ∷ ps

-- the parts between the bytes s, which are in no part; `last` are the parts of what is empty
unfoldable pub parted : ℕ → List (List ℕ) → List ℕ → List (List ℕ)
parted s last [] = last
parted s last (b ∷ bs) = cond (eqb b s) ([] ∷ parted s last bs) (on_first b (parted s last bs))
