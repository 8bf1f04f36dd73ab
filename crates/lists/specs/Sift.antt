-- Lists sifted by marks: what is marked is kept, in its order, and gets as its new number how many marked ones stand before it.
-- Laws in `SiftLaws`. Assumes nothing: these are definitions.
use Rattle.std.specs.Prelude.{◌≡◌, Bool, true, false, List, [], ◌∷◌, ℕ, zero, suc, get_or}

-- number i is marked
abbrev pub Marked : List Bool → ℕ → Type 0
Marked m i = get_or m i false ≡ true

-- the elements at marked numbers
abbrev pub sift : {A : Type 0} → List Bool → List A → List A
sift [] xs = []
sift (b ∷ m) [] = []
sift (true ∷ m) (x ∷ xs) = x ∷ sift m xs
sift (false ∷ m) (x ∷ xs) = sift m xs

-- how many are marked before i
abbrev pub rank : List Bool → ℕ → ℕ
rank [] i = zero
rank (b ∷ m) zero = zero
rank (true ∷ m) (suc i) = suc (rank m i)
rank (false ∷ m) (suc i) = rank m i
