-- Lists made number by number: the values of a function at the numbers below n. Laws in `TabulateLaws`.
-- Assumes nothing: these are definitions.
use Rattle.std.specs.Prelude.{List, [], ◌∷◌, ◌++◌, ℕ, zero, suc}

unfoldable pub tabulate : {A : Type 0} → ℕ → (ℕ → A) → List A
tabulate zero f = []
tabulate (suc n) f = tabulate n f ++ (f n ∷ [])

-- the numbers below n
abbrev pub upto : ℕ → List ℕ
upto n = tabulate n (λ i. i)
