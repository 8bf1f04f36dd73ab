-- The first number that has a property: what a loop that looks at one number after the other answers. Laws in `FirstLaws`.
-- Assumes nothing: these are definitions.
use Rattle.std.specs.Prelude.{List, ℕ, ◌≤◌, ◌<◌, length}
use Rattle.lists.specs.Places.{Any, index}

-- r is the first number below n that has P, or n where none has
pub record First (P : ℕ → Type 0) (n r : ℕ) : Type 0 where
  pub most : r ≤ n
  pub before : (p : ℕ) → p < r → ¬ P p
  pub here : r < n → P r

-- the number of a place that was found, or the length where there is none
abbrev pub number_of : {A : Type 0} {P : A → Type 0} {xs : List A} → Dec (Any P xs) → ℕ
number_of (yes a) = index a
number_of {xs = xs} (no n) = length xs
