-- What a search by halving answers: a place at which the comparison says equal, or the place between what is less and what is greater.
-- Assumes nothing: these are definitions.
use Rattle.std.specs.Prelude.{◌≡◌, ℕ, ◌+◌, ◌<◌, ◌≤◌, Result, Ok, Err}
use Rattle.std.specs.declared.cmp.Ordering.{Ordering}
use Rattle.std.specs.declared.cmp.Ordering.TheVariants.{Less, Equal, Greater}

-- k is one of the places, and what is there is equal: `says` relates a place to what the comparison may answer there
pub record Met (says : ℕ → Ordering → Type 0) (count k : ℕ) : Type 0 where
  pub place : k < count
  pub equal : says k Equal

-- what stands before the place p is less, and what stands there is greater
pub record Parted (says : ℕ → Ordering → Type 0) (count p : ℕ) : Type 0 where
  pub bound : p ≤ count
  pub less : (k : ℕ) → k + 1 ≡ p → says k Less
  pub greater : p < count → says p Greater

-- the answer of a search through the places below `count`
abbrev pub Searched : (ℕ → Ordering → Type 0) → ℕ → Result ℕ ℕ → Type 0
Searched says count (Ok k) = Met says count k
Searched says count (Err p) = Parted says count p
