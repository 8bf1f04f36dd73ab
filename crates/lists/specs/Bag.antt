-- Bags: two lists that hold the same, whatever the order. Laws in `BagLaws`. Assumes nothing: this is a definition.
use Rattle.std.specs.Prelude.{List, [], ◌∷◌}
use Rattle.lists.specs.Places.{Any, rest}

-- the elements of the two lists can be paired off, each x with a y that R relates it to
pub data Bag {A B : Type 0} (R : A → B → Type 0) : List A → List B → Type 0 where
  bnil : Bag R [] []
  bcons : {x : A} {xs : List A} {ys : List B} (a : Any (R x) ys) → Bag R xs (rest a) → Bag R (x ∷ xs) ys
