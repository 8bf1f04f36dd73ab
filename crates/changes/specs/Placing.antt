-- Lists with one element more, and with one less. Laws in `PlacingLaws`. Assumes nothing: these are definitions.
use Rattle.std.specs.Prelude.{List, ◌∷◌, ◌++◌, ℕ, suc, take, drop}

-- x put at place k, and what stood from there on after it
abbrev pub inserted_at : {A : Type 0} → ℕ → A → List A → List A
inserted_at k x l = take k l ++ (x ∷ drop k l)

-- the element at place k taken away
abbrev pub removed_at : {A : Type 0} → ℕ → List A → List A
removed_at k l = take k l ++ drop (suc k) l
