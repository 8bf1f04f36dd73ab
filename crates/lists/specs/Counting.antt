-- Lists as what they hold, repeats aside: one list covers another, and a list without its repeats, over which each thing is counted once.
-- Laws in `CountingLaws`. Assumes nothing: these are definitions.
use Rattle.std.specs.Prelude.{List, [], ◌∷◌}
use Rattle.lists.specs.Places.{All, Any, any?}

-- each element of xs is related to one of ys
abbrev pub Cover : {A : Type 0} → (A → A → Type 0) → List A → List A → Type 0
Cover R xs ys = All (λ x. Any (R x) ys) xs

-- x in front of l, unless it was found there
unfoldable pub keep : {A Y : Type 0} → Dec Y → A → List A → List A
keep (yes found) x l = l
keep (no n) x l = x ∷ l

-- xs without repeats: of related elements the last is kept
unfoldable pub dedup : {A : Type 0} {R : A → A → Type 0} → ((x y : A) → Dec (R x y)) → List A → List A
unfolding any? keep
dedup d [] = []
dedup d (x ∷ xs) = let l = dedup d xs in keep (any? (d x) l) x l
