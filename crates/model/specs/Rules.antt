-- Rules under their ids: looked up, taken out, put in the place of their id. A rule's root may be of any type: in a book it is the number
-- of a part, in a history what was handed in. Laws in `RulesLaws`. Assumes nothing: these are definitions.
use Rattle.std.specs.Prelude.{Bool, List, [], ◌∷◌, ℕ, ◌<◌, ltb}
use Rattle.std.proofs.Math.Option.{Option, none, some}
use Rattle.std.proofs.Math.Decide.{ℕ_discrete}
use Rattle.lists.specs.Sort.{put}
use Rattle.lists.specs.Ascending.{Ascending}

pub record Rule (A : Type 0) : Type 0 where
  pub id : ℕ
  pub root : A

abbrev pub root_of : {A : Type 0} → Rule A → A
root_of r = r.root

-- the first where the decision is yes, else the second
abbrev pub whether : {A Y : Type 0} → Dec Y → A → A → A
whether (yes y) a b = a
whether (no n) a b = b

-- the root that is live under an id
unfoldable pub lookup : {A : Type 0} → ℕ → List (Rule A) → Option A
unfolding ℕ_discrete
lookup i [] = none
lookup i (r ∷ rs) = whether (ℕ_discrete r.id i) (some r.root) (lookup i rs)

-- the rules without that of an id
unfoldable pub without : {A : Type 0} → ℕ → List (Rule A) → List (Rule A)
unfolding ℕ_discrete
without i [] = []
without i (r ∷ rs) = whether (ℕ_discrete r.id i) (without i rs) (r ∷ without i rs)

-- one rule more, in front of the first of a greater id
abbrev pub earlier : {A : Type 0} → Rule A → Rule A → Bool
earlier r s = ltb r.id s.id

abbrev pub entered : {A : Type 0} → Rule A → List (Rule A) → List (Rule A)
entered r rs = put earlier r rs

-- another root under the same id
abbrev pub moved : {A B : Type 0} → (A → B) → Rule A → Rule B
moved g r = record { id = r.id; root = g r.root }

-- ids ascend strictly
abbrev pub IdsAscend : {A : Type 0} → List (Rule A) → Type 0
IdsAscend rs = Ascending (λ r s. r.id < s.id) rs
