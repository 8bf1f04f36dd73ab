-- Owners: two merges of their calls, disjoint ids, and runs in which nothing is refused for room. Assumes nothing: these are definitions.
use Rattle.std.specs.Prelude.{◌≡◌, List, [], ◌∷◌, ℕ}
use Rattle.std.proofs.Math.Decide.{ℕ_discrete}
use Rattle.error.specs.Answers.{Answer, Refused}
use Rattle.error.specs.declared.Refusal.TheVariants.{NoRoom}
use Rattle.lists.specs.Places.{All}
use Rattle.model.specs.Rules.{whether}
use Rattle.histories.specs.Calls.{Call, Told}

-- those of the owner o, in their order
unfoldable pub pick : {A : Type 0} → (A → ℕ) → ℕ → List A → List A
unfolding ℕ_discrete
pick owner o [] = []
pick owner o (x ∷ xs) = whether (ℕ_discrete (owner x) o) (x ∷ pick owner o xs) (pick owner o xs)

abbrev pub calls_of : {S : Type 0} → ℕ → List (Call S) → List (Call S)
calls_of o l = pick (λ c. c.owner) o l

-- what an owner is told, call by call
abbrev pub told_of : {S : Type 0} → ℕ → List (Told S) → List (Told S)
told_of o ts = pick (λ t. t.call.owner) o ts

-- two merges of the owners' calls: each owner's are the same, in the same order
abbrev pub Merges : {S : Type 0} → List (Call S) → List (Call S) → Type 0
Merges l l' = (o : ℕ) → calls_of o l ≡ calls_of o l'

-- no id is used by two owners
abbrev pub Apart : {S : Type 0} → List (Call S) → Type 0
Apart l = All (λ c. All (λ d. d.id ≡ c.id → d.owner ≡ c.owner) l) l

-- an answer other than for room
abbrev pub Roomy : Answer → Type 0
Roomy a = ¬ (a ≡ Refused NoRoom)
