-- The marks of a sound book. The first record has those of its parts, the second those of the whole; each field is one mark.
-- `most` is the greatest size of a rule. What follows from the marks stands in `SoundLaws`. Assumes nothing: these are definitions.
use Rattle.std.specs.Prelude.{◌≡◌, ◌⊎◌, List, ℕ, zero, ◌≤◌, ◌<◌, length}
use Rattle.lists.specs.Places.{All, Any, Distinct}
use Rattle.lists.specs.Sort.{Sorted}
use Rattle.lists.specs.PairOrder.{by_cost}
use Rattle.predicates.specs.Predicate.{Predicate}
use Rattle.ast.specs.Trees.{Flat}
use Rattle.ast.specs.Flattening.{Unlike}
use Rattle.ast.specs.Parts.{size}
use Rattle.model.specs.Parts.{Part, alone, over, children_of, meanings, flat_at, cost_at, Ordered, ChildOf}
use Rattle.model.specs.Rules.{IdsAscend}
use Rattle.model.specs.Book.{Book}

-- an And or Or has at least two children
abbrev pub Two : Part → Type 0
Two (alone p) = Unit {0}
Two (over o cs) = 2 ≤ length cs

-- and none of them has its operator, where `flat` says what each number means
abbrev pub UnlikeChildren : (ℕ → Flat Predicate) → Part → Type 0
UnlikeChildren flat (alone p) = Unit {0}
UnlikeChildren flat (over o cs) = All (λ c. Unlike o (flat c)) cs

-- the children stand by cost, those of one cost by number
abbrev pub Canonical : (ℕ → ℕ) → Part → Type 0
Canonical cost p = Sorted (by_cost cost) (children_of p)

pub record SoundParts (most : ℕ) (ps : List Part) : Type 0 where
  pub ordered : Ordered zero ps
  pub two : All Two ps
  pub unlike : All (UnlikeChildren (flat_at ps)) ps
  pub canonical : All (Canonical (cost_at ps)) ps
  pub distinct : Distinct ◌≡◌ ps
  pub small : All (λ f. size f ≤ most) (meanings ps)

pub record Sound (most : ℕ) (b : Book) : Type 0 where
  pub whole : SoundParts most b.parts
  -- each rule's root is a part
  pub rooted : All (λ r. r.root < length b.parts) b.rules
  pub ascending : IdsAscend b.rules
  -- each part is a rule's root or a part's child
  pub used : (i : ℕ) → i < length b.parts → Any (λ r. i ≡ r.root) b.rules ⊎ ChildOf b.parts i
