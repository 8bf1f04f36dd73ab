-- WHERE A CANDIDATE IS: the part that holds its key, or the place in the order table where it is to stand. `FindingLaws` has that there is
-- one right answer only.
-- Assumes nothing.
use Rattle.std.specs.Prelude.{◌≡◌, List, ℕ, ◌≤◌, ◌<◌}
use Rattle.std.specs.declared.cmp.Ordering.TheVariants.{Less, Greater}
use Rattle.store.specs.declared.Limits.{Limits}
use Rattle.store.specs.Records.{part_count, entry_at}
use Rattle.std.specs.declared.result.Result.{Result}
use Rattle.std.specs.declared.result.Result.TheVariants.{Ok, Err}
use Rattle.finding.specs.KeyOrder.{key_order}
use Rattle.finding.specs.Keys.{key_at}
use Rattle.finding.specs.Ascent.{Ascends, PartsInside}

-- place k: the parts named before it hold less, those named from it on hold more
pub record Placed (key : ℕ → List ℕ) (entry : ℕ → ℕ) (n : ℕ) (candidate : List ℕ) (k : ℕ) : Type 0 where
  pub most : k ≤ n
  pub before : (i : ℕ) → i < k → key_order (key (entry i)) candidate ≡ Less
  pub after : (i : ℕ) → k ≤ i → i < n → key_order (key (entry i)) candidate ≡ Greater

unfoldable pub Right : (ℕ → List ℕ) → (ℕ → ℕ) → ℕ → List ℕ → Result ℕ ℕ → Type 0
Right key entry n candidate (Ok p) = (p < n) × (key p ≡ candidate)
Right key entry n candidate (Err k) = Placed key entry n candidate k

-- the same of a book, with all its parts
abbrev pub FoundRight : Limits → List ℕ → List ℕ → Result ℕ ℕ → Type 0
FoundRight limits b candidate r = Right (key_at limits b) (entry_at limits b) (part_count b) candidate r

-- what looking up asks of a book
pub record Ordered (limits : Limits) (b : List ℕ) : Type 0 where
  pub parts : PartsInside limits b (part_count b)
  pub ascends : Ascends limits b (part_count b)
