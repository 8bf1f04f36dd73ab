-- THE ORDER TABLE ASCENDS: each of its first n entries is one of n parts, and each part that it names holds more than the one before.
-- `ascends_b` is the test, in one pass, and `Ascends` the facts; `AscentLaws` has that they are the same. The facts are stated over any
-- keys and any entries, so that they hold of a book before and after a change alike. Assumes nothing.
use Rattle.std.specs.Prelude.{◌≡◌, Bool, true, List, ℕ, zero, suc, ◌+◌, ◌≤◌, ◌<◌, ltb}
use Rattle.lists.specs.And.{◌and◌}
use Rattle.lists.specs.Below.{all_below}
use Rattle.std.specs.declared.cmp.Ordering.TheVariants.{Less}
use Rattle.store.specs.declared.Limits.{Limits}
use Rattle.store.specs.Layout.{Laid}
use Rattle.store.specs.Records.{entry_at}
use Rattle.std.specs.Ordering.{is_lt}
use Rattle.finding.specs.KeyOrder.{key_order}
use Rattle.finding.specs.Keys.{key_at, Inside}

-- the part that entry k names holds more than the one that the entry before it names
unfoldable pub rises_b : Limits → List ℕ → ℕ → Bool
rises_b limits b zero = true
rises_b limits b (suc k) = is_lt (key_order (key_at limits b (entry_at limits b k)) (key_at limits b (entry_at limits b (suc k))))

abbrev pub entry_b : Limits → List ℕ → ℕ → ℕ → Bool
entry_b limits b n k = ltb (entry_at limits b k) n and rises_b limits b k

unfoldable pub ascends_b : Limits → List ℕ → ℕ → Bool
ascends_b limits b n = all_below (entry_b limits b n) n

pub record Rising (key : ℕ → List ℕ) (entry : ℕ → ℕ) (n : ℕ) : Type 0 where
  pub entries : (k : ℕ) → k < n → entry k < n
  pub steps : (k : ℕ) → k + 1 < n → key_order (key (entry k)) (key (entry (k + 1))) ≡ Less

abbrev pub Ascends : Limits → List ℕ → ℕ → Type 0
Ascends limits b n = Rising (key_at limits b) (entry_at limits b) n

-- what the test asks: n parts, each inside
pub record PartsInside (limits : Limits) (b : List ℕ) (n : ℕ) : Type 0 where
  pub laid : Laid limits b
  pub few : n ≤ limits.parts
  pub inside : (p : ℕ) → p < n → Inside limits b p

-- what the test asks at entry k: the parts that it and the entries before it name are inside
pub record Neighbours (limits : Limits) (b : List ℕ) (k : ℕ) : Type 0 where
  pub laid : Laid limits b
  pub few : k < limits.parts
  pub inside : (i : ℕ) → i ≤ k → Inside limits b (entry_at limits b i)
