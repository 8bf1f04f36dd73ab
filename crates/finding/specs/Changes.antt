-- What an insert and a delete do to the parts' keys and to the order table, as facts on keys and entries before and after.
-- Assumes nothing.
use Rattle.std.specs.Prelude.{◌≡◌, Bool, true, false, cond, List, [], ◌∷◌, map, ℕ, ◌+◌, ◌≤◌, ◌<◌}
use Rattle.lists.specs.Places.{All}
use Rattle.store.specs.declared.Limits.{Limits}
use Rattle.store.specs.Records.{record_at}
use Rattle.store.specs.Tables.{is_join}
use Rattle.finding.specs.Keys.{key_of, items_of, key_at}

-- ---- an insert: one part more, and its number put at place k

pub record Grown (key grown : ℕ → List ℕ) (n : ℕ) (candidate : List ℕ) : Type 0 where
  pub same : (p : ℕ) → p < n → grown p ≡ key p
  pub last : grown n ≡ candidate

pub record PutAt (entry after : ℕ → ℕ) (n k number : ℕ) : Type 0 where
  pub before : (i : ℕ) → i < k → after i ≡ entry i
  pub here : after k ≡ number
  pub moved : (i : ℕ) → k ≤ i → i < n → after (i + 1) ≡ entry i

-- ---- a delete: some of n parts are kept, and the m that are get new numbers in their order

abbrev pub Kept : (ℕ → Bool) → ℕ → ℕ → Type 0
Kept kept n p = (p < n) × (kept p ≡ true)

pub record Renumbered (kept : ℕ → Bool) (to : ℕ → ℕ) (n m : ℕ) : Type 0 where
  pub small : (p : ℕ) → Kept kept n p → to p < m
  pub onto : (q : ℕ) → q < m → (p : ℕ) × Kept kept n p × (to p ≡ q)
  pub ascends : (p q : ℕ) → Kept kept n p → Kept kept n q → p < q → to p < to q

-- the order table: entries of parts that go are dropped, the others get the new numbers
unfoldable pub kept_of : (ℕ → Bool) → (ℕ → ℕ) → List ℕ → List ℕ
kept_of kept to [] = []
kept_of kept to (p ∷ l) = cond (kept p) (to p ∷ kept_of kept to l) (kept_of kept to l)

-- the items of an And or an Or are part numbers, those of a predicate are not
abbrev pub moved_items : Bool → (ℕ → ℕ) → List ℕ → List ℕ
moved_items true to items = map to items
moved_items false to items = items

-- each part that is kept holds what it held, with its children renumbered; a part's children are kept where it is
pub record Moved (limits : Limits) (b after : List ℕ) (kept : ℕ → Bool) (to : ℕ → ℕ) (n : ℕ) : Type 0 where
  pub keys : (p : ℕ) → Kept kept n p
      → key_at limits after (to p)
      ≡ key_of (record_at limits b p) (moved_items (is_join (record_at limits b p)) to (items_of limits b (record_at limits b p)))
  pub children : (p : ℕ) → Kept kept n p → is_join (record_at limits b p) ≡ true
      → All (Kept kept n) (items_of limits b (record_at limits b p))
