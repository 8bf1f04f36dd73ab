-- WHAT EACH CHANGE NEEDS OF THE BYTES, AND WHAT IT DOES TO THE BOOK.
-- Assumes nothing: these are definitions.
use Rattle.std.specs.Prelude.{◌≡◌, List, [], ◌∷◌, ◌++◌, ℕ, ◌+◌, ◌≤◌, ◌<◌, length, get_or, ℤ, pos}
use Rattle.std.specs.Int.{w64}
use Rattle.std.proofs.Common.{SFits}
use Rattle.words.specs.Frame.{Bytes}
use Rattle.store.specs.declared.Limits.{Limits}
use Rattle.store.specs.declared.Record.{Record}
use Rattle.store.specs.Layout.{Laid, attributes_of}
use Rattle.model.specs.Parts.{Part}
use Rattle.store.specs.Records.{rule_count, rule_at, part_count, place_count, element_count, record_at, RecordFits}
use Rattle.store.specs.Tables.{parts_of, rules_of, entries_of}
use Rattle.store.specs.Runs.{Runs}
use Rattle.changes.specs.Changes.{placed, put_elements, append_join, append_predicate}

-- room for one part more, with p child places and e list elements
pub record Room (limits : Limits) (b : List ℕ) (p e : ℕ) : Type 0 where
  pub laid : Laid limits b
  pub parts : part_count b < limits.parts
  pub places : place_count b + p ≤ limits.places
  pub elements : element_count b + e ≤ limits.elements

-- each child is below n
abbrev pub Low : List ℕ → ℕ → Type 0
Low children n = (k : ℕ) → k < length children → get_or children k 0 < n

-- each of the first n numbers of a list fits 64 bits: of a lent list, known once it is read
abbrev pub Whole : List ℤ → ℕ → Type 0
Whole list n = (k : ℕ) → k < n → SFits w64 (get_or list k (pos 0))

-- s is the record r with its run; and r, handed in by the machine, fits
pub record Placed (r : Record) (n at : ℕ) (s : Record) : Type 0 where
  pub same : s ≡ placed r n at
  pub fits : RecordFits r

-- d is b with a list's n first elements put, exactly; and they fit
pub record ElementsPut (limits : Limits) (b : List ℕ) (at : ℕ) (list : List ℤ) (n : ℕ) (d : List ℕ) : Type 0 where
  pub bytes : d ≡ put_elements limits b at list n
  pub whole : Whole list n

-- d is b with the part appended, exactly; and what was handed in is of its machine type
pub record JoinPut (limits : Limits) (b : List ℕ) (r : Record) (children d : List ℕ) : Type 0 where
  pub bytes : d ≡ append_join limits b r children
  pub fits : RecordFits r

pub record PredicatePut (limits : Limits) (b : List ℕ) (r : Record) (list : List ℤ) (d : List ℕ) : Type 0 where
  pub bytes : d ≡ append_predicate limits b r list
  pub fits : RecordFits r
  pub whole : Whole list (length list)

-- d is b with one part more, of this record and content, and nothing else changed
pub record Appended (limits : Limits) (b : List ℕ) (r : Record) (part : Part) (d : List ℕ) : Type 0 where
  pub parts : parts_of limits d ≡ parts_of limits b ++ (part ∷ [])
  pub old : (i : ℕ) → i < part_count b → record_at limits d i ≡ record_at limits b i
  pub new : record_at limits d (part_count b) ≡ r
  pub count : part_count d ≡ part_count b + 1
  pub runs : Runs limits d
  pub laid : Laid limits d
  pub rules : rules_of d ≡ rules_of b
  pub attributes : attributes_of d ≡ attributes_of b
  pub entries : (n : ℕ) → entries_of limits d n ≡ entries_of limits b n

-- d is b with the rules l, and nothing else changed
pub record Ruled (limits : Limits) (b : List ℕ) (l : List (ℕ × ℕ)) (d : List ℕ) : Type 0 where
  pub rules : rules_of d ≡ l
  pub parts : parts_of limits d ≡ parts_of limits b
  pub records : (i : ℕ) → i < part_count b → record_at limits d i ≡ record_at limits b i
  pub count : part_count d ≡ part_count b
  pub runs : Runs limits d
  pub laid : Laid limits d
  pub attributes : attributes_of d ≡ attributes_of b
  pub entries : (n : ℕ) → entries_of limits d n ≡ entries_of limits b n
  pub bytes : Bytes d

-- d is b with l as the first n entries of the order table, and nothing else changed
pub record Reordered (limits : Limits) (b : List ℕ) (n : ℕ) (l d : List ℕ) : Type 0 where
  pub entries : entries_of limits d n ≡ l
  pub parts : parts_of limits d ≡ parts_of limits b
  pub records : (i : ℕ) → i < part_count b → record_at limits d i ≡ record_at limits b i
  pub count : part_count d ≡ part_count b
  pub runs : Runs limits d
  pub laid : Laid limits d
  pub rules : rules_of d ≡ rules_of b
  pub attributes : attributes_of d ≡ attributes_of b
  pub bytes : Bytes d

-- ids ascend strictly
abbrev pub AscendingIds : List ℕ → Type 0
AscendingIds b = (i k : ℕ) → i < k → k < rule_count b → (rule_at b i).id < (rule_at b k).id

-- k is where the id stands, or is to stand, among the rules: all before it have smaller ids, none from it on has
pub record RulePlace (b : List ℕ) (id k : ℕ) : Type 0 where
  pub most : k ≤ rule_count b
  pub before : (i : ℕ) → i < k → (rule_at b i).id < id
  pub after : (i : ℕ) → k ≤ i → i < rule_count b → id ≤ (rule_at b i).id

-- every root is below n
abbrev pub RootsBelow : List ℕ → ℕ → Type 0
RootsBelow b n = (i : ℕ) → i < rule_count b → (rule_at b i).root < n
