-- WHAT A PART HOLDS, AS A KEY: the first four bytes of its record as one number, its number, how many items it has, then the items. The
-- items of an And or an Or are its children's numbers, those of a predicate its list's elements, each as its two's complement.
-- Assumes nothing.
use Rattle.std.specs.Prelude.{◌≡◌, Bool, true, false, List, [], ◌∷◌, ◌++◌, map, ℕ, ◌+◌, ◌*◌, ◌≤◌, ◌<◌, ℤ, length, get_or}
use Rattle.std.specs.Int.{w64}
use Rattle.std.proofs.Common.{of_z}
use Rattle.lists.specs.Tabulate.{tabulate}
use Rattle.std.specs.declared.cmp.Ordering.{Ordering}
use Rattle.store.specs.declared.Limits.{Limits}
use Rattle.store.specs.declared.Record.{Record}
use Rattle.store.specs.declared.Head.{Head}
use Rattle.store.specs.Layout.{Laid}
use Rattle.store.specs.Records.{record_at, place_at, element_word}
use Rattle.store.specs.Tables.{is_join}
use Rattle.finding.specs.KeyOrder.{key_order}

-- kind, attribute, tag and scale as the number that four bytes are
abbrev pub first_of : Record → ℕ
first_of r = r.kind + 256 * (r.attribute + 256 * (r.tag + 256 * r.scale))

unfoldable pub key_of : Record → List ℕ → List ℕ
key_of r items = first_of r ∷ r.number ∷ length items ∷ items

-- the head of a key: all that stands before the items
abbrev pub head_key : Head → List ℕ
head_key h = h.first ∷ h.number ∷ h.length ∷ []

-- ---- a part that stands in the book

-- item k of those that children have (true), or of those that lists have (false), and how many there is room for
abbrev pub item_at : Bool → Limits → List ℕ → ℕ → ℕ
item_at true limits b k = place_at limits b k
item_at false limits b k = element_word limits b k

abbrev pub item_limit : Bool → Limits → ℕ
item_limit true limits = limits.places
item_limit false limits = limits.elements

abbrev pub items_from : Bool → Limits → List ℕ → ℕ → ℕ → List ℕ
items_from join limits b start n = tabulate n (λ k. item_at join limits b (start + k))

abbrev pub items_of : Limits → List ℕ → Record → List ℕ
items_of limits b r = items_from (is_join r) limits b r.start r.length

unfoldable pub key_at : Limits → List ℕ → ℕ → List ℕ
key_at limits b p = key_of (record_at limits b p) (items_of limits b (record_at limits b p))

-- how part p compares with a key
abbrev pub part_order : Limits → List ℕ → ℕ → List ℕ → Ordering
part_order limits b p key = key_order (key_at limits b p) key

-- and how with a head and the items after it
abbrev pub head_order : Limits → List ℕ → ℕ → Head → List ℕ → Ordering
head_order limits b p head items = part_order limits b p (head_key head ++ items)

-- the calls at 0 and on give the items, n of them; says k r is that the call at k may give r
pub record Gives (says : ℕ → ℕ → Type 0) (n : ℕ) (items : List ℕ) : Type 0 where
  pub long : length items ≡ n
  pub each : (k r : ℕ) → k < n → says k r → r ≡ get_or items k 0

-- n items from start on lie within the limits
pub record Run (join : Bool) (limits : Limits) (b : List ℕ) (start n : ℕ) : Type 0 where
  pub laid : Laid limits b
  pub room : start + n ≤ item_limit join limits

-- what a comparison needs of part p: there is room for it, and its items lie within the limits
pub record Inside (limits : Limits) (b : List ℕ) (p : ℕ) : Type 0 where
  pub part : p < limits.parts
  pub run : Run (is_join (record_at limits b p)) limits b (record_at limits b p).start (record_at limits b p).length

-- ---- a candidate, which need not stand in the book: a predicate's fields and list, or an operator's fields and children

abbrev pub candidate_head : Record → ℕ → Head
candidate_head content n = record { kind = content.kind; first = first_of content; number = content.number; length = n; start = 0 }

abbrev pub words_of : List ℤ → List ℕ
words_of elements = map (of_z w64) elements

abbrev pub predicate_key : Record → List ℤ → List ℕ
predicate_key content elements = key_of content (words_of elements)

abbrev pub join_key : Record → List ℕ → List ℕ
join_key content children = key_of content children
