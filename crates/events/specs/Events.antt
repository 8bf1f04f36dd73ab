-- An event: what stands at the place of an attribute, and a fresh event. Laws in `EventsLaws`.
-- Assumes nothing.
use Rattle.std.specs.Prelude.{◌≡◌, List, ℕ, ◌*◌, ℤ, pos, length, get_or, take, drop, replicate}
use Rattle.lists.specs.Sets.{list_limit}
use Rattle.attributes.specs.Table.{attribute_limit}
use Rattle.events.specs.declared.AttributeValue.{AttributeValue}
use Rattle.events.specs.declared.Event.{Event}
use Rattle.events.specs.Values.{undefined_number, value_of}

abbrev pub store_size : ℕ
store_size = list_limit * attribute_limit

-- the event whose parts are these
abbrev pub event_of : ℕ → List ℕ → List ℤ → List ℕ → List ℕ → List ℤ → Event
event_of count kinds numbers scales lengths lists =
    record { count = count; kinds = kinds; numbers = numbers; scales = scales; lengths = lengths; lists = lists }

-- the parts have the sizes that the type gives them
pub record Shaped (e : Event) : Type 0 where
  pub kinds : length e.kinds ≡ attribute_limit
  pub numbers : length e.numbers ≡ attribute_limit
  pub scales : length e.scales ≡ attribute_limit
  pub lengths : length e.lengths ≡ attribute_limit
  pub lists : length e.lists ≡ store_size

-- ---- what stands at a place

abbrev pub kind_of : Event → ℕ → ℕ
kind_of e i = get_or e.kinds i 0

abbrev pub number_of : Event → ℕ → ℤ
number_of e i = get_or e.numbers i (pos 0)

abbrev pub scale_of : Event → ℕ → ℕ
scale_of e i = get_or e.scales i 0

abbrev pub length_of : Event → ℕ → ℕ
length_of e i = get_or e.lengths i 0

abbrev pub value_at : List ℕ → List ℤ → List ℕ → ℕ → AttributeValue
value_at kinds numbers scales i = value_of (get_or kinds i 0) (get_or numbers i (pos 0)) (get_or scales i 0)

-- the row in which attribute i keeps its list
unfoldable pub row_at : List ℤ → ℕ → List ℤ
row_at lists i = take list_limit (drop (list_limit * i) lists)

-- its list: as much of the row as the length says
unfoldable pub list_at : List ℤ → List ℕ → ℕ → List ℤ
list_at lists lengths i = take (get_or lengths i 0) (row_at lists i)

abbrev pub value_in : Event → ℕ → AttributeValue
value_in e i = value_at e.kinds e.numbers e.scales i

abbrev pub list_in : Event → ℕ → List ℤ
list_in e i = list_at e.lists e.lengths i

-- ---- a fresh event

-- every attribute is undefined, and all else is 0
unfoldable pub fresh_of : ℕ → Event
fresh_of count =
    event_of count (replicate attribute_limit undefined_number) (replicate attribute_limit (pos 0)) (replicate attribute_limit 0)
    (replicate attribute_limit 0) (replicate store_size (pos 0))
