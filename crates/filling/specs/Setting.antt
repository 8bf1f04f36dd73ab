-- An event with a reading set at a place: nothing else of it changes. Laws in `SettingLaws`.
-- Assumes nothing.
use Rattle.std.specs.Prelude.{List, ℕ, ◌*◌, ℤ, nat_abs, set}
use Rattle.std.proofs.lemmas.List.Edits.{sets}
use Rattle.lists.specs.Sets.{list_limit, row_of}
use Rattle.events.specs.declared.Event.{Event}
use Rattle.events.specs.Events.{event_of}
use Rattle.filling.specs.declared.Reading.{Reading}
use Rattle.filling.specs.declared.Reading.TheVariants.{Undefined, Boolean, Integer, Float, String, IntegerList, StringList}
use Rattle.filling.specs.Readings.{reading_number, bit_of}

-- another kind, and what else stands at the place stays
abbrev pub with_kind : Event → ℕ → ℕ → Event
with_kind e i kind = event_of e.count (set e.kinds i kind) e.numbers e.scales e.lengths e.lists

abbrev pub with_scalar : Event → ℕ → ℕ → ℤ → ℕ → Event
with_scalar e i kind number scale =
    event_of e.count (set e.kinds i kind) (set e.numbers i number) (set e.scales i scale) e.lengths e.lists

-- the list is sorted and made distinct, and stands in the attribute's row with zeros after it
abbrev pub with_list : Event → ℕ → ℕ → List ℤ → Event
with_list e i kind list =
    event_of e.count (set e.kinds i kind) e.numbers e.scales (set e.lengths i (row_of list).length)
    (sets e.lists (list_limit * i) (row_of list).places)

abbrev pub with_reading : Event → ℕ → Reading → List ℤ → Event
with_reading e i Undefined list = with_kind e i (reading_number Undefined)
with_reading e i (Boolean b) list = with_scalar e i (reading_number (Boolean b)) (bit_of b) 0
with_reading e i (Integer x) list = with_scalar e i (reading_number (Integer x)) x 0
with_reading e i (Float x s) list = with_scalar e i (reading_number (Float x s)) x (nat_abs s)
with_reading e i (String w) list = with_scalar e i (reading_number (String w)) w.0 0
with_reading e i IntegerList list = with_list e i (reading_number IntegerList) list
with_reading e i StringList list = with_list e i (reading_number StringList) list
