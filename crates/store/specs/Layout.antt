-- Where each table stands in a book's bytes, for given limits. The limits are parameters everywhere, and every place is reckoned from them
-- here: the head with four counts, the attribute table, the rules, the part records, the child places, the list elements, the order table.
-- Each place is a sum of limits times numerals, so that `omega` sees through all of it.
-- Assumes nothing.
use Rattle.std.specs.Prelude.{ℕ, ◌+◌, ◌*◌, ◌≤◌, List, length, take, drop}
use Rattle.attributes.specs.Table.{table_size}
use Rattle.store.specs.declared.Limits.{Limits}

-- the head: how many rules, parts, child places and list elements there are, each in 4 bytes
abbrev pub rule_count_at : ℕ
rule_count_at = 0

abbrev pub part_count_at : ℕ
part_count_at = 4

abbrev pub place_count_at : ℕ
place_count_at = 8

abbrev pub element_count_at : ℕ
element_count_at = 12

abbrev pub attributes_at : ℕ
attributes_at = 16

-- rules of 8 bytes, part records of 24, child places of 2, list elements of 8, and for each part 2 bytes of the order table
abbrev pub rules_at : ℕ
rules_at = attributes_at + table_size

abbrev pub parts_at : Limits → ℕ
parts_at limits = rules_at + 8 * limits.rules

abbrev pub places_at : Limits → ℕ
places_at limits = parts_at limits + 24 * limits.parts

abbrev pub elements_at : Limits → ℕ
elements_at limits = places_at limits + 2 * limits.places

abbrev pub order_at : Limits → ℕ
order_at limits = elements_at limits + 8 * limits.elements

abbrev pub size_of : Limits → ℕ
size_of limits = order_at limits + 2 * limits.parts

-- every part number, and every number of places or elements, fits 2 bytes
pub record Within (limits : Limits) : Type 0 where
  pub rules : limits.rules ≤ 65535
  pub parts : limits.parts ≤ 65535
  pub places : limits.places ≤ 65535
  pub elements : limits.elements ≤ 65535

-- the bytes have room for these limits
pub record Laid (limits : Limits) (b : List ℕ) : Type 0 where
  pub within : Within limits
  pub room : size_of limits ≤ length b

-- the attribute table
abbrev pub attributes_of : List ℕ → List ℕ
attributes_of b = take table_size (drop attributes_at b)
