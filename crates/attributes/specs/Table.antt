-- The attribute table, as it stands in bytes: the number of attributes, then 24 records of a kind, a name's length and 32 places for
-- the name's bytes; and how an attribute is found by its name. Laws in `TableLaws`.
-- Assumes nothing.
use Rattle.std.specs.Prelude.{Bool, cond, Option, None, Some, List, ℕ, zero, suc, ◌+◌, ◌*◌, leb, get_or, take, drop}
use Rattle.std.specs.Option.{option_or}
use Rattle.lists.specs.And.{◌and◌}
use Rattle.bytes_equal.specs.Bytes.{same_bytes}
use Rattle.attributes.specs.declared.AttributeId.{AttributeId}

-- ---- the layout: the limits stand here, and every place is reckoned from them

abbrev pub attribute_limit : ℕ
attribute_limit = 24

abbrev pub name_limit : ℕ
name_limit = 32

abbrev pub record_size : ℕ
record_size = 2 + name_limit

abbrev pub table_size : ℕ
table_size = 1 + record_size * attribute_limit

-- where record i begins: its kind, then its name's length, then the name
abbrev pub record_at : ℕ → ℕ
record_at i = 1 + record_size * i

-- a number from low to high
unfoldable pub is_between : ℕ → ℕ → ℕ → Bool
is_between low n high = leb low n and leb n high

-- ---- what stands in a table

abbrev pub count_of : List ℕ → ℕ
count_of t = get_or t 0 0

abbrev pub kind_at : List ℕ → ℕ → ℕ
kind_at t i = get_or t (record_at i) 0

abbrev pub length_at : List ℕ → ℕ → ℕ
length_at t i = get_or t (record_at i + 1) 0

abbrev pub name_at : List ℕ → ℕ → List ℕ
name_at t i = take (length_at t i) (drop (record_at i + 2) t)

-- ---- finding an attribute by its name

-- attribute i has this name
abbrev pub named : List ℕ → List ℕ → ℕ → Bool
named t n i = same_bytes (name_at t i) n

-- the first attribute below a number that passes a test
unfoldable pub first_below : (ℕ → Bool) → ℕ → Option AttributeId
first_below f zero = None
first_below f (suc n) = option_or (first_below f n) (cond (f n) (Some (record { 0 = n })) None)

-- the attribute of this name; where a damaged table has several, the first of them
abbrev pub by_name : List ℕ → List ℕ → Option AttributeId
by_name t n = first_below (named t n) (count_of t)
