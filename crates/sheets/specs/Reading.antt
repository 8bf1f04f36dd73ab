-- The predicate that an entry of a sheet holds, and how it is handed on: its numbers, and where its list stands in the sheet.
-- Laws in `ReadingLaws`. Assumes nothing: these are definitions.
use Rattle.std.specs.Prelude.{cond, List, ℕ, ◌+◌, ◌*◌, get_or, take, drop, ℤ, pos}
use Rattle.decimals.specs.declared.Decimal.{Decimal}
use Rattle.decimals.specs.Normal.{normal_of}
use Rattle.predicates.specs.Predicate.{Predicate}
use Rattle.sheets.specs.declared.Entry.{Entry}
use Rattle.sheets.specs.Entries.{field_of, kind_of}
use Rattle.sheets.specs.Table.{has_list}
use Rattle.sheets.specs.Bodies.{tag_of, list_length_at, bodies_at}

-- x with the scale y, in normal form: where y is 0 that is x itself
unfoldable pub scaled_at : ℕ → List ℤ → ℕ → Decimal
scaled_at first s i = normal_of (record { number = get_or s (first + 5 * i + 3) (pos 0); scale = field_of first s i 4 })

-- the number and the scale of the literal; a list has neither
abbrev pub literal_at : ℕ → List ℤ → ℕ → Decimal
literal_at first s i = cond (has_list (tag_of first s i)) (record { number = pos 0; scale = 0 }) (scaled_at first s i)

-- where the list stands in the sheet: x from the start of the bodies on
abbrev pub list_at : ℕ → List ℤ → ℕ → ℕ → ℕ
list_at first s n i = cond (has_list (tag_of first s i)) (bodies_at first n + field_of first s i 3) 0

-- entry i of a sheet of n entries
unfoldable pub entry_of : ℕ → List ℤ → ℕ → ℕ → Entry
entry_of first s n i =
    record {
      attribute = field_of first s i 1;
      kind = kind_of first s i;
      tag = tag_of first s i;
      number = (literal_at first s i).number;
      scale = (literal_at first s i).scale;
      start = list_at first s n i;
      length = list_length_at first s i;
    }

-- the predicate of an entry that was read from a sheet
unfoldable pub predicate_as : List ℤ → Entry → Predicate
predicate_as s e =
    record {
      attribute = e.attribute;
      kind = e.kind;
      tag = e.tag;
      number = e.number;
      scale = e.scale;
      elements = take e.length (drop e.start s);
    }

abbrev pub predicate_of : ℕ → List ℤ → ℕ → ℕ → Predicate
predicate_of first s n i = predicate_as s (entry_of first s n i)
