-- What stands at a number of each table, and the bytes with something put there.
-- Assumes nothing.
use Rattle.std.specs.Prelude.{List, ℕ, ◌+◌, ◌*◌, ◌<◌, ℤ}
use Rattle.words.specs.Word.{word, put, signed_word}
use Rattle.store.specs.declared.Limits.{Limits}
use Rattle.store.specs.declared.Count.{Count}
use Rattle.store.specs.declared.Count.TheVariants.{Rules, Parts, Places, Elements}
use Rattle.store.specs.declared.Record.{Record}
use Rattle.store.specs.declared.Rule.{Rule}
use Rattle.store.specs.Layout.{rule_count_at, part_count_at, place_count_at, element_count_at}
use Rattle.store.specs.Layout.{rules_at, parts_at, places_at, elements_at, order_at}

-- ---- the counts

abbrev pub rule_count : List ℕ → ℕ
rule_count b = word 4 b rule_count_at

abbrev pub part_count : List ℕ → ℕ
part_count b = word 4 b part_count_at

abbrev pub place_count : List ℕ → ℕ
place_count b = word 4 b place_count_at

abbrev pub element_count : List ℕ → ℕ
element_count b = word 4 b element_count_at

-- where each stands, and any of them
abbrev pub count_at : Count → ℕ
count_at Rules = rule_count_at
count_at Parts = part_count_at
count_at Places = place_count_at
count_at Elements = element_count_at

abbrev pub count_of : Count → List ℕ → ℕ
count_of which b = word 4 b (count_at which)

-- ---- a part's record, in 24 bytes

abbrev pub record_in : List ℕ → ℕ → Record
record_in b at =
    record {
      kind = word 1 b at;
      attribute = word 1 b (at + 1);
      tag = word 1 b (at + 2);
      scale = word 1 b (at + 3);
      level = word 1 b (at + 4);
      size = word 1 b (at + 5);
      length = word 2 b (at + 6);
      start = word 4 b (at + 8);
      cost = word 4 b (at + 12);
      number = word 8 b (at + 16);
    }

-- each field fits its width
pub record RecordFits (r : Record) : Type 0 where
  pub kind : r.kind < 256
  pub attribute : r.attribute < 256
  pub tag : r.tag < 256
  pub scale : r.scale < 256
  pub level : r.level < 256
  pub size : r.size < 256
  pub length : r.length < 65536
  pub start : r.start < 4294967296
  pub cost : r.cost < 4294967296
  pub number : r.number < 18446744073709551616

-- its first 8 bytes, and the 16 after them
abbrev pub put_front : List ℕ → ℕ → Record → List ℕ
put_front b at r =
    let tagged = put 1 (put 1 (put 1 b at r.kind) (at + 1) r.attribute) (at + 2) r.tag in
    let sized = put 1 (put 1 (put 1 tagged (at + 3) r.scale) (at + 4) r.level) (at + 5) r.size in
    put 2 sized (at + 6) r.length

abbrev pub put_back : List ℕ → ℕ → Record → List ℕ
put_back b at r = put 8 (put 4 (put 4 b (at + 8) r.start) (at + 12) r.cost) (at + 16) r.number

unfoldable pub put_record_in : List ℕ → ℕ → Record → List ℕ
put_record_in b at r = put_back (put_front b at r) at r

abbrev pub record_at : Limits → List ℕ → ℕ → Record
record_at limits b i = record_in b (parts_at limits + 24 * i)

abbrev pub put_record : Limits → List ℕ → ℕ → Record → List ℕ
put_record limits b i r = put_record_in b (parts_at limits + 24 * i) r

-- ---- a rule, in 8 bytes

abbrev pub rule_in : List ℕ → ℕ → Rule
rule_in b at = record { id = word 4 b at; root = word 4 b (at + 4) }

abbrev pub put_rule_in : List ℕ → ℕ → Rule → List ℕ
put_rule_in b at r = put 4 (put 4 b at r.id) (at + 4) r.root

abbrev pub rule_at : List ℕ → ℕ → Rule
rule_at b i = rule_in b (rules_at + 8 * i)

abbrev pub put_rule : List ℕ → ℕ → Rule → List ℕ
put_rule b i r = put_rule_in b (rules_at + 8 * i) r

-- ---- a child place, a list element as its two's complement and as the number it is, an entry of the order table

abbrev pub place_at : Limits → List ℕ → ℕ → ℕ
place_at limits b k = word 2 b (places_at limits + 2 * k)

abbrev pub put_place : Limits → List ℕ → ℕ → ℕ → List ℕ
put_place limits b k child = put 2 b (places_at limits + 2 * k) child

abbrev pub element_word : Limits → List ℕ → ℕ → ℕ
element_word limits b k = word 8 b (elements_at limits + 8 * k)

abbrev pub element_at : Limits → List ℕ → ℕ → ℤ
element_at limits b k = signed_word b (elements_at limits + 8 * k)

abbrev pub put_element : Limits → List ℕ → ℕ → ℕ → List ℕ
put_element limits b k u = put 8 b (elements_at limits + 8 * k) u

abbrev pub entry_at : Limits → List ℕ → ℕ → ℕ
entry_at limits b k = word 2 b (order_at limits + 2 * k)

abbrev pub put_entry : Limits → List ℕ → ℕ → ℕ → List ℕ
put_entry limits b k part = put 2 b (order_at limits + 2 * k) part
