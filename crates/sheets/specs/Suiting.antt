-- The predicates of a sheet one by one, in prefix order: each names an attribute of the table and suits its kind. The first that does not
-- gives the answer. Laws in `SuitingLaws`. Assumes nothing: these are definitions.
use Rattle.std.specs.Prelude.{◌≡◌, true, cond, List, ℕ, zero, suc, ◌+◌, ◌*◌, ◌≤◌, ◌<◌, ltb, length, ℤ}
use Rattle.error.specs.Answers.{Answer, Done, Refused, then}
use Rattle.error.specs.declared.Refusal.TheVariants.{NoAttribute, NotSuited}
use Rattle.attributes.specs.Table.{attribute_limit, table_size, kind_at, count_of as attributesIn}
use Rattle.predicates.specs.Kinds.{kind_of as kindNumbered}
use Rattle.predicates.specs.Suits.{suits_of}
use Rattle.predicates.specs.Predicate.{Predicate}
use Rattle.sheets.specs.Entries.{field_of, kind_of}
use Rattle.sheets.specs.declared.Shape.{Shape}
use Rattle.sheets.specs.declared.Shape.TheVariants.{Joins, Negates, Stands}
use Rattle.sheets.specs.Spells.{shape_of}
use Rattle.sheets.specs.Bodies.{tag_of}
use Rattle.sheets.specs.WellFormed.{count_of}
use Rattle.sheets.specs.Form.{answer_of}

-- a predicate by its attribute, kind and tag; a negative attribute reads as one past the table
unfoldable pub suit_answer : List ℕ → ℕ → ℕ → ℕ → Answer
suit_answer table attribute kind tag =
    cond (ltb attribute (attributesIn table))
    (cond (suits_of (kindNumbered kind) tag (kind_at table attribute)) Done (Refused NotSuited))
    (Refused NoAttribute)

-- only a predicate is asked
abbrev pub standing : Shape → Answer → Answer
standing (Joins o) a = Done
standing Negates a = Done
standing Stands a = a

unfoldable pub entry_answer : List ℕ → ℕ → List ℤ → ℕ → Answer
entry_answer table first s i =
    standing (shape_of (kind_of first s i)) (suit_answer table (field_of first s i 1) (kind_of first s i) (tag_of first s i))

-- the first i entries
unfoldable pub entries_answer : List ℕ → ℕ → List ℤ → ℕ → Answer
entries_answer table first s zero = Done
entries_answer table first s (suc i) = then (entries_answer table first s i) (entry_answer table first s i)

-- what insert answers for the predicates of a sheet whose form is accepted
abbrev pub predicates_answer : List ℕ → ℕ → List ℤ → Answer
predicates_answer table first s = entries_answer table first s (count_of first s)

-- ---- the same as facts

-- the predicate names an attribute of the table and suits its kind
pub record Suited (table : List ℕ) (p : Predicate) : Type 0 where
  pub known : p.attribute < attributesIn table
  pub suits : suits_of (kindNumbered p.kind) p.tag (kind_at table p.attribute) ≡ true

-- ---- what the checks ask for

-- a table of attributes
pub record ReadyTable (table : List ℕ) : Type 0 where
  pub size : length table ≡ table_size
  pub few : attributesIn table ≤ attribute_limit

-- entry i lies in the sheet, and its kind and tag are small
pub record ReadyEntry (first : ℕ) (s : List ℤ) (i : ℕ) (table : List ℕ) : Type 0 where
  pub inside : first + 5 * i + 5 ≤ length s
  pub kinds : kind_of first s i ≤ 63
  pub tags : tag_of first s i ≤ 5
  pub attributes : ReadyTable table

-- the sheet's form is accepted
pub record ReadySheet (first : ℕ) (s : List ℤ) (table : List ℕ) : Type 0 where
  pub placed : 1 ≤ first
  pub accepted : answer_of first s ≡ 0
  pub attributes : ReadyTable table
