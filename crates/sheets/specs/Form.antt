-- The form of a sheet as tests that compute, and the answer that insert gives for it. `WellFormed` says the same as facts.
-- Assumes nothing: these are definitions.
use Rattle.std.specs.Prelude.{Bool, true, cond, List, ℕ, zero, suc, ◌+◌, ◌-◌, eqb, ltb, leb, length, take, drop, ℤ, pos}
use Rattle.std.specs.Int.Signed.{lt_z}
use Rattle.error.specs.Answers.{Answer, Done, Refused, number}
use Rattle.error.specs.declared.Refusal.TheVariants.{SheetMalformed, LimitPassed}
use Rattle.lists.specs.And.{◌and◌}
use Rattle.lists.specs.Below.{all_below}
use Rattle.lists.specs.Sets.{list_limit}
use Rattle.sheets.specs.Entries.{field_of, kind_of}
use Rattle.sheets.specs.Table.{entry_limit, has_list}
use Rattle.sheets.specs.declared.Shape.{Shape}
use Rattle.sheets.specs.declared.Shape.TheVariants.{Joins, Negates, Stands}
use Rattle.sheets.specs.Spells.{shape_of}
use Rattle.sheets.specs.Bodies.{tag_of, list_length_at, start_at, bodies_at, elements_fit}
use Rattle.sheets.specs.WellFormed.{count_at, count_of, entry_fits_at}

-- ---- one tree, by a count of the subtrees that are still owed

-- how many subtrees follow an entry
abbrev pub subtrees : Shape → ℕ
subtrees (Joins o) = 2
subtrees Negates = 1
subtrees Stands = 0

-- owed before entry i
unfoldable pub owed_at : ℕ → List ℤ → ℕ → ℕ
owed_at first s zero = 1
owed_at first s (suc i) = owed_at first s i + subtrees (shape_of (kind_of first s i)) - 1

abbrev pub owes : ℕ → List ℤ → ℕ → Bool
owes first s i = ltb 0 (owed_at first s i)

-- each entry is owed, and nothing after the last
unfoldable pub one_tree : ℕ → List ℤ → ℕ → Bool
one_tree first s n = all_below (owes first s) n and eqb (owed_at first s n) 0

-- ---- the lists

-- a list of this length, where the tag has one: x is the start due, and from there on it lies in the sheet and its elements fit
unfoldable pub list_fits : List ℤ → ℕ → ℕ → ℕ → ℕ → ℕ → Bool
list_fits s base start tag x size =
    cond (has_list tag)
    (eqb x start and leb (base + start + size) (length s) and elements_fit tag (take size (drop (base + start) s)))
    true

abbrev pub list_fits_at : ℕ → List ℤ → ℕ → ℕ → Bool
list_fits_at first s n i =
    list_fits s (bodies_at first n) (start_at first s i) (tag_of first s i) (field_of first s i 3) (list_length_at first s i)

unfoldable pub lists_fit : ℕ → List ℤ → ℕ → Bool
lists_fit first s n = all_below (list_fits_at first s n) n and eqb (bodies_at first n + start_at first s n) (length s)

abbrev pub list_short : ℕ → List ℤ → ℕ → Bool
list_short first s i = leb (list_length_at first s i) list_limit

-- ---- the answer

unfoldable pub is_well_formed : ℕ → List ℤ → ℕ → Bool
is_well_formed first s n =
    leb (bodies_at first n) (length s) and all_below (entry_fits_at first s) n and one_tree first s n and lists_fit first s n

-- of a sheet with so many entries, within the limit
unfoldable pub counted_answer : ℕ → List ℤ → ℕ → Answer
counted_answer first s n =
    cond (is_well_formed first s n) (cond (all_below (list_short first s) n) Done (Refused LimitPassed)) (Refused SheetMalformed)

unfoldable pub form_answer : ℕ → List ℤ → Answer
form_answer first s =
    cond (ltb (length s) first) (Refused SheetMalformed)
    (cond (lt_z (count_at first s) (pos 1)) (Refused SheetMalformed)
    (cond (lt_z (pos entry_limit) (count_at first s)) (Refused LimitPassed)
    (counted_answer first s (count_of first s))))

abbrev pub answer_of : ℕ → List ℤ → ℕ
answer_of first s = number (form_answer first s)
