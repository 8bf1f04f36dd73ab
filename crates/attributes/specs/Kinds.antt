-- The six kinds of attributes, with the number that stands for each in a table and in an event. Laws in `KindsLaws`.
-- Assumes nothing.
use Rattle.std.specs.Prelude.{◌≡◌, ℕ, ◌<◌, ◌⊎◌, Result, MatchResult}
use Rattle.attributes.specs.declared.AttributeKind.{AttributeKind}
use Rattle.attributes.specs.declared.AttributeKind.TheVariants.{Boolean, Integer, Float, String, IntegerList, StringList}

abbrev pub kind_count : ℕ
kind_count = 6

-- 0 is left for a value that is undefined
abbrev pub kind_number : AttributeKind → ℕ
kind_number Boolean = 1
kind_number Integer = 2
kind_number Float = 3
kind_number String = 4
kind_number IntegerList = 5
kind_number StringList = 6

-- the result is the kind that has the number, or hands back a number that no kind has
abbrev pub IsKindOf : ℕ → Result AttributeKind ℕ → Type 0
IsKindOf n r = MatchResult r (λ kind. kind_number kind ≡ n) (λ m. (m ≡ n) × ((n < 1) ⊎ (kind_count < n)))
