-- Dated readings: how old one may be, and how far ahead its stamp. Laws in `AgesLaws`.
-- Assumes nothing.
use Rattle.std.specs.Prelude.{Bool, List, ℕ, ◌-◌, leb, ℤ}
use Rattle.lists.specs.And.{◌and◌}
use Rattle.events.specs.declared.Event.{Event}
use Rattle.filling.specs.declared.Reading.{Reading}
use Rattle.filling.specs.declared.Filled.{Filled}
use Rattle.filling.specs.Filling.{filled_when}

-- The stamp is ahead of the present by at most the tolerance, and the reading is at most so old. A difference of natural numbers is 0 where
-- it would be negative: a stamp that is past is ahead by 0, and one that is ahead has the age 0.
unfoldable pub is_fresh : ℕ → ℕ → ℕ → ℕ → Bool
is_fresh tolerance stamp present greatestAge = leb (stamp - present) tolerance and leb (present - stamp) greatestAge

-- no stamp may be ahead
abbrev pub dated_of : List ℕ → Event → List ℕ → Reading → List ℤ → ℕ → ℕ → ℕ → Filled
dated_of t e name reading list stamp present greatestAge = filled_when (is_fresh 0 stamp present greatestAge) t e name reading list
