-- When an event suits an attribute table: as a test that computes, `suits_of`, and as facts, `Suits`, with a line for each reason to answer
-- 12. Places past the last attribute are not judged, nor what a value's kind does not use. Laws in `SuitsLaws`.
-- Assumes nothing.
use Rattle.std.specs.Prelude.{◌≡◌, Bool, true, false, ◌||◌, ◌⊎◌, List, ℕ, ◌≤◌, ◌<◌, eqb, leb, ℤ, pos}
use Rattle.lists.specs.And.{◌and◌}
use Rattle.lists.specs.Below.{all_below}
use Rattle.lists.specs.Sets.{ascends, list_limit}
use Rattle.decimals.specs.Decimals.{scale_limit}
use Rattle.attributes.specs.declared.AttributeKind.TheVariants.{Boolean, Float, String, StringList}
use Rattle.attributes.specs.Kinds.{kind_number}
use Rattle.attributes.specs.Table.{count_of, kind_at}
use Rattle.events.specs.declared.Event.{Event}
use Rattle.events.specs.Values.{undefined_number, is_list, is_up_to, is_word, all_words}
use Rattle.events.specs.Events.{kind_of, number_of, scale_of, length_of, list_in}

-- the second must hold where the first does
infixl 36 ◌implies◌
unfoldable pub ◌implies◌ : Bool → Bool → Bool
true implies b = b
false implies b = true

-- ---- the test

-- a value that is a list is no longer than its row, and ascends strictly
unfoldable pub list_suits : ℕ → ℕ → List ℤ → Bool
list_suits kind length list =
    is_list kind implies leb length list_limit
    and is_list kind implies ascends list

-- the value is in the range of its kind
unfoldable pub in_range : ℕ → ℤ → ℕ → List ℤ → Bool
in_range kind number scale list =
    eqb kind (kind_number Boolean) implies is_up_to number (pos 1)
    and eqb kind (kind_number Float) implies leb scale scale_limit
    and eqb kind (kind_number String) implies is_word number
    and eqb kind (kind_number StringList) implies all_words list

-- the value of one place suits an attribute of a kind
unfoldable pub place_suits : ℕ → ℕ → ℤ → ℕ → ℕ → List ℤ → Bool
place_suits own kind number scale length list =
    (eqb kind undefined_number || eqb kind own)
    and list_suits kind length list
    and in_range kind number scale list

abbrev pub suits_at : List ℕ → Event → ℕ → Bool
suits_at t e i = place_suits (kind_at t i) (kind_of e i) (number_of e i) (scale_of e i) (length_of e i) (list_in e i)

unfoldable pub suits_of : List ℕ → Event → Bool
suits_of t e = eqb e.count (count_of t) and all_below (suits_at t e) e.count

-- ---- the facts

-- of one place, whose attribute has the kind `own`
pub record PlaceSuits (own kind : ℕ) (number : ℤ) (scale length : ℕ) (list : List ℤ) : Type 0 where
  pub kinds : (kind ≡ undefined_number) ⊎ (kind ≡ own)
  pub inside : is_list kind ≡ true → length ≤ list_limit
  pub ascending : is_list kind ≡ true → ascends list ≡ true
  pub booleans : kind ≡ kind_number Boolean → is_up_to number (pos 1) ≡ true
  pub scales : kind ≡ kind_number Float → scale ≤ scale_limit
  pub words : kind ≡ kind_number String → is_word number ≡ true
  pub word_lists : kind ≡ kind_number StringList → all_words list ≡ true

abbrev pub SuitsAt : List ℕ → Event → ℕ → Type 0
SuitsAt t e i = PlaceSuits (kind_at t i) (kind_of e i) (number_of e i) (scale_of e i) (length_of e i) (list_in e i)

pub record Suits (t : List ℕ) (e : Event) : Type 0 where
  pub count : e.count ≡ count_of t
  pub places : (i : ℕ) → i < e.count → SuitsAt t e i
