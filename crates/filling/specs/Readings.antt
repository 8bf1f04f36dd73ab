-- Readings: the number of each one's kind, the kind that it suits, the limits that it may not pass, and the value that it gives.
-- Assumes nothing.
use Rattle.std.specs.Prelude.{Bool, true, false, ◌||◌, List, ℕ, eqb, leb, ℤ, pos, nat_abs, length}
use Rattle.lists.specs.And.{◌and◌}
use Rattle.lists.specs.Sets.{list_limit}
use Rattle.decimals.specs.Decimals.{scale_limit}
use Rattle.attributes.specs.declared.AttributeKind.TheVariants as kind
use Rattle.attributes.specs.Kinds.{kind_number}
use Rattle.events.specs.declared.AttributeValue.{AttributeValue}
use Rattle.events.specs.declared.AttributeValue.TheVariants as value
use Rattle.events.specs.Values.{undefined_number, is_up_to, is_word, all_words}
use Rattle.filling.specs.declared.Reading.{Reading}
use Rattle.filling.specs.declared.Reading.TheVariants.{Undefined, Boolean, Integer, Float, String, IntegerList, StringList}

abbrev pub reading_number : Reading → ℕ
reading_number Undefined = undefined_number
reading_number (Boolean b) = kind_number kind.Boolean
reading_number (Integer x) = kind_number kind.Integer
reading_number (Float x s) = kind_number kind.Float
reading_number (String w) = kind_number kind.String
reading_number IntegerList = kind_number kind.IntegerList
reading_number StringList = kind_number kind.StringList

-- undefined may be given to an attribute of any kind
unfoldable pub of_kind : Reading → ℕ → Bool
of_kind r own = eqb (reading_number r) undefined_number || eqb (reading_number r) own

-- ---- the limits

-- the list as it is given, before repeats go
abbrev pub list_within : List ℤ → Bool
list_within list = leb (length list) list_limit

abbrev pub within_limits : Reading → List ℤ → Bool
within_limits Undefined list = true
within_limits (Boolean b) list = true
within_limits (Integer x) list = true
within_limits (Float x s) list = is_up_to s (pos scale_limit)
within_limits (String w) list = is_word w.0
within_limits IntegerList list = list_within list
within_limits StringList list = list_within list and all_words list

-- ---- the value that a reading gives; a scale within its limits is no less than 0

abbrev pub bit_of : Bool → ℤ
bit_of true = pos 1
bit_of false = pos 0

abbrev pub value_given : Reading → AttributeValue
value_given Undefined = value.Undefined
value_given (Boolean b) = value.Boolean b
value_given (Integer x) = value.Integer x
value_given (Float x s) = value.Float (record { number = x; scale = nat_abs s })
value_given (String w) = value.String w
value_given IntegerList = value.IntegerList
value_given StringList = value.StringList
