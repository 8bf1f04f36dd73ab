-- The values of attributes: the number of each one's kind, the ranges of words and lists of words, and the value that a number of a kind,
-- a number and a scale stand for. Laws in `ValuesLaws`.
-- Assumes nothing.
use Rattle.std.specs.Prelude.{Bool, true, cond, not, Option, None, Some, ◌||◌, List, [], ◌∷◌, ℕ, eqb, ℤ, pos}
use Rattle.std.specs.Int.Signed.{le_z}
use Rattle.lists.specs.And.{◌and◌}
use Rattle.lists.specs.Sets.{eq_z}
use Rattle.attributes.specs.declared.AttributeKind.{AttributeKind}
use Rattle.attributes.specs.declared.AttributeKind.TheVariants as kind
use Rattle.attributes.specs.Kinds.{kind_number}
use Rattle.events.specs.declared.AttributeValue.{AttributeValue}
use Rattle.events.specs.declared.AttributeValue.TheVariants.{Undefined, Boolean, Integer, Float, String, IntegerList, StringList}

-- ---- the numbers of the kinds

abbrev pub undefined_number : ℕ
undefined_number = 0

-- of the kind of a value, where it has one
abbrev pub kind_number_or : Option AttributeKind → ℕ
kind_number_or None = undefined_number
kind_number_or (Some k) = kind_number k

abbrev pub value_number : AttributeValue → ℕ
value_number Undefined = undefined_number
value_number (Boolean b) = kind_number kind.Boolean
value_number (Integer x) = kind_number kind.Integer
value_number (Float d) = kind_number kind.Float
value_number (String w) = kind_number kind.String
value_number IntegerList = kind_number kind.IntegerList
value_number StringList = kind_number kind.StringList

-- the number of a kind whose values are lists
unfoldable pub is_list : ℕ → Bool
is_list k = eqb k (kind_number kind.IntegerList) || eqb k (kind_number kind.StringList)

-- ---- ranges

abbrev pub word_limit : ℕ
word_limit = 65535

-- from 0 to a limit
unfoldable pub is_up_to : ℤ → ℤ → Bool
is_up_to x limit = le_z (pos 0) x and le_z x limit

-- a word number that an event may hold: 0 is a word that no rule uses
abbrev pub is_word : ℤ → Bool
is_word x = is_up_to x (pos word_limit)

unfoldable pub all_words : List ℤ → Bool
all_words [] = true
all_words (x ∷ l) = is_word x and all_words l

-- ---- the value of a place: where the number is that of no kind, none

unfoldable pub value_of : ℕ → ℤ → ℕ → AttributeValue
value_of k x s =
    cond (eqb k (kind_number kind.Boolean)) (Boolean (not (eq_z x (pos 0))))
    (cond (eqb k (kind_number kind.Integer)) (Integer x)
    (cond (eqb k (kind_number kind.Float)) (Float (record { number = x; scale = s }))
    (cond (eqb k (kind_number kind.String)) (String (record { 0 = x }))
    (cond (eqb k (kind_number kind.IntegerList)) IntegerList
    (cond (eqb k (kind_number kind.StringList)) StringList
    Undefined)))))
