-- Trials: P7, P8 and P10 of the paper, each by computing. Assumes nothing.
use Rattle.std.specs.Prelude.{◌≡◌, refl, List, [], ◌∷◌, ℕ, ℤ, pos}
use Rattle.evaluation.specs.declared.Truth.{Truth}
use Rattle.evaluation.specs.declared.Truth.TheVariants.{False, Undefined, True}
use Rattle.events.specs.declared.AttributeValue.TheVariants as Value
use Rattle.lists.specs.Sets.{eq_z, within, shares, inside}
use Rattle.predicates.specs.Kinds.{kinds, numbered, kind_of}
use Rattle.predicates.specs.Suits.{pair}
use Rattle.predicates.specs.Meaning.{answers, evaluate_of, literal_from, says}

-- what a predicate of a kind says of an event's list of integers, its own list beside
abbrev of_list : ℕ → List ℤ → List ℤ → Truth
of_list kind elements list =
    says (record { attribute = 4; kind = kind; tag = 4; number = pos 0; scale = 0; elements = elements }) Value.IntegerList list

-- what a predicate of a kind says of an undefined value
abbrev of_undefined : ℕ → Truth
of_undefined kind = says (record { attribute = 4; kind = kind; tag = 0; number = pos 0; scale = 0; elements = [] }) Value.Undefined []

abbrev one_of : ℕ
one_of = 50

abbrev none_of : ℕ
none_of = 51

abbrev all_of : ℕ
all_of = 52

abbrev not_all_of : ℕ
not_all_of = 53

abbrev is_null : ℕ
is_null = 60

abbrev is_empty : ℕ
is_empty = 62

abbrev one : List ℤ
one = pos 1 ∷ []

pub P7 :
    (of_list one_of one [] ≡ False)
    × (of_list all_of one [] ≡ True)
    × (of_list none_of one [] ≡ True)
    × (of_list not_all_of one [] ≡ False)
unfolding says kind_of numbered kinds literal_from evaluate_of answers pair shares inside within eq_z
P7 = (refl, refl, refl, refl)

abbrev three : List ℤ
three = pos 1 ∷ pos 2 ∷ pos 3 ∷ []

pub P8 : (of_list all_of three (pos 1 ∷ pos 4 ∷ []) ≡ False) × (of_list one_of three (pos 1 ∷ pos 4 ∷ []) ≡ True)
unfolding says kind_of numbered kinds literal_from evaluate_of answers pair shares inside within eq_z
P8 = (refl, refl)

pub P10 : (of_undefined is_empty ≡ Undefined) × (of_undefined is_null ≡ True)
unfolding says kind_of numbered kinds literal_from evaluate_of answers pair
P10 = (refl, refl)
