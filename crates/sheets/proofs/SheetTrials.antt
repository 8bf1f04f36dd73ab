-- Trials: the two sheets that the paper prints, each accepted, with its tree and its predicates; and one sheet or more for each refusal of
-- a sheet's form. All by computing. Assumes nothing.
use Rattle.std.specs.Prelude.{◌≡◌, refl, List, [], ◌∷◌, ◌++◌, map, ℕ, ℤ, pos, negsuc}
use Rattle.evaluation.specs.declared.Operator.TheVariants.{And}
use Rattle.lists.specs.And.{◌and◌}
use Rattle.lists.specs.Below.{all_below}
use Rattle.lists.specs.Sets.{ascends}
use Rattle.lists.specs.Tabulate.{tabulate, upto}
use Rattle.decimals.specs.Normal.{normal_of, shortened}
use Rattle.attributes.specs.Table.{is_between}
use Rattle.ast.specs.Trees.{Join, Value}
use Rattle.sheets.specs.Entries.{natural_of}
use Rattle.sheets.specs.Table.{allowed, literal_fits, entry_fits}
use Rattle.sheets.specs.Spells.{Spells, shape_of}
use Rattle.sheets.specs.Bodies.{list_length_at, start_at, is_word, all_words, elements_fit}
use Rattle.sheets.specs.Form.{owed_at, one_tree, list_fits, lists_fit, is_well_formed, counted_answer, form_answer, answer_of}
use Rattle.sheets.specs.Reading.{scaled_at, entry_of, predicate_as, predicate_of}

-- a sheet without negative numbers
abbrev sheet : List ℕ → List ℤ
sheet l = map pos l

-- rain and wind >= 40, with rain 1 and wind 2
abbrev rain_and_wind : List ℤ
rain_and_wind = sheet (3 ∷ 1 ∷ 0 ∷ 0 ∷ 0 ∷ 0 ∷ 10 ∷ 1 ∷ 0 ∷ 0 ∷ 0 ∷ 32 ∷ 2 ∷ 1 ∷ 40 ∷ 0 ∷ [])

-- flags one of [2, 5], with flags 4
abbrev flags_one_of : List ℤ
flags_one_of = sheet (1 ∷ 50 ∷ 4 ∷ 4 ∷ 0 ∷ 2 ∷ 2 ∷ 5 ∷ [])

-- flags one of the numbers up to 31 and this one: an element more than a list may have
abbrev long_list : ℕ → List ℤ
long_list last = sheet (1 ∷ 50 ∷ 4 ∷ 4 ∷ 0 ∷ 33 ∷ upto 32) ++ (pos last ∷ [])

-- each of these sheets with its answer
abbrev trials : List (List ℤ × ℕ)
trials =
    -- the two that are printed
    (rain_and_wind, 0)
    ∷ (flags_one_of, 0)
    -- empty, and n below 1
    ∷ ([], 1)
    ∷ (pos 0 ∷ [], 1)
    ∷ (negsuc 0 ∷ [], 1)
    -- n above 128, with nothing after it
    ∷ (sheet (129 ∷ []), 2)
    -- a number short, and one more
    ∷ (sheet (1 ∷ 10 ∷ 1 ∷ 0 ∷ 0 ∷ []), 1)
    ∷ (sheet (1 ∷ 10 ∷ 1 ∷ 0 ∷ 0 ∷ 0 ∷ 7 ∷ []), 1)
    -- two trees, and a subtree that is missing
    ∷ (sheet (2 ∷ 10 ∷ 1 ∷ 0 ∷ 0 ∷ 0 ∷ 10 ∷ 1 ∷ 0 ∷ 0 ∷ 0 ∷ []), 1)
    ∷ (sheet (2 ∷ 1 ∷ 0 ∷ 0 ∷ 0 ∷ 0 ∷ 10 ∷ 1 ∷ 0 ∷ 0 ∷ 0 ∷ []), 1)
    -- equal neighbours, and a word 0
    ∷ (sheet (1 ∷ 50 ∷ 4 ∷ 4 ∷ 0 ∷ 2 ∷ 5 ∷ 5 ∷ []), 1)
    ∷ (sheet (1 ∷ 50 ∷ 5 ∷ 5 ∷ 0 ∷ 1 ∷ 0 ∷ []), 1)
    -- a negative attribute is no fault of form, a negative length is one
    ∷ (pos 1 ∷ pos 10 ∷ negsuc 0 ∷ pos 0 ∷ pos 0 ∷ pos 0 ∷ [], 0)
    ∷ (pos 1 ∷ pos 50 ∷ pos 4 ∷ pos 4 ∷ pos 0 ∷ negsuc 0 ∷ [], 1)
    -- a start and a length whose sum passes 2 to the 63
    ∷ (sheet (1 ∷ 50 ∷ 4 ∷ 4 ∷ 9223372036854775807 ∷ 9223372036854775807 ∷ []), 1)
    -- a long list, and a long list with equal neighbours
    ∷ (long_list 32, 2)
    ∷ (long_list 31, 1)
    ∷ []

pub answers : map (λ t. answer_of 1 t.0) trials ≡ map (λ t. t.1) trials
unfolding form_answer counted_answer is_well_formed entry_fits allowed literal_fits one_tree owed_at shape_of lists_fit list_fits
    start_at list_length_at elements_fit all_words is_word ascends natural_of is_between all_below tabulate ◌and◌
answers = refl

-- the trees, with the numbers of the entries at their leaves
pub rain_and_wind_tree : Spells 1 rain_and_wind (Join And (Value 1) (Value 2)) 0 3
unfolding Spells shape_of natural_of
rain_and_wind_tree = (2, refl, (refl, refl, refl), (refl, refl, refl))

pub flags_one_of_tree : Spells 1 flags_one_of (Value 0) 0 1
unfolding Spells shape_of natural_of
flags_one_of_tree = (refl, refl, refl)

-- and the predicates
pub rain : predicate_of 1 rain_and_wind 3 1 ≡ record { attribute = 1; kind = 10; tag = 0; number = pos 0; scale = 0; elements = [] }
unfolding predicate_as entry_of scaled_at normal_of shortened list_length_at natural_of is_between ◌and◌
rain = refl

pub wind : predicate_of 1 rain_and_wind 3 2 ≡ record { attribute = 2; kind = 32; tag = 1; number = pos 40; scale = 0; elements = [] }
unfolding predicate_as entry_of scaled_at normal_of shortened list_length_at natural_of is_between ◌and◌
wind = refl

pub flags : predicate_of 1 flags_one_of 1 0
    ≡ record { attribute = 4; kind = 50; tag = 4; number = pos 0; scale = 0; elements = pos 2 ∷ pos 5 ∷ [] }
unfolding predicate_as entry_of scaled_at normal_of shortened list_length_at natural_of is_between ◌and◌
flags = refl
