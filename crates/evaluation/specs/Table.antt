-- The tables as the code holds them: three rows of three, looked up by the numbers of the two values.
-- Assumes nothing.
use Rattle.std.specs.Prelude.{List, [], ◌∷◌, ℕ, get_or}
use Rattle.evaluation.specs.declared.Truth.{Truth}
use Rattle.evaluation.specs.declared.Truth.TheVariants.{False, Undefined, True}
use Rattle.evaluation.specs.declared.Operator.{Operator}
use Rattle.evaluation.specs.declared.Operator.TheVariants.{And, Or}
use Rattle.evaluation.specs.Kleene.{and_of, or_of}

-- the place of a value in a row and of a row in a table
abbrev pub number_of : Truth → ℕ
number_of False = 0
number_of Undefined = 1
number_of True = 2

-- the rows of any operation on two values
abbrev pub rows_of : (Truth → Truth → Truth) → List (List Truth)
rows_of f =
    (f False False ∷ f False Undefined ∷ f False True ∷ [])
    ∷ (f Undefined False ∷ f Undefined Undefined ∷ f Undefined True ∷ [])
    ∷ (f True False ∷ f True Undefined ∷ f True True ∷ [])
    ∷ []

abbrev pub table_of : Operator → List (List Truth)
table_of And = rows_of and_of
table_of Or = rows_of or_of

-- the entry of any such table in row a and column b
abbrev pub at_table : List (List Truth) → Truth → Truth → Truth
at_table table a b = get_or (get_or table (number_of a) []) (number_of b) False
