-- Kleene's strong three-valued logic (Introduction to Metamathematics, section 64): and and or as two tables of three rows of three, Not,
-- and the join of many values.
-- Assumes nothing.
use Rattle.std.specs.Prelude.{Bool, true, false, List, [], ◌∷◌, ℕ, zero, suc}
use Rattle.evaluation.specs.declared.Truth.{Truth}
use Rattle.evaluation.specs.declared.Truth.TheVariants.{False, Undefined, True}
use Rattle.evaluation.specs.declared.Operator.{Operator}
use Rattle.evaluation.specs.declared.Operator.TheVariants.{And, Or}

-- a row of a table, its columns in the order False, Undefined, True
abbrev pub row : Truth → Truth → Truth → Truth → Truth
row f u t False = f
row f u t Undefined = u
row f u t True = t

-- the value of what is known to hold or not to hold
abbrev pub truth_from : Bool → Truth
truth_from false = False
truth_from true = True

abbrev pub and_of : Truth → Truth → Truth
and_of False = row False False False
and_of Undefined = row False Undefined Undefined
and_of True = row False Undefined True

abbrev pub or_of : Truth → Truth → Truth
or_of False = row False Undefined True
or_of Undefined = row Undefined Undefined True
or_of True = row True True True

abbrev pub not_of : Truth → Truth
not_of False = True
not_of Undefined = Undefined
not_of True = False

-- both operators at once, so that each law is stated once
abbrev pub join_of : Operator → Truth → Truth → Truth
join_of And = and_of
join_of Or = or_of

-- the value of an operator over no children
abbrev pub unit_of : Operator → Truth
unit_of And = True
unit_of Or = False

-- the value of one child that settles the whole
abbrev pub decider_of : Operator → Truth
decider_of And = False
decider_of Or = True

-- the operator under a Not
abbrev pub turned_of : Operator → Operator
turned_of And = Or
turned_of Or = And

-- an operator and a value under an odd number of Nots (true) or an even one (false)
abbrev pub operator_under : Bool → Operator → Operator
operator_under false o = o
operator_under true o = turned_of o

abbrev pub truth_under : Bool → Truth → Truth
truth_under false a = a
truth_under true a = not_of a

-- the join of a list
abbrev pub join_all : Operator → List Truth → Truth
join_all o [] = unit_of o
join_all o (x ∷ xs) = join_of o x (join_all o xs)

-- the join of f 0 up to f (n − 1), one value after the other as a loop takes them
abbrev pub join_up : Operator → (ℕ → Truth) → ℕ → Truth
join_up o f zero = unit_of o
join_up o f (suc n) = join_of o (join_up o f n) (f n)
