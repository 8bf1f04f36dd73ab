-- The kinds of And and Or in a sheet, and the operator of such a kind. Assumes nothing: these are definitions.
use Rattle.std.specs.Prelude.{cond, ℕ, eqb}
use Rattle.evaluation.specs.declared.Operator.{Operator}
use Rattle.evaluation.specs.declared.Operator.TheVariants.{And, Or}

abbrev pub kind_number : Operator → ℕ
kind_number And = 1
kind_number Or = 2

abbrev pub operator_numbered : ℕ → Operator
operator_numbered kind = cond (eqb kind 2) Or And
