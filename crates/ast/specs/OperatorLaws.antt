-- The two operators: they differ, and whether two are equal is decided. Assumes nothing.
use Rattle.std.specs.Prelude.{◌≡◌, refl, ◌≢◌}
use Rattle.std.proofs.Common.{sym, subst}
use Rattle.evaluation.specs.declared.Operator.{Operator}
use Rattle.evaluation.specs.declared.Operator.TheVariants.{And, Or}

abbrev IsAnd : Operator → Type 0
IsAnd And = Unit {0}
IsAnd Or = ⊥

pub And≢Or : And ≢ Or
And≢Or e = subst IsAnd e tt

unfoldable pub operator? : (o o' : Operator) → Dec (o ≡ o')
operator? And And = yes refl
operator? And Or = no And≢Or
operator? Or And = no (λ e. And≢Or (sym e))
operator? Or Or = yes refl
