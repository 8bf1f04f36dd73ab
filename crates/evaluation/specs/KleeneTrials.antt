-- The trials P5 and P6 of three-valued and and or, computed from the definitions.
-- Assumes nothing.
use Rattle.std.specs.Prelude.{◌≡◌, refl}
use Rattle.evaluation.specs.declared.Truth.TheVariants.{False, Undefined, True}
use Rattle.evaluation.specs.declared.Operator.TheVariants.{And, Or}
use Rattle.evaluation.specs.Kleene.{join_of}

-- P5
pub undefined_and_false : join_of And Undefined False ≡ False
undefined_and_false = refl

pub undefined_and_true : join_of And Undefined True ≡ Undefined
undefined_and_true = refl

-- P6
pub undefined_or_true : join_of Or Undefined True ≡ True
undefined_or_true = refl
