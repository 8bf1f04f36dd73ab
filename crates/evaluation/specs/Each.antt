-- A law over the three values and the two operators holds if it holds at each of them; there both of its sides compute.
-- Assumes nothing.
use Rattle.evaluation.specs.declared.Truth.{Truth}
use Rattle.evaluation.specs.declared.Truth.TheVariants.{False, Undefined, True}
use Rattle.evaluation.specs.declared.Operator.{Operator}
use Rattle.evaluation.specs.declared.Operator.TheVariants.{And, Or}

abbrev pub Each : (Truth → Type 0) → Type 0
Each P = P False × P Undefined × P True

pub each : (P : Truth → Type 0) → Each P → (a : Truth) → P a
each P h False = h.0
each P h Undefined = h.1
each P h True = h.2

abbrev pub Both : (Operator → Type 0) → Type 0
Both P = P And × P Or

pub both : (P : Operator → Type 0) → Both P → (o : Operator) → P o
both P h And = h.0
both P h Or = h.1

-- an operator and one, two or three values
pub of_one : (P : Operator → Truth → Type 0) → Both (λ o. Each (P o)) → (o : Operator) (a : Truth) → P o a
of_one P h o = each (P o) (both (λ q. Each (P q)) h o)

pub of_two : (P : Operator → Truth → Truth → Type 0) → Both (λ o. Each (λ a. Each (P o a)))
    → (o : Operator) (a b : Truth) → P o a b
of_two P h o a = each (P o a) (of_one (λ q x. Each (P q x)) h o a)

pub of_three : (P : Operator → Truth → Truth → Truth → Type 0) → Both (λ o. Each (λ a. Each (λ b. Each (P o a b))))
    → (o : Operator) (a b c : Truth) → P o a b c
of_three P h o a b = each (P o a b) (of_two (λ q x y. Each (P q x y)) h o a b)
