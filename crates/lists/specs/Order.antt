-- Orders: what sorting asks of "at or before", and what lists that ascend strictly ask of "before". Laws in `OrderLaws`.
-- Assumes nothing: these are definitions.
use Rattle.std.specs.Prelude.{◌≡◌, Bool, true, false}

-- `before x y` is true where x stands at or before y
pub record Order {A : Type 0} (before : A → A → Bool) : Type 0 where
  pub total : (x y : A) → before x y ≡ false → before y x ≡ true
  pub transitive : (x y z : A) → before x y ≡ true → before y z ≡ true → before x z ≡ true
  pub antisymmetric : (x y : A) → before x y ≡ true → before y x ≡ true → x ≡ y

-- `R x y` holds where x stands before y
pub record Strict {A : Type 0} (R : A → A → Type 0) : Type 0 where
  pub irreflexive : (x : A) → ¬ R x x
  pub transitive : (x y z : A) → R x y → R y z → R x z
