-- Laws of `◌and◌`: what a joined test says of its two, and how one of them settles it. Assumes nothing.
use Rattle.std.specs.Prelude.{◌≡◌, refl, Bool, true, false, ◌⊎◌}
use Rattle.std.proofs.Common.{sym, ap, ◌∙◌, true≢false, inl, inr}
use Rattle.lists.specs.And.{◌and◌}

pub true_and : (b : Bool) → true and b ≡ b
unfolding ◌and◌
true_and b = refl

pub false_and : (b : Bool) → false and b ≡ false
unfolding ◌and◌
false_and b = refl

pub and_true : (b : Bool) → b and true ≡ b
unfolding ◌and◌
and_true true = refl
and_true false = refl

pub and_false : (b : Bool) → b and false ≡ false
unfolding ◌and◌
and_false true = refl
and_false false = refl

module _ (a b : Bool) where
  -- the first fails, the second fails, the first holds
  pub and_first : a ≡ false → a and b ≡ false
  and_first e = ap (λ (c : Bool). c and b) e ∙ false_and b

  pub and_second : b ≡ false → a and b ≡ false
  and_second e = ap (λ (c : Bool). a and c) e ∙ and_false a

  pub and_skip : a ≡ true → a and b ≡ b
  and_skip e = ap (λ (c : Bool). c and b) e ∙ true_and b

  pub and_both : a ≡ true → b ≡ true → a and b ≡ true
  and_both d e = and_skip d ∙ e

pub and_left : (a b : Bool) → a and b ≡ true → a ≡ true
unfolding ◌and◌
and_left true b e = refl
and_left false b e = e

pub and_right : (a b : Bool) → a and b ≡ true → b ≡ true
unfolding ◌and◌
and_right true b e = e
and_right false b e = absurd (true≢false (sym e))

pub and_fault : (a b : Bool) → a and b ≡ false → (a ≡ false) ⊎ (b ≡ false)
unfolding ◌and◌
and_fault true b e = inr e
and_fault false b e = inl refl
