-- `lines::numbers::without_minus` meets its contract: the test of the first byte is the one of the definition. Assumes nothing.
use Rattle.std.proofs.Common.{◌≡◌, refl, sym, ◌∙◌, Bool, true, false, ℕ, List, [], ◌∷◌, take, drop, length, ◌+◌, Bor}
use Rattle.std.specs.Prelude.{eqb, ◌&&◌, Option, Some, None, MatchOption}
use Rattle.std.specs.Cmp.Lexicographic.{pointwise}
use Rattle.lines.specs.Text.{minus}
use Rattle.lines.specs.Numbers.{is_negative}
use Rattle.lines.proofs.numbers.without_minus.Goals as goal

signed : (w : List ℕ) → pointwise eqb (take 1 w) (minus ∷ []) ≡ is_negative w
unfolding is_negative
signed [] = refl
signed (b ∷ bs) = go (eqb b minus)
  where
    go : (t : Bool) → (t && true) ≡ t
    go true = refl
    go false = refl

told : (w : List ℕ) (r : Option (Bor (List ℕ)))
    → MatchOption r (pointwise eqb (take 1 w) (minus ∷ []) ≡ false)
    (λ x. (pointwise eqb (take 1 w) (minus ∷ []) ≡ true) × (x.now ≡ drop 1 w) × (length x.now + 1 ≡ length w))
    → MatchOption r (is_negative w ≡ false) (λ x. (is_negative w ≡ true) × (x.now ≡ drop 1 w))
told w None h = sym (signed w) ∙ h
told w (Some x) h = (sym (signed w) ∙ h.0, h.1)

pub returns : goal.returns
returns c = told c.args.word.now _ c.strip_prefix.ensures.cases
