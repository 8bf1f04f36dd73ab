-- Digits written one behind the other. Assumes nothing.
use mathlib.Core.Path.{◌≡◌, refl, sym, ap, ◌∙◌}
use mathlib.Core.List.{List, [], ◌∷◌, ◌++◌}
use Prim.Native.Nat.{ℕ, suc, ◌+◌, ◌/◌, ◌%◌, ◌≤◌, ◌<◌}
use native.Mathlib.Nat.{add-zero}
use native.Mathlib.Omega.{arith}
use lib.ListN.{length, set}
use lib.Seq.{sets}
use Rattle.lines.specs.Digits.{digit_for, digits_of}
use Rattle.lines.specs.DigitsLaws.{digits_small, digits_more, length_more}

-- one element more behind others
sets_more : (xs l : List ℕ) (at x : ℕ) → sets l at (xs ++ (x ∷ [])) ≡ set (sets l at xs) (at + length xs) x
sets_more [] l at x = rw add-zero
sets_more (y ∷ ys) l at x =
    let e : suc at + length ys ≡ at + suc (length ys) = omega arith in
    sets_more ys (set l at y) (suc at) x ∙ ap (λ (i : ℕ). set (sets (set l at y) (suc at) ys) i x) e

-- what a number's digits end up as: where they end, and the bytes
abbrev pub Wrote : List ℕ → ℕ → ℕ → ℕ → List ℕ → Type 0
Wrote out at x end after = (end ≡ at + length (digits_of x)) × (after ≡ sets out at (digits_of x))

module _ (out : List ℕ) (at x b : ℕ) where
  pub wrote_small : x < 10 → b ≡ digit_for x → Wrote out at x (at + 1) (set out at b)
  wrote_small l e = rw (digits_small x l, e) (refl, refl)

  pub wrote_more : (last : ℕ) (before : List ℕ) → 10 ≤ x → b ≡ digit_for (x % 10) → Wrote out at (x / 10) last before
      → Wrote out at x (last + 1) (set before last b)
  wrote_more last before l e h = (
    omega (arith, h.0, length_more x l),
    rw (h.1, h.0, e, digits_more x l) (sym (sets_more (digits_of (x / 10)) out at (digit_for (x % 10)))),
  )
