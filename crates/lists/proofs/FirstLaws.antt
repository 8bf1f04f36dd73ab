-- Laws of the first number: as a loop finds it, that there is one only, and that it is the place that `any?` finds. Assumes nothing.
use Rattle.std.specs.Prelude.{◌≡◌, ℕ, zero, suc, ◌+◌, ◌<◌, length, get_or}
use Rattle.std.proofs.Math.Path.{refl}
use mathlib.Core.List.{List, [], ◌∷◌}
use Rattle.std.proofs.Math.Decide.{ℕ_discrete, dec_lt}
use Rattle.std.proofs.Common.{arith}
use Rattle.lists.specs.Places.{Any, any?}
use Rattle.lists.specs.First.{First, number_of}

module _ {P : ℕ → Type 0} where
  pub first_here : {n r : ℕ} → r < n → ((p : ℕ) → p < r → ¬ P p) → P r → First P n r
  first_here u h x = record { most = omega arith; before = h; here = λ l. x }

  pub first_none : {n : ℕ} → ((p : ℕ) → p < n → ¬ P p) → First P n n
  first_none h = record { most = omega arith; before = h; here = λ l. absurd (omega arith) }

  -- one number more that lacks P
  pub none_more : {r : ℕ} → ((p : ℕ) → p < r → ¬ P p) → ¬ P r → (p : ℕ) → p < r + 1 → ¬ P p
  none_more {r} h n p u = elim (ℕ_discrete p r) [ yes e ↦ rw e n | no ne ↦ h p (omega (arith, ne)) ]

  pub first_one : {n r s : ℕ} → First P n r → First P n s → r ≡ s
  first_one {n} {r} {s} f g =
      elim (dec_lt r s) [
        | yes u ↦ absurd (g.before r u (f.here (omega (arith, g.most))))
        | no v ↦ elim (dec_lt s r) [
          | yes u ↦ absurd (f.before s u (g.here (omega (arith, f.most))))
          | no w ↦ omega (arith, v, w)
        ]
      ]

module _ {A : Type 0} {P : A → Type 0} (d : (x : A) → Dec (P x)) (z : A) where
  -- r is the number of the first element of xs that has P
  abbrev At : List A → ℕ → Type 0
  At xs r = First (λ q. P (get_or xs q z)) (length xs) r

  further : (x : A) (xs : List A) {r : ℕ} → ¬ P x → At xs r → At (x ∷ xs) (suc r)
  further x xs {r} n f = record { most = omega (arith, f.most); before = go; here = λ u. f.here (omega arith) }
    where
      go : (q : ℕ) → q < suc r → P (get_or (x ∷ xs) q z) → ⊥
      go zero u = n
      go (suc q) u = f.before q (omega arith)

  pub any_first : (xs : List A) → First (λ q. P (get_or xs q z)) (length xs) (number_of (any? d xs))
  unfolding any?
  any_first [] = first_none (λ q u. absurd (omega arith))
  any_first (x ∷ xs) = go (d x) refl (any? d xs) refl (any_first xs)
    where
      go : (o : Dec (P x)) → d x ≡ o → (r : Dec (Any P xs)) → any? d xs ≡ r
          → At xs (number_of (any? d xs)) → At (x ∷ xs) (number_of (any? d (x ∷ xs)))
      go (yes p) e r f h = rw e (record { most = omega arith; before = λ q u. absurd (omega arith); here = λ u. p })
      go (no n) e (yes a) f h = rw (e, f) (further x xs n (rw f at h))
      go (no n) e (no k) f h = rw (e, f) (further x xs n (rw f at h))
