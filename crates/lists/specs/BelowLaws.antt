-- Laws of `all_below`. As a loop uses them: it starts true, one number more keeps it true, one that fails makes it false. As a reader does:
-- it is true exactly where each number passes, and where it is false there is a number that fails. Assumes nothing.
use Rattle.std.specs.Prelude.{◌≡◌, refl, Bool, true, false, ◌⊎◌, ◌↔◌, ℕ, zero, suc, ◌+◌, ◌<◌}
use Rattle.std.proofs.Common.{sym, ap, ap₂, ◌∙◌, true≢false, inl, inr, add-one, arith}
use Rattle.std.proofs.Math.Decide.{ℕ_discrete}
use Rattle.lists.specs.And.{◌and◌}
use Rattle.lists.specs.AndLaws.{and_left, and_right, and_both, and_fault}
use Rattle.lists.specs.Below.{all_below}

pub below_none : (f : ℕ → Bool) → all_below f 0 ≡ true
unfolding all_below
below_none f = refl

pub below_suc : (f : ℕ → Bool) (n : ℕ) → all_below f (suc n) ≡ all_below f n and f n
unfolding all_below
below_suc f n = refl

pub below_more : (f : ℕ → Bool) (n : ℕ) → all_below f n ≡ true → f n ≡ true → all_below f (n + 1) ≡ true
below_more f n h e = ap (all_below f) (add-one n) ∙ below_suc f n ∙ and_both (all_below f n) (f n) h e

pub below_each : (f : ℕ → Bool) (n : ℕ) → all_below f n ≡ true → (k : ℕ) → k < n → f k ≡ true
unfolding all_below
below_each f zero h k l = absurd (omega arith)
below_each f (suc n) h k l = go (ℕ_discrete k n) (below_each f n (and_left (all_below f n) (f n) h) k)
  where
    go : Dec (k ≡ n) → (k < n → f k ≡ true) → f k ≡ true
    go (yes e) earlier = ap f e ∙ and_right (all_below f n) (f n) h
    go (no ne) earlier = earlier (omega (arith, ne))

pub below_all : (f : ℕ → Bool) (n : ℕ) → ((k : ℕ) → k < n → f k ≡ true) → all_below f n ≡ true
unfolding all_below
below_all f zero h = refl
below_all f (suc n) h = and_both (all_below f n) (f n) (below_all f n (λ k l. h k (omega arith))) (h n (omega arith))

pub below_iff : (f : ℕ → Bool) (n : ℕ) → (all_below f n ≡ true) ↔ ((k : ℕ) → k < n → f k ≡ true)
below_iff f n = (below_each f n, below_all f n)

pub below_broken : (f : ℕ → Bool) (k n : ℕ) → k < n → f k ≡ false → all_below f n ≡ false
below_broken f k n l e = go (all_below f n) refl
  where
    go : (b : Bool) → all_below f n ≡ b → all_below f n ≡ false
    go true h = absurd (true≢false (sym (below_each f n h k l) ∙ e))
    go false h = h

pub below_fault : (f : ℕ → Bool) (n : ℕ) → all_below f n ≡ false → (k : ℕ) × (k < n) × (f k ≡ false)
unfolding all_below
below_fault f zero h = absurd (true≢false h)
below_fault f (suc n) h = go (and_fault (all_below f n) (f n) h) (below_fault f n)
  where
    go : (all_below f n ≡ false) ⊎ (f n ≡ false) → (all_below f n ≡ false → (k : ℕ) × (k < n) × (f k ≡ false))
        → (k : ℕ) × (k < suc n) × (f k ≡ false)
    go (inl e) earlier = let r = earlier e in (r.0, omega (arith, r.1), r.2)
    go (inr e) earlier = (n, omega arith, e)

-- tests that agree on every number below n
pub below_same : (f g : ℕ → Bool) (n : ℕ) → ((k : ℕ) → k < n → f k ≡ g k) → all_below f n ≡ all_below g n
unfolding all_below
below_same f g zero h = refl
below_same f g (suc n) h = ap₂ ◌and◌ (below_same f g n (λ k l. h k (omega arith))) (h n (omega arith))
