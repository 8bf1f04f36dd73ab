-- Pigeons: n different numbers below n are all the numbers below n. Each law is the counting law at one for each number. Assumes nothing.
use Rattle.std.specs.Prelude.{◌≡◌, refl, List, ◌∷◌, ℕ, ◌≤◌, ◌<◌, length}
use Rattle.std.proofs.Math.Decide.{ℕ_discrete}
use Rattle.std.proofs.Common.{arith}
use Rattle.lists.specs.Places.{All, both, Any, any?, pcons, Distinct}
use Rattle.lists.proofs.PlacesLaws.{none_of_lem, all_map, sum_one}
use Rattle.lists.specs.Equivalence.{equality}
use Rattle.lists.specs.Counting.{Cover}
use Rattle.lists.proofs.CountingLaws.{sum_le}
use Rattle.lists.specs.Tabulate.{upto}
use Rattle.lists.proofs.TabulateLaws.{length_tabulate, tabulate_all, tabulate_any, tabulate_pairwise}

-- a list without repeats is no longer than a list that has all its elements
pub distinct_length : {A : Type 0} {xs ys : List A} → Distinct ◌≡◌ xs → Cover ◌≡◌ xs ys → length xs ≤ length ys
distinct_length {A} {xs} {ys} d c =
    let one : A → ℕ = λ x. 1 in
    omega (arith, sum_le equality one (λ x y e. refl) d c, sum_one one (λ x. refl) xs, sum_one one (λ x. refl) ys)

-- different numbers below n are at most n
pub at_most : {l : List ℕ} {n : ℕ} → Distinct ◌≡◌ l → All (λ x. x < n) l → length l ≤ n
at_most {n = n} d h =
    let c = all_map (λ x k. tabulate_any n (λ i. i) {P = λ y. x ≡ y} x k refl) h in
    omega (arith, distinct_length d c, length_tabulate n (λ (i : ℕ). i))

-- a list that has every number below n is at least n long
pub at_least : (l : List ℕ) (n : ℕ) → ((p : ℕ) → p < n → Any (λ x. p ≡ x) l) → n ≤ length l
at_least l n h =
    let d : Distinct ◌≡◌ (upto n) = tabulate_pairwise n (λ i. i) (λ i j k m e. omega arith) in
    omega (arith, distinct_length d (tabulate_all n (λ i. i) h), length_tabulate n (λ (i : ℕ). i))

-- n different numbers below n: each number below n is one of them
pub every_number : {l : List ℕ} {n : ℕ} → Distinct ◌≡◌ l → All (λ x. x < n) l → n ≤ length l → (p : ℕ) → p < n → Any (λ x. p ≡ x) l
every_number {l} {n} d h k p q = go (any? (λ x. ℕ_discrete p x) l)
  where
    go : Dec (Any (λ x. p ≡ x) l) → Any (λ x. p ≡ x) l
    go (yes a) = a
    go (no m) = absurd (omega (arith, at_most {l = p ∷ l} {n = n} (pcons (none_of_lem l m) d) (both q h)))
