-- What a search by halving through the order table finds: the part that holds the key, or its place. Assumes nothing.
use mathlib.Core.Path.{◌≡◌, refl}
use mathlib.Core.List.{List}
use Prim.Native.Nat.{ℕ, zero, suc, ◌+◌}
use native.Mathlib.Decide.{dec_lt}
use native.Mathlib.Omega.{arith}
use Rattle.std.specs.declared.cmp.Ordering.{Ordering}
use Rattle.std.specs.declared.cmp.Ordering.TheVariants.{Less, Equal, Greater}
use Rattle.std.specs.declared.result.Result.TheVariants.{Ok, Err}
use Rattle.lists.specs.Searching.{Met, Parted}
use Rattle.finding.specs.KeyOrder.{key_order}
use Rattle.finding.specs.Ascent.{Rising}
use Rattle.finding.specs.Finding.{Right}
use Rattle.finding.specs.FindingLaws.{Between, between_start, between_end, middle_equal, middle_less, middle_greater}

module _ {key : ℕ → List ℕ} {entry : ℕ → ℕ} {n : ℕ} (r : Rising key entry n) (candidate : List ℕ) {says : ℕ → Ordering → Type 0}
    (compares : (k : ℕ) (o : Ordering) → says k o → o ≡ key_order (key (entry k)) candidate) where
  start : Between key entry n candidate 0 n
  start = between_start key entry n candidate

  pub met_right : {count : ℕ} → count ≡ n → (k : ℕ) → Met says count k → Right key entry n candidate (Ok (entry k))
  met_right e k m = middle_equal r candidate start k (omega arith) (omega (arith, m.place)) (compares k Equal m.equal) refl

  below : {count : ℕ} → count ≡ n → (p : ℕ) → Parted says count p → Between key entry n candidate p n
  below c zero m = start
  below c (suc p) m =
      let e : p + 1 ≡ suc p = omega arith in
      rw e at (middle_less r candidate start p (omega arith) (omega (arith, m.bound)) (compares p Less (m.less p e)) refl)

  pub parted_right : {count : ℕ} → count ≡ n → (p : ℕ) → Parted says count p → Right key entry n candidate (Err p)
  parted_right e p m =
      elim (dec_lt p n) [
        | yes l ↦ between_end
            (middle_greater r candidate (below e p m) p (omega arith) l (compares p Greater (m.greater (omega arith))) refl) (omega arith)
        | no u ↦ between_end (below e p m) (omega (arith, u))
      ]
