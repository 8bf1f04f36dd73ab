-- The order table after an insert: the new part's number at the place that was found keeps the ascent. Assumes nothing.
use Rattle.std.specs.Prelude.{◌≡◌, List, ℕ, ◌+◌, ◌-◌, ◌≤◌, ◌<◌}
use Rattle.std.proofs.Common.{ap, ◌∙◌, arith}
use Rattle.std.specs.declared.cmp.Ordering.TheVariants.{Less}
use Rattle.finding.specs.KeyOrder.{key_order}
use Rattle.finding.specs.KeyOrderLaws.{Compared, compared, below, same, above, order_flop}
use Rattle.finding.specs.Ascent.{Rising}
use Rattle.finding.specs.AscentLaws.{rising_all}
use Rattle.finding.specs.Finding.{Placed}
use Rattle.finding.specs.Changes.{Grown, PutAt}

module _ {key grown : ℕ → List ℕ} {entry after : ℕ → ℕ} {n : ℕ} {candidate : List ℕ} {k : ℕ} (r : Rising key entry n)
    (w : Placed key entry n candidate k) (g : Grown key grown n candidate) (u : PutAt entry after n k n) where
  -- what the new table has at i
  data Spot (i : ℕ) : Type 0 where
    early : i < k → after i ≡ entry i → Spot i
    new : i ≡ k → after i ≡ n → Spot i
    late : k < i → after i ≡ entry (i - 1) → Spot i

  spot : (i : ℕ) → i ≤ n → Spot i
  spot i l = go (compared i k)
    where
      go : Compared i k → Spot i
      go (below h) = early h (u.before i h)
      go (same h) = new h (ap after h ∙ u.here)
      go (above h) = let e : i - 1 + 1 ≡ i = omega arith in late h (rw e at (u.moved (i - 1) (omega arith) (omega arith)))

  entry_bound : (i : ℕ) → Spot i → i ≤ n → after i < n + 1
  entry_bound i (early h e) l = omega (arith, e, r.entries i (omega (arith, w.most)))
  entry_bound i (new h e) l = omega (arith, e)
  entry_bound i (late h e) l = omega (arith, e, r.entries (i - 1) (omega arith))

  old_key : (i j : ℕ) → j < n → after i ≡ entry j → grown (after i) ≡ key (entry j)
  old_key i j b e = ap grown e ∙ g.same (entry j) (r.entries j b)

  new_key : (i : ℕ) → after i ≡ n → grown (after i) ≡ candidate
  new_key i e = ap grown e ∙ g.last

  step : (i : ℕ) → i + 1 ≤ n → Spot i → Spot (i + 1) → key_order (grown (after i)) (grown (after (i + 1))) ≡ Less
  step i l (early h e) (early v f) =
      let m = w.most in
      rw (old_key i i (omega arith) e, old_key (i + 1) (i + 1) (omega arith) f) (rising_all r i (i + 1) (omega arith) (omega arith))
  step i l (early h e) (new v f) = let m = w.most in rw (old_key i i (omega arith) e, new_key (i + 1) f) (w.before i h)
  step i l (early h e) (late v f) = absurd (omega arith)
  step i l (new h e) (early v f) = absurd (omega arith)
  step i l (new h e) (new v f) = absurd (omega arith)
  step i l (new h e) (late v f) =
      rw (new_key i e, old_key (i + 1) (i + 1 - 1) (omega arith) f) (order_flop _ _ (w.after (i + 1 - 1) (omega arith) (omega arith)))
  step i l (late h e) (early v f) = absurd (omega arith)
  step i l (late h e) (new v f) = absurd (omega arith)
  step i l (late h e) (late v f) =
      rw (old_key i (i - 1) (omega arith) e, old_key (i + 1) (i + 1 - 1) (omega arith) f)
      (rising_all r (i - 1) (i + 1 - 1) (omega arith) (omega arith))

  -- THE ASCENT IS KEPT
  pub put_rises : Rising grown after (n + 1)
  put_rises =
      record {
        entries = λ i l. entry_bound i (spot i (omega arith)) (omega arith);
        steps = λ i l. step i (omega arith) (spot i (omega arith)) (spot (i + 1) (omega arith));
      }
