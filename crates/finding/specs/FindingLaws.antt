-- What looking up answers.
--     between_start, between_end                   where halving starts and ends
--     middle_equal, middle_less, middle_greater    one halving, by how the part in the middle compares
--     placed_none                                  a key that has a place is the key of no part
--     right_at                                     THE ANSWER IS PART p EXACTLY WHERE PART p HAS THE KEY
--     right_once                                   there is one right answer only
-- Assumes nothing.
use Rattle.std.specs.Prelude.{◌≡◌, List, ◌↔◌, ℕ, ◌+◌, ◌≤◌, ◌<◌}
use Rattle.std.proofs.Math.Path.{sym, ap}
use Rattle.std.proofs.Common.{◌∙◌, arith}
use Rattle.std.specs.declared.cmp.Ordering.{Ordering}
use Rattle.std.specs.declared.cmp.Ordering.TheVariants.{Less, Equal, Greater}
use Rattle.std.specs.declared.result.Result.{Result}
use Rattle.std.specs.declared.result.Result.TheVariants.{Ok, Err}
use Rattle.finding.specs.KeyOrder.{key_order}
use Rattle.finding.specs.KeyOrderLaws.{Compared, compared, below, same, above}
use Rattle.finding.specs.KeyOrderLaws.{order_same, order_equal, order_flip, order_flop, order_trans}
use Rattle.finding.specs.Ascent.{Rising}
use Rattle.finding.specs.AscentLaws.{Named, rising_all, rising_named, rising_distinct}
use Rattle.finding.specs.Finding.{Placed, Right}

-- the entries before low hold less than the candidate, those from high on more: what halving keeps
pub record Between (key : ℕ → List ℕ) (entry : ℕ → ℕ) (n : ℕ) (candidate : List ℕ) (low high : ℕ) : Type 0 where
  pub ends : low ≤ high
  pub most : high ≤ n
  pub before : (i : ℕ) → i < low → key_order (key (entry i)) candidate ≡ Less
  pub after : (i : ℕ) → high ≤ i → i < n → key_order (key (entry i)) candidate ≡ Greater

pub between_start : (key : ℕ → List ℕ) (entry : ℕ → ℕ) (n : ℕ) (candidate : List ℕ) → Between key entry n candidate 0 n
between_start key entry n candidate =
    record { ends = omega arith; most = omega arith; before = λ i l. absurd (omega arith); after = λ i l h. absurd (omega arith) }

pub between_end : {key : ℕ → List ℕ} {entry : ℕ → ℕ} {n : ℕ} {candidate : List ℕ} {low high : ℕ}
    → Between key entry n candidate low high → high ≤ low → Right key entry n candidate (Err low)
unfolding Right
between_end w l = record { most = omega (arith, w.most, w.ends); before = w.before; after = λ i h b. w.after i (omega arith) b }

module _ {key : ℕ → List ℕ} {entry : ℕ → ℕ} {n : ℕ} (r : Rising key entry n) (candidate : List ℕ) where
  -- o is how the part that entry `middle` names compares with the candidate
  module _ {low high : ℕ} (w : Between key entry n candidate low high) (middle : ℕ) (l : low ≤ middle) (h : middle < high)
      {o : Ordering} (e : o ≡ key_order (key (entry middle)) candidate) where
    pub middle_equal : o ≡ Equal → Right key entry n candidate (Ok (entry middle))
    unfolding Right
    middle_equal f = (r.entries middle (omega (arith, w.most)), order_equal _ _ (sym e ∙ f))

    pub middle_less : o ≡ Less → Between key entry n candidate (middle + 1) high
    middle_less f = record { ends = omega arith; most = w.most; before = λ i k. go i k (compared i middle); after = w.after }
      where
        go : (i : ℕ) → i < middle + 1 → Compared i middle → key_order (key (entry i)) candidate ≡ Less
        go i k (below u) = order_trans _ (key (entry middle)) _ (rising_all r i middle u (omega (arith, w.most))) (sym e ∙ f)
        go i k (same u) = rw u (sym e ∙ f)
        go i k (above u) = absurd (omega arith)

    pub middle_greater : o ≡ Greater → Between key entry n candidate low middle
    middle_greater f = record { ends = l; most = omega (arith, w.most); before = w.before; after = λ i k b. go i k b (compared i middle) }
      where
        go : (i : ℕ) → middle ≤ i → i < n → Compared i middle → key_order (key (entry i)) candidate ≡ Greater
        go i k b (below u) = absurd (omega arith)
        go i k b (same u) = rw u (sym e ∙ f)
        go i k b (above u) =
            order_flip _ _ (order_trans _ (key (entry middle)) _ (order_flop _ _ (sym e ∙ f)) (rising_all r middle i u b))

  pub placed_none : (k : ℕ) → Placed key entry n candidate k → (p : ℕ) → p < n → key p ≡ candidate → ⊥
  placed_none k w p l e = go (compared a.place k)
    where
      a : Named entry n p
      a = rising_named r p l

      equal : key_order (key (entry a.place)) candidate ≡ Equal
      equal = rw (a.there, e) (order_same candidate)

      go : Compared a.place k → ⊥
      go (below h) = absurd (cc (equal, w.before a.place h))
      go (same h) = absurd (cc (equal, w.after a.place (omega arith) a.inside))
      go (above h) = absurd (cc (equal, w.after a.place (omega arith) a.inside))

  pub right_at : (t : Result ℕ ℕ) → Right key entry n candidate t → (p : ℕ) → (t ≡ Ok p) ↔ ((p < n) × (key p ≡ candidate))
  unfolding Right
  right_at (Ok q) w p = (λ e. let z : q ≡ p = cc in rw z at w, λ h. ap Ok (rising_distinct r q p w.0 h.0 (w.1 ∙ sym h.1)))
  right_at (Err k) w p = (λ e. absurd (cc), λ h. absurd (placed_none k w p h.0 h.1))

  placed_once : (j k : ℕ) → Placed key entry n candidate j → Placed key entry n candidate k → j ≡ k
  placed_once j k a b = go (compared j k)
    where
      go : Compared j k → j ≡ k
      go (below h) = absurd (cc (b.before j h, a.after j (omega arith) (omega (arith, b.most))))
      go (same h) = h
      go (above h) = absurd (cc (a.before k h, b.after k (omega arith) (omega (arith, a.most))))

  pub right_once : (t u : Result ℕ ℕ) → Right key entry n candidate t → Right key entry n candidate u → t ≡ u
  unfolding Right
  right_once (Ok p) (Ok q) a b = ap Ok (rising_distinct r p q a.0 b.0 (a.1 ∙ sym b.1))
  right_once (Ok p) (Err k) a b = absurd (placed_none k b p a.0 a.1)
  right_once (Err k) (Ok p) a b = absurd (placed_none k a p b.0 b.1)
  right_once (Err j) (Err k) a b = ap Err (placed_once j k a b)
