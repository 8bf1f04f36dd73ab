-- Numbers put one after the other: one law for every table, over the width w and the places spot, which lie w apart.
-- Assumes nothing.
use mathlib.Core.Path.{◌≡◌, ap, ◌∙◌}
use mathlib.Core.List.{List}
use mathlib.Core.Logic.{inl, inr}
use Prim.Native.Nat.{ℕ, zero, suc, ◌+◌, ◌^◌, ◌≤◌, ◌<◌}
use native.Mathlib.Numerals.{add-one}
use native.Mathlib.Decide.{ℕ_discrete}
use native.Mathlib.Omega.{arith}
use lib.ListN.{length}
use Rattle.words.specs.Word.{word, put}
use Rattle.words.specs.Frame.{Only, Bytes}
use Rattle.words.specs.Run.{wrote, moved}
use Rattle.words.proofs.WordLaws.{word_back}
use Rattle.words.proofs.FrameLaws.{only_refl, only_then, only_put, word_only, bytes_put}

-- one number more, as a loop puts it
pub wrote_more : (w : ℕ) (b : List ℕ) (spot f : ℕ → ℕ) (n : ℕ) {d e : List ℕ}
    → d ≡ wrote w b spot f n → e ≡ put w d (spot n) (f n) → e ≡ wrote w b spot f (n + 1)
unfolding wrote
wrote_more w b spot f n ed ee = rw (add-one n) (cc)

pub wrote_bytes : (w : ℕ) (b : List ℕ) (spot f : ℕ → ℕ) (n : ℕ) → Bytes b → Bytes (wrote w b spot f n)
unfolding wrote
wrote_bytes w b spot f zero y = y
wrote_bytes w b spot f (suc n) y =
    bytes_put w (wrote w b spot f n) (spot n) (f n) (wrote_bytes w b spot f n y)

module _ (w : ℕ) (spot : ℕ → ℕ) (gap : (k : ℕ) → spot (suc k) ≡ spot k + w) where
  spot_up : (k : ℕ) → spot 0 ≤ spot k
  spot_up zero = omega arith
  spot_up (suc k) = omega (arith, spot_up k, gap k)

  spot_lt : (i k : ℕ) → i < k → spot i + w ≤ spot k
  spot_lt i zero h = absurd (omega arith)
  spot_lt i (suc k) h =
      elim (ℕ_discrete i k) [
        | yes e ↦ rw e (omega (arith, gap k))
        | no ne ↦ omega (arith, gap k, spot_lt i k (omega (arith, ne)))
      ]

  module _ (b : List ℕ) (f : ℕ → ℕ) where
    pub wrote_only : (n : ℕ) → Only (spot 0) (spot n) b (wrote w b spot f n)
    unfolding wrote
    wrote_only zero = only_refl (spot 0) (spot 0) b
    wrote_only (suc n) =
        only_then (omega arith) (omega (arith, gap n)) (spot_up n) (omega (arith, gap n)) (wrote_only n)
        (only_put w (wrote w b spot f n) (spot n) (f n))

    -- each number that was put is read
    pub wrote_back : (n : ℕ) → spot n ≤ length b → (i : ℕ) → i < n → f i < 256 ^ w
        → word w (wrote w b spot f n) (spot i) ≡ f i
    unfolding wrote
    wrote_back zero r i h l = absurd (omega arith)
    wrote_back (suc n) r i h l =
        elim (ℕ_discrete i n) [
          | yes e ↦ rw e
              (word_back w (wrote w b spot f n) (spot n) (f n) (omega (arith, gap n, (wrote_only n).long)) (rw e at l))
          | no ne ↦
              word_only (only_put w (wrote w b spot f n) (spot n) (f n)) w (spot i) (inl (spot_lt i n (omega (arith, ne))))
              ∙ wrote_back n (omega (arith, gap n)) i (omega (arith, ne)) l
        ]

  -- numbers that move down: what is read next has not been written over
  module _ (b : List ℕ) (source g : ℕ → ℕ) (n : ℕ) (down : spot n ≤ source n) where
    pub moved_unread : word w (moved w b source spot g n) (source n) ≡ word w b (source n)
    moved_unread = word_only (wrote_only b (λ k. g (word w b (source k))) n) w (source n) (inr down)

    -- one number more, as a loop moves it
    pub moved_more : {d e : List ℕ} {c : ℕ} → d ≡ moved w b source spot g n → c ≡ word w d (source n)
        → e ≡ put w d (spot n) (g c) → e ≡ moved w b source spot g (n + 1)
    moved_more {d} {e} {c} ed ec ee =
        let q : c ≡ word w b (source n) = ec ∙ ap (λ (x : List ℕ). word w x (source n)) ed ∙ moved_unread in
        wrote_more w b spot (λ k. g (word w b (source k))) n ed (ee ∙ ap (λ (x : ℕ). put w d (spot n) (g x)) q)
