-- Entries moved by one place, over any table that is read and written entry by entry.
--     Table                              what such a table must keep
--     raise_more, raise_end, lower_more, lower_end    a move as a loop does it
--     raised_only, raised_up, raised_bytes       what a move up reaches, and where each entry is after it
--     lowered_only, lowered_down, lowered_bytes  and a move down
-- Assumes nothing.
use mathlib.Core.Path.{◌≡◌, refl, sym, ap, ◌∙◌}
use mathlib.Core.List.{List}
use mathlib.Core.Logic.{◌⊎◌, inl, inr}
use Prim.Native.Nat.{ℕ, zero, suc, ◌+◌, ◌-◌, ◌≤◌, ◌<◌}
use native.Mathlib.Decide.{ℕ_discrete}
use native.Mathlib.Omega.{arith}
use lib.ListN.{length}
use Rattle.words.specs.Frame.{Only, Bytes}
use Rattle.words.proofs.FrameLaws.{only_refl, only_then}
use Rattle.changes.specs.Moving.{raised, lowered}

-- entry i stands in the bytes from spot i up to spot (i + 1); it is read and written there alone, and what was written is read
pub record Table {A : Type 0} (read : List ℕ → ℕ → A) (write : List ℕ → ℕ → A → List ℕ) (spot : ℕ → ℕ) (Fits : A → Type 0) : Type 0 where
  pub past : (i k : ℕ) → i < k → spot (suc i) ≤ spot k
  pub rise : (i : ℕ) → spot i ≤ spot (suc i)
  pub reach : (b : List ℕ) (i : ℕ) (x : A) → Only (spot i) (spot (suc i)) b (write b i x)
  pub apart : {lo hi : ℕ} {b d : List ℕ} → Only lo hi b d → (i : ℕ) → (spot (suc i) ≤ lo) ⊎ (hi ≤ spot i) → read d i ≡ read b i
  pub back : (b : List ℕ) (i : ℕ) (x : A) → Fits x → spot (suc i) ≤ length b → read (write b i x) i ≡ x
  pub fits : (b : List ℕ) (i : ℕ) → Bytes b → Fits (read b i)
  pub bytes : (b : List ℕ) (i : ℕ) (x : A) → Bytes b → Bytes (write b i x)

module _ {A : Type 0} (read : List ℕ → ℕ → A) (write : List ℕ → ℕ → A → List ℕ) where
  -- ---- the loops: w is what the whole move leaves

  raised_suc : (d : List ℕ) (k n : ℕ) → raised read write (write d (k + suc n) (read d (k + n))) k n ≡ raised read write d k (suc n)
  unfolding raised
  raised_suc d k n = refl

  lowered_suc : (d : List ℕ) (k n : ℕ) → lowered read write (write d k (read d (suc k))) (suc k) n ≡ lowered read write d k (suc n)
  unfolding lowered
  lowered_suc d k n = refl

  pub raise_more : (k m : ℕ) {d e w : List ℕ} {x : A} → k < m → raised read write d k (m - k) ≡ w
      → x ≡ read d (m - 1) → e ≡ write d (m - 1 + 1) x → raised read write e k (m - 1 - k) ≡ w
  raise_more k m {d} {e} h whole ex ee =
      let n = m - 1 - k in
      let s : m - 1 ≡ k + n = omega arith in
      let t : m - 1 + 1 ≡ k + suc n = omega arith in
      let l : suc n ≡ m - k = omega arith in
      let f : e ≡ write d (k + suc n) (read d (k + n)) = cc in
      ap (λ (y : List ℕ). raised read write y k n) f ∙ raised_suc d k n ∙ ap (raised read write d k) l ∙ whole

  pub lower_more : (k m : ℕ) {d e w : List ℕ} {x : A} → k + 1 < m → lowered read write d k (m - (k + 1)) ≡ w
      → x ≡ read d (k + 1) → e ≡ write d k x → lowered read write e (k + 1) (m - (k + 1 + 1)) ≡ w
  lower_more k m {d} {e} h whole ex ee =
      let n = m - (k + 1 + 1) in
      let s : k + 1 ≡ suc k = omega arith in
      let l : suc n ≡ m - (k + 1) = omega arith in
      let f : e ≡ write d k (read d (suc k)) = ee ∙ rw (ex, s) in
      ap (λ (y : List ℕ). lowered read write y (k + 1) n) f
      ∙ ap (λ (j : ℕ). lowered read write (write d k (read d (suc k))) j n) s
      ∙ lowered_suc d k n
      ∙ ap (lowered read write d k) l
      ∙ whole

  pub raise_end : (k m : ℕ) {d w : List ℕ} → m ≤ k → raised read write d k (m - k) ≡ w → d ≡ w
  unfolding raised
  raise_end k m h whole = let e : m - k ≡ 0 = omega arith in rw e at whole

  pub lower_end : (k m : ℕ) {d w : List ℕ} → m ≤ k + 1 → lowered read write d k (m - (k + 1)) ≡ w → d ≡ w
  unfolding lowered
  lower_end k m h whole = let e : m - (k + 1) ≡ 0 = omega arith in rw e at whole

  -- ---- what a move does

  module _ {spot : ℕ → ℕ} {Fits : A → Type 0} (t : Table read write spot Fits) where
    up : (i k : ℕ) → i ≤ k → spot i ≤ spot k
    up i k h =
        elim (ℕ_discrete i k) [
          | yes e ↦ rw e (omega arith)
          | no ne ↦ omega (arith, t.past i k (omega (arith, ne)), t.rise i)
        ]

    pub raised_only : (b : List ℕ) (k n : ℕ) → Only (spot (suc k)) (spot (suc (k + n))) b (raised read write b k n)
    unfolding raised
    raised_only b k zero = only_refl (spot (suc k)) (spot (suc (k + 0))) b
    raised_only b k (suc n) =
        only_then (up (suc k) (k + suc n) (omega arith)) (omega arith) (omega arith) (up (suc (k + n)) (suc (k + suc n)) (omega arith))
        (t.reach b (k + suc n) (read b (k + n)))
        (raised_only (write b (k + suc n) (read b (k + n))) k n)

    pub raised_bytes : (b : List ℕ) (k n : ℕ) → Bytes b → Bytes (raised read write b k n)
    unfolding raised
    raised_bytes b k zero y = y
    raised_bytes b k (suc n) y =
        raised_bytes (write b (k + suc n) (read b (k + n))) k n (t.bytes b (k + suc n) (read b (k + n)) y)

    pub raised_up : (b : List ℕ) (k n : ℕ) → Bytes b → spot (suc (k + n)) ≤ length b
        → (i : ℕ) → k ≤ i → i < k + n → read (raised read write b k n) (suc i) ≡ read b i
    unfolding raised
    raised_up b k zero y room i l h = absurd (omega arith)
    raised_up b k (suc n) y room i l h =
        let x = read b (k + n) in
        let d = write b (k + suc n) x in
        let e : k + suc n ≡ suc (k + n) = omega arith in
        let long : spot (suc (k + n)) ≤ length d = omega
        (arith, (t.reach b (k + suc n) x).long, up (suc (k + n)) (suc (k + suc n)) (omega arith)) in
        elim (ℕ_discrete i (k + n)) [
          | yes q ↦ rw q
              (t.apart (raised_only d k n) (suc (k + n)) (inr (omega arith))
              ∙ ap (read d) (sym e)
              ∙ t.back b (k + suc n) x (t.fits b (k + n) y) room)
          | no ne ↦
              raised_up d k n (t.bytes b (k + suc n) x y) long i l (omega (arith, ne))
              ∙ t.apart (t.reach b (k + suc n) x) i (inl (t.past i (k + suc n) (omega arith)))
        ]

    pub lowered_only : (b : List ℕ) (k n : ℕ) → Only (spot k) (spot (k + n)) b (lowered read write b k n)
    unfolding lowered
    lowered_only b k zero = only_refl (spot k) (spot (k + 0)) b
    lowered_only b k (suc n) =
        let e : suc k + n ≡ k + suc n = omega arith in
        only_then (omega arith) (up (suc k) (k + suc n) (omega arith)) (up k (suc k) (omega arith)) (rw e (omega arith))
        (t.reach b k (read b (suc k)))
        (lowered_only (write b k (read b (suc k))) (suc k) n)

    pub lowered_bytes : (b : List ℕ) (k n : ℕ) → Bytes b → Bytes (lowered read write b k n)
    unfolding lowered
    lowered_bytes b k zero y = y
    lowered_bytes b k (suc n) y = lowered_bytes (write b k (read b (suc k))) (suc k) n (t.bytes b k (read b (suc k)) y)

    pub lowered_down : (b : List ℕ) (k n : ℕ) → Bytes b → spot (suc (k + n)) ≤ length b
        → (i : ℕ) → k ≤ i → i < k + n → read (lowered read write b k n) i ≡ read b (suc i)
    unfolding lowered
    lowered_down b k zero y room i l h = absurd (omega arith)
    lowered_down b k (suc n) y room i l h =
        let x = read b (suc k) in
        let d = write b k x in
        let e : suc (suc k + n) ≡ suc (k + suc n) = omega arith in
        let long : spot (suc (suc k + n)) ≤ length d = rw e (omega (arith, (t.reach b k x).long)) in
        elim (ℕ_discrete i k) [
          | yes q ↦ rw q
              (t.apart (lowered_only d (suc k) n) k (inl (omega arith))
              ∙ t.back b k x (t.fits b (suc k) y) (omega (arith, up (suc k) (suc (k + suc n)) (omega arith))))
          | no ne ↦
              lowered_down d (suc k) n (t.bytes b k x y) long i (omega (arith, ne)) (omega arith)
              ∙ t.apart (t.reach b k x) (suc i) (inr (up (suc k) (suc i) (omega arith)))
        ]
