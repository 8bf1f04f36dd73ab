-- What a write leaves alone: the frame predicate `Only` holds of each write, is transitive and widens, and whatever is read outside the
-- frame is as it was. Bytes stay bytes.
-- Assumes nothing.
use mathlib.Core.Path.{◌≡◌, refl, ◌∙◌}
use mathlib.Core.List.{List}
use mathlib.Core.Logic.{inl, inr, ⊎_elim}
use Prim.Native.Nat.{ℕ, zero, suc, ◌+◌, ◌^◌, ◌≤◌, ◌<◌, ◌/◌, ◌%◌}
use native.Mathlib.Nat.{pow-zero, pow-suc}
use native.Mathlib.Decide.{ℕ_discrete, dec_lt}
use native.Mathlib.Omega.{arith}
use lib.ListN.{length, get_or, set, take, drop, length-take, length-drop}
use lib.Seq.{get_or-set_same, get_or-set_other, set_out, ext_get_or, get_or-take, get_or-drop}
use Rattle.words.specs.Word.{word, put}
use Rattle.words.specs.Frame.{Only, Outside, Bytes}
use Rattle.words.proofs.WordLaws.{length_put, byte_put, word_ext, word_back}

pub only_refl : (lo hi : ℕ) (b : List ℕ) → Only lo hi b b
only_refl lo hi b = record { long = refl; kept = λ i h. refl }

pub only_trans : {lo hi : ℕ} {b d e : List ℕ} → Only lo hi b d → Only lo hi d e → Only lo hi b e
only_trans p q = record { long = q.long ∙ p.long; kept = λ i h. q.kept i h ∙ p.kept i h }

pub only_wide : {lo hi lo' hi' : ℕ} {b d : List ℕ} → lo' ≤ lo → hi ≤ hi' → Only lo hi b d → Only lo' hi' b d
only_wide l h p =
    record { long = p.long; kept = λ i o. p.kept i (⊎_elim (λ u. inl (omega arith)) (λ v. inr (omega arith)) o) }

-- one write after the other, both within lo and hi
pub only_then : {lo hi l h l' h' : ℕ} {b d e : List ℕ} → lo ≤ l → h ≤ hi → lo ≤ l' → h' ≤ hi
    → Only l h b d → Only l' h' d e → Only lo hi b e
only_then p q p' q' first second = only_trans (only_wide p q first) (only_wide p' q' second)

pub only_put : (k : ℕ) (b : List ℕ) (at x : ℕ) → Only at (at + k) b (put k b at x)
only_put k b at x =
    record {
      long = length_put k b at x;
      kept = λ i o. byte_put k b at x i (⊎_elim (λ u. inl (omega arith)) (λ v. inr v) o);
    }

module _ {lo hi : ℕ} {b d : List ℕ} (p : Only lo hi b d) where
  -- byte by byte, outside the frame
  byte_only : (at k : ℕ) → Outside lo hi at k → (i : ℕ) → i < k → get_or d (at + i) 0 ≡ get_or b (at + i) 0
  byte_only at k o i l = p.kept (at + i) (⊎_elim (λ u. inl (omega arith)) (λ v. inr (omega arith)) o)

  -- a number outside the frame
  pub word_only : (k at : ℕ) → Outside lo hi at k → word k d at ≡ word k b at
  word_only k at o = word_ext k d b at at (byte_only at k o)

  -- a number anywhere in n bytes outside the frame, as a field of a record
  pub word_within : (at n : ℕ) → Outside lo hi at n → (k j : ℕ) → j + k ≤ n → word k d (at + j) ≡ word k b (at + j)
  word_within at n o k j l = word_only k (at + j) (⊎_elim (λ u. inl (omega arith)) (λ v. inr (omega arith)) o)

  -- the k bytes themselves
  pub part_only : (at k : ℕ) → Outside lo hi at k → take k (drop at d) ≡ take k (drop at b)
  part_only at k o =
      ext_get_or 0 (take k (drop at d)) (take k (drop at b)) (simp (length-take, length-drop, p.long)) same
    where
      same : (i : ℕ) → i < length (take k (drop at d)) → get_or (take k (drop at d)) i 0 ≡ get_or (take k (drop at b)) i 0
      same i l =
          let h : i < k = omega (arith, length-take k (drop at d)) in
          rw (get_or-take, get_or-take, get_or-drop, get_or-drop) (byte_only at k o i h)

-- what was written is read also after a later write outside it
pub word_after : (k : ℕ) (b : List ℕ) (at x : ℕ) {lo hi : ℕ} {d : List ℕ} → Only lo hi (put k b at x) d
    → Outside lo hi at k → at + k ≤ length b → x < 256 ^ k → word k d at ≡ x
word_after k b at x p o r f = word_only p k at o ∙ word_back k b at x r f

pub bytes_set : (b : List ℕ) (at v : ℕ) → Bytes b → v < 256 → Bytes (set b at v)
bytes_set b at v h l i =
    elim (ℕ_discrete i at) [
      | yes e ↦ elim (dec_lt at (length b)) [
        | yes r ↦ rw (e, get_or-set_same b at v 0 r) l
        | no r ↦ rw (set_out b at v (omega (arith, r))) (h i)
      ]
      | no ne ↦ rw (get_or-set_other b at i v 0 ne) (h i)
    ]

pub bytes_put : (k : ℕ) (b : List ℕ) (at x : ℕ) → Bytes b → Bytes (put k b at x)
unfolding put
bytes_put zero b at x h = h
bytes_put (suc k) b at x h =
    bytes_put k (set b at (x % 256)) (suc at) (x / 256) (bytes_set b at (x % 256) h (omega arith))

-- a number of k bytes is below 256 ^ k
pub word_lt : (k : ℕ) (b : List ℕ) (at : ℕ) → Bytes b → word k b at < 256 ^ k
unfolding word
word_lt zero b at h = rw pow-zero (omega arith)
word_lt (suc k) b at h =
    let l : word k b (suc at) < 256 ^ k = word_lt k b (suc at) h in
    let m : get_or b at 0 < 256 = h at in
    rw pow-suc (omega arith)
