-- The laws of `word` and `put`, once over the width: a write keeps the length and every byte elsewhere, what was written is read back, and
-- a wide number is two narrow ones.
-- Assumes nothing.
use mathlib.Core.Path.{◌≡◌, refl, sym, ◌∙◌}
use mathlib.Core.List.{List}
use mathlib.Core.Logic.{inl, inr, ⊎_elim}
use Prim.Native.Nat.{ℕ, zero, suc, ◌+◌, ◌*◌, ◌/◌, ◌%◌, ◌^◌, ◌≤◌, ◌<◌}
use native.Mathlib.Nat.{zero-add, suc-add, add-suc, add-zero, pow-suc, pow-zero, mod-eq_of_lt, mod-one}
use native.Mathlib.Nat.{one-mul, div-one, div-div-eq-div-mul, mul_assoc, mul_comm}
use native.Mathlib.Omega.{arith}
use lib.ListN.{length, get_or, set, length-set}
use lib.Seq.{get_or-set_same, get_or-set_other}
use lib.Arith.{mod-mul}
use Rattle.words.specs.Word.{word, put}
use Rattle.words.specs.Frame.{Outside}

pub length_put : (k : ℕ) (b : List ℕ) (at x : ℕ) → length (put k b at x) ≡ length b
unfolding put
length_put zero b at x = refl
length_put (suc k) b at x = length_put k (set b at (x % 256)) (suc at) (x / 256) ∙ length-set b at (x % 256)

-- a byte outside what is written keeps its value
pub byte_put : (k : ℕ) (b : List ℕ) (at x i : ℕ) → Outside at (at + k) i 1 → get_or (put k b at x) i 0 ≡ get_or b i 0
unfolding put
byte_put zero b at x i h = refl
byte_put (suc k) b at x i h =
    byte_put k (set b at (x % 256)) (suc at) (x / 256) i
    (⊎_elim (λ l. inl (omega arith)) (λ r. inr (omega (arith, suc-add at k, add-suc at k))) h)
    ∙ get_or-set_other b at i (x % 256) 0 (⊎_elim (λ l. omega arith) (λ r. omega (arith, add-suc at k)) h)

-- equal bytes, equal numbers
pub word_ext : (k : ℕ) (b d : List ℕ) (at from : ℕ)
    → ((i : ℕ) → i < k → get_or b (at + i) 0 ≡ get_or d (from + i) 0) → word k b at ≡ word k d from
unfolding word
word_ext zero b d at from h = refl
word_ext (suc k) b d at from h =
    let first : get_or b at 0 ≡ get_or d from 0 = rw (← add-zero at, ← add-zero from) (h 0 (omega arith)) in
    let rest : word k b (suc at) ≡ word k d (suc from)
    = word_ext k b d (suc at) (suc from)
    (λ i l. rw (suc-add, ← add-suc at i, suc-add, ← add-suc from i) (h (suc i) (omega arith))) in
    cc

power_positive : (k : ℕ) → 0 < 256 ^ k
power_positive zero = rw pow-zero (omega arith)
power_positive (suc k) = let h : 0 < 256 ^ k = power_positive k in rw pow-suc (omega arith)

-- what was written is read, less what k bytes cannot hold
pub word_put : (k : ℕ) (b : List ℕ) (at x : ℕ) → at + k ≤ length b → word k (put k b at x) at ≡ x % 256 ^ k
unfolding word put
word_put zero b at x h = rw (pow-zero, mod-one)
word_put (suc k) b at x h =
    let d : List ℕ = set b at (x % 256) in
    let low : get_or (put k d (suc at) (x / 256)) at 0 ≡ x % 256
    = byte_put k d (suc at) (x / 256) at (inl (omega arith)) ∙ get_or-set_same b at (x % 256) 0 (omega arith) in
    let high : word k (put k d (suc at) (x / 256)) (suc at) ≡ x / 256 % 256 ^ k
    = word_put k d (suc at) (x / 256) (rw length-set (omega arith)) in
    rw (low, high, pow-suc) (omega (arith, mod-mul x {m = 256 ^ k} {c = 256} (power_positive k) (omega arith)))

-- what was written is read, of a number that fits
pub word_back : (k : ℕ) (b : List ℕ) (at x : ℕ) → at + k ≤ length b → x < 256 ^ k → word k (put k b at x) at ≡ x
word_back k b at x r f = word_put k b at x r ∙ mod-eq_of_lt f

-- a wide number is two narrow ones
pub word_split : (j k : ℕ) (b : List ℕ) (at : ℕ) → word (j + k) b at ≡ word j b at + 256 ^ j * word k b (at + j)
unfolding word
word_split zero k b at = rw (zero-add, pow-zero, one-mul, zero-add, add-zero)
word_split (suc j) k b at =
    let e : 256 ^ j * 256 * word k b (suc (at + j)) ≡ 256 * (256 ^ j * word k b (suc (at + j)))
    = rw (mul_comm (256 ^ j) 256) (mul_assoc 256 (256 ^ j) (word k b (suc (at + j)))) in
    rw (suc-add j k, word_split j k b (suc at), pow-suc, add-suc at j, suc-add at j) (omega arith)

put_split : (j k : ℕ) (b : List ℕ) (at x : ℕ) → put (j + k) b at x ≡ put k (put j b at x) (at + j) (x / 256 ^ j)
unfolding put
put_split zero k b at x = rw (zero-add, pow-zero, div-one, add-zero)
put_split (suc j) k b at x =
    rw (suc-add j k, put_split j k (set b at (x % 256)) (suc at) (x / 256), div-div-eq-div-mul, pow-suc, mul_comm (256 ^ j) 256)
    (rw (add-suc at j, suc-add at j))

-- only the low bytes of what is put matter
pub put_mod : (k : ℕ) (b : List ℕ) (at x : ℕ) → put k b at (x % 256 ^ k) ≡ put k b at x
unfolding put
put_mod zero b at x = refl
put_mod (suc k) b at x =
    let e : x % 256 ^ suc k ≡ (x / 256 % 256 ^ k) * 256 + x % 256
    = rw pow-suc (mod-mul x (power_positive k) (omega arith)) in
    let low : x % 256 ^ suc k % 256 ≡ x % 256 = rw e (omega arith) in
    let high : x % 256 ^ suc k / 256 ≡ x / 256 % 256 ^ k = rw e (omega arith) in
    rw (low, high) (put_mod k (set b at (x % 256)) (suc at) (x / 256))

-- a wide number is written as two narrow ones
pub put_two : (j k : ℕ) (b : List ℕ) (at x : ℕ)
    → put k (put j b at (x % 256 ^ j)) (at + j) (x / 256 ^ j) ≡ put (j + k) b at x
put_two j k b at x = rw put_mod (sym (put_split j k b at x))
