-- What std makes of a number's bytes, and its bytes of a number, are `word` and `put`, once over the width.
-- Assumes nothing.
use mathlib.Core.Path.{◌≡◌, refl, sym, ap, ◌∙◌}
use mathlib.Core.List.{List, ◌++◌, append_assoc}
use Prim.Native.Nat.{ℕ, zero, suc, ◌+◌, ◌-◌, ◌*◌, ◌/◌, ◌%◌, ◌^◌, ◌≤◌}
use native.Mathlib.Nat.{pow-suc, pow-zero, div-one, zero-add, div-div-eq-div-mul, mul_comm}
use native.Mathlib.Numerals.{add-one}
use native.Mathlib.Omega.{arith}
use lib.ListN.{length, get_or, set, take, drop, length-set}
use lib.Seq.{get_or-take, get_or-drop, take-suc-set}
use borrow.Rule.Slice.PartMut.{put_mid}
use Rattle.std.specs.Int.{byte_at, byte_worth, bytes_low_first, sum_through}
use Rattle.std.proofs.lemmas.List.{drop-set-lt, take-append-drop, drop-drop}
use Rattle.words.specs.Word.{word, put}
use Rattle.words.proofs.WordLaws.{word_ext, word_split}

word_one : (b : List ℕ) (at : ℕ) → word 1 b at ≡ get_or b at 0
unfolding word
word_one b at = omega arith

-- the number whose bytes these are, least significant first
bytes_word : (k : ℕ) (bytes : List ℕ) → sum_through (λ i. byte_worth i (get_or bytes i 0)) k ≡ word (suc k) bytes 0
bytes_word zero bytes = sym (word_one bytes 0)
bytes_word (suc k) bytes =
    let top : word (suc k + 1) bytes 0 ≡ word (suc k) bytes 0 + 256 ^ suc k * get_or bytes (suc k) 0
    = rw (word_split (suc k) 1 bytes 0, zero-add, word_one bytes (suc k)) in
    rw (bytes_word k bytes, mul_comm (get_or bytes (suc k) 0) (256 ^ suc k)) (sym (rw add-one at top))

pub read_word : (k : ℕ) (b : List ℕ) (at : ℕ) {bytes : List ℕ} → bytes ≡ take (suc k) (drop at b)
    → sum_through (λ i. byte_worth i (get_or bytes i 0)) k ≡ word (suc k) b at
read_word k b at {bytes} e =
    bytes_word k bytes ∙ word_ext (suc k) bytes b 0 at (λ i l. rw (e, zero-add, get_or-take, get_or-drop))

byte_is : (j x : ℕ) → byte_at j x ≡ x / 256 ^ j % 256
byte_is zero x = rw (pow-zero, div-one)
byte_is (suc j) x = refl

-- the k bytes of a number from byte j up, in the place of those from at
put_from : (k j : ℕ) (b : List ℕ) (at x : ℕ) → at + k ≤ length b
    → take at b ++ (bytes_low_first j k x ++ drop k (drop at b)) ≡ put k b at (x / 256 ^ j)
unfolding put
put_from zero j b at x h = take-append-drop at b
put_from (suc k) j b at x h =
    let v : ℕ = x / 256 ^ j % 256 in
    let ih = put_from k (suc j) (set b at v) (suc at) x (rw length-set (omega arith)) in
    let seam : drop (suc k) (drop at b) ≡ drop k (drop (suc at) b)
    = drop-drop (suc k) at b ∙ ap (λ (n : ℕ). drop n b) (omega arith) ∙ sym (drop-drop k (suc at) b) in
    let deep : x / 256 ^ j / 256 ≡ x / 256 ^ suc j = rw (div-div-eq-div-mul, pow-suc) in
    rw (byte_is j x, seam, deep)
    (simp (take-suc-set b at v (omega arith), append_assoc, drop-set-lt (suc at) b at v (omega arith)) at ih)

pub write_word : (k : ℕ) (b : List ℕ) (at x : ℕ) {bytes : List ℕ} → at + k ≤ length b → bytes ≡ bytes_low_first 0 k x
    → put_mid at (at + k - at) b bytes ≡ put k b at x
write_word k b at x h e =
    let n : at + k - at ≡ k = omega arith in
    let one : x / 256 ^ 0 ≡ x = rw (pow-zero, div-one) in
    rw (n, e) (rw one at (put_from k 0 b at x h))
