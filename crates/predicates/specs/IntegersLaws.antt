-- How many elements stand in the bytes, which one at a place, and the same of a part from the middle of longer bytes.
-- Assumes nothing.
use Rattle.std.specs.Prelude.{◌≡◌, List, pos, length, take, drop}
use Rattle.std.proofs.Math.Path.{refl, ap}
use Rattle.std.proofs.Common.{◌∙◌, length-take, length-drop, get_or-take, get_or-drop, to_z}
use Prim.Native.Nat.{ℕ, zero, suc, ◌+◌, ◌*◌, ◌/◌, ◌<◌, ◌≤◌}
use native.Mathlib.Omega.{arith}
use Rattle.std.proofs.Math.ListN.{get_or}
use Rattle.std.specs.Int.{w64}
use Rattle.lists.specs.Tabulate.{tabulate}
use Rattle.lists.proofs.TabulateLaws.{length_tabulate, get_or_tabulate, tabulate_ext}
use Rattle.words.specs.Word.{word, signed_word}
use Rattle.predicates.specs.Integers.{integers_of}

module _ (bytes : List ℕ) where
  pub integers_length : length (integers_of bytes) ≡ length bytes / 8
  unfolding integers_of
  integers_length = length_tabulate (length bytes / 8) (λ k. signed_word bytes (8 * k))

  pub integers_item : (k : ℕ) → k < length (integers_of bytes) → get_or (integers_of bytes) k (pos 0) ≡ signed_word bytes (8 * k)
  unfolding integers_of
  integers_item k h =
      get_or_tabulate (length bytes / 8) (λ k. signed_word bytes (8 * k)) (pos 0) k (omega (arith, integers_length))

pub ruleset element_laws = (integers_length, integers_item)

-- ---- n elements from a place of longer bytes

module _ (bytes : List ℕ) (at n : ℕ) (room : at + 8 * n ≤ length bytes) where
  abbrev part : List ℕ
  part = take (8 * n) (drop at bytes)

  part_length : length part / 8 ≡ n
  part_length = simp (length-take, length-drop) (omega arith)

  part_word : (k j : ℕ) → j + k ≤ 8 * n → word k part j ≡ word k bytes (at + j)
  unfolding word
  part_word zero j h = refl
  part_word (suc k) j h =
      let here : j < 8 * n = omega arith in
      let byte : get_or part j 0 ≡ get_or bytes (at + j) 0 = rw (get_or-take, get_or-drop) in
      let next : at + suc j ≡ suc (at + j) = omega arith in
      rw (byte, part_word k (suc j) (omega arith), next)

  pub integers_part : integers_of part ≡ tabulate n (λ k. signed_word bytes (at + 8 * k))
  unfolding integers_of signed_word
  integers_part =
      ap (λ (m : ℕ). tabulate m (λ k. signed_word part (8 * k))) part_length
      ∙ tabulate_ext n (λ k. signed_word part (8 * k)) (λ k. signed_word bytes (at + 8 * k))
      (λ k h. ap (to_z w64) (part_word 8 (8 * k) (omega arith)))
