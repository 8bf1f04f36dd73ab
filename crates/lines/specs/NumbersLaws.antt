-- Laws of numbers.
--     digit_below, digit_above, digit_is                             what is a digit
--     step_no_digit, step_past, step_of_lem, step_made                   one digit more
--     after_start, after_empty, after_read, after_stop, after_whole  digits one after the other, as a loop reads them
--     number_minus, number_plain, unsigned_minus, unsigned_plain     a word by its sign and its magnitude
--     magnitude_within, number_fits                                  what was read is within its limit
-- Assumes nothing.
use Rattle.std.proofs.Math.Path.{◌≡◌, refl}
use Rattle.std.proofs.Common.{sym, subst, ◌∙◌, add-one, drop_of_length-le, drop-cons, SFits}
use Rattle.std.specs.Prelude.{Bool, ℤ, negsuc, neg_ℤ, length, get_or, drop}
use Rattle.std.proofs.Math.Bool.{true, false, cond}
use mathlib.Core.List.{List, [], ◌∷◌}
use Prim.Native.Nat.{ℕ, zero, suc, ◌+◌, ◌-◌, ◌^◌, ◌≤◌, ◌<◌}
use Rattle.std.proofs.Math.Decide.{dec_lt}
use native.Mathlib.Omega.{arith}
use borrow.Author.Tests.{le-leb, lt-leb, leb-true}
use Rattle.std.proofs.Math.Dec.{leb}
use Rattle.std.proofs.Math.IntN.{pos, nat_abs}
use Rattle.std.specs.Int.{w64}
use Rattle.lists.specs.And.{◌and◌}
use Rattle.lists.specs.AndLaws.{and_first, and_second, and_skip, and_both, and_left, and_right, and_true}
use Rattle.lines.specs.Words.{every}
use Rattle.lines.specs.WordsLaws.{every_none, every_first, every_rest}
use Rattle.lines.specs.Numbers.{is_digit, with_digit, value_after, is_numeral, is_negative, is_integer, integer_of, is_within}
use Rattle.lines.specs.Numbers.{zero_digit, number_of, unsigned_of, step_of, magnitude_of}
use Rattle.std.specs.Prelude.{Option, Some, None}
use Rattle.std.specs.Option.{option_map}

-- ---- one digit more

module _ (b : ℕ) where
  pub digit_below : b < zero_digit → is_digit b ≡ false
  unfolding is_digit
  digit_below l = and_first _ _ (lt-leb zero_digit b l)

  pub digit_above : zero_digit + 9 < b → is_digit b ≡ false
  unfolding is_digit
  digit_above l = and_second _ _ (lt-leb b (zero_digit + 9) l)

  pub digit_is : zero_digit ≤ b → b ≤ zero_digit + 9 → is_digit b ≡ true
  unfolding is_digit
  digit_is l m = and_both _ _ (le-leb zero_digit b l) (le-leb b (zero_digit + 9) m)

module _ (most v b : ℕ) where
  pub step_no_digit : is_digit b ≡ false → step_of most v b ≡ None
  unfolding step_of
  step_no_digit e = rw (and_first (is_digit b) (leb (with_digit v b) most) e)

  pub step_past : most < with_digit v b → step_of most v b ≡ None
  unfolding step_of
  step_past l = rw (and_second (is_digit b) (leb (with_digit v b) most) (lt-leb (with_digit v b) most l))

  pub step_of_lem : is_digit b ≡ true → with_digit v b ≤ most → step_of most v b ≡ Some (with_digit v b)
  unfolding step_of
  step_of_lem e l = rw (and_both (is_digit b) (leb (with_digit v b) most) e (le-leb (with_digit v b) most l))

  -- what a step that was made says
  pub record Step (u : ℕ) : Type 0 where
    pub digit : is_digit b ≡ true
    pub worth : with_digit v b ≡ u
    pub within : u ≤ most

  pub step_made : (u : ℕ) → step_of most v b ≡ Some u → Step u
  unfolding step_of
  step_made u h = go (is_digit b and leb (with_digit v b) most) refl h
    where
      go : (t : Bool) → (is_digit b and leb (with_digit v b) most) ≡ t → cond t (Some (with_digit v b)) None ≡ Some u → Step u
      go true e h =
          let w : with_digit v b ≡ u = cc in
          let l = leb-true (with_digit v b) most (and_right (is_digit b) _ e) in
          record { digit = and_left _ _ e; worth = w; within = omega arith }
      go false e h = absurd (let z : ◌≡◌ {A = ℕ} 0 1 = cc in omega arith)

-- ---- digits one after the other

-- more digits are worth no less
grows : (bs : List ℕ) (v : ℕ) → v ≤ value_after v bs
unfolding value_after
grows [] v = omega arith
grows (b ∷ bs) v = omega (arith, grows bs (with_digit v b))

-- digits behind others worth v, that are worth the limit at the most
unfoldable pub after_of : ℕ → ℕ → List ℕ → Option ℕ
after_of most v bs = cond (every is_digit bs and leb (value_after v bs) most) (Some (value_after v bs)) None

module _ (most : ℕ) where
  pub after_start : (w : List ℕ) → 0 < length w → magnitude_of most w ≡ after_of most 0 w
  unfolding magnitude_of after_of is_numeral
  after_start [] l = absurd (omega arith)
  after_start (b ∷ bs) l = refl

  pub after_empty : (w : List ℕ) → length w ≡ 0 → magnitude_of most w ≡ None
  unfolding magnitude_of is_numeral
  after_empty [] l = rw (and_first false (leb (value_after 0 []) most) refl)
  after_empty (b ∷ bs) l = absurd (omega arith)

  after_end : (v : ℕ) → v ≤ most → after_of most v [] ≡ Some v
  unfolding after_of value_after
  after_end v l = rw (and_both (every is_digit []) (leb v most) (every_none is_digit) (le-leb v most l))

  module _ (v b : ℕ) (bs : List ℕ) where
    after_more : (u : ℕ) → step_of most v b ≡ Some u → after_of most v (b ∷ bs) ≡ after_of most u bs
    unfolding after_of value_after
    after_more u h = let s = step_made most v b u h in rw (every_rest is_digit b bs s.digit, s.worth)

    after_none : step_of most v b ≡ None → after_of most v (b ∷ bs) ≡ None
    unfolding after_of value_after
    after_none h = go (is_digit b) refl (dec_lt most (with_digit v b))
      where
        go : (t : Bool) → is_digit b ≡ t → Dec (most < with_digit v b)
            → cond (every is_digit (b ∷ bs) and leb (value_after (with_digit v b) bs) most) (Some (value_after (with_digit v b) bs)) None
            ≡ None
        go false e d = rw (and_first _ (leb (value_after (with_digit v b) bs) most) (every_first is_digit b bs e))
        go true e (yes l) =
            let far : most < value_after (with_digit v b) bs = omega (arith, grows bs (with_digit v b)) in
            rw (and_second (every is_digit (b ∷ bs)) _ (lt-leb (value_after (with_digit v b) bs) most far))
        go true e (no n) =
            absurd (let s = step_of_lem most v b e (omega (arith, n)) in let z : ◌≡◌ {A = ℕ} 0 1 = cc in omega arith)

-- as a loop reads a word from place i on
module _ (most v : ℕ) (w : List ℕ) (i : ℕ) where
  pub after_read : (u : ℕ) → i < length w → step_of most v (get_or w i 0) ≡ Some u
      → after_of most v (drop i w) ≡ after_of most u (drop (i + 1) w)
  after_read u l h = rw (add-one, drop-cons w i 0 l) (after_more most v (get_or w i 0) (drop (suc i) w) u h)

  pub after_stop : i < length w → step_of most v (get_or w i 0) ≡ None → after_of most v (drop i w) ≡ None
  after_stop l h = rw (drop-cons w i 0 l) (after_none most v (get_or w i 0) (drop (suc i) w) h)

  pub after_whole : length w ≤ i → v ≤ most → after_of most v (drop i w) ≡ Some v
  after_whole l m = rw (drop_of_length-le w l) (after_end most v m)

-- ---- a word by its sign and its magnitude

-- a magnitude as a number below zero
abbrev below : ℕ → ℤ
below m = neg_ℤ (pos m)

-- how a number of a known sign lies in a range
range_plain : (v most : ℕ) → is_within (pos 0) (pos v) (pos most) ≡ leb v most
unfolding is_within
range_plain v most = and_skip (leb 0 v) (leb v most) (le-leb 0 v (omega arith))

range_minus : (v most : ℕ) → is_within (pos 0) (below v) (pos most) ≡ leb v 0
unfolding is_within
range_minus zero most = and_both _ _ refl (le-leb 0 most (omega arith)) ∙ sym (le-leb 0 0 (omega arith))
range_minus (suc v) most = and_first _ _ refl ∙ sym (lt-leb (suc v) 0 (omega arith))

signed_plain : (v : ℕ) → is_within (negsuc (2 ^ 63 - 1)) (pos v) (pos (2 ^ 63 - 1)) ≡ leb v (2 ^ 63 - 1)
unfolding is_within
signed_plain v = and_skip _ _ refl

signed_minus : (v : ℕ) → is_within (negsuc (2 ^ 63 - 1)) (below v) (pos (2 ^ 63 - 1)) ≡ leb v (2 ^ 63)
unfolding is_within
signed_minus zero = and_both _ _ refl (le-leb 0 (2 ^ 63 - 1) (omega arith)) ∙ sym (le-leb 0 (2 ^ 63) (omega arith))
signed_minus (suc v) = and_true (leb v (2 ^ 63 - 1)) ∙ go (dec_lt (2 ^ 63 - 1) v)
  where
    go : Dec (2 ^ 63 - 1 < v) → leb v (2 ^ 63 - 1) ≡ leb (suc v) (2 ^ 63)
    go (yes l) = lt-leb v (2 ^ 63 - 1) l ∙ sym (lt-leb (suc v) (2 ^ 63) (omega arith))
    go (no n) = le-leb v (2 ^ 63 - 1) (omega (arith, n)) ∙ sym (le-leb (suc v) (2 ^ 63) (omega (arith, n)))

module _ (w : List ℕ) (sign : is_negative w ≡ true) where
  pub number_minus : number_of w ≡ option_map below (magnitude_of (2 ^ 63) (drop 1 w))
  unfolding number_of magnitude_of is_integer integer_of
  number_minus = rw (sign, signed_minus (value_after 0 (drop 1 w))) (go (is_numeral (drop 1 w) and leb (value_after 0 (drop 1 w)) (2 ^ 63)))
    where
      go : (t : Bool) → cond t (Some (below (value_after 0 (drop 1 w)))) None
          ≡ option_map below (cond t (Some (value_after 0 (drop 1 w))) None)
      go true = refl
      go false = refl

  -- of the numbers below zero only -0 is in the range
  pub unsigned_minus : (most : ℕ) → unsigned_of most w ≡ magnitude_of 0 (drop 1 w)
  unfolding unsigned_of magnitude_of is_integer integer_of
  unsigned_minus most = rw (sign, range_minus (value_after 0 (drop 1 w)) most, abs (value_after 0 (drop 1 w)))
    where
      abs : (v : ℕ) → nat_abs (below v) ≡ v
      abs zero = refl
      abs (suc v) = refl

module _ (w : List ℕ) (sign : is_negative w ≡ false) where
  pub number_plain : number_of w ≡ option_map pos (magnitude_of (2 ^ 63 - 1) w)
  unfolding number_of magnitude_of is_integer integer_of
  number_plain = rw (sign, signed_plain (value_after 0 w)) (go (is_numeral w and leb (value_after 0 w) (2 ^ 63 - 1)))
    where
      go : (t : Bool) → cond t (Some (pos (value_after 0 w))) None ≡ option_map pos (cond t (Some (value_after 0 w)) None)
      go true = refl
      go false = refl

  pub unsigned_plain : (most : ℕ) → unsigned_of most w ≡ magnitude_of most w
  unfolding unsigned_of magnitude_of is_integer integer_of
  unsigned_plain most = rw (sign, range_plain (value_after 0 w) most)

-- what was read is within its limit
pub magnitude_within : (most : ℕ) (w : List ℕ) (m : ℕ) → magnitude_of most w ≡ Some m → m ≤ most
unfolding magnitude_of
magnitude_within most w m h = go (is_numeral w and leb (value_after 0 w) most) refl h
  where
    go : (t : Bool) → (is_numeral w and leb (value_after 0 w) most) ≡ t → cond t (Some (value_after 0 w)) None ≡ Some m → m ≤ most
    go true e h = let v : value_after 0 w ≡ m = cc in omega (arith, leb-true (value_after 0 w) most (and_right (is_numeral w) _ e))
    go false e h = absurd (let z : ◌≡◌ {A = ℕ} 0 1 = cc in omega arith)

within_fits : (z : ℤ) → is_within (negsuc (2 ^ 63 - 1)) z (pos (2 ^ 63 - 1)) ≡ true → SFits w64 z
unfolding is_within
within_fits (pos n) h = record { sfits = omega (arith, leb-true n (2 ^ 63 - 1) (and_right true _ h)) }
within_fits (negsuc n) h = record { sfits = omega (arith, leb-true n (2 ^ 63 - 1) (and_left _ true h)) }

pub number_fits : (w : List ℕ) (z : ℤ) → number_of w ≡ Some z → SFits w64 z
unfolding number_of
number_fits w z h = go (is_integer w and is_within (negsuc (2 ^ 63 - 1)) (integer_of w) (pos (2 ^ 63 - 1))) refl h
  where
    go : (t : Bool) → (is_integer w and is_within (negsuc (2 ^ 63 - 1)) (integer_of w) (pos (2 ^ 63 - 1))) ≡ t
        → cond t (Some (integer_of w)) None ≡ Some z → SFits w64 z
    go true e h = let v : integer_of w ≡ z = cc in subst (SFits w64) v (within_fits (integer_of w) (and_right (is_integer w) _ e))
    go false e h = absurd (let k : ◌≡◌ {A = ℕ} 0 1 = cc in omega arith)
