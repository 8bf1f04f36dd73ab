-- Laws of written numbers.
--     digits_small, digits_more                the digits of a number, and how they go on from those of its tenth part
--     length_more, digits_some, digits_limit   one digit at least, and for 64 bits 20 at the most
--     digits_lead                              the first is no 0, but in the number 0 itself
--     digits_value, read_written, read_signed  read back, the number itself
-- Assumes nothing.
use Rattle.std.specs.Prelude.{◌≡◌, refl, true, false, List, [], ◌∷◌, ◌++◌, ℕ, zero, suc, ◌+◌, ◌*◌, ◌-◌, ◌/◌, ◌%◌, ◌^◌, ◌≤◌, ◌<◌, pos}
use Rattle.std.specs.Prelude.{length, get_or, Some}
use Rattle.std.proofs.Common.{sym, ap, ◌∙◌, pow-suc, arith, lt-ltb, le-ltb, ne_eqb, le-leb, leb-true, length-append}
use Rattle.std.specs.Option.{option_map}
use Rattle.std.proofs.Math.Decide.{dec_lt}
use Rattle.std.proofs.Math.ListN.{get_or-append}
use Rattle.lists.specs.AndLaws.{and_left, and_both}
use Rattle.lines.specs.Words.{every}
use Rattle.lines.specs.WordsLaws.{every_none, every_rest, every_front}
use Rattle.lines.specs.Numbers.{zero_digit, is_digit, with_digit, value_after, is_numeral, is_negative, number_of, unsigned_of}
use Rattle.lines.specs.Numbers.{magnitude_of}
use Rattle.lines.specs.NumbersLaws.{digit_is, number_plain, unsigned_plain}
use Rattle.lines.specs.Digits.{digit_for, digits_in, digits_of, digit_limit}

-- ---- how many steps are enough

in_small : (k n : ℕ) → n < 10 → digits_in k n ≡ digit_for n ∷ []
unfolding digits_in
in_small zero n l = let e : n % 10 ≡ n = omega arith in rw e
in_small (suc k) n l = rw (lt-ltb n 10 l)

in_more : (k n : ℕ) → 10 ≤ n → digits_in (suc k) n ≡ digits_in k (n / 10) ++ (digit_for (n % 10) ∷ [])
unfolding digits_in
in_more k n l = rw (le-ltb n 10 l)

enough : (k j n : ℕ) → n ≤ k → n ≤ j → digits_in k n ≡ digits_in j n
enough zero j n p q = in_small zero n (omega arith) ∙ sym (in_small j n (omega arith))
enough (suc k) zero n p q = in_small (suc k) n (omega arith) ∙ sym (in_small zero n (omega arith))
enough (suc k) (suc j) n p q = go (dec_lt n 10) (enough k j (n / 10))
  where
    go : Dec (n < 10) → (n / 10 ≤ k → n / 10 ≤ j → digits_in k (n / 10) ≡ digits_in j (n / 10)) → digits_in (suc k) n ≡ digits_in (suc j) n
    go (yes l) ih = in_small (suc k) n l ∙ sym (in_small (suc j) n l)
    go (no m) ih =
        let l : 10 ≤ n = omega (arith, m) in
        in_more k n l ∙ ap (λ (d : List ℕ). d ++ (digit_for (n % 10) ∷ [])) (ih (omega arith) (omega arith)) ∙ sym (in_more j n l)

pub digits_small : (n : ℕ) → n < 10 → digits_of n ≡ digit_for n ∷ []
unfolding digits_of
digits_small n l = in_small n n l

pub digits_more : (n : ℕ) → 10 ≤ n → digits_of n ≡ digits_of (n / 10) ++ (digit_for (n % 10) ∷ [])
unfolding digits_of
digits_more zero l = absurd (omega arith)
digits_more (suc n) l =
    in_more n (suc n) l
    ∙ ap (λ (d : List ℕ). d ++ (digit_for (suc n % 10) ∷ [])) (enough n (suc n / 10) (suc n / 10) (omega arith) (omega arith))

-- what holds of numbers below ten, and of a number if of its tenth part, holds of all
by_tenths : (P : ℕ → Type 0) → ((n : ℕ) → n < 10 → P n) → ((n : ℕ) → 10 ≤ n → P (n / 10) → P n) → (k n : ℕ) → n ≤ k → P n
by_tenths P small more zero n l = small n (omega arith)
by_tenths P small more (suc k) n l = go (dec_lt n 10) (by_tenths P small more k (n / 10))
  where
    go : Dec (n < 10) → (n / 10 ≤ k → P (n / 10)) → P n
    go (yes m) ih = small n m
    go (no m) ih = more n (omega (arith, m)) (ih (omega (arith, m)))

-- ---- how many digits, and the first of them

pub length_more : (n : ℕ) → 10 ≤ n → length (digits_of n) ≡ length (digits_of (n / 10)) + 1
length_more n l = ap length (digits_more n l) ∙ length-append (digits_of (n / 10)) (digit_for (n % 10) ∷ [])

pub digits_some : (n : ℕ) → 0 < length (digits_of n)
digits_some n = go (dec_lt n 10)
  where
    go : Dec (n < 10) → 0 < length (digits_of n)
    go (yes l) = omega (arith, ap length (digits_small n l))
    go (no m) = omega (arith, length_more n (omega (arith, m)))

digits_within : (k n : ℕ) → n < 10 ^ suc k → length (digits_of n) ≤ suc k
digits_within zero n l = omega (arith, ap length (digits_small n l))
digits_within (suc k) n l = go (dec_lt n 10) (digits_within k (n / 10))
  where
    go : Dec (n < 10) → (n / 10 < 10 ^ suc k → length (digits_of (n / 10)) ≤ suc k) → length (digits_of n) ≤ suc (suc k)
    go (yes s) ih = omega (arith, ap length (digits_small n s))
    go (no m) ih =
        let e : 10 ^ suc (suc k) ≡ 10 ^ suc k * 10 = pow-suc 10 (suc k) in
        omega (arith, ih (omega arith), length_more n (omega (arith, m)))

pub digits_limit : (n : ℕ) → n < 2 ^ 64 → length (digits_of n) ≤ digit_limit
digits_limit n l = digits_within 19 n (omega arith)

pub digits_lead : (n : ℕ) → 0 < n → get_or (digits_of n) 0 0 ≡ zero_digit → ⊥
digits_lead n = by_tenths (λ (n : ℕ). 0 < n → get_or (digits_of n) 0 0 ≡ zero_digit → ⊥) small more n n (omega arith)
  where
    small : (n : ℕ) → n < 10 → 0 < n → get_or (digits_of n) 0 0 ≡ zero_digit → ⊥
    small n l p e = let f = rw (digits_small n l) at e in omega arith

    more : (n : ℕ) → 10 ≤ n → (0 < n / 10 → get_or (digits_of (n / 10)) 0 0 ≡ zero_digit → ⊥) → 0 < n
        → get_or (digits_of n) 0 0 ≡ zero_digit → ⊥
    more n l ih p e =
        ih (omega arith)
        (sym (get_or-append (digits_of (n / 10)) (digit_for (n % 10) ∷ []) 0 0 (digits_some (n / 10)))
        ∙ ap (λ (d : List ℕ). get_or d 0 0) (sym (digits_more n l))
        ∙ e)

-- ---- read back

value_more : (xs : List ℕ) (v b : ℕ) → value_after v (xs ++ (b ∷ [])) ≡ with_digit (value_after v xs) b
unfolding value_after
value_more [] v b = refl
value_more (x ∷ xs) v b = value_more xs (with_digit v x) b

every_more : (xs : List ℕ) (b : ℕ) → every is_digit xs ≡ true → is_digit b ≡ true → every is_digit (xs ++ (b ∷ [])) ≡ true
every_more [] b h e = every_rest is_digit b [] e ∙ every_none is_digit
every_more (x ∷ xs) b h e =
    let f = every_front is_digit x xs h in every_rest is_digit x (xs ++ (b ∷ [])) f.0 ∙ every_more xs b f.1 e

pub digits_value : (n : ℕ) → value_after 0 (digits_of n) ≡ n
unfolding value_after
digits_value n = by_tenths (λ (n : ℕ). value_after 0 (digits_of n) ≡ n) small more n n (omega arith)
  where
    small : (n : ℕ) → n < 10 → value_after 0 (digits_of n) ≡ n
    small n l = rw (digits_small n l) (omega arith)

    more : (n : ℕ) → 10 ≤ n → value_after 0 (digits_of (n / 10)) ≡ n / 10 → value_after 0 (digits_of n) ≡ n
    more n l ih = rw (digits_more n l, value_more (digits_of (n / 10)) 0 (digit_for (n % 10)), ih) (omega arith)

digits_every : (n : ℕ) → every is_digit (digits_of n) ≡ true
digits_every n = by_tenths (λ (n : ℕ). every is_digit (digits_of n) ≡ true) small more n n (omega arith)
  where
    small : (n : ℕ) → n < 10 → every is_digit (digits_of n) ≡ true
    small n l =
        rw (digits_small n l) (every_more [] (digit_for n) (every_none is_digit) (digit_is (digit_for n) (omega arith) (omega arith)))

    more : (n : ℕ) → 10 ≤ n → every is_digit (digits_of (n / 10)) ≡ true → every is_digit (digits_of n) ≡ true
    more n l ih =
        rw (digits_more n l)
        (every_more (digits_of (n / 10)) (digit_for (n % 10)) ih (digit_is (digit_for (n % 10)) (omega arith) (omega arith)))

numeral : (w : List ℕ) → 0 < length w → every is_digit w ≡ true → (is_numeral w ≡ true) × (is_negative w ≡ false)
unfolding is_numeral is_negative is_digit
numeral [] l h = absurd (omega arith)
numeral (b ∷ bs) l h =
    let d = (every_front is_digit b bs h).0 in (h, ne_eqb b 45 (λ e. omega (arith, leb-true zero_digit b (and_left _ _ d))))

magnitude_written : (most n : ℕ) → n ≤ most → magnitude_of most (digits_of n) ≡ Some n
unfolding magnitude_of
magnitude_written most n l =
    let h = numeral (digits_of n) (digits_some n) (digits_every n) in
    rw (digits_value n, and_both _ _ h.0 (le-leb n most l))

pub read_written : (most n : ℕ) → n ≤ most → unsigned_of most (digits_of n) ≡ Some n
read_written most n l =
    unsigned_plain (digits_of n) (numeral (digits_of n) (digits_some n) (digits_every n)).1 most ∙ magnitude_written most n l

pub read_signed : (n : ℕ) → n < 2 ^ 63 → number_of (digits_of n) ≡ Some (pos n)
read_signed n l =
    number_plain (digits_of n) (numeral (digits_of n) (digits_some n) (digits_every n)).1
    ∙ ap (option_map pos) (magnitude_written (2 ^ 63 - 1) n (omega arith))
