-- What the library's tests tell of words and numbers: a list's elements one by one, and the bits of a boolean's number.
-- Assumes nothing.
use Rattle.std.proofs.Common.{◌≡◌, refl, Bool, true, false, List, [], ◌∷◌, ℕ, zero, suc, ◌-◌, ◌^◌, ◌<◌, ℤ, pos, negsuc}
use Rattle.std.proofs.Common.{length, get_or, sym, arith}
use Rattle.std.specs.Bool.{MatchBool}
use Rattle.std.specs.List.{AllWithin, HoldsAt}
use borrow.Author.Tests.{ne_eqb}
use lib.Dec.{eqb}
use lib.Signed.{mag}
use mir.Syntax.{w64}
use mir.Val.{of_z}
use Rattle.lists.specs.AndLaws.{and_first, and_second, and_both}
use Rattle.lists.specs.Sets.{eq_z}
use Rattle.events.specs.Values.{is_word, all_words}

each_word : (l : List ℤ) → ((k : ℕ) (d : ℤ) → k < length l → is_word (get_or l k d) ≡ true) → all_words l ≡ true
unfolding all_words
each_word [] h = refl
each_word (x ∷ l) h = and_both _ _ (h 0 x (omega arith)) (each_word l (λ k d m. h (suc k) d (omega arith)))

one_other : (l : List ℤ) (k : ℕ) → k < length l → ((d : ℤ) → is_word (get_or l k d) ≡ false) → all_words l ≡ false
unfolding all_words
one_other [] k m h = absurd (omega arith)
one_other (x ∷ l) zero m h = and_first _ _ (h x)
one_other (x ∷ l) (suc k) m h = and_second _ _ (one_other l k (omega arith) h)

-- what `all` tells of a list of words
pub words_told : (l : List ℤ) (r : Bool) → MatchBool r (AllWithin (λ x. is_word x ≡ true) l 0 (length l))
    ((k : ℕ) × (k < length l) × HoldsAt (λ x. is_word x ≡ false) l k) → r ≡ all_words l
words_told l true h = sym (each_word l (λ k d m. h k d (omega arith) m))
words_told l false h = sym (one_other l h.0 h.1 h.2)

-- the bits of a number are 0 exactly where it is
pub zero_bits : (x : ℤ) → mag x < 2 ^ 63 → eqb (of_z w64 x) 0 ≡ eq_z x (pos 0)
unfolding eq_z
zero_bits (pos n) h = refl
zero_bits (negsuc n) h = ne_eqb (2 ^ 64 - suc n) 0 (λ e. omega arith)
