-- The answer for a sheet's form is the one that the order of refusals gives: `answers`, and `answered` the other way. So it is 0 exactly
-- for a well-formed sheet within the limits (`accepted`, `accepting`), and 1 and 2 exactly where the order says so. Assumes nothing.
use Rattle.std.specs.Prelude.{◌≡◌, Bool, cond, List, ℕ, ◌≤◌, T, length, ℤ, pos, negsuc, ◌<ℤ◌}
use Rattle.std.proofs.Math.Path.{refl, ap}
use Rattle.std.proofs.Common.{sym, ◌∙◌, subst, true≢false, arith}
use Rattle.std.proofs.Math.Bool.{true, false}
use Rattle.std.proofs.lemmas.Bool.{false≢true, false_from_ne_true}
use borrow.Author.Tests.{ltb-true, ltb-false, lt-ltb, le-ltb, leb-true, leb-false, le-leb, lt-leb}
use Rattle.std.proofs.Math.Dec.{ltb}
use Rattle.std.specs.Int.Signed.{lt_z}
use Rattle.error.specs.Answers.{Answer, Done, Refused, number}
use Rattle.error.specs.declared.Refusal.TheVariants.{SheetMalformed, LimitPassed}
use Rattle.lists.specs.Below.{all_below}
use Rattle.lists.specs.BelowLaws.{below_each, below_all, below_fault, below_broken}
use Rattle.lists.specs.Sets.{list_limit}
use Rattle.sheets.specs.Entries.{natural_of}
use Rattle.sheets.specs.Table.{entry_limit}
use Rattle.sheets.specs.Bodies.{list_length_at}
use Rattle.sheets.specs.WellFormed.{count_at, count_of, WellFormed, Counted, Accepted, Answers, empty, none, many, malformed, long, good}
use Rattle.sheets.specs.Form.{list_short, is_well_formed, counted_answer, form_answer, answer_of}
use Rattle.sheets.proofs.FormLaws.{formed_told, told_formed}

-- ---- the order of the integers, as a test and as a fact

below : (x y : ℤ) → lt_z x y ≡ true → x <ℤ y
below x y e = record { lt = subst T (sym e) tt }

below_test : (x y : ℤ) → x <ℤ y → lt_z x y ≡ true
below_test x y h = go (lt_z x y) h.lt
  where
    go : (b : Bool) → T b → b ≡ true
    go true t = refl
    go false t = absurd t

-- a number from 1 on is a natural number
positive : (z : ℤ) → lt_z z (pos 1) ≡ false → z ≡ pos (natural_of z)
unfolding natural_of
positive (pos n) e = refl
positive (negsuc n) e = absurd (true≢false e)

at_least : (n : ℕ) → lt_z (pos n) (pos 1) ≡ false → 1 ≤ n
at_least n e = ltb-false n 1 e

at_most : (n : ℕ) → lt_z (pos entry_limit) (pos n) ≡ false → n ≤ entry_limit
at_most n e = ltb-false entry_limit n e

-- above the limit means from 1 on
many_some : (z : ℤ) → lt_z (pos entry_limit) z ≡ true → lt_z z (pos 1) ≡ false
many_some (pos n) e = let l = ltb-true entry_limit n e in le-ltb n 1 (omega arith)
many_some (negsuc n) e = absurd (false≢true e)

module _ (first : ℕ) (s : List ℤ) where
  -- the tests that lead to a sheet with its number of entries
  pub counting : first ≤ length s → lt_z (count_at first s) (pos 1) ≡ false → lt_z (pos entry_limit) (count_at first s) ≡ false
      → Counted first s (count_of first s)
  counting h lo hi =
      let e = positive (count_at first s) lo in
      record {
        reached = h;
        count = e;
        some = at_least (count_of first s) (subst (λ (z : ℤ). lt_z z (pos 1) ≡ false) e lo);
        few = at_most (count_of first s) (subst (λ (z : ℤ). lt_z (pos entry_limit) z ≡ false) e hi);
      }

  counted_count : (n : ℕ) → Counted first s n → count_of first s ≡ n
  unfolding natural_of
  counted_count n c = ap natural_of c.count

  -- ---- from the tests to the facts

  module _ (n : ℕ) (c : Counted first s n) where
    by_length : WellFormed first s n → (b : Bool) → all_below (list_short first s) n ≡ b
        → Answers first s (cond b Done (Refused LimitPassed))
    by_length w true e =
        good n (record { counted = c; formed = w; short = λ i l. leb-true _ _ (below_each (list_short first s) n e i l) })
    by_length w false e = let f = below_fault (list_short first s) n e in long n c w f.0 f.1 (leb-false _ _ f.2)

    by_form : (b : Bool) → is_well_formed first s n ≡ b
        → Answers first s (cond b (cond (all_below (list_short first s) n) Done (Refused LimitPassed)) (Refused SheetMalformed))
    by_form true e = by_length (formed_told first s n e) (all_below (list_short first s) n) refl
    by_form false e = malformed n c (λ w. true≢false (sym (told_formed first s n w) ∙ e))

    by_count : Answers first s (counted_answer first s n)
    unfolding counted_answer
    by_count = by_form (is_well_formed first s n) refl

  pub answers : Answers first s (form_answer first s)
  unfolding form_answer
  answers =
      go (ltb (length s) first) (lt_z (count_at first s) (pos 1)) (lt_z (pos entry_limit) (count_at first s)) refl refl refl
    where
      go : (a b c : Bool) → ltb (length s) first ≡ a → lt_z (count_at first s) (pos 1) ≡ b → lt_z (pos entry_limit) (count_at first s) ≡ c
          → Answers first s
          (cond a (Refused SheetMalformed)
          (cond b (Refused SheetMalformed)
          (cond c (Refused LimitPassed) (counted_answer first s (count_of first s)))))
      go true b c d e f = empty (ltb-true _ _ d)
      go false true c d e f = none (ltb-false _ _ d) (below _ _ e)
      go false false true d e f = many (ltb-false _ _ d) (below _ _ f)
      go false false false d e f = by_count (count_of first s) (counting (ltb-false _ _ d) e f)

  -- ---- from the facts to the tests

  pub counted_answer_lem : (n : ℕ) → Counted first s n → form_answer first s ≡ counted_answer first s n
  unfolding form_answer
  counted_answer_lem n c =
      let e = c.count in
      let lo : lt_z (count_at first s) (pos 1) ≡ false = rw e (le-ltb n 1 c.some) in
      let hi : lt_z (pos entry_limit) (count_at first s) ≡ false = rw e (le-ltb entry_limit n c.few) in
      rw (le-ltb (length s) first c.reached, lo, hi) (ap (counted_answer first s) (counted_count n c))

  malformed_test : (n : ℕ) → ¬ WellFormed first s n → is_well_formed first s n ≡ false
  malformed_test n w = false_from_ne_true _ (λ e. w (formed_told first s n e))

  pub answered : (a : Answer) → Answers first s a → form_answer first s ≡ a
  unfolding form_answer counted_answer
  answered a h = elim h as (λ a h. form_answer first s ≡ a) [
    | empty h ↦ rw (lt-ltb (length s) first h)
    | none h l ↦ rw (le-ltb (length s) first h, below_test _ _ l)
    | many h l ↦
        let e = below_test (pos entry_limit) (count_at first s) l in
        rw (le-ltb (length s) first h, many_some (count_at first s) e, e)
    | malformed n c w ↦ counted_answer_lem n c ∙ rw (malformed_test n w)
    | long n c w i l k ↦
        let broken = below_broken (list_short first s) i n l (lt-leb (list_length_at first s i) list_limit k) in
        counted_answer_lem n c ∙ rw (told_formed first s n w, broken)
    | good n a ↦
        let short = below_all (list_short first s) n (λ i l. le-leb (list_length_at first s i) list_limit (a.short i l)) in
        counted_answer_lem n a.counted ∙ rw (told_formed first s n a.formed, short)
  ]

  -- ---- the answer 0

  pub accepted : answer_of first s ≡ 0 → Accepted first s (count_of first s)
  accepted h = (elim answers as (λ a h. number a ≡ 0 → Accepted first s (count_of first s)) [
    | empty h ↦ λ e. absurd (omega arith)
    | none h l ↦ λ e. absurd (omega arith)
    | many h l ↦ λ e. absurd (omega arith)
    | malformed n c w ↦ λ e. absurd (omega arith)
    | long n c w i l k ↦ λ e. absurd (omega arith)
    | good n a ↦ λ e. subst (λ (m : ℕ). Accepted first s m) (sym (counted_count n a.counted)) a
  ]) h

  pub accepting : (n : ℕ) → Accepted first s n → answer_of first s ≡ 0
  accepting n a = ap number (answered Done (good n a))
