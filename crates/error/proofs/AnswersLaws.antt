-- No two answers share a number, so a number that a call gives says which answer it is. And a check that refuses is the last that is made.
--   done?                                whether an answer is Done
--   then_done, then_refused, then_both   checks one after the other: Done where each is, else the first refusal
-- Assumes nothing.
use Rattle.std.specs.Prelude.{◌≡◌, refl, List, [], ◌∷◌, ℕ, get_or}
use Rattle.std.proofs.Math.Decide.{ℕ_discrete}
use Rattle.std.proofs.Common.{ap, sym, ◌∙◌}
use Rattle.error.specs.Answers.{Answer, Done, Refused, NotSet, number, then}
use Rattle.error.specs.declared.Refusal.TheVariants.{SheetMalformed, LimitPassed, NameTwice, NoAttribute, OtherKind, NotSuited}
use Rattle.error.specs.declared.Refusal.TheVariants.{IdLive, IdNotLive, NoRoom, BookDamaged, BufferShort, EventUnsuited}

-- the answers numbered 0 to 12, in order
abbrev in_order : List Answer
in_order =
    Done ∷ Refused SheetMalformed ∷ Refused LimitPassed ∷ Refused NameTwice ∷ Refused NoAttribute ∷ Refused OtherKind
    ∷ Refused NotSuited ∷ Refused IdLive ∷ Refused IdNotLive ∷ Refused NoRoom ∷ Refused BookDamaged ∷ Refused BufferShort
    ∷ Refused EventUnsuited ∷ []

-- the answer of a number
abbrev answer_of : ℕ → Answer
answer_of n = get_or in_order n NotSet

answer_of_number : (a : Answer) → answer_of (number a) ≡ a
answer_of_number Done = refl
answer_of_number (Refused SheetMalformed) = refl
answer_of_number (Refused LimitPassed) = refl
answer_of_number (Refused NameTwice) = refl
answer_of_number (Refused NoAttribute) = refl
answer_of_number (Refused OtherKind) = refl
answer_of_number (Refused NotSuited) = refl
answer_of_number (Refused IdLive) = refl
answer_of_number (Refused IdNotLive) = refl
answer_of_number (Refused NoRoom) = refl
answer_of_number (Refused BookDamaged) = refl
answer_of_number (Refused BufferShort) = refl
answer_of_number (Refused EventUnsuited) = refl
answer_of_number NotSet = refl

pub one_number_each : (a b : Answer) → number a ≡ number b → a ≡ b
one_number_each a b e = sym (answer_of_number a) ∙ ap answer_of e ∙ answer_of_number b

pub done? : (a : Answer) → Dec (a ≡ Done)
done? a = elim (ℕ_discrete (number a) 0) [ yes e ↦ yes (one_number_each a Done e) | no n ↦ no (λ e. n (ap number e)) ]

pub then_done : (a b : Answer) → a ≡ Done → then a b ≡ b
then_done a b e = ap (λ (x : Answer). then x b) e

pub then_refused : (a b : Answer) → ¬ (a ≡ Done) → then a b ≡ a
then_refused Done b n = absurd (n refl)
then_refused (Refused r) b n = refl
then_refused NotSet b n = refl

pub then_both : (a b : Answer) → then a b ≡ Done → (a ≡ Done) × (b ≡ Done)
then_both a b e = elim (done? a) [ yes d ↦ (d, sym (then_done a b d) ∙ e) | no n ↦ absurd (n (sym (then_refused a b n) ∙ e)) ]
