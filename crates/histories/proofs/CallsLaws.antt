-- Laws of answers and of calls one after the other.
--   unless_done, unless_refused   what a call leaves
--   within_iff                    the test of the room counts is `Within`
--   Follows                       a machine answers as another does, from states that stand for one another: then it tells the same
--   run_alike, end_alike          in a run, and ends so
-- Assumes nothing.
use Rattle.std.specs.Prelude.{◌≡◌, refl, ◌↔◌, Bool, true, false, List, [], ◌∷◌, leb}
use Rattle.std.proofs.Common.{ap, ap₂, sym, ◌∙◌, subst, arith, leb-true, le-leb, ne_eqb}
use Rattle.std.proofs.Math.Option.{Option, none, some}
use Rattle.error.specs.Answers.{Answer, Done, Refused, number, then}
use Rattle.error.specs.declared.Refusal.TheVariants.{IdLive, NoRoom}
use Rattle.error.proofs.AnswersLaws.{one_number_each, done?, then_done, then_refused, then_both}
use Rattle.lists.specs.Places.{All, both}
use Rattle.lists.specs.And.{◌and◌}
use Rattle.lists.specs.AndLaws.{and_left, and_right, and_both}
use Rattle.ast.specs.Room.{Counts, Within}
use Rattle.histories.specs.Calls.{Act, insert, delete, Call, Told, Machine}
use Rattle.histories.specs.Calls.{where_free, room_answer, insert_answer, delete_answer, answer_of, unless, next, run, end, within}

-- ---- answers

module _ {A : Type 0} (a : Answer) (new old : A) where
  pub unless_done : a ≡ Done → unless a new old ≡ new
  unless_done e = ap (λ (x : Answer). unless x new old) e

  pub unless_refused : ¬ (a ≡ Done) → unless a new old ≡ old
  unless_refused n = rw (ne_eqb (number a) 0 (λ e. n (one_number_each a Done e)))

-- two answers differ where their numbers do
pub differ : (a b : Answer) → ¬ (number a ≡ number b) → ¬ (a ≡ b)
differ a b n e = n (ap number e)

-- what is live under the id: nothing in either, or something in both
abbrev pub BothOrNone : {A B : Type 0} → Option A → Option B → Type 0
BothOrNone none none = Unit {0}
BothOrNone none (some y) = ⊥
BothOrNone (some x) none = ⊥
BothOrNone (some x) (some y) = Unit {0}

module _ {A B : Type 0} where
  free_alike : (found : Option A) (found' : Option B) (room room' : Bool) → BothOrNone found found' → (found ≡ none → room ≡ room')
      → where_free found (room_answer room) ≡ where_free found' (room_answer room')
  free_alike none none room room' h k = ap room_answer (k refl)
  free_alike none (some y) room room' h k = absurd h
  free_alike (some x) none room room' h k = absurd h
  free_alike (some x) (some y) room room' h k = refl

  delete_alike : (found : Option A) (found' : Option B) → BothOrNone found found' → delete_answer found ≡ delete_answer found'
  delete_alike none none h = refl
  delete_alike none (some y) h = absurd h
  delete_alike (some x) none h = absurd h
  delete_alike (some x) (some y) h = refl

  -- the answer goes by whether the id is live, and for a sheet without fault under a free id by whether there is room
  pub answer_alike : {S : Type 0} (refuses : S → Answer) (found : Option A) (found' : Option B) (room room' : S → Bool) (act : Act S)
      → BothOrNone found found' → ((s : S) → refuses s ≡ Done → found ≡ none → room s ≡ room' s)
      → answer_of refuses found room act ≡ answer_of refuses found' room' act
  answer_alike refuses found found' room room' (insert s) h k =
      elim (done? (refuses s)) [
        | yes e ↦ ap (then (refuses s)) (free_alike found found' (room s) (room' s) h (k s e))
        | no n ↦ then_refused (refuses s) _ n ∙ sym (then_refused (refuses s) _ n)
      ]
  answer_alike refuses found found' room room' delete h k = delete_alike found found' h

free_done : {A : Type 0} (found : Option A) (room : Bool) → where_free found (room_answer room) ≡ Done → (found ≡ none) × (room ≡ true)
free_done none true e = (refl, refl)
free_done none false e = absurd (differ (Refused NoRoom) Done (λ z. omega arith) e)
free_done (some x) room e = absurd (differ (Refused IdLive) Done (λ z. omega arith) e)

-- an insert is done exactly where the sheet has no fault, the id is free and there is room
pub insert_done : {A : Type 0} (refusal : Answer) (found : Option A) (room : Bool)
    → (insert_answer refusal found room ≡ Done) ↔ ((refusal ≡ Done) × (found ≡ none) × (room ≡ true))
insert_done refusal found room = (
  λ e. let h = then_both refusal (where_free found (room_answer room)) e in let k = free_done found room h.1 in (h.0, k.0, k.1),
  λ h. then_done refusal _ h.0 ∙ ap₂ (λ (o : Option _) (r : Bool). where_free o (room_answer r)) h.1 h.2,
)

-- with room for everything the answer is the same, but where it was refused for room
pub roomy_answer : {A S : Type 0} (refuses : S → Answer) (found : Option A) (room : S → Bool) (act : Act S)
    → ¬ (answer_of refuses found room act ≡ Refused NoRoom) → answer_of refuses found room act ≡ answer_of refuses found (λ s. true) act
roomy_answer refuses found room (insert s) n =
    elim (done? (refuses s)) [
      | yes e ↦ ap (then (refuses s)) (go found (room s) (λ k. n (then_done (refuses s) _ e ∙ k)))
      | no m ↦ then_refused (refuses s) _ m ∙ sym (then_refused (refuses s) _ m)
    ]
  where
    go : {A : Type 0} (found : Option A) (room : Bool) → ¬ (where_free found (room_answer room) ≡ Refused NoRoom)
        → where_free found (room_answer room) ≡ where_free found (room_answer true)
    go none true n = refl
    go none false n = absurd (n refl)
    go (some x) room n = refl
roomy_answer refuses found room delete n = refl

-- ---- room

pub within_iff : (c most : Counts) → (within c most ≡ true) ↔ Within c most
unfolding within
within_iff c most =
    let r = leb c.rules most.rules in
    let p = leb c.parts most.parts in
    let q = leb c.places most.places in
    let e = leb c.elements most.elements in (
      λ h. let front = and_left (r and p and q) e h in let first = and_left (r and p) q front in record {
        rules = leb-true c.rules most.rules (and_left r p first);
        parts = leb-true c.parts most.parts (and_right r p first);
        places = leb-true c.places most.places (and_right (r and p) q front);
        elements = leb-true c.elements most.elements (and_right (r and p and q) e h);
      },
      λ w.
          let first = and_both r p (le-leb c.rules most.rules w.rules) (le-leb c.parts most.parts w.parts) in
          and_both (r and p and q) e (and_both (r and p) q first (le-leb c.places most.places w.places))
          (le-leb c.elements most.elements w.elements),
    )

-- ---- machines that answer alike

-- `Stands` says which states stand for one another, and `Fine` is what is asked of each answer
pub record Follows {X Y S : Type 0} (m : Machine X S) (m' : Machine Y S) (Stands : X → Y → Type 0) (Fine : Answer → Type 0) : Type 0 where
  pub answers : (x : X) (y : Y) (c : Call S) → Stands x y → Fine (m.answer x c) → m.answer x c ≡ m'.answer y c
  pub changes : (x : X) (y : Y) (c : Call S) → Stands x y → m.answer x c ≡ Done → Stands (m.changed x c) (m'.changed y c)

-- each answer of a run is so
abbrev pub Each : {S : Type 0} → (Answer → Type 0) → List (Told S) → Type 0
Each Fine ts = All (λ t. Fine t.answer) ts

module _ {X Y S : Type 0} {m : Machine X S} {m' : Machine Y S} {Stands : X → Y → Type 0} {Fine : Answer → Type 0}
    (follows : Follows m m' Stands Fine) where
  next_alike : (x : X) (y : Y) (c : Call S) → Stands x y → Fine (m.answer x c) → Stands (next m x c) (next m' y c)
  next_alike x y c s f =
      let a = m.answer x c in
      let e = follows.answers x y c s f in
      elim (done? a) [
        | yes d ↦ subst (λ z. Stands z (next m' y c)) (sym (unless_done a _ x d))
            (subst (λ z. Stands (m.changed x c) z) (sym (unless_done (m'.answer y c) _ y (sym e ∙ d))) (follows.changes x y c s d))
        | no n ↦ subst (λ z. Stands z (next m' y c)) (sym (unless_refused a _ x n))
            (subst (λ z. Stands x z) (sym (unless_refused (m'.answer y c) _ y (λ d. n (e ∙ d)))) s)
      ]

  pub run_alike : (x : X) (y : Y) (l : List (Call S)) → Stands x y → Each Fine (run m x l) → run m x l ≡ run m' y l
  run_alike x y [] s h = refl
  run_alike x y (c ∷ l) s (both f h) =
      ap₂ (λ (a : Answer) (ts : List (Told S)). record { call = c; answer = a } ∷ ts) (follows.answers x y c s f)
      (run_alike (next m x c) (next m' y c) l (next_alike x y c s f) h)

  pub end_alike : (x : X) (y : Y) (l : List (Call S)) → Stands x y → Each Fine (run m x l) → Stands (end m x l) (end m' y l)
  end_alike x y [] s h = s
  end_alike x y (c ∷ l) s (both f h) = end_alike (next m x c) (next m' y c) l (next_alike x y c s f) h
