-- Calls on a book and their answers. A rule is handed in as a sheet, of any type S: `refuses` is what a sheet is answered whatever the book
-- holds (Done where it has no fault), and `tree` the flattened rule that it spells. `most` are the limits of the room counts.
-- Laws in `CallsLaws`. Assumes nothing: these are definitions.
use Rattle.std.specs.Prelude.{Bool, true, false, cond, List, [], ◌∷◌, ℕ, eqb, leb}
use Rattle.std.proofs.Math.Option.{Option, none, some}
use Rattle.error.specs.Answers.{Answer, Done, Refused, number, then}
use Rattle.error.specs.declared.Refusal.TheVariants.{IdLive, IdNotLive, NoRoom}
use Rattle.lists.specs.And.{◌and◌}
use Rattle.predicates.specs.Predicate.{Predicate}
use Rattle.ast.specs.Trees.{Flat}
use Rattle.ast.specs.Room.{Counts}
use Rattle.model.specs.Rules.{lookup}
use Rattle.model.specs.Book.{Book, counts_in}
use Rattle.model.specs.Changes.{inserted, deleted}

-- what is asked under an id
pub data Act (S : Type 0) : Type 0 where
  insert : S → Act S
  delete : Act S

pub record Call (S : Type 0) : Type 0 where
  pub owner : ℕ
  pub id : ℕ
  pub act : Act S

-- ---- answers

-- 7 where the id is live, else the next check
abbrev pub where_free : {A : Type 0} → Option A → Answer → Answer
where_free none next = next
where_free (some x) next = Refused IdLive

-- 9 where there is no room
abbrev pub room_answer : Bool → Answer
room_answer true = Done
room_answer false = Refused NoRoom

-- an insert: the sheet's own faults, then the id, then the room
abbrev pub insert_answer : {A : Type 0} → Answer → Option A → Bool → Answer
insert_answer refusal found room = then refusal (where_free found (room_answer room))

-- a delete: 8 where the id is not live
abbrev pub delete_answer : {A : Type 0} → Option A → Answer
delete_answer none = Refused IdNotLive
delete_answer (some x) = Done

-- the answer to what is asked under an id: `found` is what is live under it, `room` whether a sheet finds room
abbrev pub answer_of : {A S : Type 0} → (S → Answer) → Option A → (S → Bool) → Act S → Answer
answer_of refuses found room (insert s) = insert_answer (refuses s) found (room s)
answer_of refuses found room delete = delete_answer found

-- ---- one call after the other

-- what answers calls: the answer to one, and what it leaves where that is Done
pub record Machine (X S : Type 0) : Type 0 where
  pub answer : X → Call S → Answer
  pub changed : X → Call S → X

-- the new where the answer is Done, else the old: a refusal changes nothing
abbrev pub unless : {A : Type 0} → Answer → A → A → A
unless a new old = cond (eqb (number a) 0) new old

abbrev pub next : {X S : Type 0} → Machine X S → X → Call S → X
next m x c = unless (m.answer x c) (m.changed x c) x

-- a call with what it was answered
pub record Told (S : Type 0) : Type 0 where
  pub call : Call S
  pub answer : Answer

abbrev pub run : {X S : Type 0} → Machine X S → X → List (Call S) → List (Told S)
run m x [] = []
run m x (c ∷ l) = record { call = c; answer = m.answer x c } ∷ run m (next m x c) l

abbrev pub end : {X S : Type 0} → Machine X S → X → List (Call S) → X
end m x [] = x
end m x (c ∷ l) = end m (next m x c) l

-- ---- the book

-- no count passes its limit
unfoldable pub within : Counts → Counts → Bool
within c most =
    leb c.rules most.rules and leb c.parts most.parts and leb c.places most.places and leb c.elements most.elements

module _ {S : Type 0} (refuses : S → Answer) (tree : S → Flat Predicate) (most : Counts) where
  -- whether a sheet under an id finds room in a book
  abbrev pub room_in : Book → ℕ → S → Bool
  room_in b i s = within (counts_in (inserted b i (tree s))) most

  abbrev pub change_of : Book → ℕ → Act S → Book
  change_of b i (insert s) = inserted b i (tree s)
  change_of b i delete = deleted b i

  abbrev pub books : Machine Book S
  books = record {
    answer = λ b c. answer_of refuses (lookup c.id b.rules) (room_in b c.id) c.act;
    changed = λ b c. change_of b c.id c.act;
  }
