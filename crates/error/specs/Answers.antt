-- The answers of a call, with the number of each: the table of document 01, a line for a row. Definitions of calls speak of an
-- `Answer`; a call that can be refused gives a `Result`, and `answered` says which answer that is.
-- Assumes nothing.
use Rattle.std.specs.Prelude.{ℕ, Result, Ok, Err}
use Rattle.error.specs.declared.Refusal.{Refusal}
use Rattle.error.specs.declared.Refusal.TheVariants.{SheetMalformed, LimitPassed, NameTwice, NoAttribute, OtherKind, NotSuited}
use Rattle.error.specs.declared.Refusal.TheVariants.{IdLive, IdNotLive, NoRoom, BookDamaged, BufferShort, EventUnsuited}

pub data Answer : Type 0 where
  -- the call did what it says
  Done : Answer
  -- it is refused, and changed nothing
  Refused : Refusal → Answer
  -- a dated value was out of date: its attribute is undefined now
  NotSet : Answer

abbrev pub refusal_number : Refusal → ℕ
-- the numbers handed in are no rule sheet
refusal_number SheetMalformed = 1
-- more than a limit allows (room in the book and a sheet's scale aside), or an event's word that is no word number
refusal_number LimitPassed = 2
-- an attribute's name is defined a second time
refusal_number NameTwice = 3
-- no attribute of that number or name
refusal_number NoAttribute = 4
-- the event's value is of another kind than its attribute
refusal_number OtherKind = 5
-- the predicate does not suit its attribute's kind
refusal_number NotSuited = 6
-- a rule of that id is live already
refusal_number IdLive = 7
-- no rule of that id is live
refusal_number IdNotLive = 8
-- a room count with the rule would pass its limit
refusal_number NoRoom = 9
-- the book lacks a mark of a sound one
refusal_number BookDamaged = 10
-- the report buffer has fewer places than there are live rules
refusal_number BufferShort = 11
-- the event does not suit the book
refusal_number EventUnsuited = 12

abbrev pub number : Answer → ℕ
number Done = 0
number (Refused r) = refusal_number r
number NotSet = 40

-- the checks of a call one after the other: the first that refuses gives the answer
abbrev pub then : Answer → Answer → Answer
then Done next = next
then (Refused r) next = Refused r
then NotSet next = NotSet

-- what a call gave, as an answer
abbrev pub answered : {A : Type 0} → Result A Refusal → Answer
answered (Ok a) = Done
answered (Err r) = Refused r
