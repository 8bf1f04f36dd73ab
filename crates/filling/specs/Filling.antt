-- What filling an event with a reading answers, and the event that it leaves. Laws in `FillingLaws`.
-- Assumes nothing.
use Rattle.std.specs.Prelude.{Bool, true, false, cond, Option, None, Some, Result, Ok, Err, List, ℕ, eqb, ℤ}
use Rattle.std.specs.Option.{is_some}
use Rattle.error.specs.Answers.{Answer, Done, Refused, NotSet, number, then}
use Rattle.error.specs.declared.Refusal.{Refusal}
use Rattle.error.specs.declared.Refusal.TheVariants.{LimitPassed, NoAttribute, OtherKind, EventUnsuited}
use Rattle.attributes.specs.declared.AttributeId.{AttributeId}
use Rattle.attributes.specs.Table.{kind_at, by_name}
use Rattle.events.specs.declared.Event.{Event}
use Rattle.events.specs.Suits.{suits_of}
use Rattle.filling.specs.declared.Reading.{Reading}
use Rattle.filling.specs.declared.Reading.TheVariants.{Undefined}
use Rattle.filling.specs.declared.Filled.{Filled}
use Rattle.filling.specs.declared.Setting.{Setting}
use Rattle.filling.specs.declared.Setting.TheVariants as setting
use Rattle.filling.specs.Readings.{of_kind, within_limits}
use Rattle.filling.specs.Setting.{with_reading}

-- ---- the refusals, in their order

-- the answer that refuses, unless the check holds
abbrev pub refuse : Bool → Answer → Answer
refuse true answer = Done
refuse false answer = answer

-- the place of the attribute that was found
abbrev pub place_of : Option AttributeId → ℕ
place_of (Some i) = i.0
place_of None = 0

-- whether the event suits the table is settled first, and handed in
unfoldable pub refusal_of : Bool → List ℕ → List ℕ → Reading → List ℤ → Answer
refusal_of suited t name reading list =
    then (refuse suited (Refused EventUnsuited))
    (then (refuse (is_some (by_name t name)) (Refused NoAttribute))
    (then (refuse (of_kind reading (kind_at t (place_of (by_name t name)))) (Refused OtherKind))
    (refuse (within_limits reading list) (Refused LimitPassed))))

abbrev pub is_done : Answer → Bool
is_done answer = eqb (number answer) (number Done)

-- what an answer says of a place: it is given, unless the answer refuses
abbrev pub placed : Answer → ℕ → Result ℕ Refusal
placed Done i = Ok i
placed (Refused r) i = Err r
placed NotSet i = Ok i

-- where the reading goes, or why it does not
unfoldable pub place_for : Bool → List ℕ → List ℕ → Reading → List ℤ → Result ℕ Refusal
place_for suited t name reading list = placed (refusal_of suited t name reading list) (place_of (by_name t name))

-- ---- the answer and the event

-- what filling gives for an answer
abbrev pub given_for : Answer → Result Setting Refusal
given_for Done = Ok setting.Set
given_for (Refused r) = Err r
given_for NotSet = Ok setting.NotSet

-- and the answer that it gives
abbrev pub answer_of : Result Setting Refusal → Answer
answer_of (Ok setting.Set) = Done
answer_of (Ok setting.NotSet) = NotSet
answer_of (Err r) = Refused r

abbrev pub answer_number : Filled → ℕ
answer_number f = number (answer_of f.answer)

-- an answer, and the event with it
abbrev pub handed_back : Result Setting Refusal → Event → Filled
handed_back given e = record { answer = given; event = e }

abbrev pub outcome : Answer → Event → Filled
outcome answer e = record { answer = given_for answer; event = e }

-- what was done, unless a refusal stands: that leaves the event as it was
abbrev pub unless : Answer → Filled → Event → Filled
unless refusal done e = cond (is_done refusal) done (outcome refusal e)

-- a reading that is not fresh makes its attribute undefined
unfoldable pub filled_when : Bool → List ℕ → Event → List ℕ → Reading → List ℤ → Filled
filled_when fresh t e name reading list =
    unless (refusal_of (suits_of t e) t name reading list)
    (outcome (refuse fresh NotSet) (with_reading e (place_of (by_name t name)) (cond fresh reading Undefined) list)) e

-- a reading that bears no date is fresh
abbrev pub filled_of : List ℕ → Event → List ℕ → Reading → List ℤ → Filled
filled_of t e name reading list = filled_when true t e name reading list
