-- What a refusal is shown as. Assumes nothing.
use Rattle.std.specs.Prelude.{ℕ, List, codes}
use Rattle.error.specs.declared.Refusal.{Refusal}
use Rattle.error.specs.declared.Refusal.TheVariants.{SheetMalformed, LimitPassed, NameTwice, NoAttribute, OtherKind, NotSuited}
use Rattle.error.specs.declared.Refusal.TheVariants.{IdLive, IdNotLive, NoRoom, BookDamaged, BufferShort, EventUnsuited}

abbrev pub refusal_text : Refusal → List ℕ
refusal_text SheetMalformed = codes "the numbers handed in are no rule sheet"
refusal_text LimitPassed = codes "a limit is passed"
refusal_text NameTwice = codes "an attribute's name is defined twice"
refusal_text NoAttribute = codes "there is no such attribute"
refusal_text OtherKind = codes "an event's value is of another kind"
refusal_text NotSuited = codes "a predicate does not suit its attribute's kind"
refusal_text IdLive = codes "the rule id is live already"
refusal_text IdNotLive = codes "the rule id to delete is not live"
refusal_text NoRoom = codes "a room count would pass its limit"
refusal_text BookDamaged = codes "the book lacks a mark of a sound one"
refusal_text BufferShort = codes "the report buffer is shorter than the number of live rules"
refusal_text EventUnsuited = codes "the event does not suit the book"
