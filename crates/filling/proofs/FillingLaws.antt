-- Laws of the refusals.
--     named_within                                                           what is found by name is a place of an event
--     kind_none, kind_some                                                   a reading of no kind suits every attribute, and one of a kind
--                                                                            those of its own
--     place_unsuited, place_nowhere, place_kind, place_limit, place_there    where a reading goes, check by check
--     answer_back                                                            what filling gives for an answer is that answer
--     place_done, place_refused                                              a reading with a place is refused by no check, and one that is
--                                                                            refused has the refusal for its answer
--     done, accepted, filled_at                                              a reading that no check refuses passed every one, and is set
--                                                                            at its place
--     filled_refused                                                         a refusal is given, and the event as it was
-- Assumes nothing.
use Rattle.std.specs.Prelude.{◌≡◌, Bool, true, false, cond, Option, None, Some, Ok, Err, List, ℕ, ◌<◌, ℤ}
use Rattle.std.proofs.Math.Path.{refl}
use Rattle.std.proofs.Common.{arith, sym, eqb, eqb-true, ne_eqb}
use Rattle.std.specs.Option.{is_some}
use Rattle.error.specs.Answers.{Answer, Done, Refused, NotSet, number, then}
use Rattle.error.specs.declared.Refusal.{Refusal}
use Rattle.error.specs.declared.Refusal.TheVariants.{LimitPassed, NoAttribute, OtherKind, EventUnsuited}
use Rattle.error.proofs.AnswersLaws.{one_number_each}
use Rattle.attributes.specs.declared.AttributeId.{AttributeId}
use Rattle.attributes.specs.declared.AttributeKind.{AttributeKind}
use Rattle.attributes.specs.Kinds.{kind_number}
use Rattle.attributes.specs.KindsLaws.{kind_range}
use Rattle.attributes.specs.Table.{attribute_limit, kind_at, by_name}
use Rattle.attributes.specs.TableLaws.{by_name_named}
use Rattle.attributes.specs.Sound.{sound_table}
use Rattle.attributes.specs.SoundLaws.{sound_few}
use Rattle.events.specs.declared.Event.{Event}
use Rattle.events.specs.Values.{kind_number_or}
use Rattle.events.specs.Suits.{suits_of}
use Rattle.filling.specs.declared.Reading.{Reading}
use Rattle.filling.specs.declared.Reading.TheVariants.{Undefined}
use Rattle.filling.specs.Readings.{reading_number, of_kind, within_limits}
use Rattle.filling.specs.Setting.{with_reading}
use Rattle.filling.specs.Filling.{refuse, place_of, refusal_of, is_done, placed, place_for, given_for, answer_of, outcome, filled_when}

-- what holds where a reading has the place i
pub record Accepted (suited : Bool) (t name : List ℕ) (reading : Reading) (list : List ℤ) (i : ℕ) : Type 0 where
  pub suits : suited ≡ true
  pub named : by_name t name ≡ Some (record { 0 = i })
  pub kind : of_kind reading (kind_at t i) ≡ true
  pub limits : within_limits reading list ≡ true

pub named_within : (t name : List ℕ) (id : AttributeId) → sound_table t ≡ true → by_name t name ≡ Some id → id.0 < attribute_limit
named_within t name id sound e = omega (arith, (by_name_named t name id e).0, sound_few t sound)

-- ---- a reading's kind: none suits every attribute, and one suits its own

pub kind_none : (r : Reading) (own : ℕ) → kind_number_or None ≡ reading_number r → true ≡ of_kind r own
unfolding of_kind
kind_none r own h = rw (sym h)

pub kind_some : (r : Reading) (own : ℕ) (kind : AttributeKind) → kind_number_or (Some kind) ≡ reading_number r
    → eqb (kind_number kind) own ≡ of_kind r own
unfolding of_kind
kind_some r own kind h = rw (sym h, ne_eqb (kind_number kind) 0 (λ e. omega (arith, (kind_range kind).0)))

-- ---- where a reading goes

module _ (t name : List ℕ) (reading : Reading) (list : List ℤ) where
  pub place_unsuited : place_for false t name reading list ≡ Err EventUnsuited
  unfolding place_for refusal_of
  place_unsuited = refl

  pub place_nowhere : by_name t name ≡ None → place_for true t name reading list ≡ Err NoAttribute
  unfolding place_for refusal_of
  place_nowhere e = rw e

  module _ (id : AttributeId) (e : by_name t name ≡ Some id) where
    pub place_kind : of_kind reading (kind_at t id.0) ≡ false → place_for true t name reading list ≡ Err OtherKind
    unfolding place_for refusal_of
    place_kind k = rw (e, k)

    pub place_limit : of_kind reading (kind_at t id.0) ≡ true → within_limits reading list ≡ false
        → place_for true t name reading list ≡ Err LimitPassed
    unfolding place_for refusal_of
    place_limit k l = rw (e, k, l)

    pub place_there : of_kind reading (kind_at t id.0) ≡ true → within_limits reading list ≡ true
        → place_for true t name reading list ≡ Ok id.0
    unfolding place_for refusal_of
    place_there k l = rw (e, k, l)

-- ---- what a place, or a refusal, says

pub answer_back : (a : Answer) → answer_of (given_for a) ≡ a
answer_back Done = refl
answer_back (Refused r) = refl
answer_back NotSet = refl

done_means : (suited known kind limits : Bool)
    → then (refuse suited (Refused EventUnsuited)) (then (refuse known (Refused NoAttribute))
    (then (refuse kind (Refused OtherKind)) (refuse limits (Refused LimitPassed)))) ≡ Done
    → (suited ≡ true) × (known ≡ true) × (kind ≡ true) × (limits ≡ true)
done_means true true true true h = (refl, refl, refl, refl)
done_means true true true false h = absurd (cc)
done_means true true false limits h = absurd (cc)
done_means true false kind limits h = absurd (cc)
done_means false known kind limits h = absurd (cc)

found_at : (f : Option AttributeId) → is_some f ≡ true → f ≡ Some (record { 0 = place_of f })
found_at (Some i) h = refl
found_at None h = absurd (cc)

refused_counts : (r : Refusal) → is_done (Refused r) ≡ false
refused_counts r = ne_eqb (number (Refused r)) (number Done) (λ e. let same = one_number_each (Refused r) Done e in cc)

pub done : (a : Answer) → is_done a ≡ true → a ≡ Done
done a h = one_number_each a Done (eqb-true (number a) (number Done) h)

-- the four checks refuse, but never for a reading's age
pub checks : (suited known kind limits : Bool)
    → then (refuse suited (Refused EventUnsuited)) (then (refuse known (Refused NoAttribute))
    (then (refuse kind (Refused OtherKind)) (refuse limits (Refused LimitPassed)))) ≡ NotSet → ⊥
checks true true true true h = cc
checks true true true false h = cc
checks true true false limits h = cc
checks true false kind limits h = cc
checks false known kind limits h = cc

-- an answer that gives a place, and one that refuses
chose_at : (a : Answer) → (a ≡ NotSet → ⊥) → (i j : ℕ) → placed a i ≡ Ok j → (a ≡ Done) × (i ≡ j)
chose_at Done n i j h = (refl, cc)
chose_at (Refused r) n i j h = absurd (cc)
chose_at NotSet n i j h = absurd (n refl)

chose_refused : (a : Answer) (i : ℕ) (r : Refusal) → placed a i ≡ Err r → a ≡ Refused r
chose_refused Done i r h = absurd (cc)
chose_refused (Refused q) i r h = cc
chose_refused NotSet i r h = absurd (cc)

module _ (suited : Bool) (t name : List ℕ) (reading : Reading) (list : List ℤ) where
  pub place_done : (i : ℕ) → place_for suited t name reading list ≡ Ok i
      → (refusal_of suited t name reading list ≡ Done) × (place_of (by_name t name) ≡ i)
  unfolding place_for refusal_of
  place_done i h =
      let place = by_name t name in
      chose_at _ (checks suited (is_some place) (of_kind reading (kind_at t (place_of place))) (within_limits reading list)) _ i h

  pub place_refused : (r : Refusal) → place_for suited t name reading list ≡ Err r → refusal_of suited t name reading list ≡ Refused r
  unfolding place_for
  place_refused r h = chose_refused _ _ r h

  pub accepted : refusal_of suited t name reading list ≡ Done → Accepted suited t name reading list (place_of (by_name t name))
  unfolding refusal_of
  accepted h =
      let place = by_name t name in
      let d = done_means suited (is_some place) (of_kind reading (kind_at t (place_of place))) (within_limits reading list) h in
      record { suits = d.0; named = found_at place d.1; kind = d.2; limits = d.3 }

module _ (fresh : Bool) (t : List ℕ) (e : Event) (name : List ℕ) (reading : Reading) (list : List ℤ) where
  pub filled_at : refusal_of (suits_of t e) t name reading list ≡ Done → filled_when fresh t e name reading list
      ≡ outcome (refuse fresh NotSet) (with_reading e (place_of (by_name t name)) (cond fresh reading Undefined) list)
  unfolding filled_when
  filled_at h = rw h

  pub filled_refused : (r : Refusal) → refusal_of (suits_of t e) t name reading list ≡ Refused r
      → filled_when fresh t e name reading list ≡ outcome (Refused r) e
  unfolding filled_when
  filled_refused r h = rw (h, refused_counts r)
