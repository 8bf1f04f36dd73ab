-- What a caller may rely on of filling an event, dated or not, over a sound table.
--     done_taken      an answer of 0: the reading is set, every other attribute stays, and the event suits the table
--     old_taken       an answer of 40: the same with the attribute undefined
--     refused_same    any other answer: the event as it was
--     filled_keeps    whatever the answer, the event keeps its shape, and suits the table if it did
-- `fresh` is true where a reading bears no date, so that each law speaks of both calls.
-- Assumes nothing.
use Rattle.std.specs.Prelude.{◌≡◌, Bool, cond, Some, ◌⊎◌, List, ℕ, ℤ}
use Rattle.std.specs.Option.{is_some}
use Rattle.std.proofs.Math.Path.{refl}
use Rattle.std.proofs.Math.Bool.{true, false}
use Rattle.std.proofs.Math.Logic.{inl, inr}
use Rattle.std.proofs.Common.{arith}
use Rattle.std.proofs.lemmas.Bool.{eqb-false}
use Rattle.lists.specs.Sets.{settled}
use Rattle.error.specs.Answers.{Answer, Done, NotSet, number}
use Rattle.error.proofs.AnswersLaws.{one_number_each}
use Rattle.attributes.specs.Table.{kind_at, by_name}
use Rattle.attributes.specs.Sound.{sound_table}
use Rattle.events.specs.declared.Event.{Event}
use Rattle.events.specs.Values.{is_list}
use Rattle.events.specs.Events.{Shaped, value_in, list_in}
use Rattle.events.specs.Suits.{suits_of, Suits}
use Rattle.events.proofs.SuitsLaws.{suits_iff}
use Rattle.filling.specs.declared.Filled.{Filled}
use Rattle.filling.specs.declared.Reading.{Reading}
use Rattle.filling.specs.declared.Reading.TheVariants.{Undefined}
use Rattle.filling.specs.Readings.{reading_number, of_kind, within_limits, value_given}
use Rattle.filling.specs.Setting.{with_reading}
use Rattle.filling.proofs.SettingLaws.{set_count, set_shaped, value_set, list_set, value_kept, list_kept, set_suits}
use Rattle.filling.specs.Filling.{refuse, place_of, refusal_of, is_done, answer_number, outcome, filled_when}
use Rattle.filling.proofs.FillingLaws.{Accepted, named_within, answer_back, checks, done, accepted}

-- f is e with the reading set for the attribute of that name
pub record Taken (t : List ℕ) (e : Event) (name : List ℕ) (reading : Reading) (list : List ℤ) (f : Event) : Type 0 where
  pub place : ℕ
  pub named : by_name t name ≡ Some (record { 0 = place })
  pub value : value_in f place ≡ value_given reading
  pub elements : is_list (reading_number reading) ≡ true → list_in f place ≡ settled list
  pub values : (j : ℕ) → (j ≡ place → ⊥) → value_in f j ≡ value_in e j
  pub lists : (j : ℕ) → (j ≡ place → ⊥) → list_in f j ≡ list_in e j
  pub count : f.count ≡ e.count
  pub shaped : Shaped f
  pub suits : Suits t f

module _ (t : List ℕ) (e : Event) (name : List ℕ) (reading : Reading) (list : List ℤ) where
  -- ---- filling by cases: no refusal, or one

  abbrev refusal : Answer
  refusal = refusal_of (suits_of t e) t name reading list

  abbrev filled : Bool → Filled
  filled fresh = filled_when fresh t e name reading list

  abbrev Set : Bool → Type 0
  Set fresh =
      (i : ℕ) × Accepted (suits_of t e) t name reading list i
      × (filled fresh ≡ outcome (refuse fresh NotSet) (with_reading e i (cond fresh reading Undefined) list))

  abbrev Kept : Bool → Type 0
  Kept fresh = (number refusal ≡ 0 → ⊥) × (filled fresh ≡ outcome refusal e)

  cases : (fresh : Bool) → Set fresh ⊎ Kept fresh
  unfolding filled_when
  cases fresh = go (is_done refusal) refl
    where
      go : (b : Bool) → is_done refusal ≡ b → Set fresh ⊎ Kept fresh
      go true q = inl (place_of (by_name t name), accepted (suits_of t e) t name reading list (done refusal q), rw q)
      go false q = inr (eqb-false (number refusal) 0 q, rw q)

  no_age : number refusal ≡ number NotSet → ⊥
  unfolding refusal_of
  no_age h =
      let place = by_name t name in
      checks (suits_of t e) (is_some place) (of_kind reading (kind_at t (place_of place))) (within_limits reading list)
      (one_number_each refusal NotSet h)

  -- ---- what each answer promises

  module _ (sound : sound_table t ≡ true) (s : Shaped e) where
    taken : (i : ℕ) → Accepted (suits_of t e) t name reading list i → (given : Reading) → of_kind given (kind_at t i) ≡ true
        → within_limits given list ≡ true → Taken t e name given list (with_reading e i given list)
    taken i a given k h =
        let within = named_within t name _ sound a.named in
        record {
          place = i;
          named = a.named;
          value = value_set e s i within given list;
          elements = list_set e s i within given list h;
          values = λ j other. value_kept e i j other given list h;
          lists = λ j other. list_kept e i j other given list h;
          count = set_count e i given list;
          shaped = set_shaped e i s given list;
          suits = set_suits e s i within t given list ((suits_iff t e).0 a.suits) k h;
        }

    undefined : (i : ℕ) → Accepted (suits_of t e) t name reading list i → Taken t e name Undefined list (with_reading e i Undefined list)
    unfolding of_kind
    undefined i a = taken i a Undefined refl refl

    pub done_taken : (fresh : Bool) → answer_number (filled fresh) ≡ number Done
        → (fresh ≡ true) × Taken t e name reading list (filled fresh).event
    done_taken fresh h = go fresh (cases fresh) h
      where
        go : (f : Bool) → Set f ⊎ Kept f
            → answer_number (filled f) ≡ number Done
            → (f ≡ true) × Taken t e name reading list (filled f).event
        go true (inl p) k = (refl, rw p.2 (taken p.0 p.1 reading p.1.kind p.1.limits))
        go false (inl p) k = absurd (let z : ◌≡◌ {A = ℕ} 40 0 = rw p.2 at k in omega arith)
        go f (inr p) k = absurd (p.0 (rw (p.1, answer_back refusal) at k))

    pub old_taken : (fresh : Bool) → answer_number (filled fresh) ≡ number NotSet
        → (fresh ≡ false) × Taken t e name Undefined list (filled fresh).event
    old_taken fresh h = go fresh (cases fresh) h
      where
        go : (f : Bool) → Set f ⊎ Kept f
            → answer_number (filled f) ≡ number NotSet
            → (f ≡ false) × Taken t e name Undefined list (filled f).event
        go true (inl p) k = absurd (let z : ◌≡◌ {A = ℕ} 0 40 = rw p.2 at k in omega arith)
        go false (inl p) k = (refl, rw p.2 (undefined p.0 p.1))
        go f (inr p) k = absurd (no_age (rw (p.1, answer_back refusal) at k))

  pub refused_same : (fresh : Bool) → (answer_number (filled fresh) ≡ number Done → ⊥)
      → (answer_number (filled fresh) ≡ number NotSet → ⊥) → (filled fresh).event ≡ e
  refused_same fresh done old = go fresh (cases fresh) done old
    where
      go : (f : Bool) → Set f ⊎ Kept f
          → (answer_number (filled f) ≡ number Done → ⊥)
          → (answer_number (filled f) ≡ number NotSet → ⊥) → (filled f).event ≡ e
      go true (inl p) d o = absurd (d (rw p.2))
      go false (inl p) d o = absurd (o (rw p.2))
      go f (inr p) d o = rw p.1

  pub filled_keeps : sound_table t ≡ true → Shaped e → Suits t e → (fresh : Bool)
      → Shaped (filled fresh).event × Suits t (filled fresh).event
  filled_keeps sound s p fresh = go fresh (cases fresh)
    where
      go : (f : Bool) → Set f ⊎ Kept f
          → Shaped (filled f).event × Suits t (filled f).event
      go true (inl q) =
          let r = taken sound s q.0 q.1 reading q.1.kind q.1.limits in
          rw q.2 (r.shaped, r.suits)
      go false (inl q) = let r = undefined sound s q.0 q.1 in rw q.2 (r.shaped, r.suits)
      go f (inr q) = rw q.1 (s, p)
