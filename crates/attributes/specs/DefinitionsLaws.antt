-- Laws of defining an attribute.
--     outcome_limit, outcome_twice, outcome_done    the outcome by cases
--     zero_done, zero_defined, refused_same         the outcome by its number
--     done_accepted, defines                        a definition taken into a sound table adds one attribute
--     outcome_length, outcome_sound                 the table stays as long as it was, and sound, refused or not
-- Assumes nothing.
use Rattle.std.specs.Prelude.{◌≡◌, refl, Bool, true, false, cond, List, ℕ, ◌≤◌, ◌<◌, length, None, Some}
use Rattle.std.specs.Option.{is_none}
use Rattle.std.proofs.Math.Decide.{ℕ_discrete}
use Rattle.std.proofs.Common.{arith, length-take-le}
use borrow.Author.Tests.{ltb-true, eq-eqb, ne_eqb}
use Rattle.error.specs.Answers.{Done, Refused, number}
use Rattle.error.specs.declared.Refusal.TheVariants.{LimitPassed, NameTwice}
use Rattle.error.proofs.AnswersLaws.{one_number_each}
use Rattle.lists.specs.AndLaws.{and_left, and_right}
use Rattle.attributes.specs.declared.AttributeId.{AttributeId}
use Rattle.attributes.specs.declared.Definition.{Definition}
use Rattle.attributes.specs.Kinds.{kind_number}
use Rattle.attributes.specs.KindsLaws.{kind_range}
use Rattle.attributes.specs.Table.{attribute_limit, name_limit, count_of, by_name}
use Rattle.attributes.specs.TableLaws.{between, nowhere_nothing}
use Rattle.attributes.specs.Sound.{Sound}
use Rattle.attributes.specs.Definitions.{name_of, within_limits, definition_answer, defined, outcome, defined_of}
use Rattle.attributes.specs.AddedLaws.{OneMore, added_length, one_more}

-- ---- the outcome by cases

module _ (t : List ℕ) (d : Definition) where
  pub outcome_limit : within_limits t d ≡ false → defined_of t d ≡ outcome (number (Refused LimitPassed)) t
  unfolding defined_of definition_answer
  outcome_limit h = rw h

  pub outcome_twice : (i : AttributeId) → within_limits t d ≡ true → by_name t (name_of d) ≡ Some i
      → defined_of t d ≡ outcome (number (Refused NameTwice)) t
  unfolding defined_of definition_answer
  outcome_twice i h e = rw (h, e)

  pub outcome_done : within_limits t d ≡ true → by_name t (name_of d) ≡ None
      → defined_of t d ≡ outcome (number Done) (defined t d)
  unfolding defined_of definition_answer
  outcome_done h e = rw (h, e)

-- ---- a definition taken into a sound table

-- what holds where a definition is taken
pub record Accepted (t : List ℕ) (d : Definition) : Type 0 where
  pub name : (1 ≤ d.length) × (d.length ≤ name_limit)
  pub room : count_of t < attribute_limit
  pub new : by_name t (name_of d) ≡ None

done_means : (limits new : Bool) → cond limits (cond new Done (Refused NameTwice)) (Refused LimitPassed) ≡ Done
    → (limits ≡ true) × (new ≡ true)
done_means true true h = (refl, refl)
done_means true false h = absurd (let z : ◌≡◌ {A = ℕ} 0 1 = cc in omega arith)
done_means false new h = absurd (let z : ◌≡◌ {A = ℕ} 0 1 = cc in omega arith)

module _ (t : List ℕ) (d : Definition) where
  pub done_accepted : definition_answer t d ≡ Done → Accepted t d
  unfolding definition_answer
  done_accepted h =
      let p = done_means (within_limits t d) (is_none (by_name t (name_of d))) h in
      record {
        name = between _ _ _ (and_left _ _ p.0);
        room = ltb-true _ _ (and_right _ _ p.0);
        new = nowhere_nothing (by_name t (name_of d)) p.1;
      }

  -- an answer of 0 is Done, and leaves the table with the definition; any other leaves the table as it was
  pub zero_done : (defined_of t d).answer ≡ 0 → definition_answer t d ≡ Done
  unfolding defined_of
  zero_done e = one_number_each (definition_answer t d) Done e

  pub zero_defined : (defined_of t d).answer ≡ 0 → (defined_of t d).table ≡ defined t d
  unfolding defined_of
  zero_defined e = rw (eq-eqb (number (definition_answer t d)) 0 e)

  pub refused_same : ((defined_of t d).answer ≡ 0 → ⊥) → (defined_of t d).table ≡ t
  unfolding defined_of
  refused_same f = rw (ne_eqb (number (definition_answer t d)) 0 f)

  pub outcome_length : length (defined_of t d).table ≡ length t
  outcome_length = go (ℕ_discrete (defined_of t d).answer 0)
    where
      go : Dec ((defined_of t d).answer ≡ 0) → length (defined_of t d).table ≡ length t
      go (yes e) = rw (zero_defined e) (added_length t (kind_number d.kind) (name_of d))
      go (no f) = rw (refused_same f)

  -- a definition's name has 32 places, as its type says
  module _ (s : Sound t) (places : length d.name ≡ name_limit) where
    pub defines : definition_answer t d ≡ Done → OneMore t (kind_number d.kind) (name_of d) (defined t d)
    defines h =
        let a = done_accepted h in
        let l : length (name_of d) ≡ d.length = length-take-le d.length d.name (omega (arith, a.name.1)) in
        one_more t (kind_number d.kind) (name_of d) s.size a.room (omega (arith, a.name.1))
        s (kind_range d.kind) (omega (arith, a.name.0)) a.new

    -- refused or not
    pub outcome_sound : Sound (defined_of t d).table
    outcome_sound = go (ℕ_discrete (defined_of t d).answer 0)
      where
        go : Dec ((defined_of t d).answer ≡ 0) → Sound (defined_of t d).table
        go (yes e) = rw (zero_defined e) (defines (zero_done e)).sound
        go (no f) = rw (refused_same f) s
