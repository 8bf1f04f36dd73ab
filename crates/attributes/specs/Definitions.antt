-- What defining one attribute more answers, and the table that it leaves. Laws in `AddedLaws` and `DefinitionsLaws`.
-- Assumes nothing.
use Rattle.std.specs.Prelude.{Bool, cond, List, ◌∷◌, ◌++◌, ℕ, ◌+◌, ◌-◌, eqb, ltb, length, take, set, replicate}
use Rattle.std.specs.Option.{is_none}
use Rattle.std.proofs.lemmas.List.Edits.{sets}
use Rattle.error.specs.Answers.{Answer, Done, Refused, number}
use Rattle.error.specs.declared.Refusal.TheVariants.{LimitPassed, NameTwice}
use Rattle.lists.specs.And.{◌and◌}
use Rattle.attributes.specs.declared.Definition.{Definition}
use Rattle.attributes.specs.Kinds.{kind_number}
use Rattle.attributes.specs.Table.{attribute_limit, name_limit, record_at, is_between, count_of, by_name}

-- ---- the answer

-- the name defined: bytes past its length do not count
abbrev pub name_of : Definition → List ℕ
name_of d = take d.length d.name

-- the name has 1 to 32 bytes, and the table has room for one attribute more
abbrev pub within_limits : List ℕ → Definition → Bool
within_limits t d = is_between 1 d.length name_limit and ltb (count_of t) attribute_limit

unfoldable pub definition_answer : List ℕ → Definition → Answer
definition_answer t d =
    cond (within_limits t d) (cond (is_none (by_name t (name_of d))) Done (Refused NameTwice)) (Refused LimitPassed)

-- ---- the table

-- a name in the places of a record, with zeros after it
abbrev pub padded : List ℕ → List ℕ
padded n = n ++ replicate (name_limit - length n) 0

abbrev pub record_of : ℕ → List ℕ → List ℕ
record_of kind n = kind ∷ length n ∷ padded n

-- one attribute more, of a kind's number and a name: it is counted, and its record is stored after the others
unfoldable pub added : List ℕ → ℕ → List ℕ → List ℕ
added t kind n = sets (set t 0 (count_of t + 1)) (record_at (count_of t)) (record_of kind n)

abbrev pub defined : List ℕ → Definition → List ℕ
defined t d = added t (kind_number d.kind) (name_of d)

-- ---- both

pub record Outcome : Type 0 where
  pub answer : ℕ
  pub table : List ℕ

abbrev pub outcome : ℕ → List ℕ → Outcome
outcome n t = record { answer = n; table = t }

-- a refusal leaves the table as it was
unfoldable pub defined_of : List ℕ → Definition → Outcome
defined_of t d =
    outcome (number (definition_answer t d)) (cond (eqb (number (definition_answer t d)) 0) (defined t d) t)
