-- A flattened rule in postfix, as numbers. A predicate is twice the number of its entry, and one more where it is negated. An operator
-- stands after its children: 256, plus twice their number, plus one for Or. A sheet has at most 128 entries, so a predicate is below 256.
-- Laws in `CodesLaws`. Assumes nothing: these are definitions.
use Rattle.std.specs.Prelude.{Bool, true, false, cond, List, [], ◌∷◌, ◌++◌, ℕ, ◌+◌, ◌-◌, ◌*◌, ◌/◌, ◌%◌, eqb, length}
use Rattle.evaluation.specs.declared.Operator.{Operator}
use Rattle.evaluation.specs.declared.Operator.TheVariants.{And, Or}
use Rattle.ast.specs.Trees.{Flat, leaf, node, Flats, done, more, kids}

-- ---- from a rule to its codes

abbrev pub negate_bit : Bool → ℕ
negate_bit false = 0
negate_bit true = 1

abbrev pub predicate_code : Bool → ℕ → ℕ
predicate_code negate i = 2 * i + negate_bit negate

abbrev pub or_bit : Operator → ℕ
or_bit And = 0
or_bit Or = 1

abbrev pub operator_code : Operator → ℕ → ℕ
operator_code o count = 256 + 2 * count + or_bit o

abbrev mutual
  pub codes_of : Flat ℕ → List ℕ
  codes_of (leaf c) = c ∷ []
  codes_of (node o fs) = codes_under fs ++ (operator_code o (length (kids fs)) ∷ [])

  pub codes_under : Flats ℕ → List ℕ
  codes_under done = []
  codes_under (more f fs) = codes_of f ++ codes_under fs

-- ---- from a code to what it says

-- of a predicate: its entry, and whether it is negated
abbrev pub code_entry : ℕ → ℕ
code_entry c = c / 2

abbrev pub code_negated : ℕ → Bool
code_negated c = eqb (c % 2) 1

-- of an operator: which it is, and the number of its children
abbrev pub code_operator : ℕ → Operator
code_operator c = cond (eqb (c % 2) 1) Or And

abbrev pub code_count : ℕ → ℕ
code_count c = (c - 256) / 2

-- every predicate of a flattened rule has P
abbrev mutual
  pub Leaves : {Q : Type 0} → (Q → Type 0) → Flat Q → Type 0
  Leaves P (leaf q) = P q
  Leaves P (node o fs) = LeavesUnder P fs

  pub LeavesUnder : {Q : Type 0} → (Q → Type 0) → Flats Q → Type 0
  LeavesUnder P done = Unit {0}
  LeavesUnder P (more f fs) = Leaves P f × LeavesUnder P fs
