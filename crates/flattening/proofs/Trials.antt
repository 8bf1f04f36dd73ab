-- Trial P1 on its sheet, by computing: the entries of not(a and not(b or c)) spell that tree, its codes are those of Or[not a, b, c],
-- and they read back to it. Assumes nothing.
use Rattle.std.specs.Prelude.{◌≡◌, refl, Bool, true, false, List, [], ◌∷◌, ℕ, ℤ, pos}
use Rattle.std.proofs.Common.{arith}
use Rattle.evaluation.specs.declared.Operator.TheVariants.{And, Or}
use Rattle.ast.specs.Trees.{Tree, Join, Not, Value, leaf, node, trees}
use Rattle.ast.specs.Flattening.{optimize}
use Rattle.sheets.specs.Entries.{natural_of, field_of}
use Rattle.sheets.specs.Spells.{shape_of, Spells}
use Rattle.flattening.specs.Codes.{predicate_code, codes_of}
use Rattle.flattening.specs.Running.{step_code, run_codes, read_back}
use Rattle.flattening.specs.Mapping.{map_flat, decode}
use Rattle.flattening.specs.Writing.{Ready}
use Rattle.flattening.proofs.OptimizeLaws.{sheet_ready}

-- an entry without tag and literal: an operator, or the variable of an attribute
abbrev bare : ℕ → ℕ → List ℤ → List ℤ
bare kind attribute rest = pos kind ∷ pos attribute ∷ pos 0 ∷ pos 0 ∷ pos 0 ∷ rest

-- not(a and not(b or c)), where a, b and c are the variables of attributes 0, 1 and 2
abbrev sheet : List ℤ
sheet = pos 7 ∷ bare 3 0 (bare 1 0 (bare 10 0 (bare 3 0 (bare 2 0 (bare 10 1 (bare 10 2 []))))))

abbrev tree : Tree ℕ
tree = Not (Join And (Value 2) (Not (Join Or (Value 5) (Value 6))))

pub p1_spelled : Spells 1 sheet tree 0 7
unfolding Spells shape_of natural_of
p1_spelled = (refl, (3, refl, (refl, refl, refl), (refl, (6, refl, (refl, refl, refl), (refl, refl, refl)))))

-- so the sheet can be optimized
pub p1_ready : Ready 1 sheet 0 0 128
p1_ready = sheet_ready 1 sheet 7 (omega arith) tree p1_spelled (omega arith)

pub p1_codes : codes_of (optimize predicate_code tree) ≡ 5 ∷ 10 ∷ 12 ∷ 263 ∷ []
p1_codes = refl

pub p1_read : read_back (5 ∷ 10 ∷ 12 ∷ 263 ∷ []) ≡ node Or (trees (leaf 5 ∷ leaf 10 ∷ leaf 12 ∷ [])) ∷ []
unfolding run_codes step_code
p1_read = refl

-- over the attributes: Or[not a, b, c]
abbrev variable : Bool → ℕ → Bool × ℕ
variable negate attribute = (negate, attribute)

pub p1_variables : map_flat (decode variable (λ i. field_of 1 sheet i 1)) (optimize predicate_code tree)
    ≡ node Or (trees (leaf (true, 0) ∷ leaf (false, 1) ∷ leaf (false, 2) ∷ []))
unfolding natural_of
p1_variables = refl
