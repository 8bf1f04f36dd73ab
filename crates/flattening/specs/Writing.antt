-- What `flatten`, `collect` and `optimize` take and leave. No parameter names a tree, so they take a sheet in which there is one, and say
-- what they leave of whatever tree stands there. Assumes nothing: these are definitions.
use Rattle.std.specs.Prelude.{◌≡◌, Bool, List, ◌++◌, ℕ, ◌+◌, ◌-◌, ◌*◌, ◌<◌, ◌≤◌, length, replicate, ℤ}
use Rattle.std.proofs.lemmas.List.Edits.{sets}
use Rattle.evaluation.specs.declared.Operator.{Operator}
use Rattle.ast.specs.Trees.{Tree, Flats, kids}
use Rattle.ast.specs.Flattening.{one, splice, flat, optimize}
use Rattle.sheets.specs.Entries.{kind_of}
use Rattle.sheets.specs.declared.Shape.TheVariants.{Stands}
use Rattle.sheets.specs.Spells.{shape_of, Spells}
use Rattle.flattening.specs.Codes.{predicate_code, codes_of, codes_under, code_entry, code_count}
use Rattle.flattening.specs.declared.Written.{Written}
use Rattle.flattening.specs.declared.Optimized.{Optimized}

-- the entries from number i on begin with a tree, within the sheet, and from `at` on the output has a place for each of its entries
pub record Ready (first : ℕ) (s : List ℤ) (i at size : ℕ) : Type 0 where
  pub tree : Tree ℕ
  pub end : ℕ
  pub spells : Spells first s tree i end
  pub inside : first + 5 * end ≤ length s
  pub small : end ≤ 128
  pub room : at + end ≤ size + i

-- the flattened rules fs are written from `at` on, and the reading stands at entry j
pub record Wrote (fs : Flats ℕ) (j at : ℕ) (out out' : List ℕ) (r : Written) : Type 0 where
  pub read : r.next ≡ j
  pub ended : r.at ≡ at + length (codes_under fs)
  pub many : r.count ≡ length (kids fs)
  pub wrote : out' ≡ sets out at (codes_under fs)

-- the tree at entry i, flattened
abbrev pub Flattens : ℕ → List ℤ → ℕ → Bool → ℕ → List ℕ → List ℕ → Written → Type 0
Flattens first s i negate at out out' r =
    (t : Tree ℕ) (j : ℕ) → Spells first s t i j → Wrote (one (flat predicate_code negate t)) j at out out' r

-- what the tree at entry i, flattened, brings to an operator above it
abbrev pub Collects : Operator → ℕ → List ℤ → ℕ → Bool → ℕ → List ℕ → List ℕ → Written → Type 0
Collects o first s i negate at out out' r =
    (t : Tree ℕ) (j : ℕ) → Spells first s t i j → Wrote (splice o (flat predicate_code negate t)) j at out out' r

-- what a code of a sheet of n entries says: a predicate's names an entry that is a predicate, an operator's has two children at least
pub record CodeWithin (first : ℕ) (s : List ℤ) (n c : ℕ) : Type 0 where
  pub entry : c < 256 → code_entry c < n
  pub predicate : c < 256 → shape_of (kind_of first s (code_entry c)) ≡ Stands
  pub count : 256 ≤ c → 2 ≤ code_count c

-- the codes of a rule, and zeros after them
pub record Coded (rule : List ℕ) (r : Optimized) : Type 0 where
  pub count : r.count ≡ length rule
  pub codes : r.codes ≡ rule ++ replicate (128 - length rule) 0

-- the whole sheet, flattened
abbrev pub Optimizes : ℕ → List ℤ → Optimized → Type 0
Optimizes first s r = (t : Tree ℕ) (j : ℕ) → Spells first s t 0 j → Coded (codes_of (optimize predicate_code t)) r
