-- Laws of codes: what a code says is what it was made of, the codes of children after children, how many codes there are, and what holds
-- of every code of a flattened rule. Assumes nothing.
use Rattle.std.specs.Prelude.{◌≡◌, refl, Bool, true, false, not, List, [], ◌∷◌, ◌++◌, ℕ, ◌+◌, ◌*◌, ◌%◌, ◌≤◌, length}
use Rattle.std.proofs.Common.{sym, ap, ◌∙◌, append_assoc, append-nil, arith, length-append}
use Rattle.evaluation.specs.declared.Operator.{Operator}
use Rattle.evaluation.specs.declared.Operator.TheVariants.{And, Or}
use Rattle.evaluation.specs.Kleene.{operator_under}
use Rattle.lists.specs.Places.{All, none, both}
use Rattle.lists.proofs.PlacesLaws.{all_append}
use Rattle.ast.specs.Trees.{Tree, Join, Not, Value, entries, Flat, leaf, node, Flats, done, more, kids}
use Rattle.ast.specs.Flattening.{one, ◌⧺◌, splice, flat, Flattened, FlattenedUnder}
use Rattle.flattening.specs.Codes.{predicate_code, operator_code, codes_of, codes_under, code_entry, code_negated}
use Rattle.flattening.specs.Codes.{code_operator, code_count, Leaves, LeavesUnder}

-- ---- a code says what it was made of

pub entry_code : (negate : Bool) (i : ℕ) → code_entry (predicate_code negate i) ≡ i
entry_code false i = omega arith
entry_code true i = omega arith

pub negated_code : (negate : Bool) (i : ℕ) → code_negated (predicate_code negate i) ≡ negate
negated_code false i = let e : (2 * i + 0) % 2 ≡ 0 = omega arith in rw e
negated_code true i = let e : (2 * i + 1) % 2 ≡ 1 = omega arith in rw e

pub operator_code_lem : (o : Operator) (count : ℕ) → code_operator (operator_code o count) ≡ o
operator_code_lem And count = let e : (256 + 2 * count + 0) % 2 ≡ 0 = omega arith in rw e
operator_code_lem Or count = let e : (256 + 2 * count + 1) % 2 ≡ 1 = omega arith in rw e

pub count_code : (o : Operator) (count : ℕ) → code_count (operator_code o count) ≡ count
count_code And count = omega arith
count_code Or count = omega arith

pub operator_high : (o : Operator) (count : ℕ) → 256 ≤ operator_code o count
operator_high o count = omega arith

-- ---- children after children

pub codes_append : (fs gs : Flats ℕ) → codes_under (fs ⧺ gs) ≡ codes_under fs ++ codes_under gs
codes_append done gs = refl
codes_append (more f fs) gs =
    ap (λ (l : List ℕ). codes_of f ++ l) (codes_append fs gs) ∙ sym (append_assoc (codes_of f) (codes_under fs) (codes_under gs))

pub codes_one : (f : Flat ℕ) → codes_under (one f) ≡ codes_of f
codes_one f = append-nil (codes_of f)

-- ---- how many

pub node_long : (o : Operator) (fs : Flats ℕ) → length (codes_of (node o fs)) ≡ length (codes_under fs) + 1
node_long o fs = length-append (codes_under fs) (operator_code o (length (kids fs)) ∷ [])

codes_some : (f : Flat ℕ) → 1 ≤ length (codes_of f)
codes_some (leaf c) = omega arith
codes_some (node o fs) = omega (arith, node_long o fs)

-- each child has a code
pub kids_most : (fs : Flats ℕ) → length (kids fs) ≤ length (codes_under fs)
kids_most done = omega arith
kids_most (more f fs) = omega (arith, codes_some f, kids_most fs, length-append (codes_of f) (codes_under fs))

splice_most : (o : Operator) (f : Flat ℕ) → length (codes_under (splice o f)) ≤ length (codes_of f)
splice_most o (leaf c) = omega arith
splice_most And (node And fs) = omega (arith, node_long And fs)
splice_most And (node Or fs) = omega (arith, ap length (codes_one (node Or fs)))
splice_most Or (node And fs) = omega (arith, ap length (codes_one (node And fs)))
splice_most Or (node Or fs) = omega (arith, node_long Or fs)

-- a flattened tree has no more codes than the tree has entries, whatever its predicates are coded as
module _ {P : Type 0} (lit : Bool → P → ℕ) where
  pub codes_most : (negate : Bool) (t : Tree P) → length (codes_of (flat lit negate t)) ≤ entries t
  codes_most negate (Join o a b) =
      let o' = operator_under negate o in
      let fs = splice o' (flat lit negate a) in
      let gs = splice o' (flat lit negate b) in
      omega (
        arith,
        node_long o' (fs ⧺ gs),
        ap length (codes_append fs gs),
        length-append (codes_under fs) (codes_under gs),
        splice_most o' (flat lit negate a),
        splice_most o' (flat lit negate b),
        codes_most negate a,
        codes_most negate b,
      )
  codes_most negate (Not a) = omega (arith, codes_most (not negate) a)
  codes_most negate (Value p) = omega arith

  pub spliced_most : (o : Operator) (negate : Bool) (t : Tree P) → length (codes_under (splice o (flat lit negate t))) ≤ entries t
  spliced_most o negate t = omega (arith, splice_most o (flat lit negate t), codes_most negate t)

-- ---- what holds of every predicate of a rule

module _ {Q : Type 0} (P : Q → Type 0) where
  pub leaves_append : (fs gs : Flats Q) → LeavesUnder P fs → LeavesUnder P gs → LeavesUnder P (fs ⧺ gs)
  leaves_append done gs h k = k
  leaves_append (more f fs) gs h k = (h.0, leaves_append fs gs h.1 k)

  pub leaves_splice : (o : Operator) (f : Flat Q) → Leaves P f → LeavesUnder P (splice o f)
  leaves_splice o (leaf q) h = (h, tt)
  leaves_splice And (node And fs) h = h
  leaves_splice And (node Or fs) h = (h, tt)
  leaves_splice Or (node And fs) h = (h, tt)
  leaves_splice Or (node Or fs) h = h

module _ {Q : Type 0} {P R : Q → Type 0} (imply : (q : Q) → P q → R q) where
  mutual
    pub leaves_map : (f : Flat Q) → Leaves P f → Leaves R f
    leaves_map (leaf q) h = imply q h
    leaves_map (node o fs) h = leaves_map_under fs h

    leaves_map_under : (fs : Flats Q) → LeavesUnder P fs → LeavesUnder R fs
    leaves_map_under done h = tt
    leaves_map_under (more f fs) h = (leaves_map f h.0, leaves_map_under fs h.1)

-- ---- what holds of every code: where it holds of the predicates, and of the operators over two children or more
module _ {P : ℕ → Type 0} (operators : (o : Operator) (count : ℕ) → 2 ≤ count → P (operator_code o count)) where
  mutual
    pub codes_all : (f : Flat ℕ) → Flattened f → Leaves P f → All P (codes_of f)
    codes_all (leaf c) h p = both p none
    codes_all (node o fs) h p = all_append (codes_all_under o fs h.1 p) (both (operators o (length (kids fs)) h.0) none)

    codes_all_under : (o : Operator) (fs : Flats ℕ) → FlattenedUnder o fs → LeavesUnder P fs → All P (codes_under fs)
    codes_all_under o done h p = none
    codes_all_under o (more f fs) h p = all_append (codes_all f h.1 p.0) (codes_all_under o fs h.2 p.1)
