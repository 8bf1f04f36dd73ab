-- Flattening: Not is pushed to the predicates, nested equal operators are joined, the order is kept.
-- The negation of predicates is a parameter. Laws in `FlatteningLaws`. Assumes nothing: these are definitions.
use Rattle.std.specs.Prelude.{◌≢◌, Bool, false, not, ◌≤◌, length}
use Rattle.evaluation.specs.declared.Operator.{Operator}
use Rattle.evaluation.specs.declared.Operator.TheVariants.{And, Or}
use Rattle.evaluation.specs.Kleene.{operator_under}
use Rattle.ast.specs.Trees.{Tree, Join, Not, Value, Flat, leaf, node, Flats, done, more, kids}

-- one child, and children after children
abbrev pub one : {Q : Type 0} → Flat Q → Flats Q
one f = more f done

infixr 60 ◌⧺◌
abbrev pub ◌⧺◌ : {Q : Type 0} → Flats Q → Flats Q → Flats Q
done ⧺ gs = gs
more f fs ⧺ gs = more f (fs ⧺ gs)

-- what a flattened rule brings to an operator above it (`collect` in the Rust): its children where it has that operator, else itself
abbrev pub splice : {Q : Type 0} → Operator → Flat Q → Flats Q
splice o (leaf q) = one (leaf q)
splice And (node And fs) = fs
splice And (node Or fs) = one (node Or fs)
splice Or (node And fs) = one (node And fs)
splice Or (node Or fs) = fs

abbrev pub joined : {Q : Type 0} → Operator → Flat Q → Flat Q → Flat Q
joined o f g = node o (splice o f ⧺ splice o g)

-- a tree under Nots, `negate` being true where their number is odd (`zero_suppression_filter`).
-- `lit negate p` is the predicate p as the book keeps it, negated where `negate` is true.
abbrev pub flat : {P Q : Type 0} → (Bool → P → Q) → Bool → Tree P → Flat Q
flat lit negate (Join o a b) = joined (operator_under negate o) (flat lit negate a) (flat lit negate b)
flat lit negate (Not a) = flat lit (not negate) a
flat lit negate (Value p) = leaf (lit negate p)

-- a rule, which stands under no Not
abbrev pub optimize : {P Q : Type 0} → (Bool → P → Q) → Tree P → Flat Q
optimize lit t = flat lit false t

-- f is not a node of operator o
abbrev pub Unlike : {Q : Type 0} → Operator → Flat Q → Type 0
Unlike o (leaf q) = Unit {0}
Unlike o (node o' fs) = o ≢ o'

-- every node has at least two children, none of them with its own operator
abbrev mutual
  pub Flattened : {Q : Type 0} → Flat Q → Type 0
  Flattened (leaf q) = Unit {0}
  Flattened (node o fs) = (2 ≤ length (kids fs)) × FlattenedUnder o fs

  pub FlattenedUnder : {Q : Type 0} → Operator → Flats Q → Type 0
  FlattenedUnder o done = Unit {0}
  FlattenedUnder o (more f fs) = Unlike o f × Flattened f × FlattenedUnder o fs
