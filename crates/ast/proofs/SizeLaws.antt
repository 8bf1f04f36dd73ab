-- Laws of size: flattening makes no sheet longer, and the size of a flattened rule bounds its level and the number of its subexpressions.
-- Assumes nothing.
use Rattle.std.specs.Prelude.{◌≡◌, Bool, not, List, ℕ, suc, ◌+◌, ◌*◌, ◌≤◌, length}
use Rattle.std.proofs.Math.Path.{refl}
use Rattle.std.proofs.Common.{ap, length-append}
use native.Mathlib.Omega.{arith}
use Rattle.evaluation.specs.declared.Operator.{Operator}
use Rattle.evaluation.specs.declared.Operator.TheVariants.{And, Or}
use Rattle.evaluation.specs.Kleene.{operator_under}
use Rattle.lists.specs.Places.{sum}
use Rattle.lists.proofs.PlacesLaws.{sum_append}
use Rattle.ast.specs.Trees.{Tree, Join, Not, Value, entries, Flat, leaf, node, Flats, done, more, kids, folds}
use Rattle.ast.specs.Flattening.{splice, joined, flat, Flattened, FlattenedUnder}
use Rattle.ast.proofs.FlatteningLaws.{folds_append}
use Rattle.ast.specs.Parts.{subexpressions, subexpressions_under, greatest, total, level_over, level, size_over, size}

module _ {Q : Type 0} where
  abbrev sizes : Flats Q → List ℕ
  sizes fs = folds (λ q. 1) size_over fs

  abbrev levels : Flats Q → List ℕ
  levels fs = folds (λ q. 1) level_over fs

  -- ---- flattening

  splice_size : (o : Operator) (f : Flat Q) → size_over o (sizes (splice o f)) ≡ size f
  unfolding sum
  splice_size o (leaf q) = refl
  splice_size And (node And fs) = refl
  splice_size And (node Or fs) = omega arith
  splice_size Or (node And fs) = omega arith
  splice_size Or (node Or fs) = refl

  joined_size : (o : Operator) (f g : Flat Q) → size (joined o f g) ≤ 1 + size f + size g
  joined_size o f g =
      let l = sizes (splice o f) in
      let m = sizes (splice o g) in
      let e = folds_append (λ q. 1) size_over (splice o f) (splice o g) in
      omega (arith, ap total e, ap length e, sum_append (λ n. n) l m, length-append l m, splice_size o f, splice_size o g)

-- the flattened sheet of a tree is no longer than the tree's own
pub flat_size : {P Q : Type 0} (lit : Bool → P → Q) (negate : Bool) (t : Tree P) → size (flat lit negate t) ≤ entries t
flat_size lit negate (Join o a b) =
    let h = joined_size (operator_under negate o) (flat lit negate a) (flat lit negate b) in
    omega (arith, h, flat_size lit negate a, flat_size lit negate b)
flat_size lit negate (Not a) = omega (arith, flat_size lit (not negate) a)
flat_size lit negate (Value p) = omega arith

-- ---- flattened rules

module _ {Q : Type 0} where
  sizes_length : (fs : Flats Q) → length (sizes fs) ≡ length (kids fs)
  sizes_length done = refl
  sizes_length (more f fs) = ap suc (sizes_length fs)

  size_some : (f : Flat Q) → Flattened f → 1 ≤ size f
  size_some (leaf q) h = omega arith
  size_some (node o fs) h = omega (arith, h.0, sizes_length fs)

  sizes_some : (o : Operator) (fs : Flats Q) → FlattenedUnder o fs → length (kids fs) ≤ total (sizes fs)
  unfolding sum
  sizes_some o done h = omega arith
  sizes_some o (more f fs) h = omega (arith, size_some f h.1, sizes_some o fs h.2)

mutual
  unfolding sum

  -- a sheet of 128 entries has level 64 at most
  pub level_size : {Q : Type 0} (f : Flat Q) → Flattened f → 2 * level f ≤ 1 + size f
  level_size (leaf q) h = omega arith
  level_size (node o fs) h = omega (arith, h.0, levels_size o fs h.1, sizes_length fs)

  levels_size : {Q : Type 0} (o : Operator) (fs : Flats Q) → FlattenedUnder o fs
      → 2 * greatest (levels fs) + length (kids fs) ≤ 2 + total (sizes fs)
  levels_size o done h = omega arith
  levels_size o (more f fs) h = omega (arith, level_size f h.1, size_some f h.1, sizes_some o fs h.2, levels_size o fs h.2)

mutual
  unfolding sum

  pub parts_size : {Q : Type 0} (f : Flat Q) → Flattened f → length (subexpressions f) ≤ size f
  parts_size (leaf q) h = omega arith
  parts_size (node o fs) h = omega (arith, h.0, parts_sizes o fs h.1, sizes_length fs)

  parts_sizes : {Q : Type 0} (o : Operator) (fs : Flats Q) → FlattenedUnder o fs → length (subexpressions_under fs) ≤ total (sizes fs)
  parts_sizes o done h = omega arith
  parts_sizes o (more f fs) h =
      omega (arith, length-append (subexpressions f) (subexpressions_under fs), parts_size f h.1, parts_sizes o fs h.2)
