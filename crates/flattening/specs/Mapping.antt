-- A rule with each predicate replaced by another: as a tree, and as flattened. Laws in `MappingLaws`.
-- Assumes nothing: these are definitions.
use Rattle.std.specs.Prelude.{Bool, ℕ}
use Rattle.ast.specs.Trees.{Tree, Join, Not, Value, Flat, leaf, node, Flats, done, more}
use Rattle.flattening.specs.Codes.{code_entry, code_negated}

abbrev pub map_tree : {P Q : Type 0} → (P → Q) → Tree P → Tree Q
map_tree g (Join o a b) = Join o (map_tree g a) (map_tree g b)
map_tree g (Not a) = Not (map_tree g a)
map_tree g (Value p) = Value (g p)

abbrev mutual
  pub map_flat : {P Q : Type 0} → (P → Q) → Flat P → Flat Q
  map_flat g (leaf p) = leaf (g p)
  map_flat g (node o fs) = node o (map_flats g fs)

  pub map_flats : {P Q : Type 0} → (P → Q) → Flats P → Flats Q
  map_flats g done = done
  map_flats g (more f fs) = more (map_flat g f) (map_flats g fs)

-- the predicate that a code stands for, where entry i holds `entry i` and `lit negate p` is p, negated where `negate` is true
abbrev pub decode : {P Q : Type 0} → (Bool → P → Q) → (ℕ → P) → ℕ → Q
decode lit entry c = lit (code_negated c) (entry (code_entry c))
