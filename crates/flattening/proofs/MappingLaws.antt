-- Laws of replacing predicates: flattening commutes with it (flat_map), so the flattened rule over predicates is read off the codes
-- (optimize_decoded); and so does the recursion over a flattened rule (run_map). Assumes nothing.
use Rattle.std.specs.Prelude.{◌≡◌, refl, Bool, false, not, List, ◌∷◌, ℕ}
use Rattle.std.proofs.Common.{ap, ap₂, ◌∙◌}
use Rattle.evaluation.specs.declared.Operator.{Operator}
use Rattle.evaluation.specs.declared.Operator.TheVariants.{And, Or}
use Rattle.evaluation.specs.Kleene.{operator_under}
use Rattle.ast.specs.Trees.{Tree, Join, Not, Value, Flat, leaf, node, Flats, done, more}
use Rattle.ast.specs.Flattening.{◌⧺◌, splice, joined, flat, optimize}
use Rattle.flattening.specs.Codes.{predicate_code}
use Rattle.flattening.proofs.CodesLaws.{entry_code, negated_code}
use Rattle.flattening.specs.Mapping.{map_tree, map_flat, map_flats, decode}
use Rattle.flattening.specs.Running.{run_flat, run_flats}

module _ {P Q : Type 0} (g : P → Q) where
  map_append : (fs gs : Flats P) → map_flats g (fs ⧺ gs) ≡ map_flats g fs ⧺ map_flats g gs
  map_append done gs = refl
  map_append (more f fs) gs = ap (more (map_flat g f)) (map_append fs gs)

  map_splice : (o : Operator) (f : Flat P) → map_flats g (splice o f) ≡ splice o (map_flat g f)
  map_splice o (leaf p) = refl
  map_splice And (node And fs) = refl
  map_splice And (node Or fs) = refl
  map_splice Or (node And fs) = refl
  map_splice Or (node Or fs) = refl

  map_joined : (o : Operator) (f h : Flat P) → map_flat g (joined o f h) ≡ joined o (map_flat g f) (map_flat g h)
  map_joined o f h =
      ap (node o) (map_append (splice o f) (splice o h) ∙ ap₂ (λ (x y : Flats Q). x ⧺ y) (map_splice o f) (map_splice o h))

-- where g takes what the one flattening keeps of a predicate to what the other keeps of its replacement
module _ {P P' Q Q' : Type 0} (lit : Bool → P → Q) (lit' : Bool → P' → Q') (g : Q → Q') (h : P → P')
    (agree : (negate : Bool) (p : P) → g (lit negate p) ≡ lit' negate (h p)) where
  pub flat_map : (negate : Bool) (t : Tree P) → map_flat g (flat lit negate t) ≡ flat lit' negate (map_tree h t)
  flat_map negate (Join o a b) =
      map_joined g (operator_under negate o) (flat lit negate a) (flat lit negate b)
      ∙ ap₂ (joined (operator_under negate o)) (flat_map negate a) (flat_map negate b)
  flat_map negate (Not a) = flat_map (not negate) a
  flat_map negate (Value p) = ap leaf (agree negate p)

module _ {P Q : Type 0} (lit : Bool → P → Q) (entry : ℕ → P) where
  pub decode_code : (negate : Bool) (i : ℕ) → decode lit entry (predicate_code negate i) ≡ lit negate (entry i)
  decode_code negate i = ap₂ (λ (b : Bool) (k : ℕ). lit b (entry k)) (negated_code negate i) (entry_code negate i)

  -- the flattened rule over predicates, read off the one over codes
  pub optimize_decoded : (t : Tree ℕ) → map_flat (decode lit entry) (optimize predicate_code t) ≡ optimize lit (map_tree entry t)
  optimize_decoded t = flat_map predicate_code lit (decode lit entry) entry decode_code false t

module _ {P Q S A : Type 0} (g : P → Q) (leafStep : S → Q → S × A) (joinStep : S → Operator → List A → S × A) where
  abbrev leaf_mapped : S → P → S × A
  leaf_mapped s p = leafStep s (g p)

  mutual
    unfolding run_flat

    pub run_map : (s : S) (f : Flat P) → run_flat leafStep joinStep s (map_flat g f) ≡ run_flat leaf_mapped joinStep s f
    run_map s (leaf p) = refl
    run_map s (node o fs) = ap (λ (r : S × List A). joinStep r.0 o r.1) (run_map_under s fs)

    run_map_under : (s : S) (fs : Flats P) → run_flats leafStep joinStep s (map_flats g fs) ≡ run_flats leaf_mapped joinStep s fs
    run_map_under s done = refl
    run_map_under s (more f fs) =
        let others : S × A → S × List A = λ r. run_flats leafStep joinStep r.0 (map_flats g fs) in
        ap (λ (r : S × A). ((others r).0, r.1 ∷ (others r).1)) (run_map s f)
        ∙ ap (λ (r : S × List A). (r.0, (run_flat leaf_mapped joinStep s f).1 ∷ r.1))
        (run_map_under (run_flat leaf_mapped joinStep s f).0 fs)
