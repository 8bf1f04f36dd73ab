-- Laws of parts.
--   meanings     appending leaves the old ones; they are the fixed point of `flat_of`, and the only one; a part's meaning by its number
--   costs        level, cost and size of an And or Or by those of its children
--   order        children before parents: by number, and with one part more
-- Assumes nothing.
use Rattle.std.specs.Prelude.{◌≡◌, refl, List, [], ◌∷◌, ◌++◌, map, ℕ, zero, suc, ◌+◌, ◌≤◌, ◌<◌, length}
use Rattle.std.proofs.Common.{ap, sym, ◌∙◌, subst, append_assoc, append-nil, lt_of_lt_of_le, zero-add, arith, length-append}
use Rattle.std.proofs.lemmas.Simd.{map-map}
use Rattle.std.proofs.Math.ListN.{get_or-append, get_or-map}
use Rattle.std.proofs.lemmas.List.{get_or_at}
use Rattle.evaluation.specs.declared.Operator.{Operator}
use Rattle.evaluation.specs.declared.Operator.TheVariants.{Or}
use Rattle.lists.specs.Places.{All, none, both, Any, at, index}
use Rattle.lists.proofs.PlacesLaws.{all_map, all_at, get_or_index, index_lt, map_same, holds}
use Rattle.predicates.specs.Predicate.{Predicate, predicate_cost}
use Rattle.ast.specs.Trees.{Flat, node, trees, fold}
use Rattle.ast.specs.TreesLaws.{kids_trees, fold_node}
use Rattle.ast.specs.Parts.{level, level_over, cost_over, size, size_over}
use Rattle.ast.specs.Rules.{rule_cost}
use Rattle.model.specs.Parts.{Part, alone, over, children_of, part_at, nothing, flat_in, flat_of, meanings_after, meanings, flat_at}
use Rattle.model.specs.Parts.{level_at, cost_at, size_at, Below, Ordered, ChildOf}

-- ---- meanings: appending

pub after_append : (ds : List (Flat Predicate)) (ps qs : List Part)
    → meanings_after ds (ps ++ qs) ≡ meanings_after (meanings_after ds ps) qs
after_append ds [] qs = refl
after_append ds (p ∷ ps) qs = after_append (ds ++ (flat_of ds p ∷ [])) ps qs

-- the meanings before stay in front
after_front : (ds : List (Flat Predicate)) (ps : List Part) → (t : List (Flat Predicate)) × (meanings_after ds ps ≡ ds ++ t)
after_front ds [] = ([], sym (append-nil ds))
after_front ds (p ∷ ps) =
    let r = after_front (ds ++ (flat_of ds p ∷ [])) ps in
    (flat_of ds p ∷ r.0, r.1 ∙ append_assoc ds (flat_of ds p ∷ []) r.0)

after_length : (ds : List (Flat Predicate)) (ps : List Part) → length (meanings_after ds ps) ≡ length ds + length ps
after_length ds [] = omega arith
after_length ds (p ∷ ps) = after_length (ds ++ (flat_of ds p ∷ [])) ps ∙ omega (arith, length-append ds (flat_of ds p ∷ []))

pub meanings_length : (ps : List Part) → length (meanings ps) ≡ length ps
meanings_length ps = after_length [] ps ∙ zero-add (length ps)

-- a number is in range of the meanings where it is in range of the parts
pub in_meanings : (ps : List Part) {i : ℕ} → i < length ps → i < length (meanings ps)
in_meanings ps h = omega (arith, meanings_length ps)

pub meanings_snoc : (ps : List Part) (x : Part) → meanings (ps ++ (x ∷ [])) ≡ meanings ps ++ (flat_of (meanings ps) x ∷ [])
meanings_snoc ps x = after_append [] ps (x ∷ [])

-- a part's meaning stays when parts are appended
pub flat_at_append : (ps qs : List Part) (i : ℕ) → i < length ps → flat_at (ps ++ qs) i ≡ flat_at ps i
flat_at_append ps qs i h =
    let r = after_front (meanings ps) qs in
    ap (λ (l : List (Flat Predicate)). flat_in l i) (after_append [] ps qs ∙ r.1)
    ∙ get_or-append (meanings ps) r.0 nothing i (in_meanings ps h)

pub flat_at_new : (ps : List Part) (x : Part) → flat_at (ps ++ (x ∷ [])) (length ps) ≡ flat_of (meanings ps) x
flat_at_new ps x =
    ap (λ (l : List (Flat Predicate)). flat_in l (length ps)) (meanings_snoc ps x)
    ∙ get_or_at (meanings ps) (flat_of (meanings ps) x) [] nothing (length ps) (meanings_length ps)

-- ---- meanings: the fixed point

-- a part means the same over meanings that agree on its children
pub flat_of_agree : (ds es : List (Flat Predicate)) (p : Part) → All (λ c. flat_in ds c ≡ flat_in es c) (children_of p)
    → flat_of ds p ≡ flat_of es p
flat_of_agree ds es (alone p) h = refl
flat_of_agree ds es (over o cs) h = ap (λ (l : List (Flat Predicate)). node o (trees l)) (map_same (flat_in ds) (flat_in es) h)

front_agrees : (ds t : List (Flat Predicate)) (p : Part) → Below (length ds) p → flat_of (ds ++ t) p ≡ flat_of ds p
front_agrees ds t p b = flat_of_agree (ds ++ t) ds p (all_map (λ c h. get_or-append ds t nothing c h) b)

one_longer : (ds : List (Flat Predicate)) (d : Flat Predicate) (ps : List Part) → Ordered (suc (length ds)) ps
    → Ordered (length (ds ++ (d ∷ []))) ps
one_longer ds d ps o = subst (λ n. Ordered n ps) (omega (arith, length-append ds (d ∷ []))) o

after_fixed : (ds : List (Flat Predicate)) (ps : List Part) → Ordered (length ds) ps
    → meanings_after ds ps ≡ ds ++ map (flat_of (meanings_after ds ps)) ps
after_fixed ds [] o = sym (append-nil ds)
after_fixed ds (p ∷ ps) o =
    let d = flat_of ds p in
    let all = meanings_after ds (p ∷ ps) in
    let r = after_front (ds ++ (d ∷ [])) ps in
    let e = after_fixed (ds ++ (d ∷ [])) ps (one_longer ds d ps o.1) in
    let front : all ≡ ds ++ (d ∷ r.0) = r.1 ∙ append_assoc ds (d ∷ []) r.0 in
    let same : flat_of all p ≡ d = ap (λ (l : List (Flat Predicate)). flat_of l p) front ∙ front_agrees ds (d ∷ r.0) p o.0 in
    e ∙ append_assoc ds (d ∷ []) _ ∙ ap (λ (x : Flat Predicate). ds ++ (x ∷ map (flat_of all) ps)) (sym same)

pub meanings_fixed : (ps : List Part) → Ordered zero ps → meanings ps ≡ map (flat_of (meanings ps)) ps
meanings_fixed ps o = after_fixed [] ps o

after_unique : (ds : List (Flat Predicate)) (ps : List Part) (all : List (Flat Predicate)) → Ordered (length ds) ps
    → all ≡ ds ++ map (flat_of all) ps → all ≡ meanings_after ds ps
after_unique ds [] all o e = e ∙ append-nil ds
after_unique ds (p ∷ ps) all o e =
    let d = flat_of ds p in
    let same : flat_of all p ≡ d = ap (λ (l : List (Flat Predicate)). flat_of l p) e ∙ front_agrees ds (map (flat_of all) (p ∷ ps)) p o.0 in
    after_unique (ds ++ (d ∷ [])) ps all (one_longer ds d ps o.1)
    (e ∙ ap (λ (x : Flat Predicate). ds ++ (x ∷ map (flat_of all) ps)) same ∙ sym (append_assoc ds (d ∷ []) (map (flat_of all) ps)))

-- nothing else is a fixed point
pub meanings_unique : (ps : List Part) (ds : List (Flat Predicate)) → Ordered zero ps → ds ≡ map (flat_of ds) ps → ds ≡ meanings ps
meanings_unique ps ds o e = after_unique [] ps ds o e

-- ---- parts by number

module _ (ps : List Part) (o : Ordered zero ps) where
  pub flat_at_part : (i : ℕ) → flat_at ps i ≡ flat_of (meanings ps) (part_at ps i)
  flat_at_part i =
      ap (λ (l : List (Flat Predicate)). flat_in l i) (meanings_fixed ps o) ∙ get_or-map (flat_of (meanings ps)) ps i (over Or [])

  -- the part at a place
  pub flat_at_place : {P : Part → Type 0} (a : Any P ps) → flat_at ps (index a) ≡ flat_of (meanings ps) (at a)
  flat_at_place a = flat_at_part (index a) ∙ ap (flat_of (meanings ps)) (get_or_index a (over Or []))

-- ---- level, cost and size by the children's

module _ (ps : List Part) where
  -- whatever is folded over the tree of a part is folded over what its children gave: Kleene's value is another such fold
  pub fold_over : {A : Type 0} (v : Predicate → A) (join : Operator → List A → A) (o : Operator) (cs : List ℕ)
      → fold v join (flat_of (meanings ps) (over o cs)) ≡ join o (map (λ c. fold v join (flat_at ps c)) cs)
  fold_over v join o cs =
      let l = map (flat_at ps) cs in
      fold_node v join o (trees l)
      ∙ ap (λ (k : List (Flat Predicate)). join o (map (fold v join) k)) (kids_trees l)
      ∙ ap (join o) (map-map (fold v join) (flat_at ps) cs)

  pub level_over_lem : (o : Operator) (cs : List ℕ) → level (flat_of (meanings ps) (over o cs)) ≡ level_over o (map (level_at ps) cs)
  level_over_lem = fold_over (λ q. 1) level_over

  pub cost_over_lem : (o : Operator) (cs : List ℕ) → rule_cost (flat_of (meanings ps) (over o cs)) ≡ cost_over o (map (cost_at ps) cs)
  cost_over_lem = fold_over predicate_cost cost_over

  pub size_over_lem : (o : Operator) (cs : List ℕ) → size (flat_of (meanings ps) (over o cs)) ≡ size_over o (map (size_at ps) cs)
  size_over_lem = fold_over (λ q. 1) size_over

-- ---- children before parents

pub below_up : {n m : ℕ} (p : Part) → n ≤ m → Below n p → Below m p
below_up p h b = all_map (λ c k. lt_of_lt_of_le k h) b

pub ordered_part : (n : ℕ) (ps : List Part) → Ordered n ps → (i : ℕ) → i < length ps → Below (n + i) (part_at ps i)
ordered_part n [] o i h = absurd (omega arith)
ordered_part n (p ∷ ps) o zero h = subst (λ m. Below m p) (omega arith) o.0
ordered_part n (p ∷ ps) o (suc i) h = subst (λ m. Below m (part_at ps i)) (omega arith) (ordered_part (suc n) ps o.1 i (omega arith))

pub part_ordered : (n : ℕ) (ps : List Part) → ((i : ℕ) → i < length ps → Below (n + i) (part_at ps i)) → Ordered n ps
part_ordered n [] h = tt
part_ordered n (p ∷ ps) h = (
  subst (λ m. Below m p) (omega arith) (h zero (omega arith)),
  part_ordered (suc n) ps (λ i l. subst (λ m. Below m (part_at ps i)) (omega arith) (h (suc i) (omega arith))),
)

pub ordered_below : (n : ℕ) (ps : List Part) → Ordered n ps → All (Below (n + length ps)) ps
ordered_below n [] o = none
ordered_below n (p ∷ ps) o =
    both (below_up {n = n} {m = n + suc (length ps)} p (omega arith) o.0)
    (subst (λ m. All (Below m) ps) (omega arith) (ordered_below (suc n) ps o.1))

pub ordered_snoc : (n : ℕ) (ps : List Part) (x : Part) → Ordered n ps → Below (n + length ps) x → Ordered n (ps ++ (x ∷ []))
ordered_snoc n [] x o b = (subst (λ m. Below m x) (omega arith) b, tt)
ordered_snoc n (p ∷ ps) x o b = (o.0, ordered_snoc (suc n) ps x o.1 (subst (λ m. Below m x) (omega arith) b))

-- the children of part i are below i
pub part_below : (ps : List Part) → Ordered zero ps → (i : ℕ) → i < length ps → Below i (part_at ps i)
part_below ps o i h = subst (λ n. Below n (part_at ps i)) (zero-add i) (ordered_part zero ps o i h)

-- a child stands before its parent
pub child_before : (ps : List Part) → Ordered zero ps → {i : ℕ} (a : ChildOf ps i) → i < index a
child_before ps o a =
    let below = subst (λ p. Below (index a) p) (get_or_index a (over Or [])) (part_below ps o (index a) (index_lt a)) in
    let c = holds a in
    omega (arith, all_at below c, holds c)
