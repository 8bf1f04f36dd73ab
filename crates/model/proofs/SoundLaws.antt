-- What the marks of a sound book's parts give.
--   number_once          parts that mean the same are one: no two numbers have the same meaning
--   meanings_distinct    the same, of the list of meanings
--   meanings_flattened   each part means a flattened rule, so its level is at most half of one more than the greatest size (`level_most`)
--   subexpressions_in    each subexpression of a part is a part
--   parts_used           where each part is a root or a child, each is a subexpression of a live rule
-- Assumes nothing.
use Rattle.std.specs.Prelude.{◌≡◌, refl, ◌⊎◌, ℕ, zero, suc, ◌+◌, ◌*◌, ◌≤◌, ◌<◌, length}
use Rattle.std.proofs.Math.Path.{ap, ap₂}
use Rattle.std.proofs.Common.{sym, ◌∙◌, subst, subst₂, inl, inr, arith}
use mathlib.Core.List.{List, [], ◌∷◌, map, flat_map}
use Rattle.std.proofs.lemmas.List.{length-map}
use Rattle.evaluation.specs.declared.Operator.{Operator}
use Rattle.evaluation.specs.declared.Operator.TheVariants.{Or}
use Rattle.lists.specs.Places.{All, none, both, Any, here, there, at, index, Distinct}
use Rattle.lists.proofs.PlacesLaws.{holds, no_any, all_map, all_at, all_get_or, all_self, all_mapped, all_unmapped, any_map}
use Rattle.lists.proofs.PlacesLaws.{any_at, any_split, any_get_or, index_lt, get_or_pairwise, distinct_number}
use Rattle.lists.proofs.BagLaws.{bag_unmap}
use Rattle.lists.proofs.SortLaws.{sorted_equal}
use Rattle.lists.proofs.PairOrderLaws.{cost_order}
use Rattle.predicates.specs.Predicate.{Predicate}
use Rattle.ast.specs.Trees.{Flat, leaf, node, Flats, kids, trees}
use Rattle.ast.specs.TreesLaws.{flat_ind, kids_trees}
use Rattle.ast.specs.Flattening.{Unlike, Flattened, FlattenedUnder}
use Rattle.ast.specs.Same.{Same}
use Rattle.ast.proofs.SameLaws.{same_equivalence, same_trees}
use Rattle.ast.specs.Parts.{subexpressions, subexpressions_under, subexpressions_of}
use Rattle.ast.proofs.PartsLaws.{under_kids, all_flat_map, any_flat_map}
use Rattle.ast.proofs.SizeLaws.{level_size}
use Rattle.model.specs.Parts.{Part, alone, over, children_of, part_at, nothing, flat_in, flat_of, meanings, flat_at, level_at, cost_at}
use Rattle.model.specs.Parts.{Below, ChildOf}
use Rattle.model.proofs.PartsLaws.{meanings_length, in_meanings, flat_at_part, flat_at_place, below_up, part_below, child_before}
use Rattle.model.specs.Sound.{Two, UnlikeChildren, Canonical, SoundParts}

-- equal rules are the same
pub equal_same : {f g : Flat Predicate} → f ≡ g → Same f g
equal_same {f} e = subst (λ h. Same f h) e (same_equivalence.reflexive f)

pub same_back : (f g : Flat Predicate) → Same f g → Same g f
same_back f g s = same_equivalence.symmetric f g s

pub same_then : (f g h : Flat Predicate) → Same f g → Same g h → Same f h
same_then f g h s t = same_equivalence.transitive f g h s t

-- f is one of the list
abbrev pub In : Flat Predicate → List (Flat Predicate) → Type 0
In f l = Any (λ g. f ≡ g) l

pub in_same : {f : Flat Predicate} {l : List (Flat Predicate)} → In f l → Any (Same f) l
in_same a = any_map (λ g e. equal_same e) a

-- ---- the subexpressions of rules: with a rule its children

self_in : (f : Flat Predicate) → In f (subexpressions f)
self_in (leaf p) = here refl
self_in (node o fs) = here refl

module _ {P : Flat Predicate → Type 0} where
  -- a subexpression of rules is one of a rule of them
  any_rule : (rules : List (Flat Predicate)) → Any P (subexpressions_of rules) → Any (λ f. Any P (subexpressions f)) rules
  unfolding flat_map
  any_rule [] a = absurd (no_any a)
  any_rule (f ∷ rules) a = go (any_split (subexpressions f) (subexpressions_of rules) a) (λ b. any_rule rules b)
    where
      go : Any P (subexpressions f) ⊎ Any P (subexpressions_of rules)
          → (Any P (subexpressions_of rules) → Any (λ f. Any P (subexpressions f)) rules)
          → Any (λ f. Any P (subexpressions f)) (f ∷ rules)
      go (inl b) ih = here b
      go (inr b) ih = there (ih b)

  any_kid : (fs : Flats Predicate) → Any P (subexpressions_under fs) → Any (λ f. Any P (subexpressions f)) (kids fs)
  any_kid fs a = any_rule (kids fs) (subst (λ l. Any P l) (under_kids fs) a)

  kid_any : (fs : Flats Predicate) → Any (λ f. Any P (subexpressions f)) (kids fs) → Any P (subexpressions_under fs)
  kid_any fs a = subst (λ l. Any P l) (sym (under_kids fs)) (any_flat_map subexpressions (kids fs) a)

module _ (o : Operator) (fs : Flats Predicate) where
  -- each child of the node is a subexpression of g
  abbrev KidsIn : List (Flat Predicate) → Type 0
  KidsIn l = All (λ k. In k l) (kids fs)

  kids_in : (g : Flat Predicate) → In (node o fs) (subexpressions g) → KidsIn (subexpressions g)
  kids_in = flat_ind (λ g. In (node o fs) (subexpressions g) → KidsIn (subexpressions g)) at_leaf at_node
    where
      at_leaf : (p : Predicate) → In (node o fs) (subexpressions (leaf p)) → KidsIn (subexpressions (leaf p))
      at_leaf p (here e) = absurd (let z : ◌≡◌ {A = ℕ} 0 1 = cc in omega arith)
      at_leaf p (there a) = absurd (no_any a)

      at_node : (o' : Operator) (gs : Flats Predicate) → All (λ g. In (node o fs) (subexpressions g) → KidsIn (subexpressions g)) (kids gs)
          → In (node o fs) (subexpressions (node o' gs)) → KidsIn (subexpressions (node o' gs))
      at_node o' gs ih (here e) =
          let same : gs ≡ fs = cc in
          let self : (k : Flat Predicate) → In k (kids gs) → Any (λ x. In k (subexpressions x)) (kids gs) =
          λ k a. any_map (λ x q. subst (λ y. In k (subexpressions y)) q (self_in k)) a in
          let own = all_map (λ k a. there (kid_any gs (self k a))) (all_self (kids gs)) in
          subst (λ l. All (λ k. In k (node o' gs ∷ subexpressions_under gs)) (kids l)) same own
      at_node o' gs ih (there a) =
          let c = any_kid gs a in
          all_map (λ k r. there (kid_any gs (any_at {Q = λ x. In k (subexpressions x)} c r))) (all_at ih c (holds c))

  pub rules_kids_in : (rules : List (Flat Predicate)) → In (node o fs) (subexpressions_of rules) → KidsIn (subexpressions_of rules)
  rules_kids_in rules a =
      let c = any_rule rules a in
      all_map (λ k r. any_flat_map subexpressions rules (any_at {Q = λ x. In k (subexpressions x)} c r)) (kids_in (at c) (holds c))

module _ {most : ℕ} {ps : List Part} (s : SoundParts most ps) where
  below : (i : ℕ) → i < length ps → Below i (part_at ps i)
  below = part_below ps s.ordered

  -- ---- parts that mean the same are one

  -- where numbers below k that mean the same are one, so are parts over them
  same_part : (k : ℕ) → ((i j : ℕ) → i < k → j < k → Same (flat_at ps i) (flat_at ps j) → i ≡ j)
      → (x y : Part) → Below k x → Below k y → Canonical (cost_at ps) x → Canonical (cost_at ps) y
      → Same (flat_of (meanings ps) x) (flat_of (meanings ps) y) → x ≡ y
  unfolding Same
  same_part k one (alone p) (alone q) b b' c c' e = ap alone e
  same_part k one (alone p) (over o cs) b b' c c' e = absurd e
  same_part k one (over o cs) (alone q) b b' c c' e = absurd e
  same_part k one (over o cs) (over o' cs') b b' c c' e =
      let t = (same_trees o o' (map (flat_at ps) cs) (map (flat_at ps) cs')).0 e in
      ap₂ over t.0 (sorted_equal (cost_order (cost_at ps)) c c' (bag_unmap (flat_at ps) one cs cs' b b' t.1))

  same_below : (k : ℕ) → k ≤ length ps → (i j : ℕ) → i < k → j < k → Same (flat_at ps i) (flat_at ps j) → i ≡ j
  same_below zero h i j l m e = absurd (omega arith)
  same_below (suc k) h i j l m e =
      let one = same_below k (omega arith) in
      let canonical : (q : ℕ) → q < length ps → Canonical (cost_at ps) (part_at ps q) = λ q u. all_get_or s.canonical q (over Or []) u in
      let x = below_up {n = i} {m = k} (part_at ps i) (omega arith) (below i (omega arith)) in
      let y = below_up {n = j} {m = k} (part_at ps j) (omega arith) (below j (omega arith)) in
      let same = subst₂ (λ f g. Same f g) (flat_at_part ps s.ordered i) (flat_at_part ps s.ordered j) e in
      distinct_number (λ p q r. sym r) s.distinct i j (over Or []) (omega arith) (omega arith)
      (same_part k one (part_at ps i) (part_at ps j) x y (canonical i (omega arith)) (canonical j (omega arith)) same)

  pub number_once : (i j : ℕ) → i < length ps → j < length ps → Same (flat_at ps i) (flat_at ps j) → i ≡ j
  number_once i j l m e = same_below (length ps) (omega arith) i j l m e

  pub meanings_distinct : Distinct Same (meanings ps)
  meanings_distinct =
      get_or_pairwise (meanings ps) nothing
      (λ i j l m e.
      let long = meanings_length ps in
      let same = number_once i j (omega (arith, long)) (omega (arith, long)) e in
      omega (arith, same, l))

  -- ---- what holds of a part where it holds of its children

  pub by_parts : (P : Flat Predicate → Type 0)
      → ((i : ℕ) → i < length ps → All (λ c. P (flat_at ps c)) (children_of (part_at ps i)) → P (flat_at ps i))
      → (i : ℕ) → i < length ps → P (flat_at ps i)
  by_parts P step i h = go (suc i) i (omega arith) h
    where
      go : (k i : ℕ) → i < k → i < length ps → P (flat_at ps i)
      go zero i l h = absurd (omega arith)
      go (suc k) i l h = step i h (all_map (λ c m. go k c (omega arith) (omega arith)) (below i h))

  -- ---- flattened

  node_flattened : (ds : List (Flat Predicate)) (x : Part) → Two x → UnlikeChildren (flat_in ds) x
      → All (λ c. Flattened (flat_in ds c)) (children_of x) → Flattened (flat_of ds x)
  node_flattened ds (alone p) t u h = tt
  node_flattened ds (over o cs) t u h =
      (omega (arith, ap length (kids_trees (map (flat_in ds) cs)), length-map cs (flat_in ds)), under cs u h)
    where
      under : (cs : List ℕ) → All (λ c. Unlike o (flat_in ds c)) cs → All (λ c. Flattened (flat_in ds c)) cs
          → FlattenedUnder o (trees (map (flat_in ds) cs))
      under [] none none = tt
      under (c ∷ cs) (both v u) (both f h) = (v, f, under cs u h)

  pub meanings_flattened : (i : ℕ) → i < length ps → Flattened (flat_at ps i)
  meanings_flattened =
      by_parts Flattened
      (λ i h k.
      subst Flattened (sym (flat_at_part ps s.ordered i))
      (node_flattened (meanings ps) (part_at ps i) (all_get_or s.two i (over Or []) h) (all_get_or s.unlike i (over Or []) h) k))

  pub level_most : (i : ℕ) → i < length ps → 2 * level_at ps i ≤ 1 + most
  level_most i h =
      omega (arith, level_size (flat_at ps i) (meanings_flattened i h), all_get_or s.small i nothing (in_meanings ps h))

  -- ---- each subexpression of a part is a part

  part_in : (x : Part) (i : ℕ) → i < length ps → flat_at ps i ≡ flat_of (meanings ps) x
      → All (λ c. All (λ f. In f (meanings ps)) (subexpressions (flat_at ps c))) (children_of x)
      → All (λ f. In f (meanings ps)) (subexpressions (flat_of (meanings ps) x))
  part_in (alone p) i h e k = both (any_get_or (meanings ps) i nothing (in_meanings ps h) (sym e)) none
  part_in (over o cs) i h e k =
      let l = map (flat_at ps) cs in
      let under = all_flat_map subexpressions (all_mapped (flat_at ps) k) in
      both (any_get_or (meanings ps) i nothing (in_meanings ps h) (sym e))
      (subst (λ m. All (λ f. In f (meanings ps)) m) (sym (under_kids (trees l) ∙ ap subexpressions_of (kids_trees l))) under)

  pub subexpressions_in : (i : ℕ) → i < length ps → All (λ f. In f (meanings ps)) (subexpressions (flat_at ps i))
  subexpressions_in =
      by_parts (λ f. All (λ g. In g (meanings ps)) (subexpressions f))
      (λ i h k.
      let e = flat_at_part ps s.ordered i in
      subst (λ f. All (λ g. In g (meanings ps)) (subexpressions f)) (sym e) (part_in (part_at ps i) i h e k))

  -- ---- each part is a subexpression of a rule, where it is a rule's root or a child

  child_in : (rules : List (Flat Predicate)) (x : Part) {i : ℕ} → Any (λ c. i ≡ c) (children_of x)
      → In (flat_of (meanings ps) x) (subexpressions_of rules) → In (flat_at ps i) (subexpressions_of rules)
  child_in rules (alone p) a h = absurd (no_any a)
  child_in rules (over o cs) a h =
      let l = map (flat_at ps) cs in
      let within : Flat Predicate → Type 0 = λ f. In f (subexpressions_of rules) in
      let k = subst (λ m. All within m) (kids_trees l) (rules_kids_in o (trees l) rules h) in
      subst (λ c. within (flat_at ps c)) (sym (holds a)) (all_at (all_unmapped (flat_at ps) within cs k) a)

  pub parts_used : (rules : List (Flat Predicate)) → ((i : ℕ) → i < length ps → In (flat_at ps i) rules ⊎ ChildOf ps i)
      → (i : ℕ) → i < length ps → In (flat_at ps i) (subexpressions_of rules)
  parts_used rules used i h = go (length ps) i (omega arith) h
    where
      of : (i : ℕ) → ((j : ℕ) → i < j → j < length ps → In (flat_at ps j) (subexpressions_of rules))
          → In (flat_at ps i) rules ⊎ ChildOf ps i → In (flat_at ps i) (subexpressions_of rules)
      of i later (inl a) =
          any_flat_map subexpressions rules
          (any_map (λ f e. subst (λ g. In (flat_at ps i) (subexpressions g)) e (self_in (flat_at ps i))) a)
      of i later (inr a) =
          let parent = later (index a) (child_before ps s.ordered a) (index_lt a) in
          child_in rules (at a) (holds a) (subst (λ f. In f (subexpressions_of rules)) (flat_at_place ps s.ordered a) parent)

      go : (k i : ℕ) → length ps ≤ i + k → i < length ps → In (flat_at ps i) (subexpressions_of rules)
      go zero i l h = absurd (omega arith)
      go (suc k) i l h = of i (λ j m q. go k j (omega arith) q) (used i h)
