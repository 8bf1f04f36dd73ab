-- Laws of interning.
--   intern_new      it only appends: the parts after it are those before and `new_parts`; this holds of any parts
--   intern_right    over sound parts, a flattened rule that is not too large leaves sound parts, and the number handed back means the rule;
--                   each new part is that number or a child of a part
-- Assumes nothing.
use Rattle.std.specs.Prelude.{◌≡◌, refl, ◌⊎◌, List, [], ◌∷◌, ◌++◌, map, ℕ, zero, ◌≤◌, ◌<◌, length, drop}
use Rattle.std.proofs.Common.{ap, sym, ◌∙◌, append_assoc, append-nil, zero-add, le_trans, lt_of_lt_of_le, arith, length-append}
use Rattle.std.proofs.Math.Path.{subst}
use Rattle.std.proofs.Math.Logic.{inl, inr}
use Rattle.std.proofs.Math.Decide.{dec_lt}
use Rattle.std.proofs.lemmas.List.{length-map}
use Rattle.std.proofs.Math.Seq.{drop-append_seam}
use Rattle.evaluation.specs.declared.Operator.{Operator}
use Rattle.lists.specs.Places.{All, none, both, Any, here, there, index, any?, pnil}
use Rattle.lists.proofs.PlacesLaws.{holds, all_map, all_append, all_both, all_at, all_unmapped, any_left, any_right, any_map}
use Rattle.lists.proofs.PlacesLaws.{none_of_lem, index_lt, all_self, pairwise_snoc, sum_rest, sum_map}
use Rattle.lists.specs.Equivalence.{equality}
use Rattle.lists.specs.Bag.{Bag, bnil, bcons}
use Rattle.lists.proofs.BagLaws.{bag_map, bag_length, bag_all, bag_cover, bag_equivalence}
use Rattle.lists.specs.First.{number_of}
use Rattle.lists.proofs.SortLaws.{sort_bag, sort_length, sort_all, sort_sorted}
use Rattle.lists.specs.PairOrder.{by_cost}
use Rattle.lists.proofs.PairOrderLaws.{cost_order}
use Rattle.predicates.specs.Predicate.{Predicate}
use Rattle.ast.specs.Trees.{Flat, leaf, node, Flats, done, more, kids, trees}
use Rattle.ast.specs.TreesLaws.{kids_trees}
use Rattle.ast.specs.Flattening.{Unlike, Flattened, FlattenedUnder}
use Rattle.ast.specs.Same.{Same}
use Rattle.ast.proofs.SameLaws.{same_equivalence, same_node}
use Rattle.ast.specs.Parts.{size}
use Rattle.ast.proofs.PartsLaws.{size_same, size_node}
use Rattle.ast.specs.Rules.{rule_cost}
use Rattle.model.specs.Parts.{Part, alone, over, part?, children_of, flat_of, meanings, flat_at, cost_at, Below, ChildOf}
use Rattle.model.proofs.PartsLaws.{meanings_snoc, flat_at_append, flat_at_new, flat_at_place, ordered_below}
use Rattle.model.proofs.PartsLaws.{ordered_snoc}
use Rattle.model.specs.Sound.{Two, UnlikeChildren, Canonical, SoundParts}
use Rattle.model.proofs.SoundLaws.{equal_same, same_then}
use Rattle.model.proofs.MovedLaws.{unlike_agree, canonical_agree}
use Rattle.model.specs.Intern.{Put, Puts, missing, place, in_order, intern, interns, new_parts}

-- ---- interning only appends

mutual
  unfolding intern place

  appends : (f : Flat Predicate) (ps : List Part) → (t : List Part) × ((intern f ps).parts ≡ ps ++ t)
  appends (leaf p) ps = (missing (any? (part? (alone p)) ps) (alone p), refl)
  appends (node o fs) ps =
      let r = interns fs ps in
      let x = over o (in_order r.parts r.numbers) in
      let t = missing (any? (part? x) r.parts) x in
      let k = interns_append fs ps in
      (k.0 ++ t, ap (λ (l : List Part). l ++ t) k.1 ∙ append_assoc ps k.0 t)

  interns_append : (fs : Flats Predicate) (ps : List Part) → (t : List Part) × ((interns fs ps).parts ≡ ps ++ t)
  interns_append done ps = ([], sym (append-nil ps))
  interns_append (more f fs) ps =
      let h = appends f ps in
      let k = interns_append fs (intern f ps).parts in
      (h.0 ++ k.0, k.1 ∙ ap (λ (l : List Part). l ++ k.0) h.1 ∙ append_assoc ps h.0 k.0)

pub intern_new : (f : Flat Predicate) (ps : List Part) → (intern f ps).parts ≡ ps ++ new_parts ps f
intern_new f ps =
    let h = appends f ps in
    h.1 ∙ ap (λ (l : List Part). ps ++ l) (sym (ap (drop (length ps)) h.1 ∙ drop-append_seam ps h.0))

-- ---- one part more

-- x may stand after the parts
pub record Fit (most : ℕ) (ps : List Part) (x : Part) : Type 0 where
  pub below : Below (length ps) x
  pub two : Two x
  pub unlike : UnlikeChildren (flat_at ps) x
  pub canonical : Canonical (cost_at ps) x
  pub small : size (flat_of (meanings ps) x) ≤ most

module _ {most : ℕ} {ps : List Part} (s : SoundParts most ps) (x : Part) where
  -- after one part more the children of the old parts mean what they meant
  kept_children : (p : Part) → Below (length ps) p → All (λ c. flat_at ps c ≡ flat_at (ps ++ (x ∷ [])) c) (children_of p)
  kept_children p b = all_map (λ c h. sym (flat_at_append ps (x ∷ []) c h)) b

  kept_costs : (p : Part) → Below (length ps) p → All (λ c. cost_at ps c ≡ cost_at (ps ++ (x ∷ [])) c) (children_of p)
  kept_costs p b = all_map (λ c e. ap rule_cost e) (kept_children p b)

  pub sound_snoc : Fit most ps x → ¬ Any (λ y. x ≡ y) ps → SoundParts most (ps ++ (x ∷ []))
  sound_snoc f n =
      let below = subst (λ m. All (Below m) ps) (zero-add (length ps)) (ordered_below zero ps s.ordered) in
      let old : All (λ p. UnlikeChildren (flat_at (ps ++ (x ∷ []))) p × Canonical (cost_at (ps ++ (x ∷ []))) p) ps =
      all_map (λ p h. (unlike_agree _ _ p (kept_children p h.0) h.1.0, canonical_agree _ _ p (kept_costs p h.0) h.1.1))
      (all_both below (all_both s.unlike s.canonical)) in
      record {
        ordered = ordered_snoc zero ps x s.ordered (subst (λ m. Below m x) (sym (zero-add (length ps))) f.below);
        two = all_append s.two (both f.two none);
        unlike = all_append (all_map (λ p h. h.0) old) (both (unlike_agree _ _ x (kept_children x f.below) f.unlike) none);
        canonical = all_append (all_map (λ p h. h.1) old) (both (canonical_agree _ _ x (kept_costs x f.below) f.canonical) none);
        distinct = pairwise_snoc s.distinct (all_map (λ y m e. m (sym e)) (none_of_lem ps n));
        small = subst (λ l. All (λ g. size g ≤ most) l) (sym (meanings_snoc ps x)) (all_append s.small (both f.small none));
      }

-- ---- placing one part

-- what placing x gives
pub record Placed (most : ℕ) (ps : List Part) (x : Part) (r : Put) : Type 0 where
  pub sound : SoundParts most r.parts
  pub fits : r.number < length r.parts
  pub means : flat_at r.parts r.number ≡ flat_of (meanings ps) x
  pub there : Any (λ y. x ≡ y) r.parts
  pub new : (i : ℕ) → length ps ≤ i → i < length r.parts → i ≡ r.number

module _ {most : ℕ} {ps : List Part} (s : SoundParts most ps) (x : Part) (f : Fit most ps x) where
  found_right : (d : Dec (Any (λ y. x ≡ y) ps)) → Placed most ps x (record { parts = ps ++ missing d x; number = number_of d })
  found_right (yes a) =
      subst (λ l. Placed most ps x (record { parts = l; number = index a })) (sym (append-nil ps))
      (record {
        sound = s;
        fits = index_lt a;
        means = flat_at_place ps s.ordered a ∙ ap (flat_of (meanings ps)) (sym (holds a));
        there = a;
        new = λ i h k. absurd (omega arith);
      })
  found_right (no n) =
      let long = length-append ps (x ∷ []) in
      record {
        sound = sound_snoc s x f n;
        fits = omega arith;
        means = flat_at_new ps x;
        there = any_right ps (here refl);
        new = λ i h k. omega arith;
      }

  pub place_right : Placed most ps x (place ps x)
  unfolding place
  place_right = found_right (any? (part? x) ps)

-- ---- a rule

pub record Interned (most : ℕ) (ps : List Part) (f : Flat Predicate) (r : Put) : Type 0 where
  pub sound : SoundParts most r.parts
  pub fits : r.number < length r.parts
  pub means : Same (flat_at r.parts r.number) f
  pub new : (i : ℕ) → length ps ≤ i → i < length r.parts → (i ≡ r.number) ⊎ ChildOf r.parts i

-- children, one after the other
pub record Interneds (most : ℕ) (ps : List Part) (fs : Flats Predicate) (r : Puts) : Type 0 where
  pub sound : SoundParts most r.parts
  pub fit : All (λ c. c < length r.parts) r.numbers
  pub mean : Bag Same (map (flat_at r.parts) r.numbers) (kids fs)
  pub new : (i : ℕ) → length ps ≤ i → i < length r.parts → Any (λ c. i ≡ c) r.numbers ⊎ ChildOf r.parts i

-- the same rules are both unlike an operator
unlike_same : (o : Operator) (f g : Flat Predicate) → Same f g → Unlike o f → Unlike o g
unfolding Same
unlike_same o (leaf p) (leaf q) e u = tt
unlike_same o (leaf p) (node o' gs) e u = absurd e
unlike_same o (node o' fs) (leaf q) e u = tt
unlike_same o (node o' fs) (node o'' gs) e u = λ k. u (k ∙ sym e.0)

under_unlike : (o : Operator) (fs : Flats Predicate) → FlattenedUnder o fs → All (Unlike o) (kids fs)
under_unlike o done h = none
under_unlike o (more f fs) h = both h.0 (under_unlike o fs h.2)

-- a child is no larger than its parent
pub sizes_under : (o : Operator) (fs : Flats Predicate) → All (λ k. size k ≤ size (node o fs)) (kids fs)
sizes_under o fs =
    let added = sum_map (λ n. n) size size (λ k. refl) (kids fs) in
    all_map (λ k a. omega (arith, ap size (holds a), sum_rest size a, added, size_node o fs)) (all_self (kids fs))

-- the part that a node becomes, once its children are interned
module _ {most : ℕ} (o : Operator) (fs : Flats Predicate) (ps : List Part) (h : Interneds most ps fs (interns fs ps)) where
  abbrev pub inside : List Part
  inside = (interns fs ps).parts

  abbrev numbers : List ℕ
  numbers = (interns fs ps).numbers

  abbrev pub branch : Part
  branch = over o (in_order inside numbers)

  ordered_bag : Bag ◌≡◌ numbers (in_order inside numbers)
  ordered_bag = sort_bag (by_cost (cost_at inside)) numbers

  pub branch_means : Same (flat_of (meanings inside) branch) (node o fs)
  branch_means =
      let l = map (flat_at inside) (in_order inside numbers) in
      let back = (bag_equivalence equality).symmetric numbers (in_order inside numbers) ordered_bag in
      let moved = bag_map (flat_at inside) {S = Same} (λ x y e. equal_same (ap (flat_at inside) e)) back in
      let all = (bag_equivalence same_equivalence).transitive l (map (flat_at inside) numbers) (kids fs) moved h.mean in
      (same_node o o (trees l) fs).1 (refl, subst (λ m. Bag Same m (kids fs)) (sym (kids_trees l)) all)

  pub branch_fit : Flattened (node o fs) → size (node o fs) ≤ most → Fit most inside branch
  branch_fit fl le =
      let before = by_cost (cost_at inside) in
      let back = (bag_equivalence same_equivalence).symmetric (map (flat_at inside) numbers) (kids fs) h.mean in
      let unlike = bag_all (λ f g s u. unlike_same o f g s u) back (under_unlike o fs fl.1) in
      record {
        below = sort_all before h.fit;
        two = omega (arith, sort_length before numbers, bag_length h.mean, length-map numbers (flat_at inside), fl.0);
        unlike = sort_all before (all_unmapped (flat_at inside) (Unlike o) numbers unlike);
        canonical = sort_sorted (cost_order (cost_at inside)) numbers;
        small = subst (λ n. n ≤ most) (sym (size_same (flat_of (meanings inside) branch) (node o fs) branch_means)) le;
      }

  module _ (fl : Flattened (node o fs)) (le : size (node o fs) ≤ most) where
    placed : Placed most inside branch (place inside branch)
    placed = place_right h.sound branch (branch_fit fl le)

    child_there : (i : ℕ) → Any (λ c. i ≡ c) numbers ⊎ ChildOf inside i → ChildOf (place inside branch).parts i
    unfolding place
    child_there i (inl a) =
        let c = any_map (λ y e. holds a ∙ e) (all_at (bag_cover ordered_bag) a) in
        any_map (λ p e. subst (λ q. Any (λ c. i ≡ c) (children_of q)) e c) placed.there
    child_there i (inr a) = any_left (missing (any? (part? branch) inside) branch) a

    node_right : Interned most ps (node o fs) (intern (node o fs) ps)
    unfolding intern
    node_right = record {
      sound = placed.sound;
      fits = placed.fits;
      means = same_then _ _ _ (equal_same placed.means) branch_means;
      new = λ i l k. elim (dec_lt i (length inside)) [
        | yes u ↦ inr (child_there i (h.new i l u))
        | no v ↦ inl (placed.new i (omega (arith, v)) k)
      ];
    }

leaf_right : {most : ℕ} (p : Predicate) (ps : List Part) → Placed most ps (alone p) (place ps (alone p))
    → Interned most ps (leaf p) (intern (leaf p) ps)
unfolding intern
leaf_right p ps q = record {
  sound = q.sound;
  fits = q.fits;
  means = equal_same q.means;
  new = λ i l k. inl (q.new i l k);
}

pub alone_fit : {most : ℕ} (p : Predicate) (ps : List Part) → 1 ≤ most → Fit most ps (alone p)
alone_fit p ps le = record { below = none; two = tt; unlike = tt; canonical = pnil; small = le }

none_right : {most : ℕ} (ps : List Part) → SoundParts most ps → Interneds most ps done (interns done ps)
unfolding intern
none_right ps s = record { sound = s; fit = none; mean = bnil; new = λ i l k. absurd (omega arith) }

module _ {most : ℕ} (f : Flat Predicate) (fs : Flats Predicate) (ps : List Part) (h : Interned most ps f (intern f ps))
    (k : Interneds most (intern f ps).parts fs (interns fs (intern f ps).parts)) where
  abbrev first : List Part
  first = (intern f ps).parts

  abbrev further : List Part
  further = (interns fs first).parts

  longer : length first ≤ length further
  longer = let t = interns_append fs first in omega (arith, ap length t.1, length-append first t.0)

  child_stays : (i : ℕ) → ChildOf first i → ChildOf further i
  child_stays i a = let t = interns_append fs first in subst (λ l. ChildOf l i) (sym t.1) (any_left t.0 a)

  first_stays : flat_at further (intern f ps).number ≡ flat_at first (intern f ps).number
  first_stays =
      let t = interns_append fs first in
      ap (λ (l : List Part). flat_at l (intern f ps).number) t.1 ∙ flat_at_append first t.0 (intern f ps).number h.fits

  of_first : (i : ℕ) → (i ≡ (intern f ps).number) ⊎ ChildOf first i
      → Any (λ c. i ≡ c) ((intern f ps).number ∷ (interns fs first).numbers) ⊎ ChildOf further i
  of_first i (inl e) = inl (here e)
  of_first i (inr a) = inr (child_stays i a)

  of_further : (i : ℕ) → Any (λ c. i ≡ c) (interns fs first).numbers ⊎ ChildOf further i
      → Any (λ c. i ≡ c) ((intern f ps).number ∷ (interns fs first).numbers) ⊎ ChildOf further i
  of_further i (inl a) = inl (there a)
  of_further i (inr a) = inr a

  more_right : Interneds most ps (more f fs) (interns (more f fs) ps)
  unfolding intern
  more_right = record {
    sound = k.sound;
    fit = both (lt_of_lt_of_le h.fits longer) k.fit;
    mean = bcons (here (same_then _ _ _ (equal_same first_stays) h.means)) k.mean;
    new = λ i l u. elim (dec_lt i (length first)) [
      | yes v ↦ of_first i (h.new i l v)
      | no v ↦ of_further i (k.new i (omega (arith, v)) u)
    ];
  }

mutual
  pub intern_right : {most : ℕ} (f : Flat Predicate) (ps : List Part) → SoundParts most ps → Flattened f → size f ≤ most
      → Interned most ps f (intern f ps)
  intern_right (leaf p) ps s fl le = leaf_right p ps (place_right s (alone p) (alone_fit p ps le))
  intern_right (node o fs) ps s fl le =
      node_right o fs ps (interns_right o fs ps s fl.1 (all_map (λ k h. le_trans h le) (sizes_under o fs))) fl le

  pub interns_right : {most : ℕ} (o : Operator) (fs : Flats Predicate) (ps : List Part) → SoundParts most ps
      → FlattenedUnder o fs → All (λ k. size k ≤ most) (kids fs) → Interneds most ps fs (interns fs ps)
  interns_right o done ps s fl le = none_right ps s
  interns_right o (more f fs) ps s fl (both l le) =
      let h = intern_right f ps s fl.1 l in
      more_right f fs ps h (interns_right o fs (intern f ps).parts h.sound fl.2 le)
