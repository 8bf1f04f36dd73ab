-- Laws of what interning finds: a rule that a part means already brings nothing, and that part's number is handed back (`intern_there`);
-- and a rule brings at most as many parts as it has entries (`new_most`). Assumes nothing.
use Rattle.std.specs.Prelude.{◌≡◌, refl, ℕ, ◌+◌, ◌≤◌, ◌<◌}
use Rattle.std.proofs.Math.Path.{ap, subst}
use Rattle.std.proofs.Common.{sym, ◌∙◌, le_trans, lt_of_lt_of_le, arith, length-append}
use mathlib.Core.List.{List, [], ◌∷◌, ◌++◌, map, append-nil}
use Rattle.std.proofs.Math.ListN.{length}
use Rattle.evaluation.specs.declared.Operator.{Operator}
use Rattle.lists.specs.Places.{All, both, Any, at, index, any?}
use Rattle.lists.proofs.PlacesLaws.{holds, all_map, all_at, any_unmapped}
use Rattle.lists.proofs.PlacesLaws.{index_lt}
use Rattle.lists.specs.Bag.{Bag}
use Rattle.lists.proofs.BagLaws.{bag_cover, bag_equivalence}
use Rattle.lists.specs.First.{number_of}
use Rattle.predicates.specs.Predicate.{Predicate}
use Rattle.ast.specs.Trees.{Flat, leaf, node, Flats, done, more, kids, trees}
use Rattle.ast.specs.TreesLaws.{kids_trees}
use Rattle.ast.specs.Flattening.{Flattened, FlattenedUnder}
use Rattle.ast.specs.Same.{Same}
use Rattle.ast.proofs.SameLaws.{same_equivalence, same_node}
use Rattle.ast.specs.Parts.{size}
use Rattle.model.specs.Parts.{Part, alone, over, part?, part_at, flat_of, meanings, flat_at, Below}
use Rattle.model.proofs.PartsLaws.{flat_at_append, flat_at_new, flat_at_part, flat_at_place, part_below}
use Rattle.model.specs.Sound.{SoundParts}
use Rattle.model.proofs.SoundLaws.{equal_same, same_back, same_then, number_once}
use Rattle.model.specs.Intern.{Put, missing, place, in_order, intern, interns, new_parts}
use Rattle.model.proofs.InternLaws.{Fit, Interneds, intern_new, sound_snoc, alone_fit}
use Rattle.model.proofs.InternLaws.{sizes_under, branch, branch_means, branch_fit, interns_right}
use Rattle.ast.specs.Parts.{subexpressions, subexpressions_under}
use Rattle.ast.proofs.SizeLaws.{parts_size}

-- ---- what is there already

module _ {most : ℕ} {ps : List Part} (s : SoundParts most ps) (x : Part) (f : Fit most ps x) (i : ℕ) (h : i < length ps)
    (e : Same (flat_at ps i) (flat_of (meanings ps) x)) where
  found_there : (d : Dec (Any (λ y. x ≡ y) ps))
      → ◌≡◌ {A = Put} (record { parts = ps ++ missing d x; number = number_of d }) (record { parts = ps; number = i })
  found_there (yes a) =
      let means = flat_at_place ps s.ordered a ∙ ap (flat_of (meanings ps)) (sym (holds a)) in
      let same = same_then _ _ _ (equal_same means) (same_back _ _ e) in
      let n = number_once s (index a) i (index_lt a) h same in
      λ t. record { parts = append-nil ps t; number = n t }
  found_there (no n) =
      let q = sound_snoc s x f n in
      let long = length-append ps (x ∷ []) in
      let old = equal_same (flat_at_append ps (x ∷ []) i h) in
      let new = equal_same (sym (flat_at_new ps x)) in
      let same = same_then _ _ _ (same_then _ _ _ old e) new in
      let k = number_once q i (length ps) (omega arith) (omega arith) same in
      absurd (omega (arith, k, h))

  pub place_there : place ps x ≡ record { parts = ps; number = i }
  unfolding place
  place_there = found_there (any? (part? x) ps)

-- each child of a rule that a part means is meant by a part
abbrev Meant : List Part → Flat Predicate → Type 0
Meant ps f = (c : ℕ) × (c < length ps) × Same (flat_at ps c) f

leaf_no_node : (p : Predicate) (o : Operator) (fs : Flats Predicate) → ¬ Same (leaf p) (node o fs)
unfolding Same
leaf_no_node p o fs e = e

kids_meant : (ps : List Part) (n : ℕ) → n ≤ length ps → (x : Part) → Below n x → (o : Operator) (fs : Flats Predicate)
    → Same (flat_of (meanings ps) x) (node o fs) → All (Meant ps) (kids fs)
kids_meant ps n h (alone p) b o fs e = absurd (leaf_no_node p o fs e)
kids_meant ps n h (over o' cs) b o fs e =
    let l = map (flat_at ps) cs in
    let bag = subst (λ m. Bag Same m (kids fs)) (kids_trees l) ((same_node o' o (trees l) fs).0 e).1 in
    let back = (bag_equivalence same_equivalence).symmetric l (kids fs) bag in
    all_map (λ k a. let c = any_unmapped (flat_at ps) (Same k) cs a in (at c, lt_of_lt_of_le (all_at b c) h, same_back _ _ (holds c)))
    (bag_cover back)

module _ {most : ℕ} (o : Operator) (fs : Flats Predicate) (ps : List Part) (h : Interneds most ps fs (interns fs ps))
    (fl : Flattened (node o fs)) (le : size (node o fs) ≤ most) (stays : (interns fs ps).parts ≡ ps)
    (i : ℕ) (l : i < length ps) (e : Same (flat_at ps i) (node o fs)) where
  node_there : intern (node o fs) ps ≡ record { parts = ps; number = i }
  unfolding intern
  node_there =
      let same = subst (λ q. Same (flat_at q i) (node o fs)) (sym stays) e in
      let back = same_back _ _ (branch_means o fs ps h) in
      place_there h.sound (branch o fs ps h) (branch_fit o fs ps h fl le) i (subst (λ q. i < length q) (sym stays) l)
      (same_then _ _ _ same back)
      ∙ ap (λ (q : List Part). record { parts = q; number = i }) stays

mutual
  unfolding intern

  pub intern_there : {most : ℕ} (f : Flat Predicate) (ps : List Part) → SoundParts most ps → Flattened f → size f ≤ most
      → (i : ℕ) → i < length ps → Same (flat_at ps i) f → intern f ps ≡ record { parts = ps; number = i }
  intern_there (leaf p) ps s fl le i l e = place_there s (alone p) (alone_fit p ps le) i l e
  intern_there (node o fs) ps s fl le i l e =
      let small = all_map (λ k h. le_trans h le) (sizes_under o fs) in
      let below = part_below ps s.ordered i l in
      let same = subst (λ f. Same f (node o fs)) (flat_at_part ps s.ordered i) e in
      let meant = kids_meant ps i (omega arith) (part_at ps i) below o fs same in
      node_there o fs ps (interns_right o fs ps s fl.1 small) fl le (interns_there o fs ps s fl.1 small meant) i l e

  interns_there : {most : ℕ} (o : Operator) (fs : Flats Predicate) (ps : List Part) → SoundParts most ps
      → FlattenedUnder o fs → All (λ k. size k ≤ most) (kids fs) → All (Meant ps) (kids fs) → (interns fs ps).parts ≡ ps
  interns_there o done ps s fl le m = refl
  interns_there o (more f fs) ps s fl (both l le) (both c m) =
      let e = intern_there f ps s fl.1 l c.0 c.1 c.2 in
      ap (λ (r : Put). (interns fs r.parts).parts) e ∙ interns_there o fs ps s fl.2 le m

-- ---- how many are new

missing_most : {Y : Type 0} (d : Dec Y) (x : Part) → length (missing d x) ≤ 1
missing_most (yes y) x = omega arith
missing_most (no n) x = omega arith

pub place_most : (ps : List Part) (x : Part) → length (place ps x).parts ≤ 1 + length ps
unfolding place
place_most ps x =
    let d = any? (part? x) ps in
    omega (arith, missing_most d x, length-append ps (missing d x))

mutual
  unfolding intern

  intern_most : (f : Flat Predicate) (ps : List Part) → length (intern f ps).parts ≤ length (subexpressions f) + length ps
  intern_most (leaf p) ps = place_most ps (alone p)
  intern_most (node o fs) ps =
      let r = interns fs ps in
      omega (arith, place_most r.parts (over o (in_order r.parts r.numbers)), interns_most fs ps)

  interns_most : (fs : Flats Predicate) (ps : List Part) → length (interns fs ps).parts ≤ length (subexpressions_under fs) + length ps
  interns_most done ps = omega arith
  interns_most (more f fs) ps =
      omega (arith, intern_most f ps, interns_most fs (intern f ps).parts, length-append (subexpressions f) (subexpressions_under fs))

pub new_most : (f : Flat Predicate) → Flattened f → (ps : List Part) → length (new_parts ps f) ≤ size f
new_most f fl ps =
    omega (arith, intern_most f ps, ap length (intern_new f ps), length-append ps (new_parts ps f), parts_size f fl)
