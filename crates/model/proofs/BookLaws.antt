-- Laws of a sound book: its parts are the distinct subexpressions of its live rules, so the counts that it keeps are those of the live
-- rules and of nothing else (`counts_live`); a fresh book is sound. Assumes nothing.
use Rattle.std.specs.Prelude.{◌≡◌, refl, ◌⊎◌, List, map, ℕ, ◌<◌, length}
use Rattle.std.proofs.Common.{ap, sym, ◌∙◌, inl, inr, arith}
use Rattle.std.proofs.lemmas.List.{length-map}
use Rattle.lists.specs.Places.{none, Any, sum, pnil}
use Rattle.lists.proofs.PlacesLaws.{all_map, all_mapped, any_map, any_mapped, get_or_all, sum_map}
use Rattle.lists.specs.Counting.{Cover}
use Rattle.predicates.specs.Predicate.{Predicate, list_length}
use Rattle.predicates.proofs.Deciding.{predicate?}
use Rattle.ast.specs.Trees.{Flat}
use Rattle.ast.specs.TreesLaws.{kids_trees}
use Rattle.ast.specs.Same.{Same}
use Rattle.ast.specs.Parts.{subexpressions, subexpressions_of}
use Rattle.ast.proofs.PartsLaws.{all_flat_map}
use Rattle.ast.specs.Room.{places_of, elements_of, counts_over}
use Rattle.ast.proofs.RoomLaws.{counting_law}
use Rattle.ast.specs.Rules.{room_of}
use Rattle.model.specs.Parts.{Part, alone, over, nothing, flat_in, flat_of, meanings, flat_at, part_places, part_elements, ChildOf}
use Rattle.model.proofs.PartsLaws.{meanings_length, meanings_fixed}
use Rattle.model.specs.Book.{Book, fresh, tree_of, live_trees, counts_in}
use Rattle.model.specs.Sound.{Sound}
use Rattle.model.proofs.SoundLaws.{In, in_same, meanings_distinct, subexpressions_in, parts_used}

pub fresh_sound : (most : ℕ) → Sound most fresh
fresh_sound most = record {
  whole = record { ordered = tt; two = none; unlike = none; canonical = none; distinct = pnil; small = none };
  rooted = none;
  ascending = pnil;
  used = λ i h. absurd (omega arith);
}

-- what a part takes is what its meaning takes
places_part : (ds : List (Flat Predicate)) (p : Part) → places_of (flat_of ds p) ≡ part_places p
places_part ds (alone p) = refl
places_part ds (over o cs) = ap length (kids_trees (map (flat_in ds) cs)) ∙ length-map cs (flat_in ds)

elements_part : (ds : List (Flat Predicate)) (p : Part) → elements_of list_length (flat_of ds p) ≡ part_elements p
elements_part ds (alone p) = refl
elements_part ds (over o cs) = refl

module _ {most : ℕ} (b : Book) (s : Sound most b) where
  -- each subexpression of a live rule is a part, and each part is a subexpression of a live rule
  pub rules_parts : Cover Same (subexpressions_of (live_trees b)) (meanings b.parts)
  rules_parts =
      let each = all_map (λ r h. all_map (λ f a. in_same a) (subexpressions_in s.whole r.root h)) s.rooted in
      all_flat_map subexpressions (all_mapped (tree_of b.parts) each)

  pub part_used : (i : ℕ) → i < length b.parts → In (flat_at b.parts i) (subexpressions_of (live_trees b))
  part_used = parts_used s.whole (live_trees b) (λ i h. as_tree i (s.used i h))
    where
      as_tree : (i : ℕ) → Any (λ r. i ≡ r.root) b.rules ⊎ ChildOf b.parts i
          → In (flat_at b.parts i) (live_trees b) ⊎ ChildOf b.parts i
      as_tree i (inl a) = inl (any_mapped (tree_of b.parts) (any_map (λ r e. ap (flat_at b.parts) e) a))
      as_tree i (inr a) = inr a

  pub parts_rules : Cover Same (meanings b.parts) (subexpressions_of (live_trees b))
  parts_rules = get_or_all (meanings b.parts) nothing (λ i h. in_same (part_used i (omega (arith, meanings_length b.parts))))

  -- the counts that a book keeps are those of its live rules
  pub counts_live : counts_in b ≡ room_of (live_trees b)
  counts_live =
      let ps = b.parts in
      let ds = meanings ps in
      let trees = live_trees b in
      let fixed = meanings_fixed ps s.whole.ordered in
      let n : length b.rules ≡ length trees = sym (length-map b.rules (tree_of ps)) in
      let m : length ps ≡ length ds = sym (meanings_length ps) in
      let p : sum part_places ps ≡ sum places_of ds =
      sym (ap (sum places_of) fixed ∙ sum_map places_of part_places (flat_of ds) (places_part ds) ps) in
      let e : sum part_elements ps ≡ sum (elements_of list_length) ds =
      sym (ap (sum (elements_of list_length)) fixed ∙ sum_map (elements_of list_length) part_elements (flat_of ds) (elements_part ds) ps) in
      let kept : counts_in b ≡ counts_over list_length (length trees) ds =
      λ i. record { rules = n i; parts = m i; places = p i; elements = e i } in
      kept ∙ counting_law predicate? list_length (length trees) ds trees (meanings_distinct s.whole) parts_rules rules_parts
