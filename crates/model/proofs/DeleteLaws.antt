-- Laws of a delete from a sound book.
--   deleted_sound   the book is sound again
--   deleted_tree    each rule that stays means what it meant, by its root's new number
--   deleted_live    the live trees are those of the rules that stay, in their order
--   deleted_counts  so the counts are theirs
-- Assumes nothing.
use Rattle.std.specs.Prelude.{◌≡◌, ◌⊎◌, Bool, ℕ, ◌<◌, length}
use Rattle.std.proofs.Common.{ap, ◌∙◌, inl, inr}
use Rattle.std.proofs.Math.Path.{sym, subst}
use mathlib.Core.List.{List, [], map, map-map}
use Rattle.evaluation.specs.declared.Operator.TheVariants.{Or}
use Rattle.lists.specs.Places.{All, Any}
use Rattle.lists.proofs.PlacesLaws.{all_map, all_both, all_mapped, all_unmapped, any_map, any_mapped, any_unmapped, any_get_or, map_same}
use Rattle.lists.specs.Sift.{Marked, rank}
use Rattle.lists.proofs.SiftLaws.{rank_lt}
use Rattle.ast.specs.Rules.{room_of}
use Rattle.model.specs.Parts.{Part, over, children_of, part_at, flat_at, ChildOf}
use Rattle.model.specs.Rules.{Rule, root_of, without, moved}
use Rattle.model.specs.RulesLaws.{without_all, without_pairwise, moved_ascends}
use Rattle.model.specs.Book.{Book, tree_of, live_trees, counts_in}
use Rattle.model.specs.Sound.{Sound}
use Rattle.model.proofs.BookLaws.{counts_live}
use Rattle.model.specs.Marks.{marks_of, kept}
use Rattle.model.proofs.MarksLaws.{roots_marked, children_marked, marked_why, NeededBelow}
use Rattle.model.proofs.KeptLaws.{children_renumbered, kept_length, kept_part, kept_onto, kept_number, kept_sound}
use Rattle.model.specs.Changes.{deleted}

module _ {most : ℕ} (b : Book) (s : Sound most b) (i : ℕ) where
  -- the rules that stay, and the marks that their roots give
  abbrev staying : List (Rule ℕ)
  staying = without i b.rules

  abbrev pub marks : List Bool
  marks = marks_of b.parts (map root_of staying)

  abbrev left : List Part
  left = kept marks b.parts

  closed : (j : ℕ) → j < length b.parts → Marked marks j → All (Marked marks) (children_of (part_at b.parts j))
  closed = children_marked b.parts (map root_of staying) s.whole.ordered

  rooted : All (λ r. r.root < length b.parts) staying
  rooted = without_all i s.rooted

  -- each root that stays is marked, and in range
  pub roots_stay : All (λ r. Marked marks r.root × (r.root < length b.parts)) staying
  roots_stay =
      let marked = roots_marked b.parts (map root_of staying) (all_mapped root_of rooted) in
      all_both (all_unmapped root_of (Marked marks) staying marked) rooted

  fits : (j : ℕ) → Marked marks j × (j < length b.parts) → rank marks j < length left
  fits j h =
      let long = kept_length b.parts marks s.whole.ordered closed in
      subst (λ n. rank marks j < n) (sym long) (rank_lt marks j (length b.parts) h.0 h.1)

  -- what is marked is a root or a child, by the new numbers
  use_of : (j : ℕ) → Any (λ r. j ≡ r) (map root_of staying) ⊎ NeededBelow b.parts (map root_of staying) j
      → Any (λ r. rank marks j ≡ r.root) (map (moved (rank marks)) staying) ⊎ ChildOf left (rank marks j)
  use_of j (inl a) =
      inl (any_mapped (moved (rank marks)) (any_map (λ r e. ap (rank marks) e) (any_unmapped root_of (λ r. j ≡ r) staying a)))
  use_of j (inr h) =
      let k = h.0 in
      let stays : Marked marks k × (k < length b.parts) = (h.2, h.1) in
      let moved-child = any_mapped (rank marks) (any_map (λ c e. ap (rank marks) e) h.3) in
      let own = subst (λ l. Any (λ c. rank marks j ≡ c) l) (sym (children_renumbered marks (part_at b.parts k))) moved-child in
      inr (any_get_or left (rank marks k) (over Or []) (fits k stays)
      (subst (λ p. Any (λ c. rank marks j ≡ c) (children_of p)) (sym (kept_part b.parts marks s.whole.ordered closed k stays)) own))

  pub deleted_sound : Sound most (deleted b i)
  unfolding deleted
  deleted_sound = record {
    whole = kept_sound b.parts marks s.whole.ordered closed s.whole;
    rooted = all_mapped (moved (rank marks)) (all_map (λ r h. fits r.root h) roots_stay);
    ascending = moved_ascends (rank marks) (without_pairwise i s.ascending);
    used = λ q h.
        let r = kept_onto b.parts marks s.whole.ordered closed q h in
        subst (λ n. Any (λ r. n ≡ r.root) (map (moved (rank marks)) staying) ⊎ ChildOf left n) r.2
        (use_of r.0 (marked_why b.parts (map root_of staying) r.0 r.1.0));
  }

  -- ---- the live rules

  pub deleted_tree : (n : ℕ) → Marked marks n × (n < length b.parts) → flat_at b.parts n ≡ flat_at left (rank marks n)
  deleted_tree = kept_number b.parts marks s.whole.ordered closed

  pub deleted_live : live_trees (deleted b i) ≡ map (tree_of b.parts) staying
  unfolding deleted
  deleted_live =
      map-map (tree_of left) (moved (rank marks)) staying
      ∙ map_same (λ r. flat_at left (rank marks r.root)) (tree_of b.parts) (all_map (λ r h. sym (deleted_tree r.root h)) roots_stay)

  pub deleted_counts : counts_in (deleted b i) ≡ room_of (map (tree_of b.parts) staying)
  deleted_counts = counts_live (deleted b i) deleted_sound ∙ ap room_of deleted_live
