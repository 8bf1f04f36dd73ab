-- Laws of an insert of a flattened rule that is not too large, under an id that is not live, into a sound book.
--   inserted_sound    the book is sound again
--   inserted_tree     each rule that was live means what it meant
--   inserted_counts   the counts are those of the live rules and the new one
-- Assumes nothing.
use Rattle.std.specs.Prelude.{◌≡◌, ◌⊎◌}
use Rattle.std.proofs.Math.Path.{ap, sym}
use Rattle.std.proofs.Common.{◌∙◌, subst, inl, inr, arith, length-append}
use mathlib.Core.List.{List, ◌∷◌, map}
use Prim.Native.Nat.{ℕ, suc, ◌≤◌, ◌<◌}
use Rattle.std.proofs.Math.Nat.{lt_of_lt_of_le}
use Rattle.std.proofs.Math.Decide.{dec_lt}
use Rattle.std.proofs.Math.ListN.{length, length-map}
use Rattle.lists.specs.Places.{both, Any, here, there}
use Rattle.lists.proofs.PlacesLaws.{all_map, all_mapped, all_self, any_map, any_mapped, any_left, map_same, rest_length}
use Rattle.lists.specs.Counting.{Cover}
use Rattle.lists.proofs.SortLaws.{put_place_lem, put_all, put_new, put_old}
use Rattle.predicates.specs.Predicate.{Predicate, list_length}
use Rattle.predicates.proofs.Deciding.{predicate?}
use Rattle.ast.specs.Trees.{Flat}
use Rattle.ast.specs.Flattening.{Flattened}
use Rattle.ast.specs.Same.{Same}
use Rattle.ast.specs.Parts.{size}
use Rattle.ast.specs.Room.{counts_over, parts_of}
use Rattle.ast.proofs.RoomLaws.{counts_same}
use Rattle.ast.specs.Rules.{room_of}
use Rattle.model.specs.Parts.{Part, flat_at, ChildOf}
use Rattle.model.proofs.PartsLaws.{flat_at_append}
use Rattle.model.specs.Rules.{Rule, earlier, entered}
use Rattle.model.specs.RulesLaws.{Free, entered_ascends}
use Rattle.model.specs.Book.{Book, tree_of, live_trees, counts_in}
use Rattle.model.specs.Sound.{Sound}
use Rattle.model.proofs.SoundLaws.{equal_same, same_back}
use Rattle.model.proofs.BookLaws.{counts_live}
use Rattle.model.specs.Intern.{intern, new_parts}
use Rattle.model.proofs.InternLaws.{Interned, intern_new, intern_right}
use Rattle.model.specs.Changes.{inserted}

module _ {most : ℕ} (b : Book) (s : Sound most b) (i : ℕ) (f : Flat Predicate) (free : Free i b.rules)
    (flattened : Flattened f) (small : size f ≤ most) where
  abbrev after : List Part
  after = (intern f b.parts).parts

  abbrev new : Rule ℕ
  new = record { id = i; root = (intern f b.parts).number }

  interned : Interned most b.parts f (intern f b.parts)
  interned = intern_right f b.parts s.whole flattened small

  longer : length b.parts ≤ length after
  longer = omega (arith, ap length (intern_new f b.parts), length-append b.parts (new_parts b.parts f))

  -- ---- the book is sound

  old_use : (j : ℕ) → Any (λ r. j ≡ r.root) b.rules ⊎ ChildOf b.parts j
      → Any (λ r. j ≡ r.root) (entered new b.rules) ⊎ ChildOf after j
  old_use j (inl a) = inl (put_old earlier new b.rules a)
  old_use j (inr a) = inr (subst (λ l. ChildOf l j) (sym (intern_new f b.parts)) (any_left (new_parts b.parts f) a))

  new_use : (j : ℕ) → (j ≡ new.root) ⊎ ChildOf after j → Any (λ r. j ≡ r.root) (entered new b.rules) ⊎ ChildOf after j
  new_use j (inl e) = inl (put_new earlier new b.rules e)
  new_use j (inr a) = inr a

  pub inserted_sound : Sound most (inserted b i f)
  unfolding inserted
  inserted_sound = record {
    whole = interned.sound;
    rooted = put_all earlier new b.rules interned.fits (all_map (λ r h. lt_of_lt_of_le h longer) s.rooted);
    ascending = entered_ascends new free s.ascending;
    used = λ j h. elim (dec_lt j (length b.parts)) [
      | yes u ↦ old_use j (s.used j u)
      | no v ↦ new_use j (interned.new j (omega (arith, v)) h)
    ];
  }

  -- ---- the live rules are those before, and the new one

  pub inserted_tree : (n : ℕ) → n < length b.parts → flat_at after n ≡ flat_at b.parts n
  inserted_tree n h =
      ap (λ (l : List Part). flat_at l n) (intern_new f b.parts) ∙ flat_at_append b.parts (new_parts b.parts f) n h

  pub inserted_new : Same (flat_at after new.root) f
  inserted_new = interned.means

  old_trees : map (tree_of after) b.rules ≡ live_trees b
  old_trees = map_same (tree_of after) (tree_of b.parts) (all_map (λ r h. inserted_tree r.root h) s.rooted)

  pub inserted_has : Cover Same (f ∷ live_trees b) (live_trees (inserted b i f))
  unfolding inserted
  inserted_has =
      let trees = map (tree_of after) (entered new b.rules) in
      let same : (r : Rule ℕ) → Any (λ x. r ≡ x) b.rules → Any (λ x. Same (tree_of after r) (tree_of after x)) b.rules =
      λ r a. any_map (λ x e. equal_same (ap (tree_of after) e)) a in
      let old = all_map (λ r a. any_mapped (tree_of after) (put_old earlier new b.rules (same r a))) (all_self b.rules) in
      both (any_mapped (tree_of after) (put_new earlier new b.rules (same_back _ _ inserted_new)))
      (subst (λ l. Cover Same l trees) old_trees (all_mapped (tree_of after) old))

  pub inserted_only : Cover Same (live_trees (inserted b i f)) (f ∷ live_trees b)
  unfolding inserted
  inserted_only =
      let old : (r : Rule ℕ) → Any (λ x. r ≡ x) b.rules → Any (Same (tree_of after r)) (f ∷ live_trees b) =
      λ r a.
      let same = any_mapped (tree_of after) (any_map (λ x e. equal_same (ap (tree_of after) e)) a) in
      there (subst (λ l. Any (Same (tree_of after r)) l) old_trees same) in
      all_mapped (tree_of after) (put_all earlier new b.rules (here inserted_new) (all_map old (all_self b.rules)))

  -- ---- the counts

  one_more : length (live_trees (inserted b i f)) ≡ length (f ∷ live_trees b)
  unfolding inserted
  one_more =
      let a = put_place_lem earlier new b.rules in
      length-map (entered new b.rules) (tree_of after) ∙ rest_length a.0
      ∙ ap suc (ap length a.1 ∙ sym (length-map b.rules (tree_of b.parts)))

  pub inserted_counts : counts_in (inserted b i f) ≡ room_of (f ∷ live_trees b)
  inserted_counts =
      let trees = live_trees (inserted b i f) in
      let trees' = f ∷ live_trees b in
      counts_live (inserted b i f) inserted_sound
      ∙ ap (λ (n : ℕ). counts_over list_length n (parts_of predicate? trees)) one_more
      ∙ counts_same predicate? list_length (length trees') trees trees' inserted_only inserted_has
