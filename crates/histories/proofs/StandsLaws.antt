-- Laws of books that stand for the live rules of a history.
--   fresh_stands                      a fresh book stands for none
--   forth, back                       each rule of the one has its like in the other, under the same id
--   same_counts                       the counts that the book keeps are the room counts of the live rules
--   both_or_none                      under an id there is a rule in both or in neither, so both answer alike
--   inserted_stands, deleted_stands   an insert and a delete keep a book standing for the live rules
-- Assumes nothing.
use Rattle.std.specs.Prelude.{◌≡◌, Bool, List, [], ◌∷◌, map, ℕ, ◌≤◌, ◌<◌, length}
use Rattle.std.proofs.Math.Path.{refl, subst}
use Rattle.std.proofs.Common.{ap, sym, ◌∙◌, arith}
use Rattle.std.proofs.Math.Option.{Option, some}
use Rattle.std.proofs.Math.Decide.{ℕ_discrete}
use Rattle.std.proofs.lemmas.List.{length-map}
use Rattle.lists.specs.Places.{All, Any, pnil, pcons, Distinct}
use Rattle.lists.proofs.PlacesLaws.{all_map, all_mapped, all_of, any_map, any_mapped, pairwise_mapped}
use Rattle.lists.specs.Counting.{Cover}
use Rattle.lists.proofs.PigeonLaws.{distinct_length}
use Rattle.lists.specs.Sift.{Marked, rank}
use Rattle.predicates.specs.Predicate.{Predicate, list_length}
use Rattle.predicates.proofs.Deciding.{predicate?}
use Rattle.ast.specs.Trees.{Flat}
use Rattle.ast.specs.Flattening.{Flattened}
use Rattle.ast.specs.Same.{Same}
use Rattle.ast.specs.Parts.{size}
use Rattle.ast.specs.Room.{counts_over, parts_of}
use Rattle.ast.proofs.RoomLaws.{counts_same}
use Rattle.ast.specs.Rules.{room_of}
use Rattle.model.specs.Parts.{flat_at}
use Rattle.model.specs.Rules.{Rule, whether, lookup, without}
use Rattle.model.specs.RulesLaws.{SameId, Free, mapped, lookup_none, lookup_some, lookup_has, lookup_each, lookup_without, lookup_entered}
use Rattle.model.specs.RulesLaws.{lookup_moved, without_pairwise, ids_distinct}
use Rattle.model.specs.Book.{Book, fresh, tree_of, live_trees, counts_in}
use Rattle.model.proofs.SoundLaws.{equal_same, same_back, same_then}
use Rattle.model.proofs.BookLaws.{fresh_sound, counts_live}
use Rattle.model.specs.Intern.{intern}
use Rattle.model.specs.Marks.{kept}
use Rattle.model.specs.Changes.{inserted, deleted}
use Rattle.model.proofs.InsertLaws.{inserted_sound, inserted_tree, inserted_new}
use Rattle.model.proofs.DeleteLaws.{marks, roots_stay, deleted_sound, deleted_tree}
use Rattle.histories.proofs.CallsLaws.{BothOrNone}
use Rattle.histories.specs.Live.{trees_of}
use Rattle.histories.specs.Stands.{Like, Stands}

abbrev id_of : {A : Type 0} → Rule A → ℕ
id_of r = r.id

-- rules under distinct ids, each id of which is one of the others, are no more than the others
pub no_more : {A B : Type 0} (rs : List (Rule A)) (rs' : List (Rule B)) → Distinct SameId rs
    → All (λ r. Any (λ r'. r.id ≡ r'.id) rs') rs → length rs ≤ length rs'
no_more rs rs' d h =
    let ids : Distinct ◌≡◌ (map id_of rs) = pairwise_mapped id_of {P = λ r. Unit {0}} (λ r s p q n. n) (all_of (λ r. tt) rs) d in
    let cover : Cover ◌≡◌ (map id_of rs) (map id_of rs') = all_mapped id_of (all_map (λ r a. any_mapped id_of a) h) in
    omega (arith, distinct_length ids cover, length-map rs id_of, length-map rs' id_of)

module _ {S : Type 0} (tree : S → Flat Predicate) (longest : ℕ) where
  pub fresh_stands : Stands tree longest fresh []
  unfolding lookup
  fresh_stands = record { sound = fresh_sound longest; ids = pnil; like = λ i. tt }

  -- ---- the same ids, the same trees

  module _ (b : Book) (live : List (Rule S)) (t : Stands tree longest b live) where
    there_is : (found : Option S) (f : Flat Predicate) (i : ℕ) → lookup i live ≡ found → Like (some f) (mapped tree found)
        → Any (λ e. (i ≡ e.id) × Same f (tree e.root)) live
    there_is Option.none f i e h = absurd h
    there_is (some s) f i e h =
        let over : Rule S → Flat Predicate = λ r. tree r.root in
        any_map (λ r q. (ap id_of q, same_then f (tree s) (over r) h (equal_same (ap over q)))) (lookup_some i s live e)

    pub forth : All (λ r. Any (λ e. (r.id ≡ e.id) × Same (tree_of b.parts r) (tree e.root)) live) b.rules
    forth =
        all_map
        (λ r q.
        there_is (lookup r.id live) (tree_of b.parts r) r.id refl
        (subst (λ o. Like (mapped (flat_at b.parts) o) (mapped tree (lookup r.id live))) q (t.like r.id)))
        (lookup_each (ids_distinct t.sound.ascending))

    here_is : (found : Option ℕ) (f : Flat Predicate) (i : ℕ) → lookup i b.rules ≡ found
        → Like (mapped (flat_at b.parts) found) (some f)
        → Any (λ r. (i ≡ r.id) × Same f (tree_of b.parts r)) b.rules
    here_is Option.none f i e h = absurd h
    here_is (some n) f i e h =
        let over : Rule ℕ → Flat Predicate = tree_of b.parts in
        let h' : Same f (flat_at b.parts n) = same_back (flat_at b.parts n) f h in
        any_map (λ r q. (ap id_of q, same_then f (flat_at b.parts n) (over r) h' (equal_same (ap over q)))) (lookup_some i n b.rules e)

    pub back : All (λ e. Any (λ r. (e.id ≡ r.id) × Same (tree e.root) (tree_of b.parts r)) b.rules) live
    back =
        all_map
        (λ e q.
        here_is (lookup e.id b.rules) (tree e.root) e.id refl
        (subst (λ o. Like (mapped (flat_at b.parts) (lookup e.id b.rules)) (mapped tree o)) q (t.like e.id)))
        (lookup_each t.ids)

    -- ---- room

    same_number : length (live_trees b) ≡ length (trees_of tree live)
    same_number =
        let l = no_more b.rules live (ids_distinct t.sound.ascending) (all_map (λ r a. any_map (λ e q. q.0) a) forth) in
        let k = no_more live b.rules t.ids (all_map (λ e a. any_map (λ r q. q.0) a) back) in
        omega (arith, l, k, length-map b.rules (tree_of b.parts), length-map live (λ r. tree r.root))

    pub same_counts : counts_in b ≡ room_of (trees_of tree live)
    same_counts =
        let trees = live_trees b in
        let trees' = trees_of tree live in
        let over : Rule S → Flat Predicate = λ r. tree r.root in
        let own : Rule ℕ → Flat Predicate = tree_of b.parts in
        let has : Cover Same trees trees' = all_mapped own (all_map (λ r a. any_mapped over (any_map (λ e q. q.1) a)) forth) in
        let only : Cover Same trees' trees = all_mapped over (all_map (λ e a. any_mapped own (any_map (λ r q. q.1) a)) back) in
        counts_live b t.sound
        ∙ ap (λ (n : ℕ). counts_over list_length n (parts_of predicate? trees)) same_number
        ∙ counts_same predicate? list_length (length trees') trees trees' has only

    -- under an id there is a rule in both or in neither
    pub both_or_none : (i : ℕ) → BothOrNone (lookup i b.rules) (lookup i live)
    both_or_none i = go (lookup i b.rules) (lookup i live) (t.like i)
      where
        go : (o : Option ℕ) (q : Option S) → Like (mapped (flat_at b.parts) o) (mapped tree q) → BothOrNone o q
        go Option.none Option.none h = tt
        go Option.none (some s) h = absurd h
        go (some n) Option.none h = absurd h
        go (some n) (some s) h = tt

    -- ---- an insert

    module _ (i : ℕ) (s : S) (free : lookup i b.rules ≡ Option.none) (flattened : Flattened (tree s))
        (small : size (tree s) ≤ longest) where
      abbrev new : Rule ℕ
      new = record { id = i; root = (intern (tree s) b.parts).number }

      free_rules : Free i b.rules
      free_rules = lookup_none i b.rules free

      free_live : lookup i live ≡ Option.none
      free_live = go (lookup i live) (subst (λ o. BothOrNone o (lookup i live)) free (both_or_none i))
        where
          go : (o : Option S) → BothOrNone {A = ℕ} Option.none o → o ≡ Option.none
          go Option.none h = refl
          go (some x) h = absurd h

      like_old : (o : Option ℕ) (q : Option (Flat Predicate)) (j : ℕ) → lookup j b.rules ≡ o → Like (mapped (flat_at b.parts) o) q
          → Like (mapped (flat_at (intern (tree s) b.parts).parts) o) q
      like_old Option.none q j e h = h
      like_old (some n) Option.none j e h = h
      like_old (some n) (some g) j e h =
          let l = lookup_has (λ k. k < length b.parts) j n b.rules t.sound.rooted e in
          same_then _ _ g (equal_same (inserted_tree b t.sound i (tree s) free_rules flattened small n l)) h

      like_new : (j : ℕ) (d : Dec (i ≡ j))
          → Like (mapped (flat_at (intern (tree s) b.parts).parts) (whether d (some new.root) (lookup j b.rules)))
          (mapped tree (whether d (some s) (lookup j live)))
      like_new j (yes e) = inserted_new b t.sound i (tree s) free_rules flattened small
      like_new j (no n) = like_old (lookup j b.rules) (mapped tree (lookup j live)) j refl (t.like j)

      pub inserted_stands : Stands tree longest (inserted b i (tree s)) (record { id = i; root = s } ∷ live)
      unfolding inserted lookup
      inserted_stands = record {
        sound = inserted_sound b t.sound i (tree s) free_rules flattened small;
        ids = pcons (lookup_none i live free_live) t.ids;
        like = λ j.
            let after = (intern (tree s) b.parts).parts in
            subst (λ o. Like (mapped (flat_at after) o) (mapped tree (whether (ℕ_discrete i j) (some s) (lookup j live))))
            (sym (lookup_entered j new b.rules free_rules)) (like_new j (ℕ_discrete i j));
      }

    -- ---- a delete

    module _ (i : ℕ) where
      abbrev marked : List Bool
      marked = marks b t.sound i

      like_kept : (o : Option ℕ) (q : Option (Flat Predicate)) (j : ℕ) → lookup j (without i b.rules) ≡ o
          → Like (mapped (flat_at b.parts) o) q
          → Like (mapped (flat_at (kept marked b.parts)) (mapped (rank marked) o)) q
      like_kept Option.none q j e h = h
      like_kept (some n) Option.none j e h = h
      like_kept (some n) (some g) j e h =
          let Stays : ℕ → Type 0 = λ k. Marked marked k × (k < length b.parts) in
          let stays = lookup_has Stays j n (without i b.rules) (roots_stay b t.sound i) e in
          same_then _ _ g (equal_same (sym (deleted_tree b t.sound i n stays))) h

      like_gone : (j : ℕ) (d : Dec (i ≡ j)) → Like (mapped (flat_at b.parts) (whether d Option.none (lookup j b.rules)))
          (mapped tree (whether d Option.none (lookup j live)))
      like_gone j (yes e) = tt
      like_gone j (no n) = t.like j

      like_left : (j : ℕ) → Like (mapped (flat_at b.parts) (lookup j (without i b.rules))) (mapped tree (lookup j (without i live)))
      like_left j = rw (lookup_without i j b.rules, lookup_without i j live) (like_gone j (ℕ_discrete i j))

      pub deleted_stands : Stands tree longest (deleted b i) (without i live)
      unfolding deleted
      deleted_stands = record {
        sound = deleted_sound b t.sound i;
        ids = without_pairwise i t.ids;
        like = λ j.
            subst (λ o. Like (mapped (flat_at (kept marked b.parts)) o) (mapped tree (lookup j (without i live))))
            (sym (lookup_moved (rank marked) j (without i b.rules)))
            (like_kept (lookup j (without i b.rules)) (mapped tree (lookup j (without i live))) j refl (like_left j));
      }
