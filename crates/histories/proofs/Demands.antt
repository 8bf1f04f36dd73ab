-- The demands, over histories of calls on a fresh book. A sheet s spells the tree `original s`, of predicates P; the book keeps it
-- flattened, `lit` being a predicate as it is kept, negated or not. Of sheets it is assumed that one without fault has at most `longest`
-- entries, and of an event, where it matters, that a negated predicate is worth Kleene's Not of the predicate.
--   demand_2          after any calls, a search gives the report of the live rules' original trees; `report_one` says there is one only
--   demand_3          two merges of the owners' calls, in neither of which anything is refused for room, tell each owner the same, call by
--                     call, and end with the same report on every event and the same room counts
--   counts_of_live    the counts follow from the live rules only
--   room_exactly      an insert with no other fault is refused for room exactly where a count with it would pass its limit
--   always_sound      every book that is reached is sound
use Rattle.std.specs.Prelude.{◌≡◌, ◌↔◌, Bool, List, [], ◌∷◌, ℕ, ◌≤◌, length}
use Rattle.std.proofs.Common.{ap, sym, ◌∙◌, subst, le_trans, arith}
use Rattle.std.proofs.Math.Option.{none}
use Rattle.std.proofs.lemmas.List.{length-map}
use Rattle.error.specs.Answers.{Answer, Done, Refused}
use Rattle.error.specs.declared.Refusal.TheVariants.{NoRoom}
use Rattle.evaluation.specs.declared.Truth.{Truth}
use Rattle.evaluation.specs.Kleene.{truth_under}
use Rattle.lists.specs.Places.{All, Any, Distinct}
use Rattle.lists.proofs.PlacesLaws.{all_map, all_mapped, any_map, any_mapped}
use Rattle.lists.specs.Counting.{Cover}
use Rattle.predicates.specs.Predicate.{Predicate, list_length}
use Rattle.predicates.proofs.Deciding.{predicate?}
use Rattle.ast.specs.Trees.{Tree, value, entries, Flat, flat_value}
use Rattle.ast.specs.Flattening.{optimize}
use Rattle.ast.proofs.FlatteningLaws.{optimize_value, flat_flattened}
use Rattle.ast.proofs.SizeLaws.{flat_size}
use Rattle.ast.specs.Same.{Same}
use Rattle.ast.specs.Room.{Counts, Within, counts_over, parts_of}
use Rattle.ast.proofs.RoomLaws.{counts_same}
use Rattle.ast.specs.Rules.{room_of}
use Rattle.model.specs.Rules.{Rule, lookup}
use Rattle.model.specs.RulesLaws.{SameId}
use Rattle.model.specs.Book.{Book, fresh, live_trees, counts_in}
use Rattle.model.specs.Sound.{Sound}
use Rattle.model.proofs.SoundLaws.{equal_same}
use Rattle.model.specs.Search.{search}
use Rattle.histories.specs.Calls.{insert, Call, Told, Machine, answer_of, run, end, room_in, books}
use Rattle.histories.proofs.CallsLaws.{Each}
use Rattle.histories.specs.Live.{trees_of, lives, room_beside, live_rules}
use Rattle.histories.proofs.LiveLaws.{same_rules}
use Rattle.histories.proofs.StandsLaws.{no_more}
use Rattle.histories.proofs.Runs.{Fit, answers_live, live_end, reached, reached_sound, reached_counts, no_room}
use Rattle.histories.specs.Owners.{told_of, Merges, Apart, Roomy}
use Rattle.histories.proofs.OwnersLaws.{merged_answers, merged_live}
use Rattle.histories.specs.Report.{Report}
use Rattle.histories.proofs.ReportLaws.{report_one, report_worth, search_report}

-- ---- the same live rules have the same room counts

module _ {S : Type 0} (tree : S → Flat Predicate) where
  among : (live live' : List (Rule S)) → All (λ e. Any (λ e'. e ≡ e') live') live → Cover Same (trees_of tree live) (trees_of tree live')
  among live live' h =
      let over : Rule S → Flat Predicate = λ r. tree r.root in
      all_mapped over (all_map (λ e a. any_mapped over (any_map (λ e' q. equal_same (ap over q)) a)) h)

  same_room : (live live' : List (Rule S)) → Distinct SameId live → Distinct SameId live'
      → All (λ e. Any (λ e'. e ≡ e') live') live → All (λ e. Any (λ e'. e ≡ e') live) live'
      → room_of (trees_of tree live) ≡ room_of (trees_of tree live')
  same_room live live' d d' h k =
      let ids : (l m : List (Rule S)) → All (λ e. Any (λ e'. e ≡ e') m) l → All (λ e. Any (λ e'. e.id ≡ e'.id) m) l =
      λ l m a. all_map (λ e b. any_map (λ e' q. ap (λ (x : Rule S). x.id) q) b) a in
      let over : Rule S → Flat Predicate = λ r. tree r.root in
      let trees = trees_of tree live in
      let trees' = trees_of tree live' in
      let n : length trees ≡ length trees' =
      let less = no_more live live' d (ids live live' h) in
      let more = no_more live' live d' (ids live' live k) in
      omega (arith, less, more, length-map live over, length-map live' over) in
      ap (λ (m : ℕ). counts_over list_length m (parts_of predicate? trees)) n
      ∙ counts_same predicate? list_length (length trees') trees trees' (among live live' h) (among live' live k)

module _ {S P : Type 0} (refuses : S → Answer) (original : S → Tree P) (lit : Bool → P → Predicate) (most : Counts) (longest : ℕ)
    (short : (s : S) → refuses s ≡ Done → entries (original s) ≤ longest) where
  abbrev pub tree : S → Flat Predicate
  tree s = optimize lit (original s)

  fit : Fit refuses tree longest
  fit s e = (flat_flattened lit Bool.false (original s), le_trans (flat_size lit Bool.false (original s)) (short s e))

  -- calls on a book, the book after them, and the rules that are live by their answers
  abbrev pub calls : Machine Book S
  calls = books refuses tree most

  abbrev pub book_after : List (Call S) → Book
  book_after l = end calls fresh l

  abbrev pub live : List (Call S) → List (Rule S)
  live l = live_rules refuses tree most l

  pub always_sound : (l : List (Call S)) → Sound longest (book_after l)
  always_sound = reached_sound refuses tree most longest fit

  pub counts_of_live : (l : List (Call S)) → counts_in (book_after l) ≡ room_of (trees_of tree (live l))
  counts_of_live = reached_counts refuses tree most longest fit

  pub room_exactly : (b : Book) → Sound longest b → (i : ℕ) (s : S) → refuses s ≡ Done → lookup i b.rules ≡ none
      → (answer_of refuses (lookup i b.rules) (room_in refuses tree most b i) (insert s) ≡ Refused NoRoom)
      ↔ (¬ Within (room_of (tree s ∷ live_trees b)) most)
  room_exactly b sound i s e free = no_room refuses tree most longest fit b sound i s e free

  -- v is what a predicate of a sheet is worth on an event, and w what one that the book keeps is worth
  pub demand_2 : (v : P → Truth) (w : Predicate → Truth) → ((negate : Bool) (p : P) → w (lit negate p) ≡ truth_under negate (v p))
      → (l : List (Call S)) → Report (λ s. value v (original s)) (live l) (search w (book_after l))
  demand_2 v w worth l =
      report_worth (λ s. flat_value w (tree s)) (λ s. value v (original s)) (λ s. optimize_value lit v w worth (original s))
      (search_report tree longest (book_after l) (live l) (reached refuses tree most longest fit l) w)

  -- what two merges have in common
  pub record Alike (l l' : List (Call S)) : Type 0 where
    pub answers : (o : ℕ) → told_of o (run calls fresh l) ≡ told_of o (run calls fresh l')
    pub reports : (w : Predicate → Truth) → search w (book_after l) ≡ search w (book_after l')
    pub counts : counts_in (book_after l) ≡ counts_in (book_after l')

  module _ (l l' : List (Call S)) (merges : Merges l l') (apart : Apart l) (roomy : Each Roomy (run calls fresh l))
      (roomy' : Each Roomy (run calls fresh l')) where
    abbrev told : List (Call S) → List (Told S)
    told k = run (lives refuses (room_beside tree most)) [] k

    by_live : (k : List (Call S)) → run calls fresh k ≡ told k
    by_live = answers_live refuses tree most longest fit

    live_roomy : (k : List (Call S)) → Each Roomy (run calls fresh k) → Each Roomy (told k)
    live_roomy k r = subst (λ ts. Each Roomy ts) (by_live k) r

    same_answers : (o : ℕ) → told_of o (run calls fresh l) ≡ told_of o (run calls fresh l')
    same_answers o =
        ap (told_of o) (by_live l)
        ∙ merged_answers refuses (room_beside tree most) [] l l' merges apart (live_roomy l roomy) (live_roomy l' roomy') o
        ∙ sym (ap (told_of o) (by_live l'))

    same_live : (i : ℕ) → lookup i (live l) ≡ lookup i (live l')
    same_live i =
        ap (lookup i) (sym (live_end refuses tree most longest fit l))
        ∙ merged_live refuses (room_beside tree most) [] l l' merges apart (live_roomy l roomy) (live_roomy l' roomy') i
        ∙ ap (lookup i) (live_end refuses tree most longest fit l')

    pub demand_3 : Alike l l'
    demand_3 =
        let stands = reached refuses tree most longest fit in
        let forth = same_rules (live l) (live l') (stands l).ids same_live in
        let back = same_rules (live l') (live l) (stands l').ids (λ i. sym (same_live i)) in
        record {
          answers = same_answers;
          reports = λ w.
              report_one (λ s. flat_value w (tree s)) (search_report tree longest (book_after l) (live l) (stands l) w)
              (search_report tree longest (book_after l') (live l') (stands l') w) forth back;
          counts =
              counts_of_live l
              ∙ same_room tree (live l) (live l') (stands l).ids (stands l').ids forth back
              ∙ sym (counts_of_live l');
        }
