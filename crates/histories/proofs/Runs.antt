-- What a history of calls on a fresh book gives. A sheet without fault spells a flattened rule of at most `longest` entries (`Fit`): that
-- is all that is assumed of sheets.
--   answers_live    the book answers as the live rules alone do
--   reached         the book that is reached is sound and stands for the live rules that the answers tell
--   reached_counts  its counts are the room counts of these and of nothing else
--   no_room         an insert with no other fault is refused for room exactly where a room count with it passes its limit
-- Assumes nothing else.
use Rattle.std.specs.Prelude.{◌≡◌, refl, ◌↔◌, Bool, true, false, List, [], ◌∷◌, ℕ, ◌≤◌}
use Rattle.std.proofs.Common.{ap, sym, ◌∙◌, subst, true≢false, arith}
use Rattle.std.proofs.Math.Option.{Option, none}
use Rattle.error.specs.Answers.{Answer, Done, Refused}
use Rattle.error.specs.declared.Refusal.TheVariants.{NoRoom}
use Rattle.lists.proofs.PlacesLaws.{all_of}
use Rattle.predicates.specs.Predicate.{Predicate}
use Rattle.ast.specs.Trees.{Flat}
use Rattle.ast.specs.Flattening.{Flattened}
use Rattle.ast.specs.Parts.{size}
use Rattle.ast.specs.Room.{Counts, Within}
use Rattle.ast.specs.Rules.{room_of}
use Rattle.model.specs.Rules.{Rule, lookup}
use Rattle.model.specs.RulesLaws.{lookup_none}
use Rattle.model.specs.Book.{Book, fresh, live_trees, counts_in}
use Rattle.model.specs.Sound.{Sound}
use Rattle.model.proofs.InsertLaws.{inserted_counts}
use Rattle.histories.specs.Calls.{Act, insert, delete, Call, Machine, answer_of, where_free, room_answer, run, end}
use Rattle.histories.specs.Calls.{within, room_in, change_of, books}
use Rattle.error.proofs.AnswersLaws.{then_done}
use Rattle.histories.proofs.CallsLaws.{Follows, answer_alike, insert_done, within_iff, differ, run_alike, end_alike}
use Rattle.histories.specs.Live.{live_after, live_change, trees_of, lives, room_beside, live_rules}
use Rattle.histories.proofs.LiveLaws.{end_told}
use Rattle.histories.specs.Stands.{Stands}
use Rattle.histories.proofs.StandsLaws.{fresh_stands, both_or_none, same_counts, inserted_stands, deleted_stands}

-- a sheet without fault spells a flattened rule that is not too large
abbrev pub Fit : {S : Type 0} → (S → Answer) → (S → Flat Predicate) → ℕ → Type 0
Fit {S} refuses tree longest = (s : S) → refuses s ≡ Done → Flattened (tree s) × (size (tree s) ≤ longest)

module _ {S : Type 0} (refuses : S → Answer) (tree : S → Flat Predicate) (most : Counts) (longest : ℕ)
    (fit : Fit refuses tree longest) where
  abbrev calls : Machine Book S
  calls = books refuses tree most

  abbrev live_calls : Machine (List (Rule S)) S
  live_calls = lives refuses (room_beside tree most)

  -- ---- the book and the live rules answer alike

  same_room : (b : Book) (live : List (Rule S)) → Stands tree longest b live
      → (i : ℕ) (s : S) → refuses s ≡ Done → lookup i b.rules ≡ none
      → room_in refuses tree most b i s ≡ room_beside tree most live s
  same_room b live t i s e free =
      let f = fit s e in
      ap (λ (c : Counts). within c most) (same_counts tree longest _ _ (inserted_stands tree longest b live t i s free f.0 f.1))

  same_answer : (b : Book) (live : List (Rule S)) (c : Call S) → Stands tree longest b live → calls.answer b c ≡ live_calls.answer live c
  same_answer b live c t =
      let i = c.id in
      answer_alike refuses (lookup i b.rules) (lookup i live) (room_in refuses tree most b i) (room_beside tree most live) c.act
      (both_or_none tree longest b live t c.id) (same_room b live t c.id)

  change_stands : (b : Book) (live : List (Rule S)) → Stands tree longest b live → (i : ℕ) (act : Act S)
      → answer_of refuses (lookup i b.rules) (room_in refuses tree most b i) act ≡ Done
      → Stands tree longest (change_of refuses tree most b i act) (live_change live i act)
  change_stands b live t i (insert s) e =
      let h = (insert_done (refuses s) (lookup i b.rules) (room_in refuses tree most b i s)).0 e in
      let f = fit s h.0 in
      inserted_stands tree longest b live t i s h.1 f.0 f.1
  change_stands b live t i delete e = deleted_stands tree longest b live t i

  -- nothing is asked of the answers
  live_follow : Follows calls live_calls (Stands tree longest) (λ a. Unit {0})
  live_follow = record {
    answers = λ b live c t f. same_answer b live c t;
    changes = λ b live c t e. change_stands b live t c.id c.act e;
  }

  pub answers_live : (l : List (Call S)) → run calls fresh l ≡ run live_calls [] l
  answers_live l = run_alike live_follow fresh [] l (fresh_stands tree longest) (all_of (λ t. tt) (run calls fresh l))

  end_stands : (l : List (Call S)) → Stands tree longest (end calls fresh l) (end live_calls [] l)
  end_stands l = end_alike live_follow fresh [] l (fresh_stands tree longest) (all_of (λ t. tt) (run calls fresh l))

  -- ---- what is reached

  abbrev live : List (Call S) → List (Rule S)
  live l = live_rules refuses tree most l

  pub live_end : (l : List (Call S)) → end live_calls [] l ≡ live l
  live_end l = end_told refuses (room_beside tree most) [] l ∙ ap (live_after []) (sym (answers_live l))

  pub reached : (l : List (Call S)) → Stands tree longest (end calls fresh l) (live l)
  reached l = subst (λ rules. Stands tree longest (end calls fresh l) rules) (live_end l) (end_stands l)

  pub reached_sound : (l : List (Call S)) → Sound longest (end calls fresh l)
  reached_sound l = (reached l).sound

  pub reached_counts : (l : List (Call S)) → counts_in (end calls fresh l) ≡ room_of (trees_of tree (live l))
  reached_counts l = same_counts tree longest (end calls fresh l) (live l) (reached l)

  -- ---- room: on every sound book, reached or not

  module _ (b : Book) (sound : Sound longest b) (i : ℕ) (s : S) (no-fault : refuses s ≡ Done) (free : lookup i b.rules ≡ none) where
    -- the answer to the insert of s under i
    abbrev insertion : Answer
    insertion = answer_of refuses (lookup i b.rules) (room_in refuses tree most b i) (insert s)

    -- no room count of the live rules and the new one passes its limit
    abbrev Room : Type 0
    Room = Within (room_of (tree s ∷ live_trees b)) most

    by_room : insertion ≡ room_answer (within (room_of (tree s ∷ live_trees b)) most)
    by_room =
        let f = fit s no-fault in
        let counts = inserted_counts b sound i (tree s) (lookup_none i b.rules free) f.0 f.1 in
        then_done (refuses s) _ no-fault
        ∙ ap (λ (o : Option ℕ). where_free o (room_answer (room_in refuses tree most b i s))) free
        ∙ ap (λ (c : Counts). room_answer (within c most)) counts

    room_answer_lem : (r : Bool) → (room_answer r ≡ Done → r ≡ true) × (room_answer r ≡ Refused NoRoom → r ≡ false)
    room_answer_lem true = (λ e. refl, λ e. absurd (differ Done (Refused NoRoom) (λ z. omega arith) e))
    room_answer_lem false = (λ e. absurd (differ (Refused NoRoom) Done (λ z. omega arith) e), λ e. refl)

    pub has_room : (insertion ≡ Done) ↔ Room
    has_room =
        let c = room_of (tree s ∷ live_trees b) in (
          λ e. (within_iff c most).0 ((room_answer_lem (within c most)).0 (sym by_room ∙ e)),
          λ w. by_room ∙ ap room_answer ((within_iff c most).1 w),
        )

    pub no_room : (insertion ≡ Refused NoRoom) ↔ (¬ Room)
    no_room =
        let c = room_of (tree s ∷ live_trees b) in (
          λ e w. true≢false (sym ((within_iff c most).1 w) ∙ (room_answer_lem (within c most)).1 (sym by_room ∙ e)),
          λ n. by_room ∙ ap room_answer (false_of (within c most) (λ e. n ((within_iff c most).0 e))),
        )
      where
        false_of : (r : Bool) → ¬ (r ≡ true) → r ≡ false
        false_of true n = absurd (n refl)
        false_of false n = refl
