-- The live rules of a history: the sheets of the inserts that were answered Done, less those deleted. As a machine they answer calls with
-- no book at hand, room being judged by the room counts of the live rules and the new one. Assumes nothing: these are definitions.
use Rattle.std.specs.Prelude.{Bool, List, [], ◌∷◌, map, ℕ}
use Rattle.error.specs.Answers.{Answer}
use Rattle.predicates.specs.Predicate.{Predicate}
use Rattle.ast.specs.Trees.{Flat}
use Rattle.ast.specs.Room.{Counts}
use Rattle.ast.specs.Rules.{room_of}
use Rattle.model.specs.Rules.{Rule, lookup, without}
use Rattle.model.specs.Book.{fresh}
use Rattle.histories.specs.Calls.{Act, insert, delete, Call, Told, Machine, answer_of, unless, run, within, books}

abbrev pub live_change : {S : Type 0} → List (Rule S) → ℕ → Act S → List (Rule S)
live_change live i (insert s) = record { id = i; root = s } ∷ live
live_change live i delete = without i live

-- the live rules after calls that were answered so
abbrev pub live_after : {S : Type 0} → List (Rule S) → List (Told S) → List (Rule S)
live_after live [] = live
live_after live (t ∷ ts) = live_after (unless t.answer (live_change live t.call.id t.call.act) live) ts

-- live rules as flattened trees
abbrev pub trees_of : {S : Type 0} → (S → Flat Predicate) → List (Rule S) → List (Flat Predicate)
trees_of tree live = map (λ r. tree r.root) live

-- calls answered by the live rules alone, `room` being whether a sheet finds room beside them
abbrev pub lives : {S : Type 0} → (S → Answer) → (List (Rule S) → S → Bool) → Machine (List (Rule S)) S
lives refuses room = record {
  answer = λ live c. answer_of refuses (lookup c.id live) (room live) c.act;
  changed = λ live c. live_change live c.id c.act;
}

-- there is room where the room counts with the sheet are within the limits
abbrev pub room_beside : {S : Type 0} → (S → Flat Predicate) → Counts → List (Rule S) → S → Bool
room_beside tree most live s = within (room_of (tree s ∷ trees_of tree live)) most

-- the rules that are live after calls on a fresh book, by its answers
abbrev pub live_rules : {S : Type 0} → (S → Answer) → (S → Flat Predicate) → Counts → List (Call S) → List (Rule S)
live_rules refuses tree most l = live_after [] (run (books refuses tree most) fresh l)
