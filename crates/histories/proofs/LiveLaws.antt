-- Laws of the live rules of a history: they are what the answers tell, and where they agree under each id they are the same rules.
-- Assumes nothing.
use Rattle.std.specs.Prelude.{◌≡◌, refl, Bool, List, [], ◌∷◌, ℕ}
use Rattle.std.proofs.Common.{sym, ◌∙◌}
use Rattle.error.specs.Answers.{Answer}
use Rattle.lists.specs.Places.{All, Any, Distinct}
use Rattle.lists.proofs.PlacesLaws.{all_map}
use Rattle.model.specs.Rules.{Rule, lookup}
use Rattle.model.specs.RulesLaws.{SameId, lookup_some, lookup_each}
use Rattle.histories.specs.Calls.{Call, next, run, end}
use Rattle.histories.specs.Live.{live_after, lives}

module _ {S : Type 0} (refuses : S → Answer) (room : List (Rule S) → S → Bool) where
  -- what a run ends with is what its answers tell
  pub end_told : (live : List (Rule S)) (l : List (Call S))
      → end (lives refuses room) live l ≡ live_after live (run (lives refuses room) live l)
  end_told live [] = refl
  end_told live (c ∷ l) = end_told (next (lives refuses room) live c) l

-- lists of rules under distinct ids that agree under each id hold the same rules
pub same_rules : {S : Type 0} (live live' : List (Rule S)) → Distinct SameId live → ((i : ℕ) → lookup i live ≡ lookup i live')
    → All (λ r. Any (λ r'. r ≡ r') live') live
same_rules live live' d h = all_map (λ r e. lookup_some r.id r.root live' (sym (h r.id) ∙ e)) (lookup_each d)
