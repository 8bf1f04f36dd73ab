-- Laws of search.
--   value_over          an And or Or is worth the join of what its children are worth
--   reported_iff        an id is reported exactly where a rule of that id is true
--   reported_ascends    a report ascends where the ids do
-- Assumes nothing.
use Rattle.std.specs.Prelude.{◌≡◌, refl, ◌⊎◌, ◌↔◌, List, [], ◌∷◌, map, ℕ, ◌<◌}
use Rattle.std.proofs.Common.{inl, inr, arith}
use Rattle.evaluation.specs.declared.Truth.{Truth}
use Rattle.evaluation.specs.declared.Truth.TheVariants.{False, Undefined, True}
use Rattle.evaluation.specs.declared.Operator.{Operator}
use Rattle.evaluation.specs.Kleene.{join_all}
use Rattle.lists.specs.Places.{All, none, both, Any, here, there, pnil, pcons}
use Rattle.lists.proofs.PlacesLaws.{no_any}
use Rattle.lists.specs.Ascending.{Ascending}
use Rattle.predicates.specs.Predicate.{Predicate}
use Rattle.ast.specs.Trees.{flat_value}
use Rattle.model.specs.Parts.{Part, over, flat_of, meanings}
use Rattle.model.proofs.PartsLaws.{fold_over}
use Rattle.model.specs.Rules.{Rule, IdsAscend}
use Rattle.model.specs.Search.{value_at, if_true, reported}

pub value_over : (v : Predicate → Truth) (ps : List Part) (o : Operator) (cs : List ℕ)
    → flat_value v (flat_of (meanings ps) (over o cs)) ≡ join_all o (map (value_at v ps) cs)
value_over v ps o cs = fold_over ps v join_all o cs

-- ---- which ids are reported

-- a rule of the id i is true
abbrev pub TrueUnder : (ℕ → Truth) → List (Rule ℕ) → ℕ → Type 0
TrueUnder value rs i = Any (λ r. (i ≡ r.id) × (value r.root ≡ True)) rs

module _ (i j : ℕ) (others : List ℕ) where
  in_cases : (t : Truth) → Any (λ x. i ≡ x) (if_true t j others) → ((t ≡ True) × (i ≡ j)) ⊎ Any (λ x. i ≡ x) others
  in_cases False a = inr a
  in_cases Undefined a = inr a
  in_cases True (here e) = inl (refl, e)
  in_cases True (there a) = inr a

  in_later : (t : Truth) → Any (λ x. i ≡ x) others → Any (λ x. i ≡ x) (if_true t j others)
  in_later False a = a
  in_later Undefined a = a
  in_later True a = there a

  in_first : (t : Truth) → t ≡ True → i ≡ j → Any (λ x. i ≡ x) (if_true t j others)
  in_first False e q = absurd (let z : ◌≡◌ {A = ℕ} 0 1 = cc in omega arith)
  in_first Undefined e q = absurd (let z : ◌≡◌ {A = ℕ} 0 1 = cc in omega arith)
  in_first True e q = here q

module _ (value : ℕ → Truth) where
  reported_only : (i : ℕ) (rs : List (Rule ℕ)) → Any (λ x. i ≡ x) (reported value rs) → TrueUnder value rs i
  reported_only i [] a = absurd (no_any a)
  reported_only i (r ∷ rs) a = go (in_cases i r.id (reported value rs) (value r.root) a) (λ b. reported_only i rs b)
    where
      go : ((value r.root ≡ True) × (i ≡ r.id)) ⊎ Any (λ x. i ≡ x) (reported value rs)
          → (Any (λ x. i ≡ x) (reported value rs) → TrueUnder value rs i) → TrueUnder value (r ∷ rs) i
      go (inl h) ih = here (h.1, h.0)
      go (inr b) ih = there (ih b)

  reported_all : (i : ℕ) {rs : List (Rule ℕ)} → TrueUnder value rs i → Any (λ x. i ≡ x) (reported value rs)
  reported_all i (here {x = r} {xs = rs} h) = in_first i r.id (reported value rs) (value r.root) h.1 h.0
  reported_all i (there {x = r} {xs = rs} a) = in_later i r.id (reported value rs) (value r.root) (reported_all i a)

  pub reported_iff : (i : ℕ) (rs : List (Rule ℕ)) → Any (λ x. i ≡ x) (reported value rs) ↔ TrueUnder value rs i
  reported_iff i rs = (reported_only i rs, λ a. reported_all i a)

  -- ---- in order

  above : (n : ℕ) {rs : List (Rule ℕ)} → All (λ r. n < r.id) rs → All (λ x. n < x) (reported value rs)
  above n none = none
  above n (both {x = r} {xs = rs} h k) = go (value r.root) (above n k)
    where
      go : (t : Truth) → All (λ x. n < x) (reported value rs) → All (λ x. n < x) (if_true t r.id (reported value rs))
      go False ih = ih
      go Undefined ih = ih
      go True ih = both h ih

  pub reported_ascends : {rs : List (Rule ℕ)} → IdsAscend rs → Ascending ◌<◌ (reported value rs)
  reported_ascends pnil = pnil
  reported_ascends (pcons {x = r} {xs = rs} h k) = go (value r.root) (reported_ascends k)
    where
      go : (t : Truth) → Ascending ◌<◌ (reported value rs) → Ascending ◌<◌ (if_true t r.id (reported value rs))
      go False ih = ih
      go Undefined ih = ih
      go True ih = pcons (above r.id h) ih
