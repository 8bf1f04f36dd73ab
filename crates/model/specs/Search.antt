-- What a search reports: the ids of the live rules whose tree is true, in the order of the book's rules. `v` is what each predicate is
-- worth on the event. Laws in `SearchLaws`. Assumes nothing: these are definitions.
use Rattle.std.specs.Prelude.{List, [], ◌∷◌, ℕ}
use Rattle.evaluation.specs.declared.Truth.{Truth}
use Rattle.evaluation.specs.declared.Truth.TheVariants.{False, Undefined, True}
use Rattle.predicates.specs.Predicate.{Predicate}
use Rattle.ast.specs.Trees.{flat_value}
use Rattle.model.specs.Parts.{Part, flat_at}
use Rattle.model.specs.Rules.{Rule}
use Rattle.model.specs.Book.{Book}

-- the value of a part
abbrev pub value_at : (Predicate → Truth) → List Part → ℕ → Truth
value_at v ps i = flat_value v (flat_at ps i)

-- the id in front of the others, where the rule is true
abbrev pub if_true : Truth → ℕ → List ℕ → List ℕ
if_true False i others = others
if_true Undefined i others = others
if_true True i others = i ∷ others

abbrev pub reported : (ℕ → Truth) → List (Rule ℕ) → List ℕ
reported value [] = []
reported value (r ∷ rs) = if_true (value r.root) r.id (reported value rs)

abbrev pub search : (Predicate → Truth) → Book → List ℕ
search v b = reported (value_at v b.parts) b.rules
