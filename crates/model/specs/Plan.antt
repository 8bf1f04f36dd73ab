-- Interning one item after the other: a flattened rule in postfix, and a stack of the numbers of the parts that wait for their parent, the
-- last one on top at its end. Laws in `PlanLaws`. Assumes nothing: these are definitions.
use Rattle.std.specs.Prelude.{List, [], ◌∷◌, ◌++◌, ℕ, ◌-◌, length, take, drop}
use Rattle.evaluation.specs.declared.Operator.{Operator}
use Rattle.lists.specs.Sort.{sort}
use Rattle.predicates.specs.Predicate.{Predicate}
use Rattle.ast.specs.Trees.{Flat, leaf, node, Flats, done, more, kids}
use Rattle.model.specs.Parts.{Part, alone, over}
use Rattle.model.specs.Intern.{Put, place, in_order}

-- a predicate, or an operator over the last n that stand before it
pub data Item : Type 0 where
  value : Predicate → Item
  join : Operator → ℕ → Item

abbrev mutual
  pub items_of : Flat Predicate → List Item
  items_of (leaf p) = value p ∷ []
  items_of (node o fs) = items_under fs ++ (join o (length (kids fs)) ∷ [])

  pub items_under : Flats Predicate → List Item
  items_under done = []
  items_under (more f fs) = items_of f ++ items_under fs

pub record Plan : Type 0 where
  pub parts : List Part
  pub stack : List ℕ

-- the parts with x among them, and its number on a stack
abbrev pub pushed : Put → List ℕ → Plan
pushed r stack = record { parts = r.parts; stack = stack ++ (r.number ∷ []) }

unfoldable pub planned : Plan → Item → Plan
unfolding place sort
planned s (value p) = pushed (place s.parts (alone p)) s.stack
planned s (join o n) =
    let at = length s.stack - n in
    pushed (place s.parts (over o (in_order s.parts (drop at s.stack)))) (take at s.stack)

abbrev pub plan_of : Plan → List Item → Plan
plan_of s [] = s
plan_of s (i ∷ is) = plan_of (planned s i) is
