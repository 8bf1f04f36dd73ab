-- Trials by computing: a rule of the paper outlives the rule that it was a part of, and a delete renumbers what stood after it.
-- Assumes nothing.
use Rattle.std.specs.Prelude.{◌≡◌, refl, List, [], ◌∷◌, ℕ, pos, eqb, cond}
use Rattle.evaluation.specs.declared.Truth.TheVariants.{Undefined, True}
use Rattle.evaluation.specs.declared.Operator.{Operator}
use Rattle.evaluation.specs.declared.Operator.TheVariants.{And, Or}
use Rattle.lists.specs.Places.{sum}
use Rattle.lists.specs.PairOrder.{pair_before}
use Rattle.predicates.specs.Kinds.{kind_of, numbered, kinds}
use Rattle.predicates.specs.Predicate.{Predicate}
use Rattle.ast.specs.Trees.{Flat, leaf, node, trees}
use Rattle.model.specs.Parts.{alone, over, children_of, part_at}
use Rattle.model.specs.Book.{Book, fresh, counts_in}
use Rattle.model.specs.Changes.{inserted, deleted}
use Rattle.model.specs.Search.{search}

-- the letters of the paper, each the number of an attribute, and the variable of one
abbrev variable : ℕ → Predicate
variable n = record { attribute = n; kind = 10; tag = 0; number = pos 0; scale = 0; elements = [] }

abbrev is : ℕ → Flat Predicate
is n = leaf (variable n)

abbrev two : Operator → Flat Predicate → Flat Predicate → Flat Predicate
two o f g = node o (trees (f ∷ g ∷ []))

-- rule 1 is (a and b) or c, rule 2 is b and a: the part that they share stands once
abbrev shared : Book
shared = inserted (inserted fresh 1 (two Or (two And (is 0) (is 1)) (is 2))) 2 (two And (is 1) (is 0))

pub shared_once : counts_in shared ≡ record { rules = 2; parts = 5; places = 4; elements = 0 }
unfolding inserted pair_before sum kind_of numbered kinds
shared_once = refl

-- once rule 1 is deleted, rule 2's parts are left
pub left_over : deleted shared 1 ≡ record {
  parts = alone (variable 0) ∷ alone (variable 1) ∷ over And (0 ∷ 1 ∷ []) ∷ [];
  rules = record { id = 2; root = 2 } ∷ [];
}
unfolding inserted deleted pair_before kind_of numbered kinds
left_over = refl

-- and an event on which a and b are true reports it
pub reports_two : search (λ p. cond (eqb p.attribute 2) Undefined True) (deleted shared 1) ≡ 2 ∷ []
unfolding inserted deleted pair_before kind_of numbered kinds
reports_two = refl

-- on one where all is undefined nothing is reported
pub reports_none : search (λ p. Undefined) shared ≡ []
unfolding inserted pair_before sum kind_of numbered kinds
reports_none = refl

-- rule 1 is a variable, rule 2 is (a or b) and a set predicate of three elements, which costs less: it stands first, whatever its number
abbrev cheap : Flat Predicate
cheap = leaf (record { attribute = 3; kind = 20; tag = 4; number = pos 0; scale = 0; elements = pos 1 ∷ pos 2 ∷ pos 3 ∷ [] })

abbrev deep : Book
deep = inserted (inserted fresh 1 (is 9)) 2 (two And (two Or (is 0) (is 1)) cheap)

pub by_cost_lem : children_of (part_at deep.parts 5) ≡ 4 ∷ 3 ∷ []
unfolding inserted pair_before sum kind_of numbered kinds
by_cost_lem = refl

-- rule 2 alone: its parts move down by one, in their order, and so do the numbers of their children
abbrev left : ℕ → List ℕ
left i = children_of (part_at (deleted deep 1).parts i)

pub moved_down : (left 4 ≡ 3 ∷ 2 ∷ []) × (left 2 ≡ 0 ∷ 1 ∷ [])
unfolding inserted deleted pair_before sum kind_of numbered kinds
moved_down = (refl, refl)

pub counted_again : counts_in (deleted deep 1) ≡ record { rules = 1; parts = 5; places = 4; elements = 3 }
unfolding inserted deleted pair_before sum kind_of numbered kinds
counted_again = refl
