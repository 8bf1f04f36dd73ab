-- Interning: a part is looked for among the parts, by comparing, and appended where it is not there; a flattened rule is interned with its
-- children first, from the first to the last, and their numbers are put in canonical order. Laws in `InternLaws`.
-- Assumes nothing: these are definitions.
use Rattle.std.specs.Prelude.{List, [], ◌∷◌, ◌++◌, ℕ, length, drop}
use Rattle.lists.specs.Places.{any?}
use Rattle.lists.specs.First.{number_of}
use Rattle.lists.specs.Sort.{sort}
use Rattle.lists.specs.PairOrder.{by_cost}
use Rattle.predicates.specs.Predicate.{Predicate}
use Rattle.ast.specs.Trees.{Flat, leaf, node, Flats, done, more}
use Rattle.model.specs.Parts.{Part, alone, over, part?, cost_at}

-- the parts, and the number of the part that was wanted
pub record Put : Type 0 where
  pub parts : List Part
  pub number : ℕ

pub record Puts : Type 0 where
  pub parts : List Part
  pub numbers : List ℕ

-- x, unless it was found
abbrev pub missing : {Y : Type 0} → Dec Y → Part → List Part
missing (yes found) x = []
missing (no n) x = x ∷ []

unfoldable pub place : List Part → Part → Put
unfolding any? part?
place ps x = let found = any? (part? x) ps in record { parts = ps ++ missing found x; number = number_of found }

-- numbers by what the parts cost, those of one cost in order
abbrev pub in_order : List Part → List ℕ → List ℕ
in_order ps cs = sort (by_cost (cost_at ps)) cs

unfoldable mutual
  unfolding place sort

  pub intern : Flat Predicate → List Part → Put
  intern (leaf p) ps = place ps (alone p)
  intern (node o fs) ps = let r = interns fs ps in place r.parts (over o (in_order r.parts r.numbers))

  pub interns : Flats Predicate → List Part → Puts
  interns done ps = record { parts = ps; numbers = [] }
  interns (more f fs) ps =
      let r = intern f ps in
      let s = interns fs r.parts in
      record { parts = s.parts; numbers = r.number ∷ s.numbers }

-- the parts that a rule brings: those after the parts there were
abbrev pub new_parts : List Part → Flat Predicate → List Part
new_parts ps f = drop (length ps) (intern f ps).parts
