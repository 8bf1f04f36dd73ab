-- Room: the parts of the live rules and the four room counts, which go over the distinct parts.
-- Of predicates two things are parameters: the decision whether two are equal, and the length of the list. Laws in `RoomLaws`.
-- Assumes nothing: these are definitions.
use Rattle.std.specs.Prelude.{◌≡◌, List, ℕ, ◌+◌, ◌≤◌, length}
use Rattle.lists.specs.Places.{sum}
use Rattle.lists.specs.Counting.{dedup}
use Rattle.ast.specs.Trees.{Flat, leaf, node, kids}
use Rattle.ast.specs.Same.{same?}
use Rattle.ast.specs.Parts.{subexpressions_of}

pub record Counts : Type 0 where
  pub rules : ℕ
  pub parts : ℕ
  pub places : ℕ
  pub elements : ℕ

-- the child places of a part: its children, repeats counted
abbrev pub places_of : {Q : Type 0} → Flat Q → ℕ
places_of (leaf q) = 0
places_of (node o fs) = length (kids fs)

-- the stored list elements of a part
abbrev pub elements_of : {Q : Type 0} → (Q → ℕ) → Flat Q → ℕ
elements_of list_length (leaf q) = list_length q
elements_of list_length (node o fs) = 0

-- the parts of the live rules: their distinct subexpressions
abbrev pub parts_of : {Q : Type 0} → ((p q : Q) → Dec (p ≡ q)) → List (Flat Q) → List (Flat Q)
parts_of equal? rules = dedup (same? equal?) (subexpressions_of rules)

-- what n rules with these parts take
abbrev pub counts_over : {Q : Type 0} → (Q → ℕ) → ℕ → List (Flat Q) → Counts
counts_over list_length n parts = record {
  rules = n;
  parts = length parts;
  places = sum places_of parts;
  elements = sum (elements_of list_length) parts;
}

-- the room counts of the live rules
abbrev pub counts_of : {Q : Type 0} → ((p q : Q) → Dec (p ≡ q)) → (Q → ℕ) → List (Flat Q) → Counts
counts_of equal? list_length rules = counts_over list_length (length rules) (parts_of equal? rules)

-- ---- counts compared and added

pub record Within (c most : Counts) : Type 0 where
  pub rules : c.rules ≤ most.rules
  pub parts : c.parts ≤ most.parts
  pub places : c.places ≤ most.places
  pub elements : c.elements ≤ most.elements

abbrev pub together : Counts → Counts → Counts
together c d = record {
  rules = c.rules + d.rules;
  parts = c.parts + d.parts;
  places = c.places + d.places;
  elements = c.elements + d.elements;
}
