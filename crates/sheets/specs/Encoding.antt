-- The sheet of a rule: the number of entries, the entries in prefix order, and their lists end to end. And which rules have one that is
-- accepted. Laws in `EncodingLaws`. Assumes nothing: these are definitions.
use Rattle.std.specs.Prelude.{◌≡◌, true, false, cond, List, [], ◌∷◌, ◌++◌, ℕ, ◌+◌, ◌≤◌, length, ℤ, pos}
use Rattle.evaluation.specs.declared.Operator.{Operator}
use Rattle.evaluation.specs.declared.Operator.TheVariants.{And, Or}
use Rattle.lists.specs.Sets.{ascends, list_limit}
use Rattle.decimals.specs.Normal.{Normal}
use Rattle.predicates.specs.Predicate.{Predicate}
use Rattle.ast.specs.Trees.{Tree, Join, Not, Value, entries}
use Rattle.sheets.specs.Entries.{natural_of}
use Rattle.sheets.specs.Table.{entry_limit, has_list, allowed, literal_fits}
use Rattle.sheets.specs.Bodies.{all_words}
use Rattle.sheets.specs.Reading.{predicate_of}

-- ---- the sheet

-- five numbers
abbrev pub five_of : ℕ → ℕ → ℕ → ℤ → ℕ → List ℤ
five_of kind attribute tag x y = pos kind ∷ pos attribute ∷ pos tag ∷ x ∷ pos y ∷ []

abbrev pub operator_number : Operator → ℕ
operator_number And = 1
operator_number Or = 2

abbrev pub operator_five : ℕ → List ℤ
operator_five kind = five_of kind 0 0 (pos 0) 0

-- a predicate whose list, if it has one, starts here in the bodies
abbrev pub predicate_five : ℕ → Predicate → List ℤ
predicate_five start p =
    five_of p.kind p.attribute p.tag
    (cond (has_list p.tag) (pos start) p.number)
    (cond (has_list p.tag) (length p.elements) p.scale)

-- the lists of a tree's predicates, end to end
unfoldable pub bodies_of : Tree Predicate → List ℤ
bodies_of (Join o a b) = bodies_of a ++ bodies_of b
bodies_of (Not a) = bodies_of a
bodies_of (Value p) = p.elements

-- its entries, of which the first list starts here
unfoldable pub entries_of : ℕ → Tree Predicate → List ℤ
entries_of start (Join o a b) = operator_five (operator_number o) ++ (entries_of start a ++ entries_of (start + length (bodies_of a)) b)
entries_of start (Not a) = operator_five 3 ++ entries_of start a
entries_of start (Value p) = predicate_five start p

unfoldable pub sheet_of : Tree Predicate → List ℤ
sheet_of t = pos (entries t) ∷ (entries_of 0 t ++ bodies_of t)

-- ---- within the limits

-- a predicate that a sheet can hold: a kind and a tag of the table, a literal in range and in normal form, and a list that may stand there
pub record Writable (p : Predicate) : Type 0 where
  pub row : allowed p.kind p.tag ≡ true
  pub literal : literal_fits p.tag (natural_of p.number) p.scale ≡ true
  pub normal : Normal (record { number = p.number; scale = p.scale })
  pub ascending : ascends p.elements ≡ true
  pub words : p.tag ≡ 5 → all_words p.elements ≡ true
  pub short : length p.elements ≤ list_limit
  -- what the tag does not use is 0 or empty
  pub unlisted : has_list p.tag ≡ false → p.elements ≡ []
  pub listed : has_list p.tag ≡ true → (p.number ≡ pos 0) × (p.scale ≡ 0)

-- what holds at each leaf of a tree
abbrev pub Leaves : {P : Type 0} → (P → Type 0) → Tree P → Type 0
Leaves Q (Join o a b) = Leaves Q a × Leaves Q b
Leaves Q (Not a) = Leaves Q a
Leaves Q (Value p) = Q p

pub record WithinLimits (t : Tree Predicate) : Type 0 where
  pub few : entries t ≤ entry_limit
  pub leaves : Leaves Writable t

-- ---- reading it back

-- the tree with the numbers of its entries at the leaves, of which the first is i
abbrev pub numbered : {P : Type 0} → ℕ → Tree P → Tree ℕ
numbered i (Join o a b) = Join o (numbered (i + 1) a) (numbered (i + 1 + entries a) b)
numbered i (Not a) = Not (numbered (i + 1) a)
numbered i (Value p) = Value i

-- the tree with a predicate read from the sheet in place of each number
abbrev pub tree_read : ℕ → List ℤ → ℕ → Tree ℕ → Tree Predicate
tree_read first s n (Join o a b) = Join o (tree_read first s n a) (tree_read first s n b)
tree_read first s n (Not a) = Not (tree_read first s n a)
tree_read first s n (Value i) = Value (predicate_of first s n i)
