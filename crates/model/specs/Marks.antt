-- What a delete keeps: the parts that the roots need. The roots are marked; then, from the last part down to the first in one pass, each
-- marked part marks its children. Marked parts are kept in their order, and the new number of each is how many marked ones stand before it.
-- Laws in `MarksLaws` and `KeptLaws`. Assumes nothing: these are definitions.
use Rattle.std.specs.Prelude.{Bool, true, false, List, [], ◌∷◌, map, ℕ, zero, suc, length, get_or, set, replicate}
use Rattle.lists.specs.Sift.{sift, rank}
use Rattle.model.specs.Parts.{Part, alone, over, children_of}

abbrev pub mark_all : List ℕ → List Bool → List Bool
mark_all [] m = m
mark_all (c ∷ cs) m = mark_all cs (set m c true)

-- a part marks its children where it is marked itself
abbrev pub mark_children : Bool → Part → List Bool → List Bool
mark_children false p m = m
mark_children true p m = mark_all (children_of p) m

-- the parts from number n on, the last first
abbrev pub mark : ℕ → List Part → List Bool → List Bool
mark n [] m = m
mark n (p ∷ ps) m = let l = mark (suc n) ps m in mark_children (get_or l n false) p l

abbrev pub marks_of : List Part → List ℕ → List Bool
marks_of ps roots = mark zero ps (mark_all roots (replicate (length ps) false))

-- a part with the new numbers of its children, and the marked parts with theirs
abbrev pub renumber : List Bool → Part → Part
renumber m (alone p) = alone p
renumber m (over o cs) = over o (map (rank m) cs)

abbrev pub kept : List Bool → List Part → List Part
kept m ps = map (renumber m) (sift m ps)
