-- What an insert and a delete make of a book. Laws in `InsertLaws` and `DeleteLaws`. Assumes nothing: these are definitions.
use Rattle.std.specs.Prelude.{map, ℕ}
use Rattle.lists.specs.Sift.{rank}
use Rattle.lists.specs.Sort.{put}
use Rattle.predicates.specs.Predicate.{Predicate}
use Rattle.ast.specs.Trees.{Flat}
use Rattle.model.specs.Intern.{intern}
use Rattle.model.specs.Marks.{marks_of, kept}
use Rattle.model.specs.Rules.{root_of, entered, without, moved}
use Rattle.model.specs.Book.{Book}

-- the rule f under the id i: its parts, and the rule in the place of its id
unfoldable pub inserted : Book → ℕ → Flat Predicate → Book
unfolding intern put
inserted b i f =
    let r = intern f b.parts in
    record { parts = r.parts; rules = entered (record { id = i; root = r.number }) b.rules }

-- the parts that the rules need, and the rules with their roots' new numbers
abbrev pub settled : Book → Book
settled b =
    let m = marks_of b.parts (map root_of b.rules) in
    record { parts = kept m b.parts; rules = map (moved (rank m)) b.rules }

-- no rule under the id i, and the parts that only it needed dropped
unfoldable pub deleted : Book → ℕ → Book
unfolding without
deleted b i = settled (record { parts = b.parts; rules = without i b.rules })
