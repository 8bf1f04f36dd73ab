-- When a book stands for the live rules of a history: it is sound, and under each id it has a rule exactly where the history has one, whose
-- tree is the same up to the order of children. Laws in `StandsLaws`. Assumes nothing: these are definitions.
use Rattle.std.proofs.Math.Option.{Option, none, some}
use Rattle.std.specs.Prelude.{List, ℕ}
use Rattle.lists.specs.Places.{Distinct}
use Rattle.predicates.specs.Predicate.{Predicate}
use Rattle.ast.specs.Trees.{Flat}
use Rattle.ast.specs.Same.{Same}
use Rattle.model.specs.Parts.{flat_at}
use Rattle.model.specs.Rules.{Rule, lookup}
use Rattle.model.specs.RulesLaws.{SameId, mapped}
use Rattle.model.specs.Book.{Book}
use Rattle.model.specs.Sound.{Sound}

-- nothing and nothing, or the same trees
abbrev pub Like : Option (Flat Predicate) → Option (Flat Predicate) → Type 0
Like none none = Unit {0}
Like none (some g) = ⊥
Like (some f) none = ⊥
Like (some f) (some g) = Same f g

pub record Stands {S : Type 0} (tree : S → Flat Predicate) (longest : ℕ) (b : Book) (live : List (Rule S)) : Type 0 where
  pub sound : Sound longest b
  pub ids : Distinct SameId live
  pub like : (i : ℕ) → Like (mapped (flat_at b.parts) (lookup i b.rules)) (mapped tree (lookup i live))
