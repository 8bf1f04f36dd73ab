-- Lists that ascend strictly, as rule ids do. Laws in `AscendingLaws`. Assumes nothing: this is a definition.
use Rattle.std.specs.Prelude.{List}
use Rattle.lists.specs.Places.{Pairwise}

-- every element stands before every later one
abbrev pub Ascending : {A : Type 0} → (A → A → Type 0) → List A → Type 0
Ascending before l = Pairwise before l
