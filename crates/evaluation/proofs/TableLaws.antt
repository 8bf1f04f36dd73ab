-- The tables hold the joins. Assumes nothing.
use mathlib.Core.Path.{◌≡◌}
use Rattle.evaluation.specs.declared.Truth.{Truth}
use Rattle.evaluation.specs.declared.Operator.{Operator}
use Rattle.evaluation.specs.Kleene.{join_of}
use Rattle.evaluation.specs.Each.{of_two}
use Rattle.evaluation.specs.Table.{table_of, at_table}

pub table_join : (o : Operator) (a b : Truth) → at_table (table_of o) a b ≡ join_of o a b
table_join = of_two (λ o a b. at_table (table_of o) a b ≡ join_of o a b) (search)
