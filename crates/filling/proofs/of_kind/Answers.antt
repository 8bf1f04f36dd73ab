-- `filling::of_kind` meets its contract. Assumes nothing.
use Rattle.std.proofs.Common.{rules}
use Rattle.filling.proofs.FillingLaws.{kind_none, kind_some}
use Rattle.filling.proofs.of_kind.Goals as goal

pub returns : goal.returns
returns c = search (rules, kind_none, kind_some)
