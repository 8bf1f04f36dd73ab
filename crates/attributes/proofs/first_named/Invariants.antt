-- `attributes::first_named` meets its contract. The invariant: no attribute passed has the name. Assumes nothing.
use Rattle.std.proofs.Common.{◌≡◌, None}
use Rattle.attributes.specs.Table.{named, first_below}
use Rattle.attributes.proofs.first_named.Given as goal

abbrev pub invariant-loop-i : goal.invariant-loop-i
invariant-loop-i l = first_below (named l.table l.name) l.i ≡ None
