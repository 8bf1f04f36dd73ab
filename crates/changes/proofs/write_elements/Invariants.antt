-- `changes::write_elements` meets its contract. Assumes nothing.
use Rattle.changes.specs.Effects.{ElementsPut}
use Rattle.changes.proofs.write_elements.Given as goal

abbrev pub invariant-loop-k : goal.invariant-loop-k
invariant-loop-k l = ElementsPut l.limits l.initial.bytes l.at l.list l.k l.bytes
