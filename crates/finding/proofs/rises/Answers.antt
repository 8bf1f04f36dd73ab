-- `finding::rises` meets its contract. Assumes nothing.
use native.Mathlib.Omega.{arith}
use Rattle.finding.proofs.MarkLaws.{rises_after}
use Rattle.finding.proofs.rises.Goals as goal

pub returns : goal.returns
returns c = cc (rises_after c.args.limits c.args.bytes.now c.args.k (omega arith))
