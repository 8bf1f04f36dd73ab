-- `decimals::normal` meets its contract: a zero taken off keeps the normal form, and what has none left to take off is its own.
-- Assumes nothing.
use mathlib.Core.Path.{◌≡◌}
use Rattle.decimals.specs.Normal.{normal_of}
use Rattle.decimals.proofs.normal.Given as goal

abbrev pub invariant-loop-number : goal.invariant-loop-number
invariant-loop-number l = normal_of l.initial.rest ≡ normal_of l.rest

abbrev pub decreases-loop-number : goal.decreases-loop-number
decreases-loop-number l = l.rest.scale
