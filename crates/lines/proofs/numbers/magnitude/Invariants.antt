-- `lines::numbers::magnitude` meets its contract. The invariant: the digits passed are worth `value`, so the word is what the rest makes of
-- that. Assumes nothing.
use mathlib.Core.Path.{◌≡◌}
use Prim.Native.Nat.{◌≤◌}
use lib.ListN.{drop}
use Rattle.lines.specs.Numbers.{magnitude_of}
use Rattle.lines.specs.NumbersLaws.{after_of}
use Rattle.lines.proofs.numbers.magnitude.Given as goal

abbrev pub invariant-loop-digit : goal.invariant-loop-digit
invariant-loop-digit l =
    record {
      within : l.value ≤ l.most;
      rest : magnitude_of l.most l.digits ≡ after_of l.most l.value (drop l.digit-index l.digits);
    }
