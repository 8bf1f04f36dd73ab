-- `events::in_range` meets its contract at booleans and floats. Assumes nothing.
use Rattle.std.proofs.Common.{sym, ◌∙◌}
use mir.Facts.{to_z-of_z}
use Rattle.events.proofs.SuitsLaws.{range_boolean, range_float}
use Rattle.events.proofs.in_range.Goals as goal

pub returns-in-Ok-Boolean : goal.returns-in-Ok-Boolean
returns-in-Ok-Boolean c =
    rw (sym c.in-Ok-Boolean.ensures, c.in-Ok-Boolean.field-0-is)
    (c.up_to.ensures ∙ rw (to_z-of_z c.ranges.number) (sym (range_boolean _ _ _)))

pub returns-in-Ok-Float : goal.returns-in-Ok-Float
returns-in-Ok-Float c = rw (sym c.in-Ok-Float.ensures, c.in-Ok-Float.field-0-is) (sym (range_float _ _ _))
