-- `events::place_suits` meets its contract where a value has its attribute's kind. Assumes nothing.
use Rattle.std.proofs.Common.{sym, ◌∙◌, arith}
use mir.Facts.{to_z-of_z}
use Rattle.events.proofs.SuitsLaws.{place_range}
use Rattle.events.proofs.place_suits.Goals as goal

pub returns-then-list_suits : goal.returns-then-list_suits
returns-then-list_suits c =
    let there = sym c.list_suits.ensures ∙ c.if-list_suits.true in
    rw (c.in_range.ensures, to_z-of_z c.ranges.number) (sym (place_range _ _ _ _ _ _ (λ e. omega arith) (omega arith) there))
