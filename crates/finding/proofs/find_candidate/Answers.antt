-- `finding::find_candidate` meets its contract: what the search says of places, of parts. Assumes nothing.
use mathlib.Core.Path.{◌≡◌}
use Rattle.std.proofs.Common.{rules, Err}
use Rattle.finding.proofs.SearchLaws.{met_right, parted_right}
use Rattle.finding.proofs.find_candidate.Goals as goal

pub returns-in_err-place : goal.returns-in_err-place
returns-in_err-place g c =
    let e : c.from_residual.result ≡ Err c.in_err-place.field-0.0 = search rules in
    rw e
    (parted_right c.requires.ascends _ (λ k o h. search rules) c.get_count-count.ensures _ c.in_err-place.ensures)

pub returns : goal.returns
returns g c =
    let e = c.from.ensures in
    rw (e, c.get_entry.ensures)
    (met_right c.requires.ascends _ (λ k o h. search rules) c.get_count-count.ensures _ c.in_ok-place.ensures)
