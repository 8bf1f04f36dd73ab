-- `sheets::Sheet::check_predicates` meets its contract. Assumes nothing.
use Rattle.std.specs.Prelude.{◌≡◌}
use Rattle.std.proofs.Common.{sym, ◌∙◌, arith}
use Rattle.std.proofs.lemmas.Result.{err_from_is_err_and}
use Rattle.error.specs.Answers.{Done, Refused}
use Rattle.error.specs.declared.Refusal.{Refusal}
use Rattle.sheets.specs.ReadingLaws.{readable}
use Rattle.sheets.specs.Suiting.{entry_answer}
use Rattle.sheets.proofs.AnswersLaws.{accepted}
use Rattle.sheets.proofs.SuitingLaws.{entries_refused}
use Rattle.sheets.proofs.Sheet.check_predicates.Goals as goal

-- a refusal is not Done
not_done : (r : Refusal) → ¬ (Refused r ≡ Done)
not_done r e = cc

pub number-n-requires : goal.number-n-requires
number-n-requires c =
    let a = c.args in
    let p = c.requires in
    let ok = accepted a.self.first a.self.numbers.now p.accepted in
    let reached = ok.counted.reached in
    let placed = p.placed in
    omega arith

pub check_entry-requires : goal.check_entry-requires
check_entry-requires c =
    let a = c.args in
    let p = c.requires in
    let ok = accepted a.self.first a.self.numbers.now p.accepted in
    let h = c.loop-i.invariant in
    let r = readable a.self.first a.self.numbers.now _ c.loop-i.i ok.formed (omega arith) in
    record { inside = r.inside; kinds = r.kinds; tags = r.tags; attributes = p.attributes }

pub returns-in_err-check_entry : goal.returns-in_err-check_entry
returns-in_err-check_entry c =
    let a = c.args in
    let h = c.loop-i.invariant in
    let i = c.loop-i.i in
    let told = c.in_err-check_entry.ensures in
    let faulty : ¬ (entry_answer a.attributes.now a.self.first a.self.numbers.now i ≡ Done) = λ e. not_done _ (told ∙ e) in
    let refused = entries_refused a.attributes.now a.self.first a.self.numbers.now i _ (omega arith) h.1 faulty in
    let p = err_from_is_err_and c.from_residual.result c.from_residual.ensures.1 in
    rw (p.1, p.2) (told ∙ sym refused)
