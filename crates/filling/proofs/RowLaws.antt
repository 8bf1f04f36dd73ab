-- A row written over a part of the list store. Assumes nothing.
use Rattle.std.proofs.Common.{◌≡◌, List, ◌++◌, ℕ, ◌+◌, ◌-◌, ◌≤◌, ℤ, length, take, drop, sym, ◌∙◌, append_assoc, arith}
use Rattle.std.proofs.lemmas.List.Edits.{sets, sets-eq}
use borrow.Rule.Slice.PartMut.{put_mid, Post-is}

pub row_written : (l row copied : List ℤ) (at n : ℕ) → copied ≡ row → length row ≡ n → at + n ≤ length l
    → put_mid at (at + n - at) l copied ≡ sets l at row
row_written l row copied at n same long fits =
    let whole : sets l at row ≡ take at l ++ row ++ drop (at + n) l = rw long at (sets-eq row l at (omega arith)) in
    rw (same, Post-is at (at + n) l (omega arith)) (sym (whole ∙ append_assoc (take at l) row (drop (at + n) l)))
