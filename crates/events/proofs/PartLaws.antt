-- The part of the list store that is an attribute's list: as long as the length says, and no longer than its row. Assumes nothing.
use Rattle.std.proofs.Common.{◌≡◌, List, ℕ, ◌+◌, ◌-◌, ◌*◌, ◌<◌, min, ℤ, get_or, take, drop, sym, length-take, arith}
use Rattle.std.proofs.Math.Decide.{dec_lt}
use lib.Seq.{take_all, take-take}
use Rattle.lists.specs.Sets.{list_limit}
use Rattle.events.specs.Events.{row_at, list_at}

shorter : (m n : ℕ) (l : List ℤ) → take (min m n) l ≡ take m (take n l)
shorter m n l = go (dec_lt n m)
  where
    go : Dec (n < m) → take (min m n) l ≡ take m (take n l)
    go (yes h) = let e : min m n ≡ n = omega arith in rw e (sym (take_all m (take n l) (omega (arith, length-take n l))))
    go (no h) = let e : min m n ≡ m = omega (arith, h) in rw e (sym (take-take m n l (omega (arith, h))))

pub part_list : (lists : List ℤ) (lengths : List ℕ) (i n : ℕ) → n ≡ min (get_or lengths i 0) list_limit
    → take (list_limit * i + n - list_limit * i) (drop (list_limit * i) lists) ≡ list_at lists lengths i
unfolding list_at row_at
part_list lists lengths i n e =
    let d : list_limit * i + n - list_limit * i ≡ n = omega arith in
    rw (d, e) (shorter (get_or lengths i 0) list_limit (drop (list_limit * i) lists))
