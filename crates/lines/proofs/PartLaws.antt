-- A part of a slice from a place to the end, as the code lends it. Assumes nothing.
use mathlib.Core.Path.{◌≡◌}
use mathlib.Core.List.{List}
use Prim.Native.Nat.{ℕ, ◌-◌}
use native.Mathlib.Omega.{arith}
use lib.ListN.{length, take, drop, length-drop}
use lib.Seq.{take_all}

pub part_rest : (l : List ℕ) (from : ℕ) → take (length l - from) (drop from l) ≡ drop from l
part_rest l from = take_all (length l - from) (drop from l) (omega (arith, length-drop from l))
