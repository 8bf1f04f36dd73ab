-- What stands at a place of a list of integers. Assumes nothing.
use mathlib.Core.List.{List}
use Prim.Native.Nat.{ℕ}
use lib.IntN.{ℤ, pos}
use lib.ListN.{get_or}

abbrev pub item : List ℤ → ℕ → ℤ
item l i = get_or l i (pos 0)
