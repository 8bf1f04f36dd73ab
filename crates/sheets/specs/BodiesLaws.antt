-- Laws of the lists of a sheet: how long one is by its tag, and where the next one starts. Assumes nothing.
use Rattle.std.specs.Prelude.{◌≡◌, refl, true, false, List, ℕ, ◌+◌, ℤ}
use Rattle.std.proofs.Math.Path.{ap}
use Rattle.std.proofs.Common.{add-one}
use Rattle.sheets.specs.Entries.{field_of}
use Rattle.sheets.specs.Table.{has_list}
use Rattle.sheets.specs.Bodies.{tag_of, list_length_at, start_at}

module _ (first : ℕ) (s : List ℤ) (i : ℕ) where
  pub length_listed : has_list (tag_of first s i) ≡ true → list_length_at first s i ≡ field_of first s i 4
  unfolding list_length_at
  length_listed h = rw h

  pub length_unlisted : has_list (tag_of first s i) ≡ false → list_length_at first s i ≡ 0
  unfolding list_length_at
  length_unlisted h = rw h

  pub start_next : start_at first s (i + 1) ≡ start_at first s i + list_length_at first s i
  unfolding start_at
  start_next = ap (start_at first s) (add-one i)

pub start_first : (first : ℕ) (s : List ℤ) → start_at first s 0 ≡ 0
unfolding start_at
start_first first s = refl
