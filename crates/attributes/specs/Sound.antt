-- The marks of a sound attribute table: as facts, `Sound`, and as a test that computes, `sound_table`. Bytes past the last attribute and
-- past a name's length are not judged. Laws in `SoundLaws`.
-- Assumes nothing.
use Rattle.std.specs.Prelude.{◌≡◌, Bool, List, ℕ, ◌≤◌, ◌<◌, eqb, leb, length}
use Rattle.std.specs.Option.{is_none}
use Rattle.lists.specs.And.{◌and◌}
use Rattle.lists.specs.Below.{all_below}
use Rattle.attributes.specs.Kinds.{kind_count}
use Rattle.attributes.specs.Table.{attribute_limit, name_limit, table_size, is_between}
use Rattle.attributes.specs.Table.{count_of, kind_at, length_at, name_at, named, first_below}

pub record Sound (t : List ℕ) : Type 0 where
  pub size : length t ≡ table_size
  pub few : count_of t ≤ attribute_limit
  pub kinds : (i : ℕ) → i < count_of t → (1 ≤ kind_at t i) × (kind_at t i ≤ kind_count)
  pub lengths : (i : ℕ) → i < count_of t → (1 ≤ length_at t i) × (length_at t i ≤ name_limit)
  pub names : (i j : ℕ) → i < count_of t → j < count_of t → name_at t i ≡ name_at t j → i ≡ j

-- attribute i has a kind, a name of the right length, and the name of no attribute before it
unfoldable pub sound_attribute : List ℕ → ℕ → Bool
sound_attribute t i =
    is_between 1 (kind_at t i) kind_count and is_between 1 (length_at t i) name_limit
    and is_none (first_below (named t (name_at t i)) i)

unfoldable pub sound_table : List ℕ → Bool
sound_table t =
    eqb (length t) table_size and leb (count_of t) attribute_limit and all_below (sound_attribute t) (count_of t)
