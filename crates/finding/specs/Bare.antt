-- The fields that an And or an Or does not use are 0. Two parts that are equal then have equal keys: without it such a part could stand
-- twice, with different bytes where nothing is read. Assumes nothing.
use Rattle.std.specs.Prelude.{◌≡◌, true, List, ℕ, ◌<◌}
use Rattle.store.specs.declared.Limits.{Limits}
use Rattle.store.specs.declared.Record.{Record}
use Rattle.store.specs.Records.{record_at}
use Rattle.store.specs.Tables.{is_join}

pub record Unused (r : Record) : Type 0 where
  pub attribute : r.attribute ≡ 0
  pub tag : r.tag ≡ 0
  pub scale : r.scale ≡ 0
  pub number : r.number ≡ 0

pub record Bare (limits : Limits) (b : List ℕ) (n : ℕ) : Type 0 where
  pub unused : (p : ℕ) → p < n → is_join (record_at limits b p) ≡ true → Unused (record_at limits b p)
