-- WHAT A CHANGE OF THE ORDER TABLE DOES TO THE BOOK: the entries are the old ones with one put in, and nothing else changes.
-- Assumes nothing.
use mathlib.Core.Path.{◌≡◌, ◌∙◌}
use mathlib.Core.List.{List}
use mathlib.Core.Logic.{inl, inr}
use Prim.Native.Nat.{ℕ, suc, ◌+◌, ◌-◌, ◌≤◌, ◌<◌}
use native.Mathlib.Numerals.{add-one}
use native.Mathlib.Omega.{arith}
use Rattle.words.specs.Frame.{Only, Bytes}
use Rattle.words.proofs.FrameLaws.{only_then, word_only}
use Rattle.store.specs.declared.Limits.{Limits}
use Rattle.store.specs.Layout.{order_at, size_of, Laid}
use Rattle.store.specs.Records.{entry_at, put_entry}
use Rattle.store.specs.Tables.{entries_of}
use Rattle.store.specs.Runs.{Runs}
use Rattle.store.proofs.KeptLaws.{laid_kept, attributes_kept, rules_kept, parts_kept, record_kept, runs_kept, counts_kept}
use Rattle.changes.specs.Moving.{raised}
use Rattle.changes.specs.Placing.{inserted_at}
use Rattle.changes.specs.Changes.{insert_entry}
use Rattle.changes.specs.Effects.{Reordered}
use Rattle.changes.proofs.PlacingLaws.{tabulate_insert}
use Rattle.changes.proofs.MovingLaws.{raised_only, raised_up, raised_bytes}
use Rattle.changes.proofs.TablesLaws.{entry_spot, entry_table}

-- entries written: all else reads as it did
pub reordered : (limits : Limits) (b d : List ℕ) → Laid limits b → Runs limits b → Only (order_at limits) (size_of limits) b d
    → {n : ℕ} {l : List ℕ} → entries_of limits d n ≡ l → Bytes d → Reordered limits b n l d
reordered limits b d l s only entries y =
    record {
      entries = entries;
      parts = parts_kept only limits (inl (omega arith)) (inl (omega arith)) s;
      records = record_kept only limits (inl (omega arith)) (inl (omega arith)) s;
      count = (counts_kept only limits (inl (omega arith)) (inl (omega arith)) s).0;
      runs =
          runs_kept only limits (inl (omega arith)) (inl (omega arith)) s
          (omega (arith, word_only only 4 0 (inl (omega arith)), s.counted.rules));
      laid = laid_kept only l;
      rules = rules_kept only (inl (omega arith)) (inl (omega (arith, s.counted.rules)));
      attributes = attributes_kept only (inl (omega arith));
      bytes = y;
    }

module _ (limits : Limits) (b : List ℕ) (n k part : ℕ) (l : Laid limits b) (s : Runs limits b) (y : Bytes b)
    (at : k ≤ n) (room : n < limits.parts) (f : part < 65536) where
  abbrev gap : List ℕ
  gap = raised (entry_at limits) (put_entry limits) b k (n - k)

  abbrev filled : List ℕ
  filled = put_entry limits gap k part

  ends : k + (n - k) ≡ n
  ends = omega arith

  gap_only : Only (entry_spot limits (suc k)) (entry_spot limits (suc n)) b gap
  gap_only = rw ends at (raised_only (entry_at limits) (put_entry limits) (entry_table limits) b k (n - k))

  fill_only : Only (entry_spot limits k) (entry_spot limits (suc k)) gap filled
  fill_only = (entry_table limits).reach gap k part

  table : Only (order_at limits) (size_of limits) b filled
  table = only_then (omega arith) (omega arith) (omega arith) (omega arith) gap_only fill_only

  below : (i : ℕ) → i < k → entry_at limits filled i ≡ entry_at limits b i
  below i u =
      (entry_table limits).apart fill_only i (inl (omega arith)) ∙ (entry_table limits).apart gap_only i (inl (omega arith))

  here : entry_at limits filled k ≡ part
  here = (entry_table limits).back gap k part f (omega (arith, gap_only.long, l.room))

  above : (i : ℕ) → k ≤ i → i < n → entry_at limits filled (suc i) ≡ entry_at limits b i
  above i u v =
      (entry_table limits).apart fill_only (suc i) (inr (omega arith))
      ∙ raised_up (entry_at limits) (put_entry limits) (entry_table limits) b k (n - k) y (rw ends (omega (arith, l.room))) i u
      (omega arith)

  pub entry_put_in : Reordered limits b (n + 1) (inserted_at k part (entries_of limits b n)) (insert_entry limits b n k part)
  unfolding insert_entry entries_of
  entry_put_in =
      let entries : entries_of limits filled (n + 1) ≡ inserted_at k part (entries_of limits b n)
      = rw add-one (tabulate_insert n (entry_at limits b) (entry_at limits filled) k part at below here above) in
      reordered limits b filled l s table entries
      ((entry_table limits).bytes gap k part (raised_bytes (entry_at limits) (put_entry limits) (entry_table limits) b k (n - k) y))
