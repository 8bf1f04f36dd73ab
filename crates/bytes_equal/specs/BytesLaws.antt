-- The test that two lists of bytes are the same holds exactly where they are. Assumes nothing.
use Rattle.std.specs.Prelude.{◌≡◌, refl, Bool, true, false, ℕ}
use Rattle.std.proofs.Common.{ap}
use mathlib.Core.List.{List}
use Rattle.std.proofs.lemmas.Bool.Decides.{same_from_decides, Decides-eqb}
use Rattle.std.proofs.lemmas.Slice.Eq.{slice_eq-Decides}
use Rattle.std.specs.Cmp.Lexicographic.{pointwise}
use Rattle.std.proofs.Common.{eqb}
use borrow.Author.Tests.{eqb-true, eq-eqb}
use Rattle.std.proofs.Math.ListN.{length, get_or}
use Rattle.std.proofs.Math.Seq.{ext_get_or}
use Rattle.lists.specs.AndLaws.{and_left, and_right, and_both}
use Rattle.lists.specs.BelowLaws.{below_each, below_all}
use Rattle.bytes_equal.specs.Bytes.{same_at, same_bytes}

module _ (m n : List ℕ) where
  pub same_bytes_lem : same_bytes m n ≡ true → m ≡ n
  unfolding same_bytes
  same_bytes_lem h =
      ext_get_or 0 m n (eqb-true _ _ (and_left _ _ h))
      (λ k l. eqb-true _ _ (below_each (same_at m n) (length m) (and_right _ _ h) k l))

  pub bytes_same : m ≡ n → same_bytes m n ≡ true
  unfolding same_bytes
  bytes_same e =
      and_both _ _ (eq-eqb _ _ (ap length e))
      (below_all (same_at m n) (length m) (λ k l. eq-eqb _ _ (ap (λ (b : List ℕ). get_or b k 0) e)))

  pub bytes_differ : (m ≡ n → ⊥) → same_bytes m n ≡ false
  bytes_differ f = go (same_bytes m n) refl
    where
      go : (b : Bool) → same_bytes m n ≡ b → b ≡ false
      go true h = absurd (f (same_bytes_lem h))
      go false h = refl

  -- and so does `==` of two slices
  pub slices_same : (r : Bool) → r ≡ pointwise eqb m n → r ≡ same_bytes m n
  slices_same r e = same_from_decides r (same_bytes m n) (slice_eq-Decides Decides-eqb m n r e) (same_bytes_lem, bytes_same)
