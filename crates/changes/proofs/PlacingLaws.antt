-- A table with one entry more: the entries before it stay, and those after it have moved up.
-- Assumes nothing.
use mathlib.Core.Path.{◌≡◌, sym, ◌∙◌}
use mathlib.Core.List.{List}
use Prim.Native.Nat.{ℕ, suc, ◌+◌, ◌-◌, ◌≤◌, ◌<◌}
use native.Mathlib.Numerals.{add-one}
use native.Mathlib.Decide.{ℕ_discrete, dec_lt}
use native.Mathlib.Omega.{arith}
use lib.ListN.{length, get_or}
use lib.Seq.{ext_get_or}
use Rattle.std.proofs.lemmas.List.Edits.{length-insert, get_or-insert_below, get_or-insert_at, get_or-insert_above}
use Rattle.lists.specs.Tabulate.{tabulate}
use Rattle.lists.proofs.TabulateLaws.{length_tabulate, get_or_tabulate}
use Rattle.changes.specs.Placing.{inserted_at}

module _ {A : Type 0} (n : ℕ) (f g : ℕ → A) (k : ℕ) (x : A) (fits : k ≤ n)
    (before : (i : ℕ) → i < k → g i ≡ f i) (here : g k ≡ x) (after : (i : ℕ) → k ≤ i → i < n → g (suc i) ≡ f i) where
  old : List A
  old = tabulate n f

  room : k ≤ length old
  unfolding old
  room = omega (arith, length_tabulate n f)

  each : (i : ℕ) → i < suc n → g i ≡ get_or (inserted_at k x old) i x
  unfolding old
  each i l =
      elim (ℕ_discrete i k) [
        | yes e ↦ rw e (here ∙ sym (get_or-insert_at old k x x room))
        | no ne ↦ elim (dec_lt i k) [
          | yes u ↦ before i u ∙ sym (get_or-insert_below old k x x i u room ∙ get_or_tabulate n f x i (omega arith))
          | no v ↦
              let j = i - 1 in
              let s : j + 1 ≡ i = omega (arith, ne, v) in
              let moved : get_or (inserted_at k x old) (j + 1) x ≡ f j
              = get_or-insert_above old k x x j (omega (arith, ne, v)) room ∙ get_or_tabulate n f x j (omega arith) in
              rw (← s) (rw add-one (after j (omega (arith, ne, v)) (omega arith)) ∙ sym moved)
        ]
      ]

  pub tabulate_insert : tabulate (suc n) g ≡ inserted_at k x (tabulate n f)
  unfolding old
  tabulate_insert =
      let long = length-insert old k x room in
      ext_get_or x (tabulate (suc n) g) (inserted_at k x (tabulate n f))
      (length_tabulate (suc n) g ∙ sym (long ∙ omega (arith, length_tabulate n f)))
      (λ i l.
      let u : i < suc n = rw (length_tabulate (suc n) g) at l in
      get_or_tabulate (suc n) g x i u ∙ each i u)
