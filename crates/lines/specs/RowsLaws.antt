-- Laws of rows of numbers, as a loop reads them: one word after the other, while there is a place for its number.
--     row_done, places_done                   no word is left: how many there are, and what stands in the places
--     row_more, places_more                   the next word is a number
--     row_none, places_none                   it is none
--     row_full, places_full                   there is no place for it
-- Assumes nothing.
use Rattle.std.specs.Prelude.{◌≡◌, List, [], ◌∷◌, leb, ℤ, set, Some, None}
use Rattle.std.proofs.Math.Path.{refl}
use Rattle.std.proofs.Math.Bool.{false}
use Prim.Native.Nat.{ℕ, suc, ◌+◌, ◌≤◌}
use Rattle.std.proofs.Common.{add-one}
use native.Mathlib.Omega.{arith}
use borrow.Author.Tests.{eq-eqb, ne_eqb, le-leb, lt-leb}
use Rattle.std.proofs.Math.Dec.{eqb, eqb-suc-suc}
use Rattle.std.proofs.Math.ListN.{length}
use Rattle.std.proofs.lemmas.List.Edits.{sets}
use Rattle.std.proofs.Math.Seq.{set_out}
use Rattle.lists.specs.AndLaws.{and_first, and_second, and_both}
use Rattle.lines.specs.Numbers.{number_of}
use Rattle.lines.specs.Rows.{before, leading, row_from}

leading_cons : (w : List ℕ) (ws : List (List ℕ)) → leading (w ∷ ws) ≡ before (number_of w) (leading ws)
unfolding leading
leading_cons w ws = refl

module _ (room count : ℕ) where
  pub row_done : count ≤ room → row_from room count [] ≡ Some count
  unfolding row_from leading
  row_done l =
      let e : count + 0 ≡ count = omega arith in
      rw (e, and_both (eqb 0 0) (leb count room) (eq-eqb 0 0 refl) (le-leb count room l))

  module _ (w : List ℕ) (ws : List (List ℕ)) where
    pub row_more : (z : ℤ) → number_of w ≡ Some z → row_from room count (w ∷ ws) ≡ row_from room (count + 1) ws
    unfolding row_from
    row_more z h =
        let e : count + suc (length ws) ≡ count + 1 + length ws = omega arith in
        rw (leading_cons w ws, h, eqb-suc-suc (length (leading ws)) (length ws), e)

    pub row_none : number_of w ≡ None → row_from room count (w ∷ ws) ≡ None
    unfolding row_from
    row_none h =
        let more : eqb 0 (suc (length ws)) ≡ false = ne_eqb 0 (suc (length ws)) (λ e. omega arith) in
        rw (leading_cons w ws, h, and_first (eqb 0 (suc (length ws))) (leb (count + suc (length ws)) room) more)

    pub row_full : room ≤ count → row_from room count (w ∷ ws) ≡ None
    unfolding row_from
    row_full l =
        rw (and_second (eqb (length (leading (w ∷ ws))) (suc (length ws))) _ (lt-leb (count + suc (length ws)) room (omega arith)))

module _ (out : List ℤ) (count : ℕ) where
  pub places_done : sets out count (leading []) ≡ out
  unfolding leading
  places_done = refl

  module _ (w : List ℕ) (ws : List (List ℕ)) where
    pub places_more : (z : ℤ) → number_of w ≡ Some z → sets out count (leading (w ∷ ws)) ≡ sets (set out count z) (count + 1) (leading ws)
    places_more z h = rw (leading_cons w ws, h, add-one)

    pub places_none : number_of w ≡ None → sets out count (leading (w ∷ ws)) ≡ out
    places_none h = rw (leading_cons w ws, h)

pub places_full : (zs out : List ℤ) (count : ℕ) → length out ≤ count → sets out count zs ≡ out
places_full [] out count l = refl
places_full (z ∷ zs) out count l = rw (set_out out count z l) (places_full zs out (suc count) (omega arith))
