-- Laws of the words that the desk knows.
--     among_none, among_here, among_on           a word's place among others, as a walk along them finds it
--     by_place, look_up_at, look_up_none, past   by that place, what stands beside the word in a table
-- Assumes nothing.
use Rattle.std.specs.Prelude.{◌≡◌, Bool, length, Some, None, slice_get}
use Rattle.std.proofs.Math.Path.{refl}
use Rattle.std.proofs.Common.{sym, ap, ◌∙◌, arith}
use Rattle.std.proofs.Math.Bool.{true, false, cond}
use mathlib.Core.List.{List, [], ◌∷◌, map}
use Prim.Native.Nat.{ℕ, zero, suc, ◌≤◌}
use Prim.Native.String.{String}
use Rattle.std.proofs.lemmas.List.{length-map}
use Rattle.std.proofs.lemmas.Option.{slice_get_past}
use Rattle.bytes_equal.specs.Bytes.{same_bytes}
use Rattle.lines.specs.Text.{bytes_of}
use Rattle.lines.specs.Keywords.{place_among, look_up}

module _ (w n : List ℕ) (ns : List (List ℕ)) where
  pub among_here : same_bytes w n ≡ true → place_among w (n ∷ ns) ≡ zero
  unfolding place_among
  among_here e = rw e

  pub among_on : same_bytes w n ≡ false → place_among w (n ∷ ns) ≡ suc (place_among w ns)
  unfolding place_among
  among_on e = rw e

pub among_none : (w : List ℕ) → place_among w [] ≡ zero
unfolding place_among
among_none w = refl

module _ {A : Type 0} (w : List ℕ) where
  -- the words of a table, and what stands beside them
  abbrev pub names : List (String × A) → List (List ℕ)
  names = map (λ (row : String × A). bytes_of row.0)

  abbrev pub values : List (String × A) → List A
  values = map (λ (row : String × A). row.1)

  pub by_place : (table : List (String × A)) → slice_get (values table) (place_among w (names table)) ≡ look_up table w
  unfolding place_among look_up
  by_place [] = refl
  by_place ((k, a) ∷ rest) = go (same_bytes w (bytes_of k)) (by_place rest)
    where
      go : (t : Bool) → slice_get (values rest) (place_among w (names rest)) ≡ look_up rest w
          → slice_get (a ∷ values rest) (cond t zero (suc (place_among w (names rest)))) ≡ cond t (Some a) (look_up rest w)
      go true ih = refl
      go false ih = ih

  module _ (table : List (String × A)) (place : ℕ) (told : place ≡ place_among w (names table)) where
    pub look_up_at : (k : ℕ) → place ≡ k → slice_get (values table) k ≡ look_up table w
    look_up_at k e = ap (slice_get (values table)) (sym e ∙ told) ∙ by_place table

    pub look_up_none : length table ≤ place → None ≡ look_up table w
    look_up_none l =
        sym (slice_get_past (values table) place (rw (length-map table (λ (row : String × A). row.1)) l)) ∙ look_up_at place refl

-- a place past k that is not k
pub past : {k place : ℕ} → k ≤ place → (place ≡ k → ⊥) → suc k ≤ place
past l ne = omega (arith, ne)
