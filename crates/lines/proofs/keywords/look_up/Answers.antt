-- `lines::keywords::look_up` meets its contract: the first row with that word is the one that is found. Assumes nothing.
use Rattle.std.proofs.Common.{rules, tests, ◌≡◌, ◌∙◌, ap, map, ℕ, refl, Bool, true, false, List, [], ◌∷◌, Bor}
use Rattle.std.specs.Prelude.{cond, Some, zero, suc, slice_get}
use Rattle.std.specs.List.{find}
use Rattle.std.specs.Option.{option_map}
use Rattle.std.proofs.lemmas.Iterator.{YieldsList-from_slice}
use Rattle.std.proofs.lemmas.Iterator.Search.{find_from_yields_List}
use Rattle.bytes_equal.specs.Bytes.{same_bytes}
use Rattle.lines.specs.Keywords.{place_among}
use Rattle.lines.proofs.keywords.look_up.Goals as goal

module _ {A : Type 0} (w : List ℕ) where
  abbrev fits : Bor (List ℕ) × A → Bool
  fits row = same_bytes w row.0.now

  abbrev names : List (Bor (List ℕ) × A) → List (List ℕ)
  names = map (λ (row : Bor (List ℕ) × A). row.0.now)

  abbrev value : Bor (List ℕ) × A → A
  value row = row.1

  beside : (table : List (Bor (List ℕ) × A))
      → option_map value (find fits table) ≡ slice_get (map value table) (place_among w (names table))
  unfolding place_among
  beside [] = refl
  beside (row ∷ more) = go (fits row) (beside more)
    where
      go : (t : Bool) → option_map value (find fits more) ≡ slice_get (map value more) (place_among w (names more))
          → option_map value (cond t (Some row) (find fits more))
          ≡ slice_get (row.1 ∷ map value more) (cond t zero (suc (place_among w (names more))))
      go true ih = refl
      go false ih = ih

pub returns : goal.returns
returns g c =
    let rows = c.args.table.now in
    let w = c.args.word.now in
    let found
    = find_from_yields_List (fits w) _ _ c.find.result c.find.ensures.ran (YieldsList-from_slice rows cc)
    (λ x b q k. search (rules, tests)) in
    search rules ∙ ap (option_map (value w)) found ∙ beside w rows
