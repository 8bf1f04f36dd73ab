-- `lines::last_colon` meets its contract: a place is the last colon's if a colon stands there and none behind it. Assumes nothing.
use Rattle.std.proofs.Common.{rules, tests, ◌≡◌, ◌≢◌, refl, ap, arith, ℕ, List, ◌<◌, length}
use Rattle.std.specs.Prelude.{Option, Some, None, MatchOption, slice_index}
use Rattle.std.proofs.Math.Decide.{dec_lt}
use Rattle.lines.specs.Text.{colon}
use Rattle.lines.specs.Colon.{last_colon}
use Rattle.lines.proofs.ColonLaws.{LastColon, colon_found, colon_nowhere}
use Rattle.lines.proofs.last_colon.Goals as goal

abbrev Told : List ℕ → Option ℕ → Type 0
Told w r =
    MatchOption r ((k : ℕ) → k < length w → slice_index w k ≢ colon)
    (λ i. (i < length w) × (slice_index w i ≡ colon) × ((k : ℕ) → i < k → k < length w → slice_index w k ≢ colon))

same : (w : List ℕ) (r o : Option ℕ) → Told w r → last_colon w ≡ o → r ≡ o
same w None None h e = refl
same w None (Some j) h e = let f = colon_found w j e in absurd (h j f.inside f.here)
same w (Some i) None h e = absurd (colon_nowhere w e i h.0 h.1)
same w (Some i) (Some j) h e = go (colon_found w j e) (dec_lt i j) (dec_lt j i)
  where
    go : LastColon w j → Dec (i < j) → Dec (j < i) → Some i ≡ Some j
    go f (yes l) d = absurd (h.2 j l f.inside f.here)
    go f (no m) (yes l) = absurd (f.last i l h.0 h.1)
    go f (no m) (no n) = let e : i ≡ j = omega (arith, m, n) in ap Some e

pub returns : goal.returns
returns c = same c.args.word.now c.rposition.result _ (search (rules, tests)) refl
