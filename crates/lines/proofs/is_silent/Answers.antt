-- `lines::is_silent` meets its contract. Assumes nothing.
use Rattle.std.proofs.Common.{arith, tests, rules, ◌≡◌, ℕ, Bool, true, List, [], ◌∷◌, Bor}
use Rattle.std.specs.Prelude.{eqb, Option, Some, None, slice_get, MatchOption}
use Rattle.std.specs.Option.{option_copied}
use Rattle.lines.specs.Text.{hash}
use Rattle.lines.specs.Words.{is_silent}
use Rattle.lines.proofs.is_silent.Goals as goal

silent : (line : List ℕ) (o : Option (Bor ℕ)) (r : Bool) → option_copied o ≡ slice_get line 0
    → MatchOption o (r ≡ true) (λ x. r ≡ eqb x.now hash) → r ≡ is_silent line
unfolding is_silent
silent [] None r e h = h
silent (b ∷ bs) None r e h = absurd (let z : ◌≡◌ {A = ℕ} 0 1 = cc in omega arith)
silent [] (Some x) r e h = absurd (let z : ◌≡◌ {A = ℕ} 0 1 = cc in omega arith)
silent (b ∷ bs) (Some x) r e h = let k : x.now ≡ b = cc in rw k at h

pub returns : goal.returns
returns c = silent c.args.line.now c.first.result _ c.first.ensures.value (search (rules, tests))
