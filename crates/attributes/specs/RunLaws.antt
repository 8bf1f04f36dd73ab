-- A run of bytes stored from a place on: outside it every byte is kept, and inside it stands what was stored.
-- Assumes nothing.
use Rattle.std.specs.Prelude.{◌≡◌, refl, ◌⊎◌, List, [], ◌∷◌, ℕ, zero, suc, ◌+◌, ◌≤◌, ◌<◌, length, get_or, set}
use Rattle.std.proofs.Common.{◌∙◌, inl, inr, ⊎_elim, arith, length-set, get_or-set_same, get_or-set_other}
use Rattle.std.proofs.lemmas.List.Edits.{sets}

pub run_outside : (t : List ℕ) (at : ℕ) (r : List ℕ) (k : ℕ) → (k < at) ⊎ (at + length r ≤ k)
    → get_or (sets t at r) k 0 ≡ get_or t k 0
run_outside t at [] k out = refl
run_outside t at (b ∷ r) k out =
    run_outside (set t at b) (suc at) r k (⊎_elim (λ l. inl (omega arith)) (λ l. inr (omega arith)) out)
    ∙ get_or-set_other t at k b 0 (λ e. ⊎_elim (λ l. omega arith) (λ l. omega arith) out)

-- byte j of the list is byte k of the run
pub run_inside : (t : List ℕ) (at : ℕ) (r : List ℕ) (j k : ℕ) → at + length r ≤ length t → k < length r → j ≡ at + k
    → get_or (sets t at r) j 0 ≡ get_or r k 0
run_inside t at [] j k fits l e = absurd (omega arith)
run_inside t at (b ∷ r) j zero fits l e =
    let here : j ≡ at = omega arith in
    run_outside (set t at b) (suc at) r j (inl (omega arith)) ∙ rw here (get_or-set_same t at b 0 (omega arith))
run_inside t at (b ∷ r) j (suc k) fits l e =
    run_inside (set t at b) (suc at) r j k (rw length-set (omega arith)) (omega arith) (omega arith)
