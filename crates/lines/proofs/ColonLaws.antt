-- Laws of the last colon: as a loop from the word's end finds it, and what a reader knows of a place that was found. Assumes nothing.
use Rattle.std.specs.Prelude.{◌≡◌, refl, Bool, true, false, cond, List, [], ◌∷◌, ℕ, zero, suc, ◌<◌, eqb, length, get_or, drop}
use Rattle.std.specs.Prelude.{Option, Some, None}
use Rattle.std.proofs.Common.{sym, ap, subst, ◌∙◌, arith, eq-eqb, ne_eqb, eqb-true, drop-cons}
use Rattle.std.proofs.Math.Seq.{drop-length}
use Rattle.lines.specs.Text.{colon}
use Rattle.lines.specs.Colon.{behind, last_colon}

colon_cons : (b : ℕ) (bs : List ℕ) → last_colon (b ∷ bs) ≡ behind b (last_colon bs)
unfolding last_colon
colon_cons b bs = refl

pub colon_none : (w : List ℕ) → last_colon (drop (length w) w) ≡ None
unfolding last_colon
colon_none w = rw drop-length

-- a colon found behind i bytes
colon_back : (w : List ℕ) (i : ℕ) → last_colon (drop i w) ≡ Some zero → last_colon w ≡ Some i
colon_back w zero h = h
colon_back [] (suc i) h = absurd (let e : last_colon [] ≡ None = colon_none [] in let z : ◌≡◌ {A = ℕ} 0 1 = cc in omega arith)
colon_back (b ∷ bs) (suc i) h = colon_cons b bs ∙ ap (behind b) (colon_back bs i h)

module _ (w : List ℕ) (i : ℕ) (inside : i < length w) (none : last_colon (drop (suc i) w) ≡ None) where
  here : last_colon (drop i w) ≡ cond (eqb (get_or w i 0) colon) (Some zero) None
  here = rw (drop-cons w i 0 inside, colon_cons, none)

  pub colon_at : get_or w i 0 ≡ colon → last_colon w ≡ Some i
  colon_at e = colon_back w i (here ∙ rw (eq-eqb (get_or w i 0) colon e))

  pub colon_past : (get_or w i 0 ≡ colon → ⊥) → last_colon (drop i w) ≡ None
  colon_past ne = here ∙ rw (ne_eqb (get_or w i 0) colon ne)

-- where nothing is found there is no colon
pub colon_nowhere : (w : List ℕ) → last_colon w ≡ None → (i : ℕ) → i < length w → get_or w i 0 ≡ colon → ⊥
colon_nowhere [] h i l e = omega arith
colon_nowhere (b ∷ bs) h i l e = go (last_colon bs) refl (sym (colon_cons b bs) ∙ h) i l e (colon_nowhere bs)
  where
    go : (r : Option ℕ) → last_colon bs ≡ r → behind b (last_colon bs) ≡ None → (i : ℕ) → i < length (b ∷ bs)
        → get_or (b ∷ bs) i 0 ≡ colon
        → (last_colon bs ≡ None → (k : ℕ) → k < length bs → get_or bs k 0 ≡ colon → ⊥) → ⊥
    go (Some j) f k i l e ih = let m = rw f at k in let z : ◌≡◌ {A = ℕ} 0 1 = cc in omega arith
    go None f k zero l e ih =
        let m = rw (f, eq-eqb b colon e) at k in let z : ◌≡◌ {A = ℕ} 0 1 = cc in omega arith
    go None f k (suc i) l e ih = ih f i (omega arith) e

-- what is found is a colon, and none stands behind it
pub record LastColon (w : List ℕ) (i : ℕ) : Type 0 where
  pub inside : i < length w
  pub here : get_or w i 0 ≡ colon
  pub last : (j : ℕ) → i < j → j < length w → get_or w j 0 ≡ colon → ⊥

pub colon_found : (w : List ℕ) (i : ℕ) → last_colon w ≡ Some i → LastColon w i
colon_found [] i h = absurd (let e : last_colon [] ≡ None = colon_none [] in let z : ◌≡◌ {A = ℕ} 0 1 = cc in omega arith)
colon_found (b ∷ bs) i h = go (last_colon bs) refl (eqb b colon) refl (sym (colon_cons b bs) ∙ h) (colon_found bs)
  where
    further : (k : ℕ) → suc k ≡ i → LastColon bs k → LastColon (b ∷ bs) i
    further k s f = subst (LastColon (b ∷ bs)) s (record { inside = omega (arith, f.inside); here = f.here; last = later })
      where
        later : (j : ℕ) → suc k < j → j < length (b ∷ bs) → get_or (b ∷ bs) j 0 ≡ colon → ⊥
        later zero m n e = omega arith
        later (suc j) m n e = f.last j (omega arith) (omega arith) e

    first : 0 ≡ i → b ≡ colon → last_colon bs ≡ None → LastColon (b ∷ bs) i
    first s e none = subst (LastColon (b ∷ bs)) s (record { inside = omega arith; here = e; last = later })
      where
        later : (j : ℕ) → 0 < j → j < length (b ∷ bs) → get_or (b ∷ bs) j 0 ≡ colon → ⊥
        later zero m n e = omega arith
        later (suc j) m n e = colon_nowhere bs none j (omega arith) e

    go : (r : Option ℕ) → last_colon bs ≡ r → (t : Bool) → eqb b colon ≡ t → behind b (last_colon bs) ≡ Some i
        → ((k : ℕ) → last_colon bs ≡ Some k → LastColon bs k) → LastColon (b ∷ bs) i
    go (Some k) f t g h ih = let m = rw f at h in further k (cc) (ih k f)
    go None f true g h ih = let m = rw (f, g) at h in first (cc) (eqb-true b colon g) f
    go None f false g h ih = let m = rw (f, g) at h in absurd (let z : ◌≡◌ {A = ℕ} 0 1 = cc in omega arith)
