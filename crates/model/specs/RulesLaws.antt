-- Laws of rules under their ids: what looking up tells, and what it finds once a rule is taken out, put in or given another root; that ids
-- stay in order. Assumes nothing.
use Rattle.std.proofs.Math.Path.{◌≡◌, refl, ap, sym}
use Rattle.std.proofs.Common.{◌∙◌, subst, arith, ltb-true, ltb-false, lt-ltb, le-ltb}
use Rattle.std.specs.Prelude.{Bool, true, false, ltb, length, get_or}
use Rattle.std.proofs.Math.Option.{Option, some}
use mathlib.Core.List.{List, [], ◌∷◌, ◌++◌, map}
use Prim.Native.Nat.{ℕ, zero, suc, ◌≤◌, ◌<◌}
use Rattle.std.proofs.Math.Decide.{ℕ_discrete}
use Rattle.std.proofs.Math.ListN.{take, drop}
use Rattle.lists.specs.Places.{All, none, both, Any, here, there, Pairwise, pnil, pcons, Distinct}
use Rattle.lists.proofs.PlacesLaws.{all_map, all_of, all_at, all_get_or, holds, pairwise_map, pairwise_mapped}
use Rattle.lists.specs.Order.{Strict}
use Rattle.lists.specs.OrderLaws.{number_strict, strict_along}
use Rattle.lists.specs.Sort.{lead, put}
use Rattle.lists.proofs.AscendingLaws.{put_ascending}
use Rattle.model.specs.Rules.{Rule, whether, lookup, without, earlier, entered, moved, IdsAscend}

-- two rules have one id
abbrev pub SameId : {A : Type 0} → Rule A → Rule A → Type 0
SameId r s = r.id ≡ s.id

-- no rule has the id
abbrev pub Free : {A : Type 0} → ℕ → List (Rule A) → Type 0
Free i rs = All (λ r. ¬ (i ≡ r.id)) rs

-- a function of what is found
abbrev pub mapped : {A B : Type 0} → (A → B) → Option A → Option B
mapped g Option.none = Option.none
mapped g (some x) = some (g x)

-- ---- what looking up tells

module _ {A : Type 0} where
  pub lookup_none : (i : ℕ) (rs : List (Rule A)) → lookup i rs ≡ Option.none → Free i rs
  unfolding lookup
  lookup_none i [] e = none
  lookup_none i (r ∷ rs) e = go (ℕ_discrete r.id i) e (λ k. lookup_none i rs k)
    where
      go : (d : Dec (r.id ≡ i)) → whether d (some r.root) (lookup i rs) ≡ Option.none
          → (lookup i rs ≡ Option.none → Free i rs) → Free i (r ∷ rs)
      go (yes p) k ih = absurd (let z : ◌≡◌ {A = ℕ} 0 1 = cc in omega arith)
      go (no n) k ih = both (λ q. n (sym q)) (ih k)

  pub lookup_some : (i : ℕ) (x : A) (rs : List (Rule A)) → lookup i rs ≡ some x → Any (λ r. record { id = i; root = x } ≡ r) rs
  unfolding lookup
  lookup_some i x [] e = absurd (let z : ◌≡◌ {A = ℕ} 0 1 = cc in omega arith)
  lookup_some i x (r ∷ rs) e = go (ℕ_discrete r.id i) e (λ k. lookup_some i x rs k)
    where
      go : (d : Dec (r.id ≡ i)) → whether d (some r.root) (lookup i rs) ≡ some x
          → (lookup i rs ≡ some x → Any (λ r. record { id = i; root = x } ≡ r) rs) → Any (λ r. record { id = i; root = x } ≡ r) (r ∷ rs)
      go (yes p) k ih = here (λ t. record { id = sym p t; root = inner t })
        where
          inner : x ≡ r.root
          inner = cc
      go (no n) k ih = there (ih k)

  pub free_lookup : (i : ℕ) {rs : List (Rule A)} → Free i rs → lookup i rs ≡ Option.none
  unfolding lookup
  free_lookup i none = refl
  free_lookup i (both {x = r} {xs = rs} n h) = go (ℕ_discrete r.id i) (free_lookup i h)
    where
      go : (d : Dec (r.id ≡ i)) → lookup i rs ≡ Option.none → whether d (some r.root) (lookup i rs) ≡ Option.none
      go (yes p) ih = absurd (n (sym p))
      go (no m) ih = ih

  -- what all rules have, what is looked up has
  pub lookup_has : (P : A → Type 0) (i : ℕ) (x : A) (rs : List (Rule A)) → All (λ r. P r.root) rs → lookup i rs ≡ some x → P x
  lookup_has P i x rs h e =
      let a = lookup_some i x rs e in
      subst P (sym (ap (λ (r : Rule A). r.root) (holds a))) (all_at h a)

  -- where no two have one id, each is found under its own
  pub lookup_each : {rs : List (Rule A)} → Distinct SameId rs → All (λ r. lookup r.id rs ≡ some r.root) rs
  unfolding lookup
  lookup_each pnil = none
  lookup_each (pcons {x = r} {xs = rs} n d) = both (first (ℕ_discrete r.id r.id)) (later n (lookup_each d))
    where
      first : (d : Dec (r.id ≡ r.id)) → whether d (some r.root) (lookup r.id rs) ≡ some r.root
      first (yes p) = refl
      first (no m) = absurd (m refl)

      later : {k : List (Rule A)} → All (λ s. ¬ (r.id ≡ s.id)) k → All (λ s. lookup s.id rs ≡ some s.root) k
          → All (λ s. lookup s.id (r ∷ rs) ≡ some s.root) k
      later none none = none
      later (both {x = s} m ms) (both q qs) = both (skip (ℕ_discrete r.id s.id)) (later ms qs)
        where
          skip : (d : Dec (r.id ≡ s.id)) → whether d (some r.root) (lookup s.id rs) ≡ some s.root
          skip (yes p) = absurd (m p)
          skip (no m) = q

  -- ---- a rule taken out

  pub without_all : {P : Rule A → Type 0} (i : ℕ) {rs : List (Rule A)} → All P rs → All P (without i rs)
  unfolding without
  without_all i none = none
  without_all {P} i (both {x = r} {xs = rs} p h) = go (ℕ_discrete r.id i) (without_all i h)
    where
      go : (d : Dec (r.id ≡ i)) → All P (without i rs) → All P (whether d (without i rs) (r ∷ without i rs))
      go (yes q) ih = ih
      go (no n) ih = both p ih

  pub without_pairwise : {R : Rule A → Rule A → Type 0} (i : ℕ) {rs : List (Rule A)} → Pairwise R rs → Pairwise R (without i rs)
  unfolding without
  without_pairwise i pnil = pnil
  without_pairwise {R} i (pcons {x = r} {xs = rs} h d) = go (ℕ_discrete r.id i) (without_pairwise i d)
    where
      go : (x : Dec (r.id ≡ i)) → Pairwise R (without i rs) → Pairwise R (whether x (without i rs) (r ∷ without i rs))
      go (yes q) ih = ih
      go (no n) ih = pcons (without_all i h) ih

  pub without_free : (i : ℕ) {rs : List (Rule A)} → Free i rs → without i rs ≡ rs
  unfolding without
  without_free i none = refl
  without_free i (both {x = r} {xs = rs} n h) = go (ℕ_discrete r.id i) (without_free i h)
    where
      go : (d : Dec (r.id ≡ i)) → without i rs ≡ rs → whether d (without i rs) (r ∷ without i rs) ≡ r ∷ rs
      go (yes p) ih = absurd (n (sym p))
      go (no m) ih = ap (λ (l : List (Rule A)). r ∷ l) ih

  -- where no two have one id, the rule at number k goes and the others close up
  pub without_number : {rs : List (Rule A)} → Distinct SameId rs → (k : ℕ) (x : Rule A) → k < length rs
      → without (get_or rs k x).id rs ≡ take k rs ++ drop (suc k) rs
  unfolding without
  without_number pnil k x l = absurd (omega arith)
  without_number (pcons {x = r} {xs = rs} n d) zero x l = go (ℕ_discrete r.id r.id)
    where
      go : (e : Dec (r.id ≡ r.id)) → whether e (without r.id rs) (r ∷ without r.id rs) ≡ rs
      go (yes p) = without_free r.id n
      go (no m) = absurd (m refl)
  without_number (pcons {x = r} {xs = rs} n d) (suc k) x l =
      go (ℕ_discrete r.id (get_or rs k x).id) (without_number d k x (omega arith))
    where
      go : (e : Dec (r.id ≡ (get_or rs k x).id)) → without (get_or rs k x).id rs ≡ take k rs ++ drop (suc k) rs
          → whether e (without (get_or rs k x).id rs) (r ∷ without (get_or rs k x).id rs) ≡ r ∷ take k rs ++ drop (suc k) rs
      go (yes p) ih = absurd (all_get_or n k x (omega arith) p)
      go (no m) ih = ap (λ (l : List (Rule A)). r ∷ l) ih

  pub lookup_without : (i j : ℕ) (rs : List (Rule A)) → lookup j (without i rs) ≡ whether (ℕ_discrete i j) Option.none (lookup j rs)
  unfolding lookup without
  lookup_without i j [] = go (ℕ_discrete i j)
    where
      go : (d : Dec (i ≡ j)) → ◌≡◌ {A = Option A} Option.none (whether d Option.none Option.none)
      go (yes e) = refl
      go (no n) = refl
  lookup_without i j (r ∷ rs) =
      push (ℕ_discrete r.id i) ∙ go (ℕ_discrete r.id i) (ℕ_discrete r.id j) (ℕ_discrete i j) (lookup_without i j rs)
    where
      push : (a : Dec (r.id ≡ i)) → lookup j (whether a (without i rs) (r ∷ without i rs))
          ≡ whether a (lookup j (without i rs)) (whether (ℕ_discrete r.id j) (some r.root) (lookup j (without i rs)))
      push (yes p) = refl
      push (no n) = refl

      go : (a : Dec (r.id ≡ i)) (b : Dec (r.id ≡ j)) (d : Dec (i ≡ j)) → lookup j (without i rs) ≡ whether d Option.none (lookup j rs)
          → whether a (lookup j (without i rs)) (whether b (some r.root) (lookup j (without i rs)))
          ≡ whether d Option.none (whether b (some r.root) (lookup j rs))
      go (yes p) b (yes q) ih = ih
      go (yes p) (yes q) (no n) ih = absurd (n (sym p ∙ q))
      go (yes p) (no m) (no n) ih = ih
      go (no m) (yes p) (yes q) ih = absurd (m (p ∙ sym q))
      go (no m) (no p) (yes q) ih = ih
      go (no m) (yes p) (no n) ih = refl
      go (no m) (no p) (no n) ih = ih

  -- ---- a rule put in

  pub lookup_entered : (j : ℕ) (r : Rule A) (rs : List (Rule A)) → Free r.id rs
      → lookup j (entered r rs) ≡ whether (ℕ_discrete r.id j) (some r.root) (lookup j rs)
  unfolding lookup put
  lookup_entered j r [] h = refl
  lookup_entered j r (s ∷ rs) (both n h) = go (ltb r.id s.id) (lookup_entered j r rs h)
    where
      turn : (p : Dec (r.id ≡ j)) (q : Dec (s.id ≡ j)) → whether q (some s.root) (whether p (some r.root) (lookup j rs))
          ≡ whether p (some r.root) (whether q (some s.root) (lookup j rs))
      turn (yes p) (yes q) = absurd (n (p ∙ sym q))
      turn (yes p) (no q) = refl
      turn (no p) (yes q) = refl
      turn (no p) (no q) = refl

      go : (c : Bool) → lookup j (entered r rs) ≡ whether (ℕ_discrete r.id j) (some r.root) (lookup j rs)
          → lookup j (lead c r s rs (entered r rs))
          ≡ whether (ℕ_discrete r.id j) (some r.root) (whether (ℕ_discrete s.id j) (some s.root) (lookup j rs))
      go true ih = refl
      go false ih =
          ap (λ (o : Option A). whether (ℕ_discrete s.id j) (some s.root) o) ih ∙ turn (ℕ_discrete r.id j) (ℕ_discrete s.id j)

  -- a rule goes in front of number k where the ids before are no greater, and the next is
  pub entered_number : (r : Rule A) (rs : List (Rule A)) (k : ℕ) (x : Rule A) → k ≤ length rs
      → ((j : ℕ) → j < k → (get_or rs j x).id ≤ r.id) → (k < length rs → r.id < (get_or rs k x).id)
      → entered r rs ≡ take k rs ++ r ∷ drop k rs
  unfolding put
  entered_number r [] zero x l h g = refl
  entered_number r [] (suc k) x l h g = absurd (omega arith)
  entered_number r (s ∷ rs) zero x l h g = ap (λ (c : Bool). lead c r s rs (entered r rs)) (lt-ltb r.id s.id (g (omega arith)))
  entered_number r (s ∷ rs) (suc k) x l h g =
      ap (λ (c : Bool). lead c r s rs (entered r rs)) (le-ltb r.id s.id (h zero (omega arith)))
      ∙ ap (λ (l : List (Rule A)). s ∷ l)
      (entered_number r rs k x (omega arith) (λ j m. h (suc j) (omega arith)) (λ m. g (omega arith)))

  -- ---- ids in order

  pub ids_strict : Strict (λ (r s : Rule A). r.id < s.id)
  ids_strict = strict_along number_strict (λ (r : Rule A). r.id)

  pub ids_distinct : {rs : List (Rule A)} → IdsAscend rs → Distinct SameId rs
  ids_distinct h = pairwise_map (λ r s l e. omega (arith, l, e)) h

  pub entered_ascends : (r : Rule A) {rs : List (Rule A)} → Free r.id rs → IdsAscend rs → IdsAscend (entered r rs)
  entered_ascends r h k =
      put_ascending ids_strict earlier r (λ s e. ltb-true r.id s.id e)
      (all_map (λ s n e. let l = ltb-false r.id s.id e in omega (arith, n, l)) h) k

-- ---- other roots

module _ {A B : Type 0} (g : A → B) where
  pub lookup_moved : (j : ℕ) (rs : List (Rule A)) → lookup j (map (moved g) rs) ≡ mapped g (lookup j rs)
  unfolding lookup
  lookup_moved j [] = refl
  lookup_moved j (r ∷ rs) = go (ℕ_discrete r.id j) (lookup_moved j rs)
    where
      go : (d : Dec (r.id ≡ j)) → lookup j (map (moved g) rs) ≡ mapped g (lookup j rs)
          → whether d (some (g r.root)) (lookup j (map (moved g) rs)) ≡ mapped g (whether d (some r.root) (lookup j rs))
      go (yes p) ih = refl
      go (no n) ih = ih

  pub moved_ascends : {rs : List (Rule A)} → IdsAscend rs → IdsAscend (map (moved g) rs)
  moved_ascends {rs} h = pairwise_mapped (moved g) {P = λ r. Unit {0}} (λ r s p q l. l) (all_of (λ r. tt) rs) h
