-- Laws of `tabulate`: its length and its elements, what it becomes when the function changes, and All, Any and Pairwise over it by number.
-- Assumes nothing.
use Rattle.std.specs.Prelude.{◌≡◌, ◌≢◌, length, get_or, set, take, drop}
use Rattle.std.proofs.Math.Path.{refl}
use Rattle.std.proofs.Common.{sym, ap, ◌∙◌, subst, subst₂, arith, length-set, length-drop, get_or-set_same, get_or-set_other}
use Rattle.std.proofs.Common.{ext_get_or, length-take-le, get_or-take, get_or-drop, get_or-append-add}
use mathlib.Core.List.{List, [], ◌∷◌, ◌++◌, map, map-append}
use Prim.Native.Nat.{ℕ, zero, suc, ◌+◌, ◌-◌, ◌≤◌, ◌<◌}
use Rattle.std.proofs.Math.Decide.{ℕ_discrete, dec_lt}
use Rattle.std.proofs.Math.ListN.{length-append, get_or-append}
use Rattle.std.proofs.lemmas.List.{get_or_at}
use Rattle.lists.specs.Places.{All, Any, Pairwise}
use Rattle.lists.proofs.PlacesLaws.{all_get_or, get_or_all, any_get_or, pairwise_get_or, get_or_pairwise, neighbours_pairwise}
use Rattle.lists.specs.Tabulate.{tabulate}

module _ {A : Type 0} where
  pub length_tabulate : (n : ℕ) (f : ℕ → A) → length (tabulate n f) ≡ n
  unfolding tabulate
  length_tabulate zero f = refl
  length_tabulate (suc n) f = length-append (tabulate n f) (f n ∷ []) ∙ rw (length_tabulate n f) (omega arith)

  pub get_or_tabulate : (n : ℕ) (f : ℕ → A) (d : A) (i : ℕ) → i < n → get_or (tabulate n f) i d ≡ f i
  unfolding tabulate
  get_or_tabulate zero f d i h = absurd (omega arith)
  get_or_tabulate (suc n) f d i h =
      elim (ℕ_discrete i n) [
        | yes e ↦ rw e (get_or_at (tabulate n f) (f n) [] d n (length_tabulate n f))
        | no ne ↦ get_or-append (tabulate n f) (f n ∷ []) d i (rw (length_tabulate n f) (omega (arith, ne)))
            ∙ get_or_tabulate n f d i (omega (arith, ne))
      ]

  -- functions that agree below n
  pub tabulate_ext : (n : ℕ) (f g : ℕ → A) → ((i : ℕ) → i < n → f i ≡ g i) → tabulate n f ≡ tabulate n g
  unfolding tabulate
  tabulate_ext zero f g h = refl
  tabulate_ext (suc n) f g h =
      let front : tabulate n f ≡ tabulate n g = tabulate_ext n f g (λ i l. h i (omega arith)) in
      let end : f n ≡ g n = h n (omega arith) in
      rw (front, end)

  -- a list is the table of its elements
  pub tabulate_get_or : (l : List A) (d : A) → tabulate (length l) (λ i. get_or l i d) ≡ l
  tabulate_get_or l d =
      let f : ℕ → A = λ i. get_or l i d in
      let long : length (tabulate (length l) f) ≡ length l = length_tabulate (length l) f in
      ext_get_or d (tabulate (length l) f) l long (λ i u. get_or_tabulate (length l) f d i (rw long at u))

  -- one value changes
  pub tabulate_set : (n : ℕ) (f g : ℕ → A) (p : ℕ) (a : A) → p < n → g p ≡ a → ((i : ℕ) → i < n → i ≢ p → g i ≡ f i)
      → tabulate n g ≡ set (tabulate n f) p a
  tabulate_set n f g p a h e o =
      let long : length (tabulate n g) ≡ n = length_tabulate n g in
      ext_get_or a (tabulate n g) (set (tabulate n f) p a) (long ∙ sym (length-set (tabulate n f) p a ∙ length_tabulate n f))
      (λ i l.
      let l' : i < n = rw long at l in
      get_or_tabulate n g a i l'
      ∙ elim (ℕ_discrete i p) [
        | yes q ↦ rw q (e ∙ sym (get_or-set_same (tabulate n f) p a a (rw (length_tabulate n f) h)))
        | no ne ↦ o i l' ne ∙ sym (get_or-set_other (tabulate n f) p i a a ne ∙ get_or_tabulate n f a i l')
      ])

  -- one more
  pub tabulate_more : (n : ℕ) (f g : ℕ → A) (a : A) → g n ≡ a → ((i : ℕ) → i < n → g i ≡ f i)
      → tabulate (suc n) g ≡ tabulate n f ++ (a ∷ [])
  unfolding tabulate
  tabulate_more n f g a e o = rw (tabulate_ext n g f o, e)

  -- one is taken away, and those after it move down
  pub tabulate_remove : (n : ℕ) (f g : ℕ → A) (at : ℕ) → at < n
      → ((i : ℕ) → i < at → g i ≡ f i) → ((i : ℕ) → at ≤ i → i < n - 1 → g i ≡ f (i + 1))
      → tabulate (n - 1) g ≡ take at (tabulate n f) ++ drop (suc at) (tabulate n f)
  tabulate_remove n f g at h lo hi =
      let L : List A = tabulate n f in
      let long : length L ≡ n = length_tabulate n f in
      let front : length (take at L) ≡ at = length-take-le at L (omega arith) in
      let back : length (drop (suc at) L) ≡ n - suc at = length-drop (suc at) L ∙ rw long in
      let whole : length (take at L ++ drop (suc at) L) ≡ n - 1 = length-append (take at L) (drop (suc at) L) ∙ omega arith in
      ext_get_or (f 0) (tabulate (n - 1) g) (take at L ++ drop (suc at) L) (length_tabulate (n - 1) g ∙ sym whole)
      (λ i l.
      let l' : i < n - 1 = rw (length_tabulate (n - 1) g) at l in
      get_or_tabulate (n - 1) g (f 0) i l'
      ∙ elim (dec_lt i at) [
        | yes u ↦ lo i u
            ∙ sym (get_or-append (take at L) (drop (suc at) L) (f 0) i (omega arith) ∙ get_or-take at L i (f 0) u
            ∙ get_or_tabulate n f (f 0) i (omega arith))
        | no v ↦
            let e : length (take at L) + (i - at) ≡ i = omega (arith, v) in
            let s : suc at + (i - at) ≡ i + 1 = omega (arith, v) in
            hi i (omega (arith, v)) l'
            ∙ sym
            (ap (λ (j : ℕ). get_or (take at L ++ drop (suc at) L) j (f 0)) (sym e)
            ∙ get_or-append-add (take at L) (drop (suc at) L) (i - at) (f 0)
            ∙ get_or-drop (suc at) L (i - at) (f 0)
            ∙ ap (λ (j : ℕ). get_or L j (f 0)) s
            ∙ get_or_tabulate n f (f 0) (i + 1) (omega (arith, v)))
      ])

  pub map_tabulate : {B : Type 0} (g : A → B) (n : ℕ) (f : ℕ → A) → map g (tabulate n f) ≡ tabulate n (λ i. g (f i))
  unfolding tabulate
  map_tabulate g zero f = refl
  map_tabulate g (suc n) f = map-append g (tabulate n f) (f n ∷ []) ∙ rw (map_tabulate g n f)

-- ---- properties by number

module _ {A : Type 0} (n : ℕ) (f : ℕ → A) where
  -- a law by the elements of the table is a law by the values of f
  value : (i : ℕ) → i < n → get_or (tabulate n f) i (f 0) ≡ f i
  value i l = get_or_tabulate n f (f 0) i l

  long : length (tabulate n f) ≡ n
  long = length_tabulate n f

  pub tabulate_all : {P : A → Type 0} → ((i : ℕ) → i < n → P (f i)) → All P (tabulate n f)
  tabulate_all {P} h = get_or_all (tabulate n f) (f 0) (λ i l. let u : i < n = rw long at l in subst P (sym (value i u)) (h i u))

  pub all_tabulate : {P : A → Type 0} → All P (tabulate n f) → (i : ℕ) → i < n → P (f i)
  all_tabulate {P} h i l = subst P (value i l) (all_get_or h i (f 0) (rw long l))

  pub tabulate_any : {P : A → Type 0} (i : ℕ) → i < n → P (f i) → Any P (tabulate n f)
  tabulate_any {P} i l p = any_get_or (tabulate n f) i (f 0) (rw long l) (subst P (sym (value i l)) p)

  between : (R : A → A → Type 0) (i j : ℕ) → i < n → j < n → R (f i) (f j)
      → R (get_or (tabulate n f) i (f 0)) (get_or (tabulate n f) j (f 0))
  between R i j l k r = subst₂ R (sym (value i l)) (sym (value j k)) r

  module _ {R : A → A → Type 0} where
    pub tabulate_pairwise : ((i j : ℕ) → i < j → j < n → R (f i) (f j)) → Pairwise R (tabulate n f)
    tabulate_pairwise h =
        get_or_pairwise (tabulate n f) (f 0)
        (λ i j l k. let u : j < n = rw long at k in between R i j (omega arith) u (h i j l u))

    pub pairwise_tabulate : Pairwise R (tabulate n f) → (i j : ℕ) → i < j → j < n → R (f i) (f j)
    pairwise_tabulate h i j l k =
        subst₂ R (value i (omega arith)) (value j k) (pairwise_get_or h i j (f 0) l (rw long k))

    -- where R is transitive, neighbours are enough
    pub tabulate_neighbours : ((x y z : A) → R x y → R y z → R x z)
        → ((i : ℕ) → i + 1 < n → R (f i) (f (i + 1))) → Pairwise R (tabulate n f)
    tabulate_neighbours t h =
        neighbours_pairwise t (tabulate n f) (f 0)
        (λ i l.
        let u : suc i < n = rw long at l in
        let e : i + 1 ≡ suc i = omega arith in
        between R i (suc i) (omega arith) u (subst (λ (k : ℕ). R (f i) (f k)) e (h i (omega arith))))
