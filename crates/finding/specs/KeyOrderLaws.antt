-- Laws of the order of keys: it is total and strict, and the same only of the same key.
--     Compared, compared                              how two numbers compare
--     then_less, then_greater, then_equal             the first numbers decide, or leave it to the rest
--     then_assoc, then_end                            one order after another, in any grouping
--     order_same, order_equal                         equal exactly of equal keys
--     order_turned, order_flip, order_flop            the other way round
--     order_trans, order_apart                        from one to the next, and never back to the same
--     order_append                                    heads of one length first, then what follows
--     table_less, table_greater, table_equal          the first items that differ decide, as a loop finds them
--     order_map                                       a renumbering that ascends keeps the order
-- Assumes nothing.
use Rattle.std.specs.Prelude.{◌≡◌, refl, Bool, true, false, List, [], ◌∷◌, ◌++◌, map, ℕ, zero, suc, ◌≤◌, ◌<◌, length, ltb}
use Rattle.std.proofs.Common.{sym, ap, ◌∙◌, le_of_suc-le-suc, arith, ltb-true, ltb-false}
use Rattle.lists.specs.Places.{All, both}
use Rattle.lists.specs.Tabulate.{tabulate}
use Rattle.lists.proofs.TabulateLaws.{tabulate_ext}
use Rattle.std.specs.declared.cmp.Ordering.{Ordering}
use Rattle.std.specs.declared.cmp.Ordering.TheVariants.{Less, Equal, Greater}
use Rattle.std.specs.Ordering.{nat_cmp, ordering_reverse, ordering_then}
use Rattle.std.specs.Cmp.{nat_cmp_is}
use Rattle.std.proofs.lemmas.Cmp.{nat_list_cmp_total, tied_itself}
use Rattle.std.proofs.lemmas.Map.Lookups.{exact_bytes}
use Rattle.finding.specs.KeyOrder.{key_order}

-- ---- numbers

pub data Compared (x y : ℕ) : Type 0 where
  below : x < y → Compared x y
  same : x ≡ y → Compared x y
  above : y < x → Compared x y

pub compared : (x y : ℕ) → Compared x y
compared x y = go (ltb x y) refl (ltb y x) refl
  where
    go : (a : Bool) → ltb x y ≡ a → (b : Bool) → ltb y x ≡ b → Compared x y
    go true e b f = below (ltb-true x y e)
    go false e true f = above (ltb-true y x f)
    go false e false f = same (omega (arith, ltb-false x y e, ltb-false y x f))

pub then_less : (x y : ℕ) (r : Ordering) → x < y → ordering_then (nat_cmp x y) r ≡ Less
then_less x y r h = ap (λ (o : Ordering). ordering_then o r) (sym (nat_cmp_is x y Less h))

pub then_greater : (x y : ℕ) (r : Ordering) → y < x → ordering_then (nat_cmp x y) r ≡ Greater
then_greater x y r h = ap (λ (o : Ordering). ordering_then o r) (sym (nat_cmp_is x y Greater h))

pub then_equal : (x y : ℕ) (r : Ordering) → x ≡ y → ordering_then (nat_cmp x y) r ≡ r
then_equal x y r h = ap (λ (o : Ordering). ordering_then o r) (sym (nat_cmp_is x y Equal h))

pub then_assoc : (o p q : Ordering) → ordering_then (ordering_then o p) q ≡ ordering_then o (ordering_then p q)
then_assoc Less p q = refl
then_assoc Equal p q = refl
then_assoc Greater p q = refl

pub then_end : (o : Ordering) → ordering_then o Equal ≡ o
then_end Less = refl
then_end Equal = refl
then_end Greater = refl

-- ---- keys

order_cons : (x : ℕ) (xs : List ℕ) (y : ℕ) (ys : List ℕ) → key_order (x ∷ xs) (y ∷ ys) ≡ ordering_then (nat_cmp x y) (key_order xs ys)
unfolding key_order
order_cons x xs y ys = refl

pub order_same : (a : List ℕ) → key_order a a ≡ Equal
unfolding key_order
order_same a = tied_itself nat_list_cmp_total a

pub order_equal : (a b : List ℕ) → key_order a b ≡ Equal → a ≡ b
unfolding key_order
order_equal a b h = exact_bytes a b h

-- the other way round
pub order_turned : (a b : List ℕ) → key_order b a ≡ ordering_reverse (key_order a b)
unfolding key_order
order_turned a b = (nat_list_cmp_total).antisymm b a

pub order_flip : (a b : List ℕ) → key_order a b ≡ Less → key_order b a ≡ Greater
order_flip a b h = order_turned a b ∙ ap ordering_reverse h

pub order_flop : (a b : List ℕ) → key_order a b ≡ Greater → key_order b a ≡ Less
order_flop a b h = order_turned a b ∙ ap ordering_reverse h

pub order_trans : (a b c : List ℕ) → key_order a b ≡ Less → key_order b c ≡ Less → key_order a c ≡ Less
unfolding key_order
order_trans a b c h k = (nat_list_cmp_total).trans a b c h k

-- no key is less than itself
pub order_apart : (a b : List ℕ) → key_order a b ≡ Less → a ≡ b → ⊥
order_apart a b h e = let z : key_order a b ≡ Equal = rw e (order_same b) in absurd (cc)

-- heads of one length, then the rest
pub order_append : (h k a b : List ℕ) → length h ≡ length k → key_order (h ++ a) (k ++ b) ≡ ordering_then (key_order h k) (key_order a b)
unfolding key_order
order_append [] [] a b e = refl
order_append [] (y ∷ k) a b e = absurd (omega (arith, e))
order_append (x ∷ h) [] a b e = absurd (omega (arith, e))
order_append (x ∷ h) (y ∷ k) a b e =
    ap (ordering_then (nat_cmp x y)) (order_append h k a b (omega (arith, e)))
    ∙ sym (then_assoc (nat_cmp x y) (key_order h k) (key_order a b))

-- ---- items, one after the other

pub tabulate_cons : (n : ℕ) (f : ℕ → ℕ) → tabulate (suc n) f ≡ f 0 ∷ tabulate n (λ k. f (suc k))
unfolding tabulate
tabulate_cons zero f = refl
tabulate_cons (suc n) f = ap (λ (l : List ℕ). l ++ (f (suc n) ∷ [])) (tabulate_cons n f)

module _ (o : Ordering) where
  -- where the first i items are the same and the next two decide, they decide the whole
  table_decided : (n : ℕ) (f g : ℕ → ℕ) (i : ℕ) → i < n → ((j : ℕ) → j < i → f j ≡ g j)
      → ((r : Ordering) → ordering_then (nat_cmp (f i) (g i)) r ≡ o)
      → key_order (tabulate n f) (tabulate n g) ≡ o
  table_decided zero f g i l h d = absurd (omega arith)
  table_decided (suc n) f g zero l h d = rw (tabulate_cons n f, tabulate_cons n g) (order_cons _ _ _ _ ∙ d _)
  table_decided (suc n) f g (suc i) l h d =
      rw (tabulate_cons n f, tabulate_cons n g)
      (order_cons _ _ _ _ ∙ then_equal (f 0) (g 0) _ (h 0 (omega arith))
      ∙ table_decided n (λ k. f (suc k)) (λ k. g (suc k)) i (le_of_suc-le-suc l) (λ j k. h (suc j) (omega arith)) d)

module _ (n : ℕ) (f g : ℕ → ℕ) where
  pub table_less : (i : ℕ) → i < n → ((j : ℕ) → j < i → f j ≡ g j) → f i < g i → Less ≡ key_order (tabulate n f) (tabulate n g)
  table_less i l h d = sym (table_decided Less n f g i l h (λ r. then_less (f i) (g i) r d))

  pub table_greater : (i : ℕ) → i < n → ((j : ℕ) → j < i → f j ≡ g j) → g i < f i → Greater ≡ key_order (tabulate n f) (tabulate n g)
  table_greater i l h d = sym (table_decided Greater n f g i l h (λ r. then_greater (f i) (g i) r d))

  pub table_equal : (i : ℕ) → n ≤ i → ((j : ℕ) → j < i → f j ≡ g j) → Equal ≡ key_order (tabulate n f) (tabulate n g)
  table_equal i l h =
      let e : tabulate n f ≡ tabulate n g = tabulate_ext n f g (λ j k. h j (omega arith)) in
      sym (rw e (order_same (tabulate n g)))

-- ---- renumbering

-- f keeps the order of the numbers that have K
unfoldable pub RisesOn : (ℕ → Type 0) → (ℕ → ℕ) → Type 0
RisesOn K f = (a b : ℕ) → K a → K b → a < b → f a < f b

pub order_map : (K : ℕ → Type 0) (f : ℕ → ℕ) → RisesOn K f → (a b : List ℕ) → All K a → All K b
    → key_order (map f a) (map f b) ≡ key_order a b
unfolding key_order RisesOn
order_map K f m [] [] ka kb = refl
order_map K f m [] (y ∷ b) ka kb = refl
order_map K f m (x ∷ a) [] ka kb = refl
order_map K f m (x ∷ a) (y ∷ b) (both kx ka) (both ky kb) = go (compared x y) (order_map K f m a b ka kb)
  where
    go : Compared x y → key_order (map f a) (map f b) ≡ key_order a b
        → ordering_then (nat_cmp (f x) (f y)) (key_order (map f a) (map f b)) ≡ ordering_then (nat_cmp x y) (key_order a b)
    go (below l) ih = then_less (f x) (f y) _ (m x y kx ky l) ∙ sym (then_less x y _ l)
    go (above l) ih = then_greater (f x) (f y) _ (m y x ky kx l) ∙ sym (then_greater x y _ l)
    go (same e) ih = then_equal (f x) (f y) _ (ap f e) ∙ ih ∙ sym (then_equal x y _ e)
