-- The items of a part, as going over their places one after the other gives them, and how they compare with others. Assumes nothing.
use mathlib.Core.Path.{◌≡◌, refl, sym, ap, ap₂, ◌∙◌}
use mathlib.Core.List.{List, ◌∷◌, map}
use mathlib.Core.Logic.{◌≢◌}
use Prim.Native.Nat.{ℕ, zero, suc, ◌+◌, ◌≤◌, ◌<◌}
use native.Mathlib.Omega.{arith}
use lib.ListN.{length, get_or}
use Rattle.std.specs.Ordering.{nat_cmp}
use Rattle.std.specs.Cmp.{nat_cmp_is}
use Rattle.std.specs.declared.cmp.Ordering.{Ordering}
use Rattle.std.specs.declared.cmp.Ordering.TheVariants.{Less, Equal, Greater}
use Rattle.std.specs.List.{range_with_len}
use Rattle.std.proofs.lemmas.List.{get_or-map}
use Rattle.lists.specs.Tabulate.{tabulate}
use Rattle.lists.proofs.TabulateLaws.{tabulate_ext, tabulate_get_or}
use Rattle.finding.specs.KeyOrder.{key_order}
use Rattle.finding.specs.KeyOrderLaws.{Compared, compared, below, same, above, tabulate_cons, table_less, table_greater, table_equal}

pub range_table : (f : ℕ → ℕ) (n from : ℕ) → map f (range_with_len from n) ≡ tabulate n (λ k. f (from + k))
unfolding tabulate
range_table f zero from = refl
range_table f (suc n) from =
    rw (tabulate_cons n (λ k. f (from + k)))
    (ap₂ (λ (x : ℕ) (l : List ℕ). x ∷ l) (ap f (omega arith))
    (range_table f n (from + 1) ∙ tabulate_ext n (λ k. f (from + 1 + k)) (λ k. f (from + suc k)) (λ k l. ap f (omega arith))))

-- a list as the table of its items
pub list_table : (l : List ℕ) → l ≡ tabulate (length l) (λ i. get_or l i 0)
list_table l = sym (tabulate_get_or l 0)

-- the first i items are the same
abbrev pub Agree : (ℕ → ℕ) → (ℕ → ℕ) → ℕ → Type 0
Agree f g i = (j : ℕ) → j < i → f j ≡ g j

module _ {n : ℕ} {f g : ℕ → ℕ} {l : List ℕ} (e : l ≡ tabulate n g) (i : ℕ) (h : Agree f g i) where
  pub items_differ : i < n → f i ≢ g i → {r : Ordering} → r ≡ nat_cmp (f i) (g i) → r ≡ key_order (tabulate n f) l
  items_differ k ne d = d ∙ rw e (go (compared (f i) (g i)))
    where
      go : Compared (f i) (g i) → nat_cmp (f i) (g i) ≡ key_order (tabulate n f) (tabulate n g)
      go (below u) = sym (nat_cmp_is (f i) (g i) Less u) ∙ table_less n f g i k h u
      go (same u) = absurd (ne u)
      go (above u) = sym (nat_cmp_is (f i) (g i) Greater u) ∙ table_greater n f g i k h u

  pub items_equal : n ≤ i → Equal ≡ key_order (tabulate n f) l
  items_equal k = rw e (table_equal n f g i k h)

-- the word of an item of a candidate stands at the item's place among the words of all
pub word_at : {A : Type 0} (word : A → ℕ) (l : List A) (k : ℕ) → k < length l → {x : A} → x ≡ get_or l k x → {r : ℕ} → r ≡ word x
    → r ≡ get_or (map word l) k 0
word_at word l k u {x} e f = f ∙ ap word e ∙ sym (get_or-map word l k x 0 u)
