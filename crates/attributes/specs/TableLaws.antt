-- Laws of tables, sound or not.
--     between, is_between_lem                            a number from low to high
--     first_none, first_more, first_here             the first number that passes a test, as a loop seeks it
--     first_passes, first_nothing, first_fails       and as a reader uses it
--     name_whole                                     how long a name is
--     by_name_named, by_name_nothing, by_name_none   what is found has the name, and nothing is found exactly where nothing has it
-- Assumes nothing.
use Rattle.std.specs.Prelude.{◌≡◌, Bool, true, false, cond, List, ℕ, zero, suc, ◌+◌, ◌≤◌, ◌<◌, length, drop, Option, None, Some}
use Rattle.std.specs.Option.{option_or, is_none}
use Rattle.std.proofs.Math.Path.{refl}
use Rattle.std.proofs.Common.{sym, ◌∙◌, true≢false, add-one, arith, length-drop, length-take-le}
use Rattle.std.proofs.Math.Decide.{ℕ_discrete}
use borrow.Author.Tests.{leb-true, le-leb}
use Rattle.lists.specs.AndLaws.{and_left, and_right, and_both}
use Rattle.bytes_equal.specs.BytesLaws.{same_bytes_lem, bytes_same, bytes_differ}
use Rattle.attributes.specs.declared.AttributeId.{AttributeId}
use Rattle.attributes.specs.Table.{record_at, is_between, count_of, length_at, name_at}
use Rattle.attributes.specs.Table.{named, first_below, by_name}

-- ---- a number from low to high

module _ (low n high : ℕ) where
  pub between : is_between low n high ≡ true → (low ≤ n) × (n ≤ high)
  unfolding is_between
  between h = (leb-true _ _ (and_left _ _ h), leb-true _ _ (and_right _ _ h))

  pub is_between_lem : (low ≤ n) × (n ≤ high) → is_between low n high ≡ true
  unfolding is_between
  is_between_lem h = and_both _ _ (le-leb _ _ h.0) (le-leb _ _ h.1)

-- ---- the first attribute that passes a test

pub nowhere_nothing : (r : Option AttributeId) → is_none r ≡ true → r ≡ None
nowhere_nothing (Some i) h = absurd (true≢false (sym h))
nowhere_nothing None h = refl

module _ (f : ℕ → Bool) where
  pub first_none : first_below f 0 ≡ None
  unfolding first_below
  first_none = refl

  first_suc : (n : ℕ) → first_below f (suc n) ≡ option_or (first_below f n) (cond (f n) (Some (record { 0 = n })) None)
  unfolding first_below
  first_suc n = refl

  pub first_more : (n : ℕ) → first_below f n ≡ None → f n ≡ false → first_below f (n + 1) ≡ None
  first_more n h e = rw (add-one, first_suc, h, e)

  pub first_here : (i n : ℕ) → i < n → first_below f i ≡ None → f i ≡ true → first_below f n ≡ Some (record { 0 = i })
  first_here i zero l h e = absurd (omega arith)
  first_here i (suc n) l h e = go (ℕ_discrete i n) (first_here i n)
    where
      go : Dec (i ≡ n) → (i < n → first_below f i ≡ None → f i ≡ true → first_below f n ≡ Some (record { 0 = i }))
          → first_below f (suc n) ≡ Some (record { 0 = i })
      go (yes s) earlier = rw (first_suc, ← s, h, e)
      go (no ne) earlier = rw (first_suc, earlier (omega (arith, ne)) h e)

  pub first_fails : (n : ℕ) → ((k : ℕ) → k < n → f k ≡ false) → first_below f n ≡ None
  first_fails zero h = first_none
  first_fails (suc n) h = rw (first_suc, first_fails n (λ k l. h k (omega arith)), h n (omega arith))

  pub first_nothing : (n : ℕ) → first_below f n ≡ None → (k : ℕ) → k < n → f k ≡ false
  first_nothing zero h k l = absurd (omega arith)
  first_nothing (suc n) h k l =
      go (first_below f n) refl (f n) refl (ℕ_discrete k n) (λ e. first_nothing n e k) (sym (first_suc n) ∙ h)
    where
      go : (r : Option AttributeId) → first_below f n ≡ r → (b : Bool) → f n ≡ b → Dec (k ≡ n)
          → (first_below f n ≡ None → k < n → f k ≡ false)
          → option_or r (cond b (Some (record { 0 = n })) None) ≡ None → f k ≡ false
      go (Some j) e b g d earlier none = absurd (let z : ◌≡◌ {A = ℕ} 0 1 = cc in omega arith)
      go None e true g d earlier none = absurd (let z : ◌≡◌ {A = ℕ} 0 1 = cc in omega arith)
      go None e false g (yes s) earlier none = rw s g
      go None e false g (no ne) earlier none = earlier e (omega (arith, ne))

  pub first_passes : (n : ℕ) (i : AttributeId) → first_below f n ≡ Some i → (i.0 < n) × (f i.0 ≡ true)
  first_passes zero i h = absurd (let e = first_none in let z : ◌≡◌ {A = ℕ} 0 1 = cc in omega arith)
  first_passes (suc n) i h = go (first_below f n) refl (f n) refl (first_passes n i) (sym (first_suc n) ∙ h)
    where
      go : (r : Option AttributeId) → first_below f n ≡ r → (b : Bool) → f n ≡ b
          → (first_below f n ≡ Some i → (i.0 < n) × (f i.0 ≡ true))
          → option_or r (cond b (Some (record { 0 = n })) None) ≡ Some i → (i.0 < suc n) × (f i.0 ≡ true)
      go (Some j) e b g earlier at = let p = earlier (e ∙ at) in (omega (arith, p.0), p.1)
      go None e true g earlier at = let s : n ≡ i.0 = cc in (omega arith, rw s at g)
      go None e false g earlier at = absurd (let z : ◌≡◌ {A = ℕ} 0 1 = cc in omega arith)

-- ---- names

-- a name that ends within the table is as long as its record says
pub name_whole : (t : List ℕ) (i : ℕ) → record_at i + 2 + length_at t i ≤ length t → length (name_at t i) ≡ length_at t i
name_whole t i fits = length-take-le (length_at t i) (drop (record_at i + 2) t) (rw length-drop (omega arith))

module _ (t n : List ℕ) where
  pub by_name_named : (i : AttributeId) → by_name t n ≡ Some i → (i.0 < count_of t) × (name_at t i.0 ≡ n)
  by_name_named i h =
      let p = first_passes (named t n) (count_of t) i h in (p.0, same_bytes_lem (name_at t i.0) n p.1)

  pub by_name_nothing : by_name t n ≡ None → (i : ℕ) → i < count_of t → name_at t i ≡ n → ⊥
  by_name_nothing h i l e =
      true≢false (sym (bytes_same (name_at t i) n e) ∙ first_nothing (named t n) (count_of t) h i l)

  pub by_name_none : ((i : ℕ) → i < count_of t → name_at t i ≡ n → ⊥) → by_name t n ≡ None
  by_name_none f = first_fails (named t n) (count_of t) (λ i l. bytes_differ (name_at t i) n (f i l))
