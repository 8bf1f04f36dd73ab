-- What the code's tests of a table tell of its marks: of one attribute, and of all.
-- Assumes nothing.
use Rattle.std.proofs.Common.{◌≡◌, true, false, Bool, not, Option, None, Some, Result, Ok, Err, List, ℕ, ◌≤◌, ◌<◌, length}
use Rattle.std.proofs.Common.{refl, sym, ap, ◌∙◌, ⊎_elim, true≢false, arith}
use Rattle.std.specs.Prelude.{is_ok}
use Rattle.std.specs.Option.{is_some, is_none}
use borrow.Author.Tests.{eq-eqb, ne_eqb, le-leb, lt-leb}
use Rattle.lists.specs.AndLaws.{true_and, and_first, and_second, and_skip, and_both}
use Rattle.lists.specs.Below.{all_below}
use Rattle.attributes.specs.declared.AttributeId.{AttributeId}
use Rattle.attributes.specs.declared.AttributeKind.{AttributeKind}
use Rattle.attributes.specs.Kinds.{kind_count, IsKindOf}
use Rattle.attributes.specs.KindsLaws.{kind_range}
use Rattle.attributes.specs.Table.{attribute_limit, name_limit, table_size, is_between}
use Rattle.attributes.specs.Table.{count_of, kind_at, length_at, name_at, named, first_below}
use Rattle.attributes.specs.Sound.{sound_attribute, sound_table}

-- ---- one attribute

-- whether a number that was read is that of a kind
pub kind_told : (m n : ℕ) → m ≡ n → (r : Result AttributeKind ℕ) → IsKindOf m r → (told : Bool) → told ≡ is_ok r
    → told ≡ is_between 1 n kind_count
unfolding is_between
kind_told m n same (Ok kind) e told f =
    let k = kind_range kind in
    f ∙ sym (and_both _ _ (le-leb 1 n (omega (arith, k.0, e))) (le-leb n kind_count (omega (arith, k.1, e))))
kind_told m n same (Err s) e told f =
    f ∙ sym (⊎_elim (λ h. and_first _ _ (lt-leb 1 n (omega arith))) (λ h. and_second _ _ (lt-leb n kind_count (omega arith))) e.1)

none_told : (o : Option AttributeId) (r : Bool) → is_some o ≡ not r → r ≡ is_none o
none_told (Some i) true h = absurd (true≢false h)
none_told (Some i) false h = refl
none_told None true h = refl
none_told None false h = absurd (true≢false (sym h))

module _ (t : List ℕ) (i : ℕ) where
  pub kind_broken : (told : Bool) → told ≡ is_between 1 (kind_at t i) kind_count → told ≡ false → false ≡ sound_attribute t i
  unfolding sound_attribute
  kind_broken told e f = sym (and_first _ _ (and_first _ _ (sym e ∙ f)))

  pub length_broken : (told : Bool) → told ≡ is_between 1 (length_at t i) name_limit → told ≡ false → false ≡ sound_attribute t i
  unfolding sound_attribute
  length_broken told e f = sym (and_first _ _ (and_second _ _ (sym e ∙ f)))

  pub new_told : (kinded long : Bool) → kinded ≡ is_between 1 (kind_at t i) kind_count → kinded ≡ true
      → long ≡ is_between 1 (length_at t i) name_limit → long ≡ true → (n : List ℕ) → n ≡ name_at t i
      → (o : Option AttributeId) (r : Bool) → o ≡ first_below (named t n) i → is_some o ≡ not r → r ≡ sound_attribute t i
  unfolding sound_attribute
  new_told kinded long d e f g n m o r h k =
      none_told o r k ∙ ap is_none h ∙ rw m (sym (and_skip _ _ (and_both _ _ (sym d ∙ e) (sym f ∙ g))))

-- ---- all

module _ (t : List ℕ) where
  pub size_broken : (length t ≡ table_size → ⊥) → false ≡ sound_table t
  unfolding sound_table
  size_broken h = sym (and_first _ _ (and_first _ _ (ne_eqb _ _ h)))

  pub count_broken : (n : ℕ) → n ≡ count_of t → attribute_limit < n → false ≡ sound_table t
  unfolding sound_table
  count_broken n e h = sym (and_first _ _ (and_second _ _ (lt-leb _ _ (rw e at h))))

  pub all_told : (n : ℕ) → n ≡ count_of t → length t ≡ table_size → n ≤ attribute_limit → (r : Bool)
      → r ≡ all_below (sound_attribute t) n → r ≡ sound_table t
  unfolding sound_table
  all_told n e size few r told = rw (eq-eqb _ _ size, le-leb _ _ (rw e at few), true_and, true_and) (rw e at told)
