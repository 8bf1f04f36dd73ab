-- What is read of an event that suits a sound table.
--     number_suited    the value of an attribute has the number that its place holds
--     kind_suited      it is undefined, or of the kind that the table gives the attribute
--     scale_suited     a decimal has a scale within its limit
--     word_suited      a word has a number that a word may have
--     list_suited      a list ascends strictly
-- Assumes nothing.
use Rattle.std.specs.Prelude.{◌≡◌, refl, true, ◌⊎◌, List, ℕ, zero, suc, ◌≤◌, ◌<◌, ℤ}
use Rattle.std.proofs.Math.Path.{sym, ap}
use Rattle.std.proofs.Common.{◌∙◌, arith}
use Rattle.std.proofs.Math.Logic.{inl, inr, ⊎_elim}
use Rattle.lists.specs.Sets.{ascends}
use Rattle.decimals.specs.declared.Decimal.{Decimal}
use Rattle.decimals.specs.Decimals.{scale_limit}
use Rattle.attributes.specs.declared.AttributeKind.TheVariants as kind
use Rattle.attributes.specs.Kinds.{kind_count, kind_number}
use Rattle.attributes.specs.Table.{kind_at}
use Rattle.attributes.specs.Sound.{Sound}
use Rattle.events.specs.declared.AttributeValue.TheVariants.{Undefined, Float, String}
use Rattle.events.specs.declared.Event.{Event}
use Rattle.events.specs.declared.StringId.{StringId}
use Rattle.events.specs.Values.{value_number, is_list, is_word, value_of}
use Rattle.events.specs.Events.{kind_of, number_of, scale_of, value_in, list_in}
use Rattle.events.specs.Suits.{Suits}

value_number_lem : (k : ℕ) (x : ℤ) (s : ℕ) → k ≤ kind_count → value_number (value_of k x s) ≡ k
unfolding value_of
value_number_lem zero x s h = refl
value_number_lem (suc zero) x s h = refl
value_number_lem (suc (suc zero)) x s h = refl
value_number_lem (suc (suc (suc zero))) x s h = refl
value_number_lem (suc (suc (suc (suc zero)))) x s h = refl
value_number_lem (suc (suc (suc (suc (suc zero))))) x s h = refl
value_number_lem (suc (suc (suc (suc (suc (suc zero)))))) x s h = refl
value_number_lem (suc (suc (suc (suc (suc (suc (suc k))))))) x s h = absurd (omega arith)

module _ (t : List ℕ) (e : Event) (sound : Sound t) (suits : Suits t e) (i : ℕ) (within : i < e.count) where
  pub number_suited : value_number (value_in e i) ≡ kind_of e i
  number_suited =
      value_number_lem (kind_of e i) (number_of e i) (scale_of e i)
      (⊎_elim (λ k. omega arith) (λ k. omega (arith, (sound.kinds i (omega (arith, suits.count))).1)) (suits.places i within).kinds)

  pub kind_suited : (value_in e i ≡ Undefined) ⊎ (value_number (value_in e i) ≡ kind_at t i)
  unfolding value_of
  kind_suited = ⊎_elim (λ k. inl (rw k)) (λ k. inr (number_suited ∙ k)) (suits.places i within).kinds

  pub scale_suited : (d : Decimal) → value_in e i ≡ Float d → d.scale ≤ scale_limit
  unfolding value_of
  scale_suited d h =
      let k : kind_of e i ≡ kind_number kind.Float = sym number_suited ∙ ap value_number h in
      let same : Float (record { number = number_of e i; scale = scale_of e i }) ≡ Float d = rw k at h in
      let scale : scale_of e i ≡ d.scale = cc in
      omega (arith, (suits.places i within).scales k)

  pub word_suited : (w : StringId) → value_in e i ≡ String w → is_word w.0 ≡ true
  unfolding value_of
  word_suited w h =
      let k : kind_of e i ≡ kind_number kind.String = sym number_suited ∙ ap value_number h in
      let same : String (record { 0 = number_of e i }) ≡ String w = rw k at h in
      let number : number_of e i ≡ w.0 = cc in
      rw (← number) ((suits.places i within).words k)

  pub list_suited : is_list (value_number (value_in e i)) ≡ true → ascends (list_in e i) ≡ true
  list_suited h = (suits.places i within).ascending (rw number_suited at h)
