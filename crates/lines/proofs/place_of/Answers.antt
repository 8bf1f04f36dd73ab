-- `lines::place_of` meets its contract. Assumes nothing.
use Rattle.std.proofs.Common.{rules, tests, ◌≡◌, ◌∙◌, sym, arith, ℕ, List, [], ◌∷◌, refl, eq-eqb, ne_eqb, ◌+◌}
use Rattle.std.proofs.lemmas.Iterator.{YieldsList-from_slice, IsFirst-from_position, index_from_first}
use Rattle.lines.specs.Parts.{place_of}
use Rattle.lines.proofs.place_of.Goals as goal

module _ (byte b : ℕ) (bs : List ℕ) where
  here : b ≡ byte → place_of byte (b ∷ bs) ≡ 0
  unfolding place_of
  here e = rw (eq-eqb b byte e)

  on : (b ≡ byte → ⊥) → place_of byte (b ∷ bs) ≡ place_of byte bs + 1
  unfolding place_of
  on ne = rw (ne_eqb b byte ne) (omega arith)

none : (byte : ℕ) → place_of byte [] ≡ 0
unfolding place_of
none byte = refl

pub returns : goal.returns
returns c =
    let byte = c.args.byte in
    let bytes = c.args.bytes.now in
    let first
    = IsFirst-from_position _ _ c.position.result (λ (b : ℕ). b ≡ byte) (λ (b : ℕ). b ≡ byte → ⊥) c.position.ensures.ran
    (YieldsList-from_slice bytes cc) (λ x q k. search (rules, tests)) (λ x q k. search (rules, tests)) in
    c.unwrap_or.ensures
    ∙ sym (
    index_from_first (place_of byte) (λ (b : ℕ). b ≡ byte) (λ (b : ℕ). b ≡ byte → ⊥) (none byte) (here byte) (on byte) bytes
    c.position.result first)
