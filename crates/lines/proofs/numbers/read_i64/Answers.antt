-- `lines::numbers::read_i64` meets its contract. Assumes nothing.
use Rattle.std.proofs.Common.{◌≡◌, ℕ, zero, suc, ◌≤◌, ◌^◌, ℤ, pos, ◌-ℤ◌, ap, sym, ◌∙◌, arith, FitsSigned, w64}
use Rattle.std.specs.Prelude.{Option, Some, None, neg_ℤ, ◌-◌}
use Rattle.std.specs.Option.{SomeIff, option_map}
use mir.ValLaws.{to_z_pos}
use Rattle.std.proofs.Math.IntN.{+ℤ_idl}
use Rattle.lines.specs.Numbers.{magnitude_of}
use Rattle.lines.specs.NumbersLaws.{number_minus, number_plain, magnitude_within}
use Rattle.lines.proofs.numbers.read_i64.Goals as goal

fits : (m : ℕ) → m ≤ 2 ^ 63 → FitsSigned w64 (neg_ℤ (pos m))
fits zero l = record { sfits = omega arith }
fits (suc m) l = record { sfits = omega arith }

below : (m : ℕ) (r : Option ℤ) → m ≤ 2 ^ 63 → SomeIff r (FitsSigned w64 (pos 0 -ℤ pos m)) (pos 0 -ℤ pos m) → r ≡ Some (neg_ℤ (pos m))
below m None l f = absurd (f (rw (+ℤ_idl (neg_ℤ (pos m))) (fits m l)))
below m (Some x) l h = ap Some (h.1 ∙ +ℤ_idl (neg_ℤ (pos m)))

pub returns-in_err-magnitude-in-Some : goal.returns-in_err-magnitude-in-Some
returns-in_err-magnitude-in-Some c =
    let minus = c.in-Some.ensures in
    let read = ap (magnitude_of (2 ^ 63)) (sym minus.1) ∙ sym c.magnitude.ensures ∙ c.in_err-magnitude-in-Some.was in
    c.from_residual.ensures ∙ sym (number_minus c.args.word.now minus.0 ∙ ap (option_map (λ (k : ℕ). neg_ℤ (pos k))) read)

pub returns-in_err-magnitude-in-None : goal.returns-in_err-magnitude-in-None
returns-in_err-magnitude-in-None c =
    let read = sym c.magnitude-in-None.ensures ∙ c.in_err-magnitude-in-None.was in
    c.from_residual-in_err-magnitude-in-None.ensures ∙ sym (number_plain c.args.word.now c.in-None.ensures ∙ ap (option_map pos) read)

pub overflow_cast-result : goal.overflow_cast-result
overflow_cast-result c =
    let read = sym c.magnitude-in-None.ensures ∙ c.in_ok-magnitude-in-None.was in
    record { sfits = omega (arith, magnitude_within (2 ^ 63 - 1) _ _ read) }

pub returns-in_ok-magnitude-in-Some : goal.returns-in_ok-magnitude-in-Some
returns-in_ok-magnitude-in-Some c =
    let minus = c.in-Some.ensures in
    let read = ap (magnitude_of (2 ^ 63)) (sym minus.1) ∙ sym c.magnitude.ensures ∙ c.in_ok-magnitude-in-Some.was in
    below _ _ (magnitude_within (2 ^ 63) _ _ read) c.checked_sub_unsigned.ensures
    ∙ sym (number_minus c.args.word.now minus.0 ∙ ap (option_map (λ (k : ℕ). neg_ℤ (pos k))) read)

pub returns-in_ok-magnitude-in-None : goal.returns-in_ok-magnitude-in-None
returns-in_ok-magnitude-in-None c =
    let w = c.args.word.now in
    let read = sym c.magnitude-in-None.ensures ∙ c.in_ok-magnitude-in-None.was in
    ap Some (to_z_pos w64 _ (omega (arith, magnitude_within (2 ^ 63 - 1) w _ read)))
    ∙ sym (number_plain w c.in-None.ensures ∙ ap (option_map pos) read)
