-- Signed division as the machine does it. A signed number is held as 64 bits and read back from them; a number in range comes back
-- as itself, and so do its quotient and its remainder by a positive number.
-- Assumes nothing.
use mathlib.Core.Path.{◌≡◌, refl, sym, ◌∙◌}
use Prim.Native.Nat.{ℕ, zero, suc, ◌-◌, ◌%◌, ◌/◌, ◌^◌, ◌<◌, ◌≤◌}
use native.Mathlib.Nat.{div-le_self, mod-le, pow-le-pow_right}
use native.Mathlib.Omega.{arith}
use borrow.Author.Tests.{ne_eqb}
use lib.Dec.{eqb}
use lib.IntN.{ℤ, pos, negsuc, neg_ℤ, nat_abs}
use lib.Signed.{mag, quot_z, rem_z, mag_rem}
use mir.Syntax.{w64}
use mir.Val.{SFits, to_z, of_z}
use mir.ValLaws.{to_z_pos, to_z-of_z}
use Rattle.decimals.proofs.ScaleLaws.{ten_pos}

mag_quot : (x : ℤ) (t : ℕ) → mag (quot_z x (pos t)) ≤ mag x
mag_quot (pos n) t = div-le_self n t
mag_quot (negsuc n) t = go (suc n / t) (div-le_self (suc n) t)
  where
    go : (k : ℕ) → k ≤ suc n → mag (neg_ℤ (pos k)) ≤ n
    go zero h = omega arith
    go (suc k) h = omega arith

rem_zero : (x : ℤ) (t : ℕ) → mag x < 2 ^ 63 → eqb (of_z w64 (rem_z x (pos t))) 0 ≡ eqb (nat_abs x % t) 0
rem_zero (pos n) t h = refl
rem_zero (negsuc n) t h = go (suc n % t) (mod-le (suc n) t)
  where
    go : (k : ℕ) → k ≤ suc n → eqb (of_z w64 (neg_ℤ (pos k))) 0 ≡ eqb k 0
    go zero l = refl
    go (suc k) l = ne_eqb (2 ^ 64 - suc k) 0 (λ e. omega arith) ∙ sym (ne_eqb (suc k) 0 (λ e. omega arith))

module _ (x : ℤ) (h : mag x < 2 ^ 63) where
  pub back : to_z w64 (of_z w64 x) ≡ x
  back = to_z-of_z w64 x (record { sfits = h })

  pub quot_fits : (t : ℕ) → SFits w64 (quot_z (to_z w64 (of_z w64 x)) (pos t))
  quot_fits t = rw back (record { sfits = omega (arith, mag_quot x t) })

  pub quot_back : (t : ℕ) → to_z w64 (of_z w64 (quot_z (to_z w64 (of_z w64 x)) (pos t))) ≡ quot_z x (pos t)
  quot_back t = rw back (to_z-of_z w64 (quot_z x (pos t)) (record { sfits = omega (arith, mag_quot x t) }))

  pub rem_back : (t : ℕ) → to_z w64 (of_z w64 (rem_z (to_z w64 (of_z w64 x)) (pos t))) ≡ rem_z x (pos t)
  rem_back t = rw back (to_z-of_z w64 (rem_z x (pos t)) (record { sfits = omega (arith, mag_rem x (pos t)) }))

  -- its bits are 0 exactly where it is
  pub rem_bits : (t : ℕ) → eqb (of_z w64 (rem_z (to_z w64 (of_z w64 x)) (pos t))) 0 ≡ eqb (nat_abs x % t) 0
  rem_bits t = rw back (rem_zero x t h)

-- the powers of ten up to 10 to the 18 are signed numbers too, and may divide
module _ (p k : ℕ) (e : p ≡ 10 ^ k) (h : k ≤ 18) where
  pub power_fits : SFits w64 (pos p)
  power_fits = let l : 10 ^ k ≤ 10 ^ 18 = pow-le-pow_right (omega arith) h in record { sfits = omega arith }

  pub power_back : to_z w64 p ≡ pos p
  power_back = to_z_pos w64 p power_fits.sfits

  pub power_divides : (x : ℤ) → mag x < 2 ^ 63 → (0 < p) × SFits w64 (quot_z (to_z w64 (of_z w64 x)) (to_z w64 p))
  power_divides x l = (rw e (ten_pos k), rw power_back (quot_fits x l p))
