-- The order of the integers and their equality, both as tests: `eq_z a b` is true exactly where a ≡ b. Assumes nothing.
use Rattle.std.specs.Prelude.{◌≡◌, refl, Bool, true, false, ◌<◌, ◌^◌, ℤ, pos, negsuc}
use Rattle.std.proofs.Common.{Ordering, Less, Equal, Greater, int_cmp, sym, ap, ◌∙◌, arith, eq-eqb, eqb-true}
use Rattle.std.proofs.lemmas.Bool.{false≢true}
use Rattle.std.proofs.lemmas.Int.{ints}
use Rattle.std.specs.Int.Signed.{lt_z}
use lib.Signed.{mag}
use Rattle.std.specs.Int.{w64}
use mir.Val.{to_z, of_z}
use mir.ValLaws.{to_z-of_z}
use Rattle.lists.specs.Sets.{eq_z}

pub eq_z_same : (a b : ℤ) → eq_z a b ≡ true → a ≡ b
unfolding eq_z
eq_z_same (pos a) (pos b) h = ap pos (eqb-true a b h)
eq_z_same (pos a) (negsuc b) h = absurd (false≢true h)
eq_z_same (negsuc a) (pos b) h = absurd (false≢true h)
eq_z_same (negsuc a) (negsuc b) h = ap negsuc (eqb-true a b h)

pub eq_z_refl : (a : ℤ) → eq_z a a ≡ true
unfolding eq_z
eq_z_refl (pos a) = eq-eqb a a refl
eq_z_refl (negsuc a) = eq-eqb a a refl

pub same_eq_z : (a b : ℤ) → a ≡ b → eq_z a b ≡ true
same_eq_z a b e = rw e (eq_z_refl b)

pub eq_z_sym : (a b : ℤ) → eq_z a b ≡ eq_z b a
eq_z_sym a b = go (eq_z a b) (eq_z b a) refl refl
  where
    go : (t u : Bool) → eq_z a b ≡ t → eq_z b a ≡ u → t ≡ u
    go true u e f = sym (same_eq_z b a (sym (eq_z_same a b e))) ∙ f
    go false true e f = sym e ∙ same_eq_z a b (sym (eq_z_same b a f))
    go false false e f = refl

pub lt_z_trans : (a b c : ℤ) → lt_z a b ≡ true → lt_z b c ≡ true → lt_z a c ≡ true
lt_z_trans a b c h k = grind (arith, ints)

-- a number below or above another is not the same
pub below_differs : (a b : ℤ) → lt_z a b ≡ true → eq_z a b ≡ false
below_differs a b h = go (eq_z a b) refl
  where
    go : (t : Bool) → eq_z a b ≡ t → t ≡ false
    go true e = let same : a ≡ b = eq_z_same a b e in grind (arith, ints)
    go false e = refl

pub above_differs : (a b : ℤ) → lt_z b a ≡ true → eq_z a b ≡ false
above_differs a b h = eq_z_sym a b ∙ below_differs b a h

-- two numbers of which neither is below the other are the same
pub neither_below : (a b : ℤ) → lt_z a b ≡ false → lt_z b a ≡ false → eq_z a b ≡ true
neither_below a b h k = same_eq_z a b (grind (arith, ints))

-- a number that is neither another one nor above it is below it
pub else_below : (a b : ℤ) → lt_z b a ≡ false → eq_z a b ≡ false → lt_z a b ≡ true
else_below a b h n = go (lt_z a b) refl
  where
    go : (t : Bool) → lt_z a b ≡ t → t ≡ true
    go true e = refl
    go false e = sym n ∙ neither_below a b e h

-- what each answer of a comparison says, and the tests that settle it

pub cmp_less : (a b : ℤ) → Less ≡ int_cmp a b → lt_z a b ≡ true
cmp_less a b h = grind (arith, ints)

pub cmp_greater : (a b : ℤ) → Greater ≡ int_cmp a b → lt_z b a ≡ true
cmp_greater a b h = grind (arith, ints)

pub cmp_equal : (a b : ℤ) → Equal ≡ int_cmp a b → eq_z a b ≡ true
cmp_equal a b h = same_eq_z a b (grind (arith, ints))

pub less_cmp : (a b : ℤ) → lt_z a b ≡ true → Less ≡ int_cmp a b
less_cmp a b h = grind (arith, ints)

pub greater_cmp : (a b : ℤ) → lt_z b a ≡ true → Greater ≡ int_cmp a b
greater_cmp a b h = grind (arith, ints)

pub equal_cmp : (a b : ℤ) → lt_z a b ≡ false → lt_z b a ≡ false → Equal ≡ int_cmp a b
equal_cmp a b h k = grind (arith, ints)

-- an element that a call handed back is told as the number that its bits stand for
pub element_told : {x y : ℤ} → mag x < 2 ^ 63 → x ≡ y → to_z w64 (of_z w64 x) ≡ y
element_told {x} f e = to_z-of_z w64 x (record { sfits = f }) ∙ e

-- two elements, compared as they were handed back
pub compared : {a b : ℤ} {o : Ordering} (x y : ℤ) → mag a < 2 ^ 63 → mag b < 2 ^ 63 → a ≡ x → b ≡ y
    → o ≡ int_cmp (to_z w64 (of_z w64 a)) (to_z w64 (of_z w64 b)) → o ≡ int_cmp x y
compared x y f g d e h = rw (element_told f d, element_told g e) at h

-- and by tests of which is below the other
module _ {a b : ℤ} (x y : ℤ) (f : mag a < 2 ^ 63) (g : mag b < 2 ^ 63) (d : a ≡ x) (e : b ≡ y) where
  pub told_less : lt_z (to_z w64 (of_z w64 a)) (to_z w64 (of_z w64 b)) ≡ true → Less ≡ int_cmp x y
  told_less h = less_cmp x y (rw (element_told f d, element_told g e) at h)

  pub told_greater : lt_z (to_z w64 (of_z w64 b)) (to_z w64 (of_z w64 a)) ≡ true → Greater ≡ int_cmp x y
  told_greater h = greater_cmp x y (rw (element_told f d, element_told g e) at h)

  pub told_equal : lt_z (to_z w64 (of_z w64 a)) (to_z w64 (of_z w64 b)) ≡ false
      → lt_z (to_z w64 (of_z w64 b)) (to_z w64 (of_z w64 a)) ≡ false → Equal ≡ int_cmp x y
  told_equal h k = equal_cmp x y (rw (element_told f d, element_told g e) at h) (rw (element_told f d, element_told g e) at k)

  pub told_same : of_z w64 a ≡ of_z w64 b → Equal ≡ int_cmp x y
  told_same h =
      let same : x ≡ y = sym (element_told f d) ∙ ap (to_z w64) h ∙ element_told g e in
      equal_cmp x y (grind (arith, ints)) (grind (arith, ints))

  pub told_else : lt_z (to_z w64 (of_z w64 a)) (to_z w64 (of_z w64 b)) ≡ false → ¬ (of_z w64 a ≡ of_z w64 b) → Greater ≡ int_cmp x y
  told_else h n =
      let above : lt_z x y ≡ false = rw (element_told f d, element_told g e) at h in
      let apart : ¬ (x ≡ y) = λ same. n (ap (of_z w64) (d ∙ same ∙ sym e)) in
      greater_cmp x y (grind (arith, ints))
