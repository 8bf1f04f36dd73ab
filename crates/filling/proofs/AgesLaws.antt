-- Laws of dated readings: a stamp that is ahead and one that is past are each judged by one difference, and without tolerance a reading is
-- fresh exactly where its stamp is no later than the present and it is not too old. Assumes nothing.
use Rattle.std.specs.Prelude.{◌≡◌, refl, false, ◌↔◌, ℕ, ◌-◌, ◌≤◌, ◌<◌}
use Rattle.std.proofs.Common.{◌∙◌, arith}
use Rattle.std.proofs.Math.Bool.{true}
use borrow.Author.Tests.{leb-true, le-leb}
use Rattle.std.proofs.Math.Dec.{leb}
use Rattle.lists.specs.And.{◌and◌}
use Rattle.lists.specs.AndLaws.{and_true, and_left, and_right, and_skip}
use Rattle.filling.specs.Ages.{is_fresh}

module _ (tolerance stamp present greatestAge : ℕ) where
  pub fresh_ahead : present < stamp → is_fresh tolerance stamp present greatestAge ≡ leb (stamp - present) tolerance
  unfolding is_fresh
  fresh_ahead h =
      let young : leb (present - stamp) greatestAge ≡ true = le-leb (present - stamp) greatestAge (omega arith) in
      rw young (and_true (leb (stamp - present) tolerance))

  pub fresh_past : stamp ≤ present → is_fresh tolerance stamp present greatestAge ≡ leb (present - stamp) greatestAge
  unfolding is_fresh
  fresh_past h = and_skip _ _ (le-leb (stamp - present) tolerance (omega arith))

pub fresh_iff : (stamp present greatestAge : ℕ)
    → (is_fresh 0 stamp present greatestAge ≡ true) ↔ ((stamp ≤ present) × (present - stamp ≤ greatestAge))
unfolding is_fresh
fresh_iff stamp present greatestAge = (means, holds)
  where
    means : is_fresh 0 stamp present greatestAge ≡ true → (stamp ≤ present) × (present - stamp ≤ greatestAge)
    means h = (omega (arith, leb-true (stamp - present) 0 (and_left _ _ h)), leb-true _ _ (and_right _ _ h))

    holds : (stamp ≤ present) × (present - stamp ≤ greatestAge) → is_fresh 0 stamp present greatestAge ≡ true
    holds h = fresh_past 0 stamp present greatestAge h.0 ∙ le-leb _ _ h.1

-- ---- trial P11: stamp 100, greatest age 30

pub at_its_age : is_fresh 0 100 130 30 ≡ true
unfolding is_fresh ◌and◌
at_its_age = refl

pub past_its_age : is_fresh 0 100 131 30 ≡ false
unfolding is_fresh ◌and◌
past_its_age = refl

pub ahead_of_the_present : is_fresh 0 100 99 30 ≡ false
unfolding is_fresh ◌and◌
ahead_of_the_present = refl
