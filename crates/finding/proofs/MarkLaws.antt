-- The mark, as the loop that tests it goes from entry to entry. Assumes nothing.
use mathlib.Core.Path.{◌≡◌, ap, ◌∙◌}
use mathlib.Core.Bool.{true, false}
use mathlib.Core.List.{List}
use Prim.Native.Nat.{ℕ, suc, ◌+◌, ◌-◌, ◌≤◌, ◌<◌}
use native.Mathlib.Omega.{arith}
use borrow.Author.Tests.{ltb-true, lt-ltb, le-ltb}
use lib.Dec.{ltb}
use Rattle.lists.specs.AndLaws.{and_left, and_first, and_second, and_both}
use Rattle.lists.specs.Below.{all_below}
use Rattle.lists.specs.BelowLaws.{below_none, below_more, below_each, below_broken}
use Rattle.store.specs.declared.Limits.{Limits}
use Rattle.store.specs.Records.{entry_at}
use Rattle.std.specs.Ordering.{is_lt}
use Rattle.finding.specs.KeyOrder.{key_order}
use Rattle.finding.specs.KeyOrderLaws.{Compared, compared, below, same, above}
use Rattle.finding.specs.Keys.{key_at}
use Rattle.finding.specs.Ascent.{rises_b, entry_b, ascends_b, PartsInside, Neighbours}

module _ (limits : Limits) (b : List ℕ) where
  pub rises_first : (k : ℕ) → k ≡ 0 → true ≡ rises_b limits b k
  unfolding rises_b
  rises_first k e = rw e

  pub rises_after : (k : ℕ) → 0 < k
      → is_lt (key_order (key_at limits b (entry_at limits b (k - 1))) (key_at limits b (entry_at limits b k))) ≡ rises_b limits b k
  unfolding rises_b
  rises_after k l =
      let e : k ≡ suc (k - 1) = omega arith in
      ap (λ (j : ℕ). is_lt (key_order (key_at limits b (entry_at limits b (k - 1))) (key_at limits b (entry_at limits b j)))) e
      ∙ ap (rises_b limits b) (let f : suc (k - 1) ≡ k = omega arith in f)

  module _ (n k : ℕ) (l : k < n) where
    pub mark_past : n ≤ entry_at limits b k → false ≡ ascends_b limits b n
    unfolding ascends_b
    mark_past h = rw (below_broken (entry_b limits b n) k n l (and_first (ltb (entry_at limits b k) n) (rises_b limits b k) (le-ltb _ n h)))

    pub mark_falls : rises_b limits b k ≡ false → false ≡ ascends_b limits b n
    unfolding ascends_b
    mark_falls h = rw (below_broken (entry_b limits b n) k n l (and_second (ltb (entry_at limits b k) n) (rises_b limits b k) h))

    module _ (h : all_below (entry_b limits b n) k ≡ true) (e : entry_at limits b k < n) where
      pub mark_more : rises_b limits b k ≡ true → all_below (entry_b limits b n) (k + 1) ≡ true
      mark_more u = below_more (entry_b limits b n) k h (and_both (ltb (entry_at limits b k) n) (rises_b limits b k) (lt-ltb _ n e) u)

      pub mark_neighbours : PartsInside limits b n → Neighbours limits b k
      mark_neighbours s =
          record { laid = s.laid; few = omega (arith, s.few); inside = λ i u. s.inside (entry_at limits b i) (go i u (compared i k)) }
        where
          go : (i : ℕ) → i ≤ k → Compared i k → entry_at limits b i < n
          go i u (below v) =
              ltb-true (entry_at limits b i) n
              (and_left (ltb (entry_at limits b i) n) (rises_b limits b i) (below_each (entry_b limits b n) k h i v))
          go i u (same v) = rw v e
          go i u (above v) = absurd (omega arith)

  pub mark_whole : (n k : ℕ) → k ≤ n → n ≤ k → all_below (entry_b limits b n) k ≡ true → true ≡ ascends_b limits b n
  unfolding ascends_b
  mark_whole n k l m h = let e : n ≡ k = omega arith in rw (ap (all_below (entry_b limits b n)) e ∙ h)

-- what the loop's goals close by
pub ruleset marks = (below_none, mark_past, mark_falls, mark_more, mark_whole)
