-- How much a part can cost: where no predicate costs more than k, and k is at least what an operator adds for a child, a part costs at most
-- k for each entry of its sheet (`cost_most`). So costs stay small where sizes do. Assumes nothing.
use Rattle.std.specs.Prelude.{◌≡◌, ℕ, ◌-◌, ◌*◌, ◌≤◌, ◌<◌, length}
use Rattle.std.proofs.Common.{ap, sym, subst₂, mul-le-mul_right}
use mathlib.Core.List.{List, [], ◌∷◌, map}
use Rattle.std.proofs.Math.Nat.{mul-add}
use native.Mathlib.Omega.{arith}
use Rattle.std.proofs.lemmas.List.{length-map}
use Rattle.evaluation.specs.declared.Operator.{Operator}
use Rattle.evaluation.specs.declared.Operator.TheVariants.{And, Or}
use Rattle.lists.specs.Places.{All, none, both, sum}
use Rattle.lists.proofs.PlacesLaws.{all_get_or}
use Rattle.predicates.specs.Predicate.{predicate_cost}
use Rattle.ast.specs.Parts.{total, join_cost, size}
use Rattle.ast.specs.Rules.{rule_cost}
use Rattle.model.specs.Parts.{Part, alone, over, children_of, part_at, flat_of, meanings, cost_at, size_at}
use Rattle.model.proofs.PartsLaws.{flat_at_part, cost_over_lem, size_over_lem}
use Rattle.model.specs.Sound.{SoundParts}
use Rattle.model.proofs.SoundLaws.{by_parts}

-- what a part costs beside its children and the joining of them
abbrev pub own_cost : Part → ℕ
own_cost (alone p) = predicate_cost p
own_cost (over o cs) = 0

module _ (k : ℕ) (dear : join_cost Or ≤ k) (ps : List Part) where
  totals : (cs : List ℕ) → All (λ c. cost_at ps c ≤ k * size_at ps c) cs → total (map (cost_at ps) cs) ≤ k * total (map (size_at ps) cs)
  unfolding sum
  totals [] none = omega arith
  totals (c ∷ cs) (both h hs) = omega (arith, h, totals cs hs, mul-add k (size_at ps c) (total (map (size_at ps) cs)))

  joins : (o : Operator) (n : ℕ) → join_cost o * n ≤ k * n
  joins And n = mul-le-mul_right {m = 50} {n = k} n (omega (arith, dear))
  joins Or n = mul-le-mul_right {m = 60} {n = k} n dear

  part_cost : (p : Part) → own_cost p ≤ k → All (λ c. cost_at ps c ≤ k * size_at ps c) (children_of p)
      → rule_cost (flat_of (meanings ps) p) ≤ k * size (flat_of (meanings ps) p)
  part_cost (alone p) h hs = omega (arith, h)
  part_cost (over o cs) h hs =
      let costs = map (cost_at ps) cs in
      let sizes = map (size_at ps) cs in
      let same : length costs - 1 ≡ length sizes - 1 = omega (arith, length-map cs (cost_at ps), length-map cs (size_at ps)) in
      omega (
        arith,
        cost_over_lem ps o cs,
        ap (λ (n : ℕ). join_cost o * n) same,
        joins o (length sizes - 1),
        totals cs hs,
        mul-add k (total sizes) (length sizes - 1),
        ap (λ (n : ℕ). k * n) (size_over_lem ps o cs),
      )

  pub cost_most : {most : ℕ} → SoundParts most ps → All (λ p. own_cost p ≤ k) ps → (i : ℕ) → i < length ps → cost_at ps i ≤ k * size_at ps i
  cost_most s h =
      by_parts s (λ f. rule_cost f ≤ k * size f)
      (λ i l hs.
      let e = flat_at_part ps s.ordered i in
      subst₂ (λ c n. c ≤ k * n) (sym (ap rule_cost e)) (sym (ap size e)) (part_cost (part_at ps i) (all_get_or h i (over Or []) l) hs))
