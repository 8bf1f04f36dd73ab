-- Laws of the kinds: numbers and kinds stand for each other, and negation undoes itself.
-- Assumes nothing.
use Rattle.std.specs.Prelude.{◌≡◌, refl, List, [], ◌∷◌, map, ℕ}
use Rattle.std.proofs.Common.{sym, ap, ◌∙◌}
use Rattle.predicates.specs.declared.PredicateKind.{PredicateKind}
use Rattle.predicates.specs.Kinds.{number_of, kinds, numbered, kind_of, negated_of, negated_number}
use Rattle.predicates.specs.EachKind.{each_kind}

pub kind_number_lem : (k : PredicateKind) → kind_of (number_of k) ≡ k
unfolding kind_of numbered kinds
kind_number_lem = each_kind (λ k. kind_of (number_of k) ≡ k) (search)

-- the numbers of the rule sheet's table
unfoldable pub kind_numbers : List ℕ
kind_numbers = 10 ∷ 11 ∷ 20 ∷ 21 ∷ 30 ∷ 31 ∷ 32 ∷ 33 ∷ 40 ∷ 41 ∷ 50 ∷ 51 ∷ 52 ∷ 53 ∷ 60 ∷ 61 ∷ 62 ∷ 63 ∷ []

pub number_kind : map (λ n. number_of (kind_of n)) kind_numbers ≡ kind_numbers
unfolding kind_numbers kind_of numbered kinds
number_kind = refl

pub negated_negated : (k : PredicateKind) → negated_of (negated_of k) ≡ k
negated_negated = each_kind (λ k. negated_of (negated_of k) ≡ k) (search)

-- a negated number is the number of the negated kind
pub kind_negated : (n : ℕ) → kind_of (negated_number n) ≡ negated_of (kind_of n)
unfolding negated_number
kind_negated n = kind_number_lem (negated_of (kind_of n))

pub kind_of_number : {n : ℕ} (k : PredicateKind) → n ≡ number_of k → k ≡ kind_of n
kind_of_number k e = sym (ap kind_of e ∙ kind_number_lem k)
