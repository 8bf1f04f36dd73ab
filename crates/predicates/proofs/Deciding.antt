-- Equality of predicates is decided: a predicate's numbers determine it.
-- Assumes nothing.
use Rattle.std.specs.Prelude.{◌≡◌}
use Rattle.std.proofs.Common.{ap}
use Rattle.lists.specs.Places.{list?}
use Rattle.predicates.specs.Predicate.{Predicate, decided, integer?, numbers_of}

determined : (p q : Predicate) → numbers_of p ≡ numbers_of q → p ≡ q
determined p q e =
    let a : p.attribute ≡ q.attribute = cc in
    let k : p.kind ≡ q.kind = cc in
    let t : p.tag ≡ q.tag = cc in
    let n : p.number ≡ q.number = cc in
    let s : p.scale ≡ q.scale = cc in
    let l : p.elements ≡ q.elements = cc in
    λ i. record { attribute = a i; kind = k i; tag = t i; number = n i; scale = s i; elements = l i }

unfoldable pub predicate? : (p q : Predicate) → Dec (p ≡ q)
unfolding list? integer? decided determined
predicate? p q = decided (determined p q) (ap numbers_of) (list? integer? (numbers_of p) (numbers_of q))
