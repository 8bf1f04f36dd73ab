-- `decimals::powers::ten_to` meets its contract: the whole table is tested at once, and the entry that was read is one of its.
-- Assumes nothing.
use mathlib.Core.Bool.{Bool}
use mathlib.Core.List.{List, [], ◌∷◌}
use Prim.Native.Nat.{ℕ, ◌^◌}
use lib.Dec.{eqb, eqb→eq}
use lib.ListN.{get_or}
use borrow.Author.Rules.{rules}
use Rattle.decimals.proofs.TableLaws.{at}
use Rattle.decimals.proofs.powers.ten_to.Goals as goal

tens : List ℕ
tens =
    1 ∷ 10 ∷ 100 ∷ 1000 ∷ 10000 ∷ 100000 ∷ 1000000 ∷ 10000000 ∷ 100000000 ∷ 1000000000 ∷ 10000000000 ∷ 100000000000
    ∷ 1000000000000 ∷ 10000000000000 ∷ 100000000000000 ∷ 1000000000000000 ∷ 10000000000000000 ∷ 100000000000000000
    ∷ 1000000000000000000 ∷ []

-- the rule: entry k is 10 to the k
right : ℕ → ℕ → Bool
right k x = eqb x (10 ^ k)

pub returns : goal.returns
unfolding tens right
returns c = rw c.from.ensures (eqb→eq (get_or tens c.args.k 0) (10 ^ c.args.k) (at right tens tt c.args.k (search rules)))
