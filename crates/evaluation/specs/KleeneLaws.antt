-- The laws of Kleene's logic, each once for both operators, and those of the join of many values.
-- Assumes nothing.
use Rattle.std.specs.Prelude.{◌≡◌, refl, Bool, true, false, List, [], ◌∷◌, ◌++◌, map, ℕ, zero, suc, ◌≤◌, ◌<◌, length, get_or}
use Rattle.std.proofs.Common.{sym, ap, ap₂, ◌∙◌, arith}
use Rattle.std.proofs.Math.Decide.{le_ind}
use Rattle.evaluation.specs.declared.Truth.{Truth}
use Rattle.evaluation.specs.declared.Operator.{Operator}
use Rattle.evaluation.specs.Kleene.{not_of, join_of, unit_of, decider_of, turned_of, operator_under, truth_under, join_all, join_up}
use Rattle.evaluation.specs.Each.{each, both, of_one, of_two, of_three}

pub not_not : (a : Truth) → not_of (not_of a) ≡ a
not_not = each (λ a. not_of (not_of a) ≡ a) (search)

pub turned_turned : (o : Operator) → turned_of (turned_of o) ≡ o
turned_turned = both (λ o. turned_of (turned_of o) ≡ o) (search)

pub not_unit : (o : Operator) → not_of (unit_of o) ≡ unit_of (turned_of o)
not_unit = both (λ o. not_of (unit_of o) ≡ unit_of (turned_of o)) (search)

pub not_decider : (o : Operator) → not_of (decider_of o) ≡ decider_of (turned_of o)
not_decider = both (λ o. not_of (decider_of o) ≡ decider_of (turned_of o)) (search)

-- De Morgan
pub de_morgan : (o : Operator) (a b : Truth) → join_of (turned_of o) (not_of a) (not_of b) ≡ not_of (join_of o a b)
de_morgan = of_two (λ o a b. join_of (turned_of o) (not_of a) (not_of b) ≡ not_of (join_of o a b)) (search)

-- the same under any number of Nots
pub de_morgan_under : (n : Bool) (o : Operator) (a b : Truth)
    → join_of (operator_under n o) (truth_under n a) (truth_under n b) ≡ truth_under n (join_of o a b)
de_morgan_under false o a b = refl
de_morgan_under true o a b = de_morgan o a b

pub join_assoc : (o : Operator) (a b c : Truth) → join_of o (join_of o a b) c ≡ join_of o a (join_of o b c)
join_assoc = of_three (λ o a b c. join_of o (join_of o a b) c ≡ join_of o a (join_of o b c)) (search)

pub join_comm : (o : Operator) (a b : Truth) → join_of o a b ≡ join_of o b a
join_comm = of_two (λ o a b. join_of o a b ≡ join_of o b a) (search)

pub join_swap : (o : Operator) (a b c : Truth) → join_of o a (join_of o b c) ≡ join_of o b (join_of o a c)
join_swap = of_three (λ o a b c. join_of o a (join_of o b c) ≡ join_of o b (join_of o a c)) (search)

pub join_unit : (o : Operator) (a : Truth) → join_of o (unit_of o) a ≡ a
join_unit = of_one (λ o a. join_of o (unit_of o) a ≡ a) (search)

pub join_unit_right : (o : Operator) (a : Truth) → join_of o a (unit_of o) ≡ a
join_unit_right = of_one (λ o a. join_of o a (unit_of o) ≡ a) (search)

pub join_decider : (o : Operator) (a : Truth) → join_of o (decider_of o) a ≡ decider_of o
join_decider = of_one (λ o a. join_of o (decider_of o) a ≡ decider_of o) (search)

pub join_decider_right : (o : Operator) (a : Truth) → join_of o a (decider_of o) ≡ decider_of o
join_decider_right = of_one (λ o a. join_of o a (decider_of o) ≡ decider_of o) (search)

module _ (o : Operator) where
  pub join_all_append : (xs ys : List Truth) → join_all o (xs ++ ys) ≡ join_of o (join_all o xs) (join_all o ys)
  join_all_append [] ys = sym (join_unit o (join_all o ys))
  join_all_append (x ∷ xs) ys = ap (join_of o x) (join_all_append xs ys) ∙ sym (join_assoc o x (join_all o xs) (join_all o ys))

  -- the order does not matter: any value may be taken first
  pub join_all_front : (xs : List Truth) (y : Truth) (ys : List Truth) → join_all o (xs ++ (y ∷ ys)) ≡ join_of o y (join_all o (xs ++ ys))
  join_all_front [] y ys = refl
  join_all_front (x ∷ xs) y ys = ap (join_of o x) (join_all_front xs y ys) ∙ join_swap o x y (join_all o (xs ++ ys))

  -- one value may decide
  pub join_all_decided : (xs ys : List Truth) → join_all o (xs ++ (decider_of o ∷ ys)) ≡ decider_of o
  join_all_decided xs ys = join_all_front xs (decider_of o) ys ∙ join_decider o (join_all o (xs ++ ys))

  pub join_all_not : (xs : List Truth) → join_all (turned_of o) (map not_of xs) ≡ not_of (join_all o xs)
  join_all_not [] = sym (not_unit o)
  join_all_not (x ∷ xs) = ap (join_of (turned_of o) (not_of x)) (join_all_not xs) ∙ de_morgan o x (join_all o xs)

  pub join_up_front : (f : ℕ → Truth) (n : ℕ) → join_up o f (suc n) ≡ join_of o (f 0) (join_up o (λ k. f (suc k)) n)
  join_up_front f zero = join_comm o (unit_of o) (f 0)
  join_up_front f (suc n) =
      ap (λ (x : Truth). join_of o x (f (suc n))) (join_up_front f n)
      ∙ join_assoc o (f 0) (join_up o (λ k. f (suc k)) n) (f (suc n))

  -- a loop over a list gives the list's join
  pub join_up_all : (xs : List Truth) (d : Truth) → join_up o (λ k. get_or xs k d) (length xs) ≡ join_all o xs
  join_up_all [] d = refl
  join_up_all (x ∷ xs) d = join_up_front (λ k. get_or (x ∷ xs) k d) (length xs) ∙ ap (join_of o x) (join_up_all xs d)

  pub join_up_cong : (f g : ℕ → Truth) (n : ℕ) → ((k : ℕ) → k < n → f k ≡ g k) → join_up o f n ≡ join_up o g n
  join_up_cong f g zero h = refl
  join_up_cong f g (suc n) h = ap₂ (join_of o) (join_up_cong f g n (λ k l. h k (omega arith))) (h n (omega arith))

  -- once decided, always decided: a loop may stop there
  pub join_up_decided : (f : ℕ → Truth) (i n : ℕ) → i ≤ n → join_up o f i ≡ decider_of o → join_up o f n ≡ decider_of o
  join_up_decided f i n le e = le_ind (λ (k : ℕ). join_up o f k ≡ decider_of o) e step n le
    where
      step : (m : ℕ) → i ≤ m → join_up o f m ≡ decider_of o → join_up o f (suc m) ≡ decider_of o
      step m l h = ap (λ (x : Truth). join_of o x (f m)) h ∙ join_decider o (f m)
