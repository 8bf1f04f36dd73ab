-- What the strict ascent of the order table gives.
--     ascends_iff         the test is true exactly where the facts hold
--     rising_all          neighbours ascend, so all do
--     rising_once         two entries name parts with one key only at one place
--     rising_single       so an entry stands once
--     rising_named        and every part number below n is an entry
--     rising_distinct     NO TWO PARTS HAVE THE SAME KEY
-- Assumes nothing.
use Rattle.std.specs.Prelude.{◌≡◌, true, List, ◌↔◌, ltb}
use Rattle.std.proofs.Math.Path.{refl, ap}
use Rattle.std.proofs.Common.{sym, ◌∙◌, true≢false, arith}
use Prim.Native.Nat.{ℕ, zero, suc, ◌+◌, ◌<◌}
use Rattle.std.proofs.Math.Numerals.{add-one}
use Rattle.std.proofs.Math.Decide.{le_ind}
use borrow.Author.Tests.{ltb-true, lt-ltb}
use Rattle.lists.specs.AndLaws.{and_left, and_right, and_both}
use Rattle.lists.specs.BelowLaws.{below_each, below_all}
use Rattle.lists.specs.Places.{Any, index, Distinct}
use Rattle.lists.proofs.PlacesLaws.{holds, index_lt, get_or_index}
use Rattle.lists.proofs.PigeonLaws.{every_number}
use Rattle.lists.specs.Tabulate.{tabulate}
use Rattle.lists.proofs.TabulateLaws.{length_tabulate, get_or_tabulate, tabulate_all, tabulate_pairwise}
use Rattle.std.specs.declared.cmp.Ordering.{Ordering}
use Rattle.std.specs.declared.cmp.Ordering.TheVariants.{Less, Equal, Greater}
use Rattle.store.specs.declared.Limits.{Limits}
use Rattle.store.specs.Records.{entry_at}
use Rattle.std.specs.Ordering.{is_lt}
use Rattle.finding.specs.KeyOrder.{key_order}
use Rattle.finding.specs.KeyOrderLaws.{Compared, compared, below, same, above, order_trans, order_apart}
use Rattle.finding.specs.Ascent.{rises_b, entry_b, ascends_b, Rising, Ascends}

-- ---- the test and the facts

less_only : (o : Ordering) → is_lt o ≡ true → o ≡ Less
less_only Less e = refl
less_only Equal e = absurd (true≢false (sym e))
less_only Greater e = absurd (true≢false (sym e))

module _ (limits : Limits) (b : List ℕ) (n : ℕ) where
  passed : ascends_b limits b n ≡ true → (k : ℕ) → k < n → entry_b limits b n k ≡ true
  unfolding ascends_b
  passed h k l = below_each (entry_b limits b n) n h k l

  facts : ascends_b limits b n ≡ true → Ascends limits b n
  unfolding rises_b
  facts h =
      record {
        entries = λ k l. ltb-true (entry_at limits b k) n (and_left (ltb (entry_at limits b k) n) (rises_b limits b k) (passed h k l));
        steps =
            λ k l.
            let e : k + 1 ≡ suc k = add-one k in
            let up = and_right (ltb (entry_at limits b (suc k)) n) (rises_b limits b (suc k)) (passed h (suc k) (rw e at l)) in
            rw e (less_only _ up);
      }

  rise : Ascends limits b n → (k : ℕ) → k < n → rises_b limits b k ≡ true
  unfolding rises_b
  rise a zero l = refl
  rise a (suc k) l = let e : k + 1 ≡ suc k = add-one k in ap is_lt (rw e at (a.steps k (rw e l)))

  tested : Ascends limits b n → ascends_b limits b n ≡ true
  unfolding ascends_b
  tested a =
      below_all (entry_b limits b n) n
      (λ k l. and_both (ltb (entry_at limits b k) n) (rises_b limits b k) (lt-ltb _ n (a.entries k l)) (rise a k l))

  pub ascends_iff : (ascends_b limits b n ≡ true) ↔ Ascends limits b n
  ascends_iff = (facts, tested)

-- ---- what the facts give, of any keys and entries

-- entry `place` is p
pub record Named (entry : ℕ → ℕ) (n p : ℕ) : Type 0 where
  pub place : ℕ
  pub inside : place < n
  pub there : entry place ≡ p

module _ {key : ℕ → List ℕ} {entry : ℕ → ℕ} {n : ℕ} (r : Rising key entry n) where
  pub rising_all : (i j : ℕ) → i < j → j < n → key_order (key (entry i)) (key (entry j)) ≡ Less
  rising_all i j l b =
      le_ind (λ (k : ℕ). k < n → key_order (key (entry i)) (key (entry k)) ≡ Less)
      (λ b. rw (add-one i) at (r.steps i (omega arith)))
      (λ m le ih b. order_trans _ (key (entry m)) _ (ih (omega arith)) (rw (add-one m) at (r.steps m (omega arith))))
      j l b

  pub rising_once : (i j : ℕ) → i < n → j < n → key (entry i) ≡ key (entry j) → i ≡ j
  rising_once i j li lj e = go (compared i j)
    where
      go : Compared i j → i ≡ j
      go (below h) = absurd (order_apart _ _ (rising_all i j h lj) e)
      go (same h) = h
      go (above h) = absurd (order_apart _ _ (rising_all j i h li) (sym e))

  pub rising_single : (i j : ℕ) → i < n → j < n → entry i ≡ entry j → i ≡ j
  rising_single i j li lj e = rising_once i j li lj (ap key e)

  all_named : (p : ℕ) → p < n → Any (λ x. p ≡ x) (tabulate n entry)
  all_named p l =
      let apart : Distinct ◌≡◌ (tabulate n entry)
      = tabulate_pairwise n entry (λ i j h b e. let z = rising_single i j (omega arith) b e in omega arith) in
      every_number apart (tabulate_all n entry r.entries) (omega (arith, length_tabulate n entry)) p l

  pub rising_named : (p : ℕ) → p < n → Named entry n p
  rising_named p l =
      let a = all_named p l in
      let k : index a < n = omega (arith, index_lt a, length_tabulate n entry) in
      record {
        place = index a;
        inside = k;
        there = sym (get_or_tabulate n entry 0 (index a) k) ∙ get_or_index a 0 ∙ sym (holds a);
      }

  pub rising_distinct : (p q : ℕ) → p < n → q < n → key p ≡ key q → p ≡ q
  rising_distinct p q lp lq e =
      let a = rising_named p lp in
      let b = rising_named q lq in
      let keys : key (entry a.place) ≡ key (entry b.place) = ap key a.there ∙ e ∙ sym (ap key b.there) in
      let k : a.place ≡ b.place = rising_once a.place b.place a.inside b.inside keys in
      sym a.there ∙ ap entry k ∙ b.there
