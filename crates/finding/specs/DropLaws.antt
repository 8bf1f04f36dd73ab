-- The order table after a delete: dropping entries and renumbering in order keeps the ascent, since a part's children get new numbers in
-- their order too.
--     kept_more, kept_less      one entry more, as a loop takes them
--     rank_renumbers            how many kept parts stand before each is such a renumbering
--     moved_order               renumbering the children keeps how two parts compare
--     drop_length, drop_rises   THE TABLE THAT IS LEFT NAMES EACH PART THAT IS LEFT, AND ASCENDS
-- Assumes nothing.
use Rattle.std.specs.Prelude.{◌≡◌, Bool, ℕ, ◌+◌, ◌*◌, ◌<◌, ltb, length, get_or}
use Rattle.std.proofs.Math.Path.{refl, ap, subst}
use Rattle.std.proofs.Common.{sym, ◌∙◌, arith}
use Rattle.std.proofs.Math.Bool.{true, false, cond}
use mathlib.Core.List.{List, [], ◌∷◌, ◌++◌, append-nil}
use Rattle.std.proofs.lemmas.List.{length-map}
use Rattle.words.specs.Frame.{Bytes}
use Rattle.lists.specs.Places.{All, none, both, Any, here, there, Pairwise, pnil, pcons, Distinct}
use Rattle.lists.proofs.PlacesLaws.{pairwise_map}
use Rattle.lists.proofs.PigeonLaws.{at_most, at_least}
use Rattle.lists.specs.Sift.{rank}
use Rattle.lists.proofs.SiftLaws.{rank_lt, rank_onto}
use Rattle.lists.specs.Tabulate.{tabulate}
use Rattle.lists.proofs.TabulateLaws.{tabulate_all, tabulate_any, all_tabulate, tabulate_pairwise, pairwise_tabulate}
use Rattle.std.specs.Ordering.{ordering_then}
use Rattle.std.specs.declared.cmp.Ordering.{Ordering}
use Rattle.std.specs.declared.cmp.Ordering.TheVariants.{Less}
use Rattle.store.specs.declared.Limits.{Limits}
use Rattle.store.specs.declared.Record.{Record}
use Rattle.store.specs.Layout.{parts_at}
use Rattle.store.specs.Records.{record_at, entry_at}
use Rattle.store.specs.Tables.{is_join}
use Rattle.store.specs.Records.{RecordFits}
use Rattle.store.proofs.RecordLaws.{record_fits}
use Rattle.std.specs.Ordering.{nat_cmp}
use Rattle.finding.specs.KeyOrder.{key_order}
use Rattle.finding.specs.KeyOrderLaws.{Compared, compared, below, same, above, RisesOn}
use Rattle.finding.specs.KeyOrderLaws.{then_less, then_greater, order_apart, order_map}
use Rattle.finding.specs.Keys.{first_of, key_of, items_of, key_at}
use Rattle.finding.specs.Ascent.{Ascends}
use Rattle.finding.specs.AscentLaws.{rising_all, rising_named}
use Rattle.finding.specs.Changes.{Kept, Renumbered, kept_of, moved_items, Moved}

-- ---- the entries that are kept

module _ (kept : ℕ → Bool) (to : ℕ → ℕ) where
  -- one entry in front, by whether it is kept
  kept_first : (p : ℕ) (l : List ℕ) → kept p ≡ true → kept_of kept to (p ∷ l) ≡ to p ∷ kept_of kept to l
  unfolding kept_of
  kept_first p l e = rw e

  kept_past : (p : ℕ) (l : List ℕ) → kept p ≡ false → kept_of kept to (p ∷ l) ≡ kept_of kept to l
  unfolding kept_of
  kept_past p l e = rw e

  kept_append : (l k : List ℕ) → kept_of kept to (l ++ k) ≡ kept_of kept to l ++ kept_of kept to k
  unfolding kept_of
  kept_append [] k = refl
  kept_append (x ∷ l) k = go (kept x) (kept_append l k)
    where
      go : (s : Bool) → kept_of kept to (l ++ k) ≡ kept_of kept to l ++ kept_of kept to k
          → cond s (to x ∷ kept_of kept to (l ++ k)) (kept_of kept to (l ++ k))
          ≡ cond s (to x ∷ kept_of kept to l) (kept_of kept to l) ++ kept_of kept to k
      go true h = ap (λ (m : List ℕ). to x ∷ m) h
      go false h = h

  pub kept_more : (l : List ℕ) (p : ℕ) → kept p ≡ true → kept_of kept to (l ++ (p ∷ [])) ≡ kept_of kept to l ++ (to p ∷ [])
  unfolding kept_of
  kept_more l p e = kept_append l (p ∷ []) ∙ ap (λ (m : List ℕ). kept_of kept to l ++ m) (kept_first p [] e)

  pub kept_less : (l : List ℕ) (p : ℕ) → kept p ≡ false → kept_of kept to (l ++ (p ∷ [])) ≡ kept_of kept to l
  unfolding kept_of
  kept_less l p e = kept_append l (p ∷ []) ∙ ap (λ (m : List ℕ). kept_of kept to l ++ m) (kept_past p [] e) ∙ append-nil (kept_of kept to l)

  -- what each kept entry has, and what kept entries stand in
  kept_all : {P Q : ℕ → Type 0} → ((p : ℕ) → P p → kept p ≡ true → Q (to p)) → {l : List ℕ} → All P l → All Q (kept_of kept to l)
  unfolding kept_of
  kept_all f none = none
  kept_all {P} {Q} f (both {x = x} {xs = l} h k) = go (kept x) refl (kept_all f k)
    where
      go : (s : Bool) → kept x ≡ s → All Q (kept_of kept to l) → All Q (cond s (to x ∷ kept_of kept to l) (kept_of kept to l))
      go true e r = both (f x h e) r
      go false e r = r

  kept_pairwise : {P : ℕ → Type 0} {R S : ℕ → ℕ → Type 0}
      → ((p q : ℕ) → P p → P q → kept p ≡ true → kept q ≡ true → R p q → S (to p) (to q))
      → {l : List ℕ} → All P l → Pairwise R l → Pairwise S (kept_of kept to l)
  unfolding kept_of
  kept_pairwise f none pnil = pnil
  kept_pairwise {P} {R} {S} f (both {x = x} {xs = l} h k) (pcons u v) = go (kept x) refl (kept_pairwise f k v)
    where
      zipped : {m : List ℕ} → All P m → All (R x) m → All (λ q. P q × R x q) m
      zipped none none = none
      zipped (both a b) (both c d) = both (a, c) (zipped b d)

      go : (s : Bool) → kept x ≡ s → Pairwise S (kept_of kept to l) → Pairwise S (cond s (to x ∷ kept_of kept to l) (kept_of kept to l))
      go true e r = pcons (kept_all (λ q w d. f x q h w.0 e d w.1) (zipped k u)) r
      go false e r = r

  kept_any : {p : ℕ} {l : List ℕ} → kept p ≡ true → Any (λ x. p ≡ x) l → Any (λ x. to p ≡ x) (kept_of kept to l)
  unfolding kept_of
  kept_any {p} e (here {x = x} {xs = l} h) = subst (Any (λ y. to p ≡ y)) (sym (kept_first x l (ap kept (sym h) ∙ e))) (here (ap to h))
  kept_any {p} e (there {x = x} {xs = l} a) = go (kept x) (kept_any e a)
    where
      go : (s : Bool) → Any (λ y. to p ≡ y) (kept_of kept to l)
          → Any (λ y. to p ≡ y) (cond s (to x ∷ kept_of kept to l) (kept_of kept to l))
      go true r = there r
      go false r = r

-- ---- new numbers

pub rank_renumbers : (marks : List Bool) (n : ℕ) → Renumbered (λ p. get_or marks p false) (rank marks) n (rank marks n)
rank_renumbers marks n =
    record {
      small = λ p k. rank_lt marks p n k.1 k.0;
      onto = λ q l. let r = rank_onto marks n q l in (r.0, (r.1, r.2), r.3);
      ascends = λ p q k j l. rank_lt marks p q k.1 l;
    }

-- ---- how two parts compare

moved_length : (join : Bool) (to : ℕ → ℕ) (items : List ℕ) → length (moved_items join to items) ≡ length items
moved_length true to items = length-map items to
moved_length false to items = refl

key_order_lem : (r : Record) (items : List ℕ) (t : Record) (others : List ℕ)
    → key_order (key_of r items) (key_of t others)
    ≡ ordering_then (nat_cmp (first_of r) (first_of t))
    (ordering_then (nat_cmp r.number t.number) (ordering_then (nat_cmp (length items) (length others)) (key_order items others)))
unfolding key_of key_order
key_order_lem r items t others = refl

module _ (K : ℕ → Type 0) (to : ℕ → ℕ) (up : RisesOn K to) where
  items_order : (join : Bool) (items others : List ℕ) → (join ≡ true → All K items) → (join ≡ true → All K others)
      → key_order (moved_items join to items) (moved_items join to others) ≡ key_order items others
  items_order true items others a b = order_map K to up items others (a refl) (b refl)
  items_order false items others a b = refl

  pub moved_order : (r : Record) (items : List ℕ) (t : Record) (others : List ℕ) → RecordFits r → RecordFits t
      → (is_join r ≡ true → All K items) → (is_join t ≡ true → All K others)
      → key_order (key_of r (moved_items (is_join r) to items)) (key_of t (moved_items (is_join t) to others))
      ≡ key_order (key_of r items) (key_of t others)
  moved_order r items t others f g a b =
      key_order_lem r (moved_items (is_join r) to items) t (moved_items (is_join t) to others)
      ∙ go (compared (first_of r) (first_of t))
      ∙ sym (key_order_lem r items t others)
    where
      rest : List ℕ → List ℕ → Ordering
      rest l m = ordering_then (nat_cmp r.number t.number) (ordering_then (nat_cmp (length l) (length m)) (key_order l m))

      go : Compared (first_of r) (first_of t)
          → ordering_then (nat_cmp (first_of r) (first_of t)) (rest (moved_items (is_join r) to items) (moved_items (is_join t) to others))
          ≡ ordering_then (nat_cmp (first_of r) (first_of t)) (rest items others)
      go (below l) = then_less (first_of r) (first_of t) _ l ∙ sym (then_less (first_of r) (first_of t) _ l)
      go (above l) = then_greater (first_of r) (first_of t) _ l ∙ sym (then_greater (first_of r) (first_of t) _ l)
      go (same e) =
          let kinds : r.kind ≡ t.kind = omega (arith, e, f.kind, g.kind) in
          let sorts : is_join t ≡ is_join r = ap (λ (x : ℕ). ltb x 2) (sym kinds) in
          ap (ordering_then (nat_cmp (first_of r) (first_of t)))
          (rw (sorts, moved_length (is_join r) to items, moved_length (is_join r) to others)
          (ap (λ (o : Ordering). ordering_then (nat_cmp r.number t.number) (ordering_then (nat_cmp (length items) (length others)) o))
          (items_order (is_join r) items others a (λ h. b (sorts ∙ h)))))

-- ---- the table that is left

module _ {limits : Limits} {b after : List ℕ} {kept : ℕ → Bool} {to : ℕ → ℕ} {n m : ℕ} (y : Bytes b) (r : Ascends limits b n)
    (w : Renumbered kept to n m) (v : Moved limits b after kept to n) where
  abbrev Rises : ℕ → ℕ → Type 0
  Rises p q = key_order (key_at limits after p) (key_at limits after q) ≡ Less

  -- two parts that stay still ascend
  still : (p q : ℕ) → Kept kept n p → Kept kept n q → key_order (key_at limits b p) (key_at limits b q) ≡ Less → Rises (to p) (to q)
  unfolding key_at RisesOn
  still p q kp kq e =
      let fits : (i : ℕ) → RecordFits (record_at limits b i) = λ i. record_fits b (parts_at limits + 24 * i) y in
      rw (v.keys p kp, v.keys q kq)
      (moved_order (Kept kept n) to w.ascends (record_at limits b p) (items_of limits b (record_at limits b p)) (record_at limits b q)
      (items_of limits b (record_at limits b q)) (fits p) (fits q) (v.children p kp) (v.children q kq)
      ∙ e)

  abbrev left : List ℕ
  left = kept_of kept to (tabulate n (entry_at limits b))

  left_rises : Pairwise Rises left
  left_rises =
      kept_pairwise kept to (λ p q lp lq kp kq e. still p q (lp, kp) (lq, kq) e) (tabulate_all n (entry_at limits b) r.entries)
      (tabulate_pairwise n (entry_at limits b) (rising_all r))

  left_small : All (λ x. x < m) left
  left_small = kept_all kept to (λ p l k. w.small p (l, k)) (tabulate_all n (entry_at limits b) r.entries)

  left_all : (q : ℕ) → q < m → Any (λ x. q ≡ x) left
  left_all q l =
      let o = w.onto q l in
      let a = rising_named r o.0 o.1.0 in
      subst (λ (x : ℕ). Any (λ z. x ≡ z) left) o.2
      (kept_any kept to o.1.1 (tabulate_any n (entry_at limits b) a.place a.inside (sym a.there)))

  pub drop_length : length left ≡ m
  drop_length =
      let apart : Distinct ◌≡◌ left = pairwise_map (λ p q h e. order_apart _ _ h (ap (key_at limits after) e)) left_rises in
      omega (arith, at_most apart left_small, at_least left m left_all)

  pub drop_rises : tabulate m (entry_at limits after) ≡ left → Ascends limits after m
  drop_rises e =
      record {
        entries = all_tabulate m (entry_at limits after) (subst (All (λ x. x < m)) (sym e) left_small);
        steps =
            λ k l. pairwise_tabulate m (entry_at limits after) (subst (Pairwise Rises) (sym e) left_rises) k (k + 1) (omega arith) l;
      }
