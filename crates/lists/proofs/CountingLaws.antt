-- The counting law, over any equivalence: two lists without repeats that cover each other are the same bag, so they have equal sums of
-- every f that respects the equivalence. What is added up over a list without its repeats then depends on what the list holds, on neither
-- order nor repeats. Assumes nothing.
use Rattle.std.specs.Prelude.{◌≡◌, ◌⊎◌}
use Rattle.std.proofs.Common.{inl, inr, arith}
use mathlib.Core.List.{List, [], ◌∷◌, ◌++◌}
use Prim.Native.Nat.{ℕ, ◌≤◌, zero-le}
use Rattle.lists.specs.Places.{All, none, both, Any, here, there, at, rest, any?, sum, pnil, pcons, Distinct}
use Rattle.lists.proofs.PlacesLaws.{holds, no_any, none_of_lem, any_left, any_right, all_append, all_map, any_map, all_at, all_rest}
use Rattle.lists.proofs.PlacesLaws.{other, sum_rest, pairwise_rest, distinct_at}
use Rattle.lists.specs.Equivalence.{Equivalence}
use Rattle.lists.specs.Bag.{Bag, bnil, bcons}
use Rattle.lists.proofs.BagLaws.{bag_sum}
use Rattle.lists.specs.Counting.{Cover, keep, dedup}

module _ {A : Type 0} {R : A → A → Type 0} (e : Equivalence R) where
  pub cover_refl : (xs : List A) → Cover R xs xs
  cover_refl [] = none
  cover_refl (x ∷ xs) = both (here (e.reflexive x)) (all_map (λ y a. there a) (cover_refl xs))

  pub cover_trans : {xs ys zs : List A} → Cover R xs ys → Cover R ys zs → Cover R xs zs
  cover_trans h k = all_map (λ x a. any_map (λ z r. e.transitive x (at a) z (holds a) r) (all_at k a)) h

  away : {P : A → Type 0} {ys : List A} {x z : A} (a : Any P ys) → R x (at a) → ¬ R x z → Any (R z) ys → Any (R z) (rest a)
  away {x = x} {z = z} a r m b = go (other a b)
    where
      go : R z (at a) ⊎ Any (R z) (rest a) → Any (R z) (rest a)
      go (inl s) = absurd (m (e.transitive x (at a) z r (e.symmetric z (at a) s)))
      go (inr c) = c

  -- elements that are not related to x are covered without the place of x
  pub cover_away : {P : A → Type 0} {ys : List A} {x : A} {l : List A} (a : Any P ys) → R x (at a)
      → All (λ z. ¬ R x z) l → Cover R l ys → Cover R l (rest a)
  cover_away a r none none = none
  cover_away a r (both m ms) (both b bs) = both (away a r m b) (cover_away a r ms bs)

  pub distinct_bag : {xs ys : List A} → Distinct R xs → Distinct R ys → Cover R xs ys → Cover R ys xs → Bag R xs ys
  distinct_bag pnil pnil h k = bnil
  distinct_bag pnil (pcons n c) h (both a k) = absurd (no_any a)
  distinct_bag (pcons {x = x} {xs = xs} n d) c (both a h) k =
      let first : Any (R x) (x ∷ xs) = here (e.reflexive x) in
      let back : R (at a) x = e.symmetric x (at a) (holds a) in
      let others = cover_away first back (distinct_at e.symmetric c a) (all_rest k a) in
      bcons a (distinct_bag d (pairwise_rest c a) (cover_away a (holds a) n h) others)

  module _ (f : A → ℕ) (respects : (x y : A) → R x y → f x ≡ f y) where
    pub equal_sums : {xs ys : List A} → Distinct R xs → Distinct R ys → Cover R xs ys → Cover R ys xs → sum f xs ≡ sum f ys
    equal_sums d c h k = bag_sum f f respects (distinct_bag d c h k)

    -- a list without repeats adds up to no more than any list that covers it
    pub sum_le : {xs ys : List A} → Distinct R xs → Cover R xs ys → sum f xs ≤ sum f ys
    unfolding sum
    sum_le pnil h = zero-le
    sum_le (pcons {x = x} n d) (both a h) =
        omega (arith, sum_le d (cover_away a (holds a) n h), sum_rest f a, respects x (at a) (holds a))

  module _ (d : (x y : A) → Dec (R x y)) where
    keep_distinct : {x : A} {l : List A} → Distinct R l → (o : Dec (Any (R x) l)) → Distinct R (keep o x l)
    unfolding keep
    keep_distinct c (yes a) = c
    keep_distinct {x} {l} c (no n) = pcons (none_of_lem l n) c

    -- no two of what is left are related
    pub dedup_distinct : (xs : List A) → Distinct R (dedup d xs)
    unfolding dedup
    dedup_distinct [] = pnil
    dedup_distinct (x ∷ xs) = keep_distinct (dedup_distinct xs) (any? (d x) (dedup d xs))

    keep_old : {x y : A} {l : List A} (o : Dec (Any (R x) l)) → Any (R y) l → Any (R y) (keep o x l)
    unfolding keep
    keep_old (yes a) b = b
    keep_old (no n) b = there b

    keep_new : {x : A} {l : List A} (o : Dec (Any (R x) l)) → Any (R x) (keep o x l)
    unfolding keep
    keep_new (yes a) = a
    keep_new {x} (no n) = here (e.reflexive x)

    -- nothing is lost
    pub dedup_all : (xs : List A) → Cover R xs (dedup d xs)
    unfolding dedup
    dedup_all [] = none
    dedup_all (x ∷ xs) =
        let o = any? (d x) (dedup d xs) in
        both (keep_new o) (all_map (λ y b. keep_old o b) (dedup_all xs))

    keep_from : {P : A → Type 0} {Y : Type 0} (o : Dec Y) (x : A) {l : List A} → P x → All P l → All P (keep o x l)
    unfolding keep
    keep_from (yes a) x p h = h
    keep_from (no n) x p h = both p h

    -- nothing is added: what all have, all that are left have
    pub dedup_keeps : {P : A → Type 0} {xs : List A} → All P xs → All P (dedup d xs)
    unfolding dedup
    dedup_keeps none = none
    dedup_keeps (both {x = x} {xs = xs} p h) = keep_from (any? (d x) (dedup d xs)) x p (dedup_keeps h)

    pub dedup_only : (xs : List A) → Cover R (dedup d xs) xs
    dedup_only xs = dedup_keeps (cover_refl xs)

    module _ (f : A → ℕ) (respects : (x y : A) → R x y → f x ≡ f y) where
      -- a list without repeats that holds of xs everything and nothing else has the sum of xs without repeats
      pub counting : {ps xs : List A} → Distinct R ps → Cover R ps xs → Cover R xs ps → sum f ps ≡ sum f (dedup d xs)
      counting {ps} {xs} c h k =
          equal_sums f respects c (dedup_distinct xs) (cover_trans h (dedup_all xs)) (cover_trans (dedup_only xs) k)

      -- two lists that hold the same, order and repeats aside, have one sum
      pub counting_same : {xs ys : List A} → Cover R xs ys → Cover R ys xs → sum f (dedup d xs) ≡ sum f (dedup d ys)
      counting_same {xs} {ys} h k =
          counting (dedup_distinct xs) (cover_trans (dedup_only xs) h) (cover_trans k (dedup_all xs))

-- ---- covers and appended lists

module _ {A : Type 0} {R : A → A → Type 0} where
  pub cover_left : {xs ys : List A} (zs : List A) → Cover R xs ys → Cover R xs (ys ++ zs)
  cover_left zs h = all_map (λ x a. any_left zs a) h

  pub cover_right : {xs zs : List A} (ys : List A) → Cover R xs zs → Cover R xs (ys ++ zs)
  cover_right ys h = all_map (λ x a. any_right ys a) h

  pub cover_append : {xs ys us vs : List A} → Cover R xs us → Cover R ys vs → Cover R (xs ++ ys) (us ++ vs)
  cover_append {us = us} {vs = vs} h k = all_append (cover_left vs h) (cover_right us k)
