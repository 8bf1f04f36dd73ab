-- What `all` answers over a slice and over the numbers below one, as `all_below` says it. An answer gives the test, the clause `ran` of the
-- call, and last `λ x b q k. search (rules, tests)`. Assumes nothing.
use mathlib.Core.Path.{◌≡◌, refl, sym, ap, ◌∙◌}
use mathlib.Core.Bool.{Bool, true, false}
use mathlib.Core.List.{List}
use Prim.Native.Nat.{ℕ, ◌<◌}
use native.Mathlib.Nat.{zero-add}
use native.Mathlib.Omega.{arith}
use lib.ListN.{length, get_or}
use denote.Ref.{Bor}
use denote.Param.Members.{Mut}
use Rattle.std.specs.declared.option.Option.{Option}
use Rattle.std.specs.declared.ops.Range.{Range}
use Rattle.std.specs.declared.slice.Iter.{Iter}
use Rattle.std.specs.Bool.{MatchBool}
use Rattle.std.specs.Fn.{Called}
use Rattle.std.specs.Iterator.{YieldsThen}
use Rattle.std.specs.List.{AllWithin, FoldsTo, HoldsAt, range_with_len}
use Rattle.std.specs.Option.{MatchOption}
use Rattle.std.specs.Slice.Iter.{iter_rest}
use Rattle.std.proofs.iter.Yields.{fronts, nat_range_steps}
use Rattle.std.proofs.lemmas.Iterator.{YieldsList, cases_from_all, YieldsList-from_slice, YieldsList-from_range}
use Rattle.std.proofs.lemmas.List.FromFn.{length-range_with_len, get_or-range_with_len}
use Rattle.lists.specs.Below.{all_below}
use Rattle.lists.specs.BelowLaws.{below_all, below_broken, below_same}

-- each element passes the test, or one of them does not
abbrev pub Judged : {X : Type 0} → (X → Bool) → List X → Bool → Type 0
Judged f xs r =
    MatchBool r (AllWithin (λ x. f x ≡ true) xs 0 (length xs)) ((k : ℕ) × (k < length xs) × HoldsAt (λ x. f x ≡ false) xs k)

pub list_told : {X : Type 0} (f : X → Bool) (xs : List X) (d : X) (r : Bool) → Judged f xs r
    → r ≡ all_below (λ k. f (get_or xs k d)) (length xs)
list_told f xs d true h = sym (below_all _ _ (λ k l. h k d (omega arith) l))
list_told f xs d false h = sym (below_broken _ h.0 _ h.1 (h.2 d))

pub range_told : (f : ℕ → Bool) (n : ℕ) (r : Bool) → Judged f (range_with_len 0 n) r → r ≡ all_below f n
range_told f n r h =
    list_told f (range_with_len 0 n) 0 r h
    ∙ ap (all_below (λ k. f (get_or (range_with_len 0 n) k 0))) (length-range_with_len 0 n)
    ∙ below_same _ f n (λ k l. ap f (get_or-range_with_len 0 n k 0 l ∙ zero-add k))

-- what the call's clause `ran` says, where the calls were made on `s` and the closure `j` stays as it is
module _ {S A B F : Type 0} {steps : S → Option A → S → Type 0} {v : A → B} {g : Mut F (A × Unit {0}) Bool}
    {s : S} {all : List B} (u : S) where
  judged : (f : B → Bool) (j : F) (r : Bool)
      → (xs : List A) × (o : Option A) × (h : F) × YieldsThen steps s xs o u × FoldsTo (λ p x q. Called g p (x, tt) true q) j xs h
      × MatchOption o (r ≡ true) (λ x. (r ≡ false) × ((i : F) × Called g h (x, tt) false i))
      → YieldsList steps v s all → ((x : A) (b : Bool) (q : F) → Called g j (x, tt) b q → (q ≡ j) × (b ≡ f (v x)))
      → Judged f all r
  judged f j r ran given asked =
      cases_from_all u j r (λ x. f x ≡ true) (λ x. f x ≡ false) ran given
      (λ x q k. let a = asked x true q k in (a.0, sym a.1))
      (λ x q k. sym (asked x false q k).1)

-- the answer of `xs.iter().all(..)`
pub slice_all : {X F : Type 0} {g : Mut F (Bor X × Unit {0}) Bool} {s : Iter X} {j : F}
    (u : Iter X) (f : X → Bool) (xs : List X) (d : X) (r : Bool)
    → (ys : List (Bor X)) × (o : Option (Bor X)) × (h : F) × YieldsThen fronts s ys o u
    × FoldsTo (λ p x q. Called g p (x, tt) true q) j ys h
    × MatchOption o (r ≡ true) (λ x. (r ≡ false) × ((i : F) × Called g h (x, tt) false i))
    → iter_rest s ≡ xs → ((x : Bor X) (b : Bool) (q : F) → Called g j (x, tt) b q → (q ≡ j) × (b ≡ f x.now))
    → r ≡ all_below (λ k. f (get_or xs k d)) (length xs)
slice_all {j} u f xs d r ran e asked = list_told f xs d r (judged u f j r ran (YieldsList-from_slice xs e) asked)

-- the answer of `(0..n).all(..)`
pub range_all : {F : Type 0} {g : Mut F (ℕ × Unit {0}) Bool} {j : F} (u : Range ℕ) (f : ℕ → Bool) (n : ℕ) (r : Bool)
    → (ys : List ℕ) × (o : Option ℕ) × (h : F) × YieldsThen nat_range_steps (record { start = 0; end = n }) ys o u
    × FoldsTo (λ p x q. Called g p (x, tt) true q) j ys h
    × MatchOption o (r ≡ true) (λ x. (r ≡ false) × ((i : F) × Called g h (x, tt) false i))
    → ((x : ℕ) (b : Bool) (q : F) → Called g j (x, tt) b q → (q ≡ j) × (b ≡ f x))
    → r ≡ all_below f n
range_all {j} u f n r ran asked = range_told f n r (judged u f j r ran (YieldsList-from_range 0 n n refl (omega arith)) asked)
