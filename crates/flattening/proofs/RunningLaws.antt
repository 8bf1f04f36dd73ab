-- Laws of running codes.
--   run_flat_lem: the codes of a flattened rule put exactly one value onto the stack, the one of the recursion, and leave its state.
--   run_next, run_held: one code more, and an operator finds its children: what a loop over the codes needs.
--   read_back_lem: codes read back to the rule that they are of; so `codes_of` is injective (codes_injective).
--   values_fold: run without a state, codes give the fold of their rule.
-- Assumes nothing.
use Rattle.std.proofs.Common.{inl, inr, sym, ap₂, subst, ◌∙◌, lt-ltb, le-ltb, length-append, length-take, take-suc, take_at, drop_at}
use Rattle.std.proofs.lemmas.Bool.{cases_Bool}
use Rattle.std.specs.Prelude.{◌≡◌, ltb, length, get_or, take, drop}
use Rattle.std.proofs.Math.Path.{refl, ap}
use mathlib.Core.List.{List, [], ◌∷◌, ◌++◌, append_assoc, append-nil, head-eq_of_cons-eq}
use Prim.Native.Nat.{ℕ, suc, ◌+◌, ◌-◌, ◌<◌, ◌≤◌}
use native.Mathlib.Omega.{arith}
use Rattle.std.proofs.Math.Seq.{split_at}
use Rattle.evaluation.specs.declared.Operator.{Operator}
use Rattle.ast.specs.Trees.{Flat, leaf, node, Flats, done, more, kids, trees, fold, folds}
use Rattle.flattening.specs.Codes.{operator_code, codes_of, codes_under, code_operator, code_count, Leaves, LeavesUnder}
use Rattle.flattening.proofs.CodesLaws.{operator_code_lem, count_code, operator_high}
use Rattle.flattening.specs.Running.{push, join_above, step_code, run_codes, height_after, Holds, run_flat}
use Rattle.flattening.specs.Running.{run_flats, leaf_only, join_only, values_of, node_over, read_back}

-- ---- the steps of a run

module _ {S A : Type 0} (leafStep : S → ℕ → S × A) (joinStep : S → Operator → List A → S × A) where
  pub step_predicate : (r : S × List A) (c : ℕ) → c < 256 → step_code leafStep joinStep r c ≡ push r.1 (leafStep r.0 c)
  unfolding step_code
  step_predicate r c h = rw (lt-ltb c 256 h)

  pub step_operator : (r : S × List A) (c : ℕ) → 256 ≤ c
      → step_code leafStep joinStep r c ≡ join_above leafStep joinStep r.0 r.1 (code_operator c) (length r.1 - code_count c)
  unfolding step_code
  step_operator r c h = rw (le-ltb c 256 h)

  -- an operator over the values that stand last
  step_over : (s : S) (stack xs : List A) (o : Operator) (count : ℕ) → length xs ≡ count
      → step_code leafStep joinStep (s, stack ++ xs) (operator_code o count) ≡ push stack (joinStep s o xs)
  step_over s stack xs o count e =
      let height : length (stack ++ xs) - code_count (operator_code o count) ≡ length stack =
      omega (arith, length-append stack xs, count_code o count) in
      step_operator (s, stack ++ xs) (operator_code o count) (operator_high o count)
      ∙ rw (operator_code_lem o count, height, take_at stack xs (length stack) refl, drop_at stack xs (length stack) refl)

  pub run_append : (r : S × List A) (cs ds : List ℕ)
      → run_codes leafStep joinStep r (cs ++ ds) ≡ run_codes leafStep joinStep (run_codes leafStep joinStep r cs) ds
  unfolding run_codes
  run_append r [] ds = refl
  run_append r (c ∷ cs) ds = run_append (step_code leafStep joinStep r c) cs ds

  -- one code more
  pub run_next : (r : S × List A) (codes : List ℕ) (k : ℕ) → k < length codes
      → run_codes leafStep joinStep r (take (suc k) codes)
      ≡ step_code leafStep joinStep (run_codes leafStep joinStep r (take k codes)) (get_or codes k 0)
  unfolding run_codes
  run_next r codes k h =
      ap (run_codes leafStep joinStep r) (take-suc codes k 0 h) ∙ run_append r (take k codes) (get_or codes k 0 ∷ [])

  -- ---- the recursion

  runs_long : (s : S) (fs : Flats ℕ) → length (run_flats leafStep joinStep s fs).1 ≡ length (kids fs)
  unfolding run_flats
  runs_long s done = refl
  runs_long s (more f fs) = ap suc (runs_long (run_flat leafStep joinStep s f).0 fs)

  mutual
    unfolding run_codes run_flat

    pub run_flat_lem : (f : Flat ℕ) → Leaves (λ c. c < 256) f → (s : S) (stack : List A)
        → run_codes leafStep joinStep (s, stack) (codes_of f) ≡ push stack (run_flat leafStep joinStep s f)
    run_flat_lem (leaf c) h s stack = step_predicate (s, stack) c h
    run_flat_lem (node o fs) h s stack =
        let r = run_flats leafStep joinStep s fs in
        run_append (s, stack) (codes_under fs) (operator_code o (length (kids fs)) ∷ [])
        ∙ ap (λ (q : S × List A). step_code leafStep joinStep q (operator_code o (length (kids fs)))) (run_flats_lem fs h s stack)
        ∙ step_over r.0 stack r.1 o (length (kids fs)) (runs_long s fs)

    pub run_flats_lem : (fs : Flats ℕ) → LeavesUnder (λ c. c < 256) fs → (s : S) (stack : List A)
        → run_codes leafStep joinStep (s, stack) (codes_under fs)
        ≡ ((run_flats leafStep joinStep s fs).0, stack ++ (run_flats leafStep joinStep s fs).1)
    run_flats_lem done h s stack = ap (λ (l : List A). (s, l)) (sym (append-nil stack))
    run_flats_lem (more f fs) h s stack =
        let r = run_flat leafStep joinStep s f in
        let q = run_flats leafStep joinStep r.0 fs in
        run_append (s, stack) (codes_of f) (codes_under fs)
        ∙ ap (λ (p : S × List A). run_codes leafStep joinStep p (codes_under fs)) (run_flat_lem f h.0 s stack)
        ∙ run_flats_lem fs h.1 r.0 (stack ++ (r.1 ∷ []))
        ∙ ap (λ (l : List A). (q.0, l)) (append_assoc stack (r.1 ∷ []) q.1)

-- ---- every operator finds its children

-- a code leaves the stack as high as `height_after` says
step_height : {S A : Type 0} (leafStep : S → ℕ → S × A) (joinStep : S → Operator → List A → S × A) (r : S × List A) (c : ℕ)
    → length (step_code leafStep joinStep r c).1 ≡ height_after c (length r.1)
unfolding step_code
step_height leafStep joinStep r c = elim (cases_Bool (ltb c 256)) [
  | inl e ↦ rw e (length-append r.1 ((leafStep r.0 c).1 ∷ []) ∙ omega arith)
  | inr e ↦ let low = length r.1 - code_count c in
      let top = (joinStep r.0 (code_operator c) (drop low r.1)).1 in
      rw e (omega (arith, length-append (take low r.1) (top ∷ []), length-take low r.1))
]

height_most : (c height : ℕ) → height_after c height ≤ suc height
height_most c height = elim (cases_Bool (ltb c 256)) [
  | inl e ↦ rw e (omega arith)
  | inr e ↦ rw e (omega arith)
]

module _ {S A : Type 0} (leafStep : S → ℕ → S × A) (joinStep : S → Operator → List A → S × A) where
  -- the stack is no higher than the codes that have run
  pub run_height : (r : S × List A) (cs : List ℕ) → length (run_codes leafStep joinStep r cs).1 ≤ length r.1 + length cs
  unfolding run_codes
  run_height r [] = omega arith
  run_height r (c ∷ cs) =
      omega (
        arith,
        run_height (step_code leafStep joinStep r c) cs,
        step_height leafStep joinStep r c,
        height_most c (length r.1),
      )

  held_before : (r : S × List A) (before : List ℕ) (c : ℕ) (after : List ℕ) → Holds (before ++ c ∷ after) (length r.1) → 256 ≤ c
      → code_count c ≤ length (run_codes leafStep joinStep r before).1
  unfolding run_codes Holds
  held_before r [] c after h l = h.0 l
  held_before r (b ∷ bs) c after h l =
      held_before (step_code leafStep joinStep r b) bs c after (rw (step_height leafStep joinStep r b) h.1) l

  -- before each operator its children stand on the stack
  pub run_held : (r : S × List A) (codes : List ℕ) (k : ℕ) → k < length codes → Holds codes (length r.1) → 256 ≤ get_or codes k 0
      → code_count (get_or codes k 0) ≤ length (run_codes leafStep joinStep r (take k codes)).1
  run_held r codes k h held l =
      held_before r (take k codes) (get_or codes k 0) (drop (suc k) codes)
      (subst (λ (cs : List ℕ). Holds cs (length r.1)) (split_at codes k 0 h) held)
      l

mutual
  unfolding Holds

  holds_flat : (f : Flat ℕ) → Leaves (λ c. c < 256) f → (cs : List ℕ) (height : ℕ) → Holds cs (suc height) → Holds (codes_of f ++ cs) height
  holds_flat (leaf c) h cs height k = (λ l. absurd (omega arith), rw (lt-ltb c 256 h) k)
  holds_flat (node o fs) h cs height k =
      let c = operator_code o (length (kids fs)) in
      let e = count_code o (length (kids fs)) in
      let down : suc (length (kids fs) + height - code_count c) ≡ suc height = omega arith in
      rw (append_assoc (codes_under fs) (c ∷ []) cs)
      (holds_flats fs h (c ∷ cs) height (λ l. omega arith, rw (le-ltb c 256 (operator_high o (length (kids fs))), down) k))

  holds_flats : (fs : Flats ℕ) → LeavesUnder (λ c. c < 256) fs → (cs : List ℕ) (height : ℕ) → Holds cs (length (kids fs) + height)
      → Holds (codes_under fs ++ cs) height
  holds_flats done h cs height k = let e : 0 + height ≡ height = omega arith in rw e at k
  holds_flats (more f fs) h cs height k =
      let e : length (kids fs) + suc height ≡ suc (length (kids fs)) + height = omega arith in
      rw (append_assoc (codes_of f) (codes_under fs) cs)
      (holds_flat f h.0 (codes_under fs ++ cs) height (holds_flats fs h.1 cs (suc height) (rw e k)))

pub codes_hold : (f : Flat ℕ) → Leaves (λ c. c < 256) f → Holds (codes_of f) 0
unfolding Holds
codes_hold f h = subst (λ (cs : List ℕ). Holds cs 0) (append-nil (codes_of f)) (holds_flat f h [] 0 tt)

-- ---- runs without a state

module _ {Q A : Type 0} (v : Q → A) (join : Operator → List A → A) where
  mutual
    unfolding run_flat

    run_fold : (f : Flat Q) → run_flat (leaf_only v) (join_only join) tt f ≡ (tt, fold v join f)
    run_fold (leaf q) = refl
    run_fold (node o fs) = ap (λ (l : List A). (tt, join o l)) (run_folds fs)

    run_folds : (fs : Flats Q) → (run_flats (leaf_only v) (join_only join) tt fs).1 ≡ folds v join fs
    run_folds done = refl
    run_folds (more f fs) =
        ap₂ (λ (x : A) (l : List A). x ∷ l) (ap (λ (r : Unit {0} × A). r.1) (run_fold f)) (run_folds fs)

pub values_fold : {A : Type 0} (v : ℕ → A) (join : Operator → List A → A) (f : Flat ℕ) → Leaves (λ c. c < 256) f
    → values_of v join (codes_of f) ≡ fold v join f ∷ []
values_fold {A = A} v join f h =
    ap (λ (r : Unit {0} × List A). r.1) (run_flat_lem (leaf_only v) (join_only join) f h tt [])
    ∙ ap (λ (r : Unit {0} × A). r.1 ∷ []) (run_fold v join f)

-- ---- reading back

mutual
  rebuilt : (f : Flat ℕ) → fold leaf node_over f ≡ f
  rebuilt (leaf c) = refl
  rebuilt (node o fs) = ap (node o) (rebuilt_under fs)

  rebuilt_under : (fs : Flats ℕ) → trees (folds leaf node_over fs) ≡ fs
  rebuilt_under done = refl
  rebuilt_under (more f fs) = ap₂ more (rebuilt f) (rebuilt_under fs)

pub read_back_lem : (f : Flat ℕ) → Leaves (λ c. c < 256) f → read_back (codes_of f) ≡ f ∷ []
read_back_lem f h = values_fold leaf node_over f h ∙ ap (λ (g : Flat ℕ). g ∷ []) (rebuilt f)

pub codes_injective : (f g : Flat ℕ) → Leaves (λ c. c < 256) f → Leaves (λ c. c < 256) g → codes_of f ≡ codes_of g → f ≡ g
codes_injective f g h k e = head-eq_of_cons-eq (sym (read_back_lem f h) ∙ ap read_back e ∙ read_back_lem g k)
