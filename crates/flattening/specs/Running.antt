-- Codes run with a stack, as a loop runs them: a predicate's value goes onto the stack; an operator takes the values of its children off
-- it, and its own goes on. A state is handed from code to code. The stack stands as an array holds it, the last value last.
-- Beside it the same as a recursion over the flattened rule, children first and from left to right. Reading codes back is such a run.
-- Laws in `RunningLaws`. Assumes nothing: these are definitions.
use Rattle.std.specs.Prelude.{cond, List, [], ◌∷◌, ◌++◌, ℕ, suc, ◌-◌, ◌≤◌, ltb, length, take, drop}
use Rattle.evaluation.specs.declared.Operator.{Operator}
use Rattle.ast.specs.Trees.{Flat, leaf, node, Flats, done, more, trees}
use Rattle.flattening.specs.Codes.{code_operator, code_count}

-- a value onto a stack, with the state that came with it
abbrev pub push : {S A : Type 0} → List A → S × A → S × List A
push stack r = (r.0, stack ++ (r.1 ∷ []))

module _ {S A : Type 0} (leafStep : S → ℕ → S × A) (joinStep : S → Operator → List A → S × A) where
  -- an operator over the values from a height on
  abbrev pub join_above : S → List A → Operator → ℕ → S × List A
  join_above s stack o height = push (take height stack) (joinStep s o (drop height stack))

  unfoldable pub step_code : S × List A → ℕ → S × List A
  step_code r c =
      cond (ltb c 256) (push r.1 (leafStep r.0 c)) (join_above r.0 r.1 (code_operator c) (length r.1 - code_count c))

  unfoldable pub run_codes : S × List A → List ℕ → S × List A
  run_codes r [] = r
  run_codes r (c ∷ cs) = run_codes (step_code r c) cs

-- every operator finds its children, from a stack of that height on
abbrev pub height_after : ℕ → ℕ → ℕ
height_after c height = cond (ltb c 256) (suc height) (suc (height - code_count c))

unfoldable pub Holds : List ℕ → ℕ → Type 0
Holds [] height = Unit {0}
Holds (c ∷ cs) height = (256 ≤ c → code_count c ≤ height) × Holds cs (height_after c height)

-- ---- the recursion

module _ {Q S A : Type 0} (leafStep : S → Q → S × A) (joinStep : S → Operator → List A → S × A) where
  unfoldable mutual
    pub run_flat : S → Flat Q → S × A
    run_flat s (leaf q) = leafStep s q
    run_flat s (node o fs) = joinStep (run_flats s fs).0 o (run_flats s fs).1

    pub run_flats : S → Flats Q → S × List A
    run_flats s done = (s, [])
    run_flats s (more f fs) = ((run_flats (run_flat s f).0 fs).0, (run_flat s f).1 ∷ (run_flats (run_flat s f).0 fs).1)

-- ---- steps without a state

abbrev pub leaf_only : {Q A : Type 0} → (Q → A) → Unit {0} → Q → Unit {0} × A
leaf_only v s q = (s, v q)

abbrev pub join_only : {A : Type 0} → (Operator → List A → A) → Unit {0} → Operator → List A → Unit {0} × A
join_only join s o l = (s, join o l)

-- the values that are left once the codes have run
abbrev pub values_of : {A : Type 0} → (ℕ → A) → (Operator → List A → A) → List ℕ → List A
values_of v join codes = (run_codes (leaf_only v) (join_only join) (tt, []) codes).1

-- the flattened rules that codes stand for
abbrev pub node_over : Operator → List (Flat ℕ) → Flat ℕ
node_over o l = node o (trees l)

abbrev pub read_back : List ℕ → List (Flat ℕ)
read_back codes = values_of leaf node_over codes
