-- Laws of interning one item after the other: the items of a rule do what `intern` does, and leave its number on the stack (`plan_intern`).
-- The parts only grow, by one part an item at most, and so does the stack. Assumes nothing.
use Rattle.std.specs.Prelude.{◌≡◌, refl, ℕ, suc, ◌+◌, ◌-◌, ◌≤◌}
use Rattle.std.proofs.Common.{ap, sym, ◌∙◌, arith, length-take}
use Rattle.std.proofs.Math.Path.{ap₂}
use mathlib.Core.List.{List, [], ◌∷◌, ◌++◌, append_assoc, append-nil}
use Rattle.std.proofs.Math.ListN.{length, take, drop, length-append}
use Rattle.std.proofs.Math.Seq.{take_at, drop_at}
use Rattle.evaluation.specs.declared.Operator.{Operator}
use Rattle.predicates.specs.Predicate.{Predicate}
use Rattle.ast.specs.Trees.{Flat, leaf, node, Flats, done, more, kids}
use Rattle.model.specs.Parts.{Part, alone, over}
use Rattle.model.specs.Intern.{place, in_order, intern, interns}
use Rattle.model.proofs.FoundLaws.{place_most}
use Rattle.model.specs.Plan.{Item, value, join, items_of, items_under, Plan, pushed, planned, plan_of}

pub plan_append : (s : Plan) (is js : List Item) → plan_of s (is ++ js) ≡ plan_of (plan_of s is) js
plan_append s [] js = refl
plan_append s (i ∷ is) js = plan_append (planned s i) is js

numbers_long : (fs : Flats Predicate) (ps : List Part) → length (interns fs ps).numbers ≡ length (kids fs)
unfolding intern
numbers_long done ps = refl
numbers_long (more f fs) ps = ap suc (numbers_long fs (intern f ps).parts)

-- an operator takes the numbers of its children off the stack
module _ (o : Operator) (ps : List Part) (stack numbers : List ℕ) (n : ℕ) (long : length numbers ≡ n) where
  children_off : planned (record { parts = ps; stack = stack ++ numbers }) (join o n)
      ≡ pushed (place ps (over o (in_order ps numbers))) stack
  unfolding planned
  children_off =
      let at : length (stack ++ numbers) - n ≡ length stack = omega (arith, length-append stack numbers, long) in
      let taken : take (length (stack ++ numbers) - n) (stack ++ numbers) ≡ stack = take_at stack numbers _ (sym at) in
      let dropped : drop (length (stack ++ numbers) - n) (stack ++ numbers) ≡ numbers = drop_at stack numbers _ (sym at) in
      ap₂ (λ (l m : List ℕ). pushed (place ps (over o (in_order ps l))) m) dropped taken

mutual
  unfolding intern planned

  pub plan_intern : (f : Flat Predicate) (ps : List Part) (stack : List ℕ)
      → plan_of (record { parts = ps; stack = stack }) (items_of f) ≡ pushed (intern f ps) stack
  plan_intern (leaf p) ps stack = refl
  plan_intern (node o fs) ps stack =
      let r = interns fs ps in
      let last = join o (length (kids fs)) in
      plan_append (record { parts = ps; stack = stack }) (items_under fs) (last ∷ [])
      ∙ ap (λ (s : Plan). planned s last) (plan_interns fs ps stack)
      ∙ children_off o r.parts stack r.numbers (length (kids fs)) (numbers_long fs ps)

  plan_interns : (fs : Flats Predicate) (ps : List Part) (stack : List ℕ)
      → plan_of (record { parts = ps; stack = stack }) (items_under fs)
      ≡ record { parts = (interns fs ps).parts; stack = stack ++ (interns fs ps).numbers }
  plan_interns done ps stack = ap (λ (l : List ℕ). record { parts = ps; stack = l }) (sym (append-nil stack))
  plan_interns (more f fs) ps stack =
      let r = intern f ps in
      let rest = interns fs r.parts in
      plan_append (record { parts = ps; stack = stack }) (items_of f) (items_under fs)
      ∙ ap (λ (s : Plan). plan_of s (items_under fs)) (plan_intern f ps stack)
      ∙ plan_interns fs r.parts (stack ++ (r.number ∷ []))
      ∙ ap (λ (l : List ℕ). record { parts = rest.parts; stack = l }) (append_assoc stack (r.number ∷ []) rest.numbers)

-- ---- how much a plan takes

pub planned_most : (s : Plan) (i : Item)
    → (length (planned s i).parts ≤ 1 + length s.parts) × (length (planned s i).stack ≤ 1 + length s.stack)
unfolding planned
planned_most s (value p) =
    let r = place s.parts (alone p) in
    (place_most s.parts (alone p), omega (arith, length-append s.stack (r.number ∷ [])))
planned_most s (join o n) =
    let at = length s.stack - n in
    let x = over o (in_order s.parts (drop at s.stack)) in
    let r = place s.parts x in
    (place_most s.parts x, omega (arith, length-append (take at s.stack) (r.number ∷ []), length-take at s.stack))
