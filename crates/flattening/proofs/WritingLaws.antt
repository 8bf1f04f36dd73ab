-- Codes written one after the other: a predicate, children after children, an operator after its children; and a whole rule into zeros.
-- Assumes nothing.
use mathlib.Core.Path.{◌≡◌, refl, ap, ◌∙◌}
use mathlib.Core.List.{List, [], ◌∷◌, ◌++◌}
use Prim.Native.Nat.{ℕ, zero, suc, ◌+◌, ◌-◌, ◌≤◌}
use native.Mathlib.Omega.{arith}
use native.Mathlib.Nat.{add-zero}
use lib.ListN.{length, drop, set, replicate, length-append, length-replicate}
use lib.Seq.{sets, sets-eq}
use Rattle.evaluation.specs.declared.Operator.{Operator}
use Rattle.ast.specs.Trees.{Flat, leaf, node, Flats, kids}
use Rattle.ast.specs.Flattening.{one, ◌⧺◌}
use Rattle.ast.proofs.FlatteningLaws.{kids_append}
use Rattle.flattening.specs.Codes.{operator_code, codes_of, codes_under}
use Rattle.flattening.proofs.CodesLaws.{codes_append, codes_one, node_long}
use Rattle.flattening.specs.Writing.{Wrote, Coded}
use Rattle.flattening.specs.declared.Written.{Written}

sets_sets : (vs ws l : List ℕ) (i : ℕ) → sets (sets l i vs) (i + length vs) ws ≡ sets l i (vs ++ ws)
sets_sets [] ws l i = ap (λ (k : ℕ). sets l k ws) (add-zero i)
sets_sets (v ∷ vs) ws l i =
    let e : i + length (v ∷ vs) ≡ suc i + length vs = omega arith in
    rw e (sets_sets vs ws (set l i v) (suc i))

pub wrote_leaf : (c i at : ℕ) (out : List ℕ)
    → Wrote (one (leaf c)) (i + 1) at out (set out at c) (record { next = i + 1; at = at + 1; count = 1 })
wrote_leaf c i at out = record { read = refl; ended = refl; many = refl; wrote = refl }

pub wrote_both : (fs gs : Flats ℕ) (m j at : ℕ) (out out₁ out₂ : List ℕ) (left right : Written)
    → Wrote fs m at out out₁ left → Wrote gs j left.at out₁ out₂ right
    → Wrote (fs ⧺ gs) j at out out₂ (record { next = right.next; at = right.at; count = left.count + right.count })
wrote_both fs gs m j at out out₁ out₂ left right wa wb = record {
  read = wb.read;
  ended = omega (arith, wb.ended, wa.ended, ap length (codes_append fs gs), length-append (codes_under fs) (codes_under gs));
  many = omega (arith, wa.many, wb.many, ap length (kids_append fs gs), length-append (kids fs) (kids gs));
  wrote = wb.wrote ∙ rw (wa.wrote, wa.ended, codes_append fs gs) (sets_sets (codes_under fs) (codes_under gs) out at);
}

pub wrote_node : (o : Operator) (fs : Flats ℕ) (j at : ℕ) (out out₁ : List ℕ) (r : Written) → Wrote fs j at out out₁ r
    → Wrote (one (node o fs)) j at out (set out₁ r.at (operator_code o r.count)) (record { next = r.next; at = r.at + 1; count = 1 })
wrote_node o fs j at out out₁ r w = record {
  read = w.read;
  ended = rw (codes_one (node o fs)) (omega (arith, w.ended, node_long o fs));
  many = refl;
  wrote =
      rw (codes_one (node o fs), w.many, w.ended, w.wrote)
      (sets_sets (codes_under fs) (operator_code o (length (kids fs)) ∷ []) out at);
}

-- ---- a whole rule, into zeros

drop_replicate : {A : Type 0} (a : A) (k n : ℕ) → drop k (replicate n a) ≡ replicate (n - k) a
drop_replicate a zero n = let e : n ≡ n - 0 = omega arith in ap (λ (m : ℕ). replicate m a) e
drop_replicate a (suc k) zero = let e : 0 ≡ 0 - suc k = omega arith in ap (λ (m : ℕ). replicate m a) e
drop_replicate a (suc k) (suc n) =
    let e : n - k ≡ suc n - suc k = omega arith in
    drop_replicate a k n ∙ ap (λ (m : ℕ). replicate m a) e

pub wrote_whole : (f : Flat ℕ) (j : ℕ) (out : List ℕ) (r : Written) → Wrote (one f) j 0 (replicate 128 0) out r → length (codes_of f) ≤ 128
    → Coded (codes_of f) (record { codes = out; count = r.at })
wrote_whole f j out r w h =
    let e : 0 + length (codes_of f) ≡ length (codes_of f) = omega arith in
    record {
      count = rw (codes_one f) at w.ended ∙ e;
      codes =
          rw (codes_one f) at w.wrote
          ∙ sets-eq (codes_of f) (replicate 128 0) 0 (omega (arith, length-replicate {A = ℕ} 128 0))
          ∙ ap (λ (l : List ℕ). codes_of f ++ l) (ap (λ (k : ℕ). drop k (replicate 128 0)) e ∙ drop_replicate 0 (length (codes_of f)) 128);
    }
