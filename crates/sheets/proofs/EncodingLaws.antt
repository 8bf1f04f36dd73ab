-- The sheet of a tree within the limits is accepted, spells the tree and reads back to it: `sheet_accepted`, `sheet_spells`, `sheet_reads`.
-- The proof goes by the tree: a tree that stands from entry i on, with its lists from `start` on in the bodies, is `Encoded` there.
-- Assumes nothing.
use Rattle.std.specs.Prelude.{◌≡◌, ℤ, pos}
use Rattle.std.proofs.Math.Path.{refl, sym, ap, ap₂, subst}
use Rattle.std.proofs.Common.{◌∙◌, length-drop, drop-drop}
use mathlib.Core.List.{List, [], ◌++◌, append_assoc, append-nil}
use Prim.Native.Nat.{ℕ, suc, ◌+◌, ◌*◌, ◌≤◌, ◌<◌}
use native.Mathlib.Omega.{arith}
use Rattle.std.proofs.Math.ListN.{length, drop, length-append}
use Rattle.std.proofs.Math.Seq.{drop_at}
use Rattle.predicates.specs.Predicate.{Predicate}
use Rattle.ast.specs.Trees.{Tree, Join, Not, Value, entries}
use Rattle.sheets.specs.Spells.{shape_of, Spells}
use Rattle.sheets.specs.Bodies.{list_length_at, start_at, bodies_at}
use Rattle.sheets.specs.WellFormed.{Accepted}
use Rattle.sheets.specs.Form.{answer_of}
use Rattle.sheets.specs.RangeLaws.{Range, range_one, range_more, range_join}
use Rattle.sheets.specs.BodiesLaws.{start_first, start_next}
use Rattle.sheets.proofs.AnswersLaws.{accepting}
use Rattle.sheets.specs.Encoding.{operator_number, bodies_of, entries_of, sheet_of, Writable, Leaves, WithinLimits, numbered, tree_read}
use Rattle.sheets.proofs.WrittenLaws.{Written, shape_operator, operator_number_lem, holds, further, operator_written}
use Rattle.sheets.proofs.WrittenLaws.{size, predicate_written, predicate_spelled, predicate_read}

entries_length : (start : ℕ) (t : Tree Predicate) → length (entries_of start t) ≡ 5 * entries t
unfolding entries_of
entries_length start (Join o a b) =
    let l = entries_length start a in
    let r = entries_length (start + length (bodies_of a)) b in
    let sum = length-append (entries_of start a) (entries_of (start + length (bodies_of a)) b) in
    omega arith
entries_length start (Not a) = let l = entries_length start a in omega arith
entries_length start (Value p) = refl

module _ (first : ℕ) (s : List ℤ) (n : ℕ) where
  -- the tree t stands from entry i on, with its lists from `start` on
  pub record Encoded (i start : ℕ) (t : Tree Predicate) : Type 0 where
    pub spells : Spells first s (numbered i t) i (i + entries t)
    pub reads : tree_read first s n (numbered i t) ≡ t
    pub next : start_at first s (i + entries t) ≡ start + length (bodies_of t)
    pub each : Range (Written first s n) i (i + entries t)

  -- an operator leaves the next list where it was due
  next_due : (i start : ℕ) → start_at first s i ≡ start → list_length_at first s i ≡ 0 → start_at first s (i + 1) ≡ start
  next_due i start due none = let e = start_next first s i in omega arith

  -- what stands after a part
  skip : (k : ℕ) (part rest : List ℤ) → drop k s ≡ part ++ rest → drop (k + length part) s ≡ rest
  skip k part rest e = sym (drop-drop (length part) k s) ∙ ap (drop (length part)) e ∙ drop_at part rest (length part) refl

  part_inside : (k : ℕ) (part rest : List ℤ) → drop k s ≡ part ++ rest → k ≤ length s → k + length part ≤ length s
  part_inside k part rest e l =
      let long = sym (length-drop k s) ∙ ap length e ∙ length-append part rest in
      omega arith

  pub encoded : (t : Tree Predicate) (i start : ℕ) (tail after : List ℤ) → Leaves Writable t
      → drop (first + 5 * i) s ≡ entries_of start t ++ tail → drop (bodies_at first n + start) s ≡ bodies_of t ++ after
      → start_at first s i ≡ start → bodies_at first n + start ≤ length s → Encoded i start t
  unfolding entries_of bodies_of Spells shape_of
  encoded (Value p) i start tail after w e b due room =
      let h = holds first s i _ _ _ _ _ tail e in
      let size = size first s n i start p after w h due room b in
      let next = start_next first s i in
      record {
        spells = (refl, refl, predicate_spelled first s n i start p after w h due room b);
        reads = ap Value (predicate_read first s n i start p after w h due room b);
        next = omega arith;
        each = range_one (Written first s n) i (predicate_written first s n i start p after w h due room b);
      }
  encoded (Not a) i start tail after w e b due room =
      let h = holds first s i 3 0 0 (pos 0) 0 (entries_of start a ++ tail) e in
      let o = operator_written first s n i 3 (omega arith) (omega arith) h in
      let r = encoded a (i + 1) start tail after w (further first s i 3 0 0 (pos 0) 0 (entries_of start a ++ tail) e) b
      (next_due i start due o.1) room in
      let q : i + 1 + entries a ≡ i + (1 + entries a) = omega arith in
      record {
        spells = (ap shape_of h.kinds, subst (λ (j : ℕ). Spells first s (numbered (i + 1) a) (i + 1) j) q r.spells);
        reads = ap Not r.reads;
        next = ap (start_at first s) (sym q) ∙ r.next;
        each = range_more i (i + (1 + entries a)) o.0 (λ k l u. r.each k l (omega arith));
      }
  encoded (Join o a b) i start tail after w e c due room =
      let A = entries_of start a in
      let B = entries_of (start + length (bodies_of a)) b in
      let bounds = operator_number_lem o in
      let h = holds first s i (operator_number o) 0 0 (pos 0) 0 ((A ++ B) ++ tail) e in
      let op = operator_written first s n i (operator_number o) bounds.0 bounds.1 h in
      let f = further first s i (operator_number o) 0 0 (pos 0) 0 ((A ++ B) ++ tail) e ∙ append_assoc A B tail in
      let g = c ∙ append_assoc (bodies_of a) (bodies_of b) after in
      let l = encoded a (i + 1) start (B ++ tail) (bodies_of b ++ after) w.0 f g (next_due i start due op.1) room in
      let long : length A ≡ 5 * entries a = entries_length start a in
      let here : first + 5 * (i + 1) + length A ≡ first + 5 * (i + 1 + entries a) = omega arith in
      let there : bodies_at first n + start + length (bodies_of a) ≡ bodies_at first n + (start + length (bodies_of a)) = omega arith in
      let inside = part_inside (bodies_at first n + start) (bodies_of a) (bodies_of b ++ after) g room in
      let r = encoded b (i + 1 + entries a) (start + length (bodies_of a)) tail after w.1
      (ap (λ (m : ℕ). drop m s) (sym here) ∙ skip (first + 5 * (i + 1)) A (B ++ tail) f)
      (ap (λ (m : ℕ). drop m s) (sym there) ∙ skip (bodies_at first n + start) (bodies_of a) (bodies_of b ++ after) g)
      l.next (omega arith) in
      let q : i + 1 + entries a + entries b ≡ i + (1 + entries a + entries b) = omega arith in
      let sum = length-append (bodies_of a) (bodies_of b) in
      let last = r.next in
      record {
        spells = (
          i + 1 + entries a,
          ap shape_of h.kinds ∙ shape_operator o,
          l.spells,
          subst (λ (j : ℕ). Spells first s (numbered (i + 1 + entries a) b) (i + 1 + entries a) j) q r.spells,
        );
        reads = ap₂ (Join o) l.reads r.reads;
        next = ap (start_at first s) (sym q) ∙ omega arith;
        each = range_more i (i + (1 + entries a + entries b)) op.0
            (range_join (i + 1) (i + 1 + entries a) (i + (1 + entries a + entries b)) l.each (λ k lo hi. r.each k lo (omega arith)));
      }

-- ---- the sheet

some_entry : {P : Type 0} (t : Tree P) → 1 ≤ entries t
some_entry (Join o a b) = omega arith
some_entry (Not a) = omega arith
some_entry (Value p) = omega arith

module _ (t : Tree Predicate) (w : WithinLimits t) where
  abbrev n : ℕ
  n = entries t

  abbrev s : List ℤ
  s = sheet_of t

  sheet_length : length s ≡ bodies_at 1 n + length (bodies_of t)
  unfolding sheet_of
  sheet_length =
      let sum = length-append (entries_of 0 t) (bodies_of t) in
      let long = entries_length 0 t in
      omega arith

  sheet_bodies : drop (bodies_at 1 n + 0) s ≡ bodies_of t ++ []
  unfolding sheet_of
  sheet_bodies =
      let e : bodies_at 1 n + 0 ≡ suc (5 * n) = omega arith in
      ap (λ (m : ℕ). drop m s) e ∙ drop_at (entries_of 0 t) (bodies_of t) (5 * n) (entries_length 0 t) ∙ sym (append-nil (bodies_of t))

  sheet_entries : drop (1 + 5 * 0) s ≡ entries_of 0 t ++ bodies_of t
  unfolding sheet_of
  sheet_entries = refl

  sheet_encoded : Encoded 1 s n 0 0 t
  sheet_encoded =
      let long = sheet_length in
      encoded 1 s n t 0 0 (bodies_of t) [] w.leaves sheet_entries sheet_bodies (start_first 1 s) (omega arith)

  pub sheet_spells : Spells 1 (sheet_of t) (numbered 0 t) 0 (entries t)
  sheet_spells = let e : 0 + n ≡ n = omega arith in subst (λ (j : ℕ). Spells 1 s (numbered 0 t) 0 j) e sheet_encoded.spells

  pub sheet_reads : tree_read 1 (sheet_of t) (entries t) (numbered 0 t) ≡ t
  sheet_reads = sheet_encoded.reads

  pub sheet_formed : Accepted 1 (sheet_of t) (entries t)
  unfolding sheet_of
  sheet_formed =
      let long = sheet_length in
      let next = sheet_encoded.next in
      let each : (k : ℕ) → k < n → Written 1 s n k = λ k l. sheet_encoded.each k (omega arith) (omega arith) in
      let e : 0 + n ≡ n = omega arith in
      let end : start_at 1 s n ≡ 0 + length (bodies_of t) = ap (start_at 1 s) (sym e) ∙ next in
      record {
        counted = record { reached = omega arith; count = refl; some = some_entry t; few = w.few };
        formed =
            record {
              room = omega arith;
              entry = λ k l. (each k l).fits;
              tree = (numbered 0 t, sheet_spells);
              lists = λ k l. (each k l).lists;
              end = omega arith;
            };
        short = λ k l. (each k l).short;
      }

  pub sheet_accepted : answer_of 1 (sheet_of t) ≡ 0
  sheet_accepted = accepting 1 s n sheet_formed
