-- Laws of the check of predicates. As a loop uses them: `entries_more` and `entries_refused`. As a reader does: the answer is that of the
-- first faulty entry (`first_refused`), and there is none exactly where each predicate of the tree names an attribute and suits it
-- (`leaves_suit`, `suit_leaves`).
-- Assumes nothing.
use Rattle.std.proofs.Math.Path.{◌≡◌, refl, ap, subst}
use Rattle.std.proofs.Common.{sym, ◌∙◌, add-one, arith}
use Rattle.std.specs.Prelude.{Bool, List, ℤ}
use Rattle.std.proofs.Math.Bool.{true, false, cond}
use Prim.Native.Nat.{ℕ, zero, suc, ◌+◌, ◌≤◌, ◌<◌}
use Rattle.std.proofs.Math.Decide.{ℕ_discrete}
use borrow.Author.Tests.{ltb-true, lt-ltb}
use Rattle.std.proofs.Math.Dec.{ltb}
use Rattle.error.specs.Answers.{Answer, Done, Refused, then}
use Rattle.error.specs.declared.Refusal.TheVariants.{NoAttribute, NotSuited}
use Rattle.error.proofs.AnswersLaws.{done?, then_refused, then_both}
use Rattle.attributes.specs.Table.{is_between, kind_at, count_of as attributesIn}
use Rattle.predicates.specs.Kinds.{kind_of as kindNumbered}
use Rattle.predicates.specs.Suits.{suits_of}
use Rattle.ast.specs.Trees.{Tree, Join, Not, Value}
use Rattle.sheets.specs.Entries.{field_of, kind_of}
use Rattle.sheets.specs.declared.Shape.TheVariants.{Stands}
use Rattle.sheets.specs.Spells.{shape_of, Spells}
use Rattle.sheets.specs.Bodies.{tag_of}
use Rattle.sheets.specs.Reading.{entry_of, predicate_as, predicate_of}
use Rattle.sheets.specs.RangeLaws.{Range, range_one, range_more, range_join}
use Rattle.sheets.specs.TableLaws.{between_told}
use Rattle.sheets.specs.SpellsLaws.{shape_stands, spells_size}
use Rattle.sheets.specs.Encoding.{Leaves}
use Rattle.sheets.specs.Suiting.{Suited, suit_answer, standing, entry_answer, entries_answer}

module _ (table : List ℕ) (first : ℕ) (s : List ℤ) where
  pub entries_none : entries_answer table first s 0 ≡ Done
  unfolding entries_answer
  entries_none = refl

  pub entries_more : (i : ℕ) → entries_answer table first s i ≡ Done → entry_answer table first s i ≡ Done
      → entries_answer table first s (i + 1) ≡ Done
  unfolding entries_answer
  entries_more i h e = ap (entries_answer table first s) (add-one i) ∙ rw (h, e)

  -- the first refusal stays, whatever follows
  pub entries_refused : (i n : ℕ) → i < n → entries_answer table first s i ≡ Done → ¬ (entry_answer table first s i ≡ Done)
      → entries_answer table first s n ≡ entry_answer table first s i
  unfolding entries_answer
  entries_refused i zero l h r = absurd (omega arith)
  entries_refused i (suc n) l h r = go (ℕ_discrete i n) (λ k. entries_refused i n k h r)
    where
      go : Dec (i ≡ n) → (i < n → entries_answer table first s n ≡ entry_answer table first s i)
          → then (entries_answer table first s n) (entry_answer table first s n) ≡ entry_answer table first s i
      go (yes e) earlier =
          ap (λ (a : Answer). then a (entry_answer table first s n)) (ap (entries_answer table first s) (sym e) ∙ h)
          ∙ ap (entry_answer table first s) (sym e)
      go (no ne) earlier =
          let e = earlier (omega (arith, ne)) in
          then_refused (entries_answer table first s n) (entry_answer table first s n) (λ d. r (sym e ∙ d)) ∙ e

  pub entries_each : (n : ℕ) → entries_answer table first s n ≡ Done → (i : ℕ) → i < n → entry_answer table first s i ≡ Done
  unfolding entries_answer
  entries_each zero h i l = absurd (omega arith)
  entries_each (suc n) h i l = go (ℕ_discrete i n) (then_both _ _ h) (λ e. entries_each n e i)
    where
      go : Dec (i ≡ n) → (entries_answer table first s n ≡ Done) × (entry_answer table first s n ≡ Done)
          → (entries_answer table first s n ≡ Done → i < n → entry_answer table first s i ≡ Done) → entry_answer table first s i ≡ Done
      go (yes e) both earlier = ap (entry_answer table first s) e ∙ both.1
      go (no ne) both earlier = earlier both.0 (omega (arith, ne))

  pub entries_all : (n : ℕ) → ((i : ℕ) → i < n → entry_answer table first s i ≡ Done) → entries_answer table first s n ≡ Done
  unfolding entries_answer
  entries_all zero h = refl
  entries_all (suc n) h = let front = entries_all n (λ i l. h i (omega arith)) in rw (front, h n (omega arith))

  -- where the answer is a refusal, it is that of the first entry that is refused
  pub record FirstRefused (n : ℕ) (a : Answer) : Type 0 where
    pub entry : ℕ
    pub within : entry < n
    pub here : entry_answer table first s entry ≡ a
    pub before : (i : ℕ) → i < entry → entry_answer table first s i ≡ Done

  pub first_refused : (n : ℕ) → ¬ (entries_answer table first s n ≡ Done) → FirstRefused n (entries_answer table first s n)
  unfolding entries_answer
  first_refused zero r = absurd (r refl)
  first_refused (suc n) r = go (done? (entries_answer table first s n)) (first_refused n)
    where
      whole : Answer
      whole = then (entries_answer table first s n) (entry_answer table first s n)

      go : Dec (entries_answer table first s n ≡ Done)
          → (¬ (entries_answer table first s n ≡ Done) → FirstRefused n (entries_answer table first s n)) → FirstRefused (suc n) whole
      go (yes e) earlier =
          record {
            entry = n;
            within = omega arith;
            here = sym (ap (λ (a : Answer). then a (entry_answer table first s n)) e);
            before = entries_each n e;
          }
      go (no ne) earlier =
          let f = earlier ne in
          let w = f.within in
          record {
            entry = f.entry;
            within = omega arith;
            here = f.here ∙ sym (then_refused (entries_answer table first s n) (entry_answer table first s n) ne);
            before = f.before;
          }

  -- ---- operators and predicates, by the test that tells them apart

  pub entry_operator : (i : ℕ) → is_between 1 (kind_of first s i) 3 ≡ true → entry_answer table first s i ≡ Done
  unfolding entry_answer shape_of
  entry_operator i h = let b = between_told 1 (kind_of first s i) 3 h in go (kind_of first s i) b.0 b.1 _
    where
      go : (k : ℕ) → 1 ≤ k → k ≤ 3 → (a : Answer) → standing (shape_of k) a ≡ Done
      go zero l u a = absurd (omega arith)
      go (suc zero) l u a = refl
      go (suc (suc zero)) l u a = refl
      go (suc (suc (suc zero))) l u a = refl
      go (suc (suc (suc (suc k)))) l u a = absurd (omega arith)

  pub entry_predicate : (i : ℕ) → is_between 1 (kind_of first s i) 3 ≡ false
      → entry_answer table first s i ≡ suit_answer table (field_of first s i 1) (kind_of first s i) (tag_of first s i)
  unfolding entry_answer
  entry_predicate i h = rw (shape_stands (kind_of first s i) h)

  -- ---- the tree

  module _ (n : ℕ) where
    abbrev Suits : ℕ → Type 0
    Suits i = Suited table (predicate_of first s n i)

    entry_suits : (i : ℕ) → shape_of (kind_of first s i) ≡ Stands → entry_answer table first s i ≡ Done → Suits i
    unfolding entry_answer suit_answer entry_of predicate_as
    entry_suits i h e =
        go (ltb (field_of first s i 1) (attributesIn table))
        (suits_of (kindNumbered (kind_of first s i)) (tag_of first s i) (kind_at table (field_of first s i 1))) refl refl (rw h at e)
      where
        go : (a b : Bool) → ltb (field_of first s i 1) (attributesIn table) ≡ a
            → suits_of (kindNumbered (kind_of first s i)) (tag_of first s i) (kind_at table (field_of first s i 1)) ≡ b
            → cond a (cond b Done (Refused NotSuited)) (Refused NoAttribute) ≡ Done → Suits i
        go true true e f h = record { known = ltb-true _ _ e; suits = f }
        go true false e f h = absurd (let z : ◌≡◌ {A = ℕ} 0 1 = cc in omega arith)
        go false b e f h = absurd (let z : ◌≡◌ {A = ℕ} 0 1 = cc in omega arith)

    pub leaves_suit : (t : Tree ℕ) (i j : ℕ) → Spells first s t i j → j ≤ n → entries_answer table first s n ≡ Done → Leaves Suits t
    unfolding Spells
    leaves_suit (Value p) i j h l d =
        let one = h.1 in
        subst Suits (sym h.0) (entry_suits i h.2 (entries_each n d i (omega arith)))
    leaves_suit (Not a) i j h l d = leaves_suit a (i + 1) j h.1 l d
    leaves_suit (Join o a b) i j h l d =
        let e = spells_size first s b h.0 j h.3 in
        (leaves_suit a (i + 1) h.0 h.2 (omega arith) d, leaves_suit b h.0 j h.3 l d)

    suits_entry : (i : ℕ) → shape_of (kind_of first s i) ≡ Stands → Suits i → entry_answer table first s i ≡ Done
    unfolding entry_answer suit_answer entry_of predicate_as
    suits_entry i h q = rw (h, lt-ltb (field_of first s i 1) (attributesIn table) q.known, q.suits)

    -- every entry of a tree whose leaves suit
    suit_each : (t : Tree ℕ) (i j : ℕ) → Spells first s t i j → Leaves Suits t → Range (λ k. entry_answer table first s k ≡ Done) i j
    unfolding Spells entry_answer
    suit_each (Value p) i j h q =
        rw h.1 (range_one (λ k. entry_answer table first s k ≡ Done) i (suits_entry i h.2 (subst Suits h.0 q)))
    suit_each (Not a) i j h q = range_more i j (rw h.0) (suit_each a (i + 1) j h.1 q)
    suit_each (Join o a b) i j h q =
        range_more i j (rw h.1)
        (range_join (i + 1) h.0 j (suit_each a (i + 1) h.0 h.2 q.0) (suit_each b h.0 j h.3 q.1))

    pub suit_leaves : (t : Tree ℕ) → Spells first s t 0 n → Leaves Suits t → entries_answer table first s n ≡ Done
    suit_leaves t h q = entries_all n (λ k l. suit_each t 0 n h q k (omega arith) l)

-- what a loop over the entries needs
pub ruleset suiting_steps = (entries_none, entries_more)
