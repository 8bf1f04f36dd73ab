-- Laws of the marking pass.
--   roots_marked      the roots are marked
--   children_marked   the children of a marked part are marked
--   marked_why        what is marked is a root or a child of a marked part
--   mark_last, mark_step   the pass by number
-- Assumes nothing.
use Rattle.std.specs.Prelude.{◌≡◌, refl, ◌⊎◌, Bool, true, false, List, [], ◌∷◌, ℕ, zero, suc, ◌+◌, ◌≤◌, ◌<◌, length, get_or, set, drop}
use Rattle.std.specs.Prelude.{replicate}
use Rattle.std.proofs.Common.{ap, sym, ◌∙◌, subst, inl, inr, lt_of_lt_of_le, zero-add, arith, length-set, get_or-set_same}
use Rattle.std.proofs.Common.{get_or-set_other, drop-cons}
use Rattle.std.proofs.Math.Decide.{ℕ_discrete}
use Rattle.std.proofs.lemmas.List.{length-replicate}
use Rattle.std.proofs.Math.Seq.{drop-length}
use Rattle.evaluation.specs.declared.Operator.TheVariants.{Or}
use Rattle.lists.specs.Places.{All, none, both, Any}
use Rattle.lists.proofs.PlacesLaws.{all_map, all_self}
use Rattle.lists.specs.Sift.{Marked}
use Rattle.lists.proofs.SiftLaws.{unmarked}
use Rattle.model.specs.Parts.{Part, over, children_of, part_at, Below, Ordered}
use Rattle.model.specs.Marks.{mark_all, mark_children, mark, marks_of}

-- all that is marked has P
abbrev MarkedHave : List Bool → (ℕ → Type 0) → Type 0
MarkedHave m P = (i : ℕ) → Marked m i → P i

-- ---- one mark

-- a mark after a store is the one stored, or one from before
set_from : (m : List Bool) (c i : ℕ) → Marked (set m c true) i → (i ≡ c) ⊎ Marked m i
set_from m c i h = elim (ℕ_discrete i c) [ yes e ↦ inl e | no n ↦ inr (sym (get_or-set_other m c i true false n) ∙ h) ]

set_keeps : (m : List Bool) (c i : ℕ) → Marked m i → Marked (set m c true) i
set_keeps [] c i h = h
set_keeps (b ∷ m) zero zero h = refl
set_keeps (b ∷ m) zero (suc i) h = h
set_keeps (b ∷ m) (suc c) zero h = h
set_keeps (b ∷ m) (suc c) (suc i) h = set_keeps m c i h

-- ---- several

all_length : (cs : List ℕ) (m : List Bool) → length (mark_all cs m) ≡ length m
all_length [] m = refl
all_length (c ∷ cs) m = all_length cs (set m c true) ∙ length-set m c true

all_keeps : (cs : List ℕ) (m : List Bool) (i : ℕ) → Marked m i → Marked (mark_all cs m) i
all_keeps [] m i h = h
all_keeps (c ∷ cs) m i h = all_keeps cs (set m c true) i (set_keeps m c i h)

all_marks : (cs : List ℕ) (m : List Bool) → All (λ c. c < length m) cs → All (Marked (mark_all cs m)) cs
all_marks [] m h = none
all_marks (c ∷ cs) m (both k h) =
    both (all_keeps cs (set m c true) c (get_or-set_same m c true false k))
    (all_marks cs (set m c true) (all_map (λ d q. subst (λ n. d < n) (sym (length-set m c true)) q) h))

all_from : {P : ℕ → Type 0} (cs : List ℕ) (m : List Bool) → All P cs → MarkedHave m P → MarkedHave (mark_all cs m) P
all_from [] m h k = k
all_from {P} (c ∷ cs) m (both p h) k = all_from cs (set m c true) h (λ j r. go j (set_from m c j r))
  where
    go : (j : ℕ) → (j ≡ c) ⊎ Marked m j → P j
    go j (inl e) = subst P (sym e) p
    go j (inr r) = k j r

-- numbers from n on are left alone where the children are below n
all_above : (cs : List ℕ) (m : List Bool) (n i : ℕ) → All (λ c. c < n) cs → n ≤ i → get_or (mark_all cs m) i false ≡ get_or m i false
all_above [] m n i h k = refl
all_above (c ∷ cs) m n i (both q h) k = all_above cs (set m c true) n i h k ∙ get_or-set_other m c i true false (omega arith)

-- ---- a part's children

module _ (b : Bool) (p : Part) (m : List Bool) where
  children_length : length (mark_children b p m) ≡ length m
  children_length = go b
    where
      go : (b : Bool) → length (mark_children b p m) ≡ length m
      go false = refl
      go true = all_length (children_of p) m

  children_keep : (i : ℕ) → Marked m i → Marked (mark_children b p m) i
  children_keep i h = go b
    where
      go : (b : Bool) → Marked (mark_children b p m) i
      go false = h
      go true = all_keeps (children_of p) m i h

  children_above : (n i : ℕ) → Below n p → n ≤ i → get_or (mark_children b p m) i false ≡ get_or m i false
  children_above n i h k = go b
    where
      go : (b : Bool) → get_or (mark_children b p m) i false ≡ get_or m i false
      go false = refl
      go true = all_above (children_of p) m n i h k

  children_mark : (n : ℕ) → Below n p → n ≤ length m → b ≡ true → All (Marked (mark_children b p m)) (children_of p)
  children_mark n h k e =
      subst (λ c. All (Marked (mark_children c p m)) (children_of p)) (sym e)
      (all_marks (children_of p) m (all_map (λ c q. lt_of_lt_of_le q k) h))

  children_from_lem : {P : ℕ → Type 0} → (b ≡ true → All P (children_of p)) → MarkedHave m P → MarkedHave (mark_children b p m) P
  children_from_lem {P} h k i q = go b refl q
    where
      go : (c : Bool) → b ≡ c → Marked (mark_children c p m) i → P i
      go false e r = k i r
      go true e r = all_from (children_of p) m (h e) k i r

-- ---- the pass

mark_length : (n : ℕ) (ps : List Part) (m : List Bool) → length (mark n ps m) ≡ length m
mark_length n [] m = refl
mark_length n (p ∷ ps) m = let l = mark (suc n) ps m in children_length (get_or l n false) p l ∙ mark_length (suc n) ps m

mark_keeps : (n : ℕ) (ps : List Part) (m : List Bool) (i : ℕ) → Marked m i → Marked (mark n ps m) i
mark_keeps n [] m i h = h
mark_keeps n (p ∷ ps) m i h = let l = mark (suc n) ps m in children_keep (get_or l n false) p l i (mark_keeps (suc n) ps m i h)

-- the children of marked parts are marked
mark_closed : (n : ℕ) (ps : List Part) (m : List Bool) → Ordered n ps → n + length ps ≤ length m
    → (j : ℕ) → j < length ps → Marked (mark n ps m) (n + j) → All (Marked (mark n ps m)) (children_of (part_at ps j))
mark_closed n [] m o h j k q = absurd (omega arith)
mark_closed n (p ∷ ps) m o h zero k q =
    let l = mark (suc n) ps m in
    let b = get_or l n false in
    let q' : Marked (mark_children b p l) n = subst (λ i. Marked (mark_children b p l) i) (omega arith) q in
    children_mark b p l n o.0 (omega (arith, mark_length (suc n) ps m)) (sym (children_above b p l n n o.0 (omega arith)) ∙ q')
mark_closed n (p ∷ ps) m o h (suc j) k q =
    let l = mark (suc n) ps m in
    let b = get_or l n false in
    let r : Marked l (n + suc j) = sym (children_above b p l n (n + suc j) o.0 (omega arith)) ∙ q in
    let q' : Marked l (suc n + j) = subst (λ i. Marked l i) (omega arith) r in
    all_map (λ c r. children_keep b p l c r) (mark_closed (suc n) ps m o.1 (omega arith) j (omega arith) q')

-- what is marked before has P, and what marked parts hand on has P; `all` are the marks at the end
mark_from : {P : ℕ → Type 0} (all : List Bool) (n : ℕ) (ps : List Part) (m : List Bool) → MarkedHave (mark n ps m) (Marked all)
    → ((j : ℕ) → j < length ps → Marked all (n + j) → All P (children_of (part_at ps j))) → MarkedHave m P → MarkedHave (mark n ps m) P
mark_from all n [] m u h k = k
mark_from {P} all n (p ∷ ps) m u h k =
    let l = mark (suc n) ps m in
    let b = get_or l n false in
    let before : MarkedHave l (Marked all) = λ i q. u i (children_keep b p l i q) in
    let later : (j : ℕ) → j < length ps → Marked all (suc n + j) → All P (children_of (part_at ps j)) =
    λ j r q. h (suc j) (omega arith) (subst (λ i. Marked all i) (omega arith) q) in
    children_from_lem b p l (λ e. h zero (omega arith) (subst (λ i. Marked all i) (omega arith) (before n e)))
    (mark_from all (suc n) ps m before later k)

-- the pass as a loop takes it, from the last number down
pub mark_last : (ps : List Part) (m : List Bool) → mark (length ps) (drop (length ps) ps) m ≡ m
mark_last ps m = ap (λ (l : List Part). mark (length ps) l m) (drop-length ps)

pub mark_step : (ps : List Part) (m : List Bool) (k : ℕ) → k < length ps
    → mark k (drop k ps) m ≡ (let l = mark (suc k) (drop (suc k) ps) m in mark_children (get_or l k false) (part_at ps k) l)
mark_step ps m k h = ap (λ (l : List Part). mark k l m) (drop-cons ps k (over Or []) h)

-- ---- from the roots

none_marked : (n i : ℕ) → ¬ Marked (replicate n false) i
none_marked zero i h = unmarked h
none_marked (suc n) zero h = unmarked h
none_marked (suc n) (suc i) h = none_marked n i h

module _ (ps : List Part) (roots : List ℕ) where
  abbrev marks : List Bool
  marks = marks_of ps roots

  abbrev start : List Bool
  start = mark_all roots (replicate (length ps) false)

  start_length : length start ≡ length ps
  start_length = all_length roots (replicate (length ps) false) ∙ length-replicate (length ps) false

  pub roots_marked : All (λ r. r < length ps) roots → All (Marked marks) roots
  roots_marked h =
      all_map (λ r q. mark_keeps zero ps start r q)
      (all_marks roots (replicate (length ps) false) (all_map (λ r q. subst (λ n. r < n) (sym (length-replicate (length ps) false)) q) h))

  pub children_marked : Ordered zero ps → (i : ℕ) → i < length ps → Marked marks i → All (Marked marks) (children_of (part_at ps i))
  children_marked o i h q =
      mark_closed zero ps start o (omega (arith, start_length)) i h (subst (λ j. Marked marks j) (sym (zero-add i)) q)

  -- i is a child of a marked part
  abbrev pub NeededBelow : ℕ → Type 0
  NeededBelow i = (j : ℕ) × (j < length ps) × Marked marks j × Any (λ c. i ≡ c) (children_of (part_at ps j))

  pub marked_why : (i : ℕ) → Marked marks i → Any (λ r. i ≡ r) roots ⊎ NeededBelow i
  marked_why =
      mark_from marks zero ps start (λ i q. q)
      (λ j h q. all_map (λ c a. inr (j, h, subst (λ i. Marked marks i) (zero-add j) q, a)) (all_self (children_of (part_at ps j))))
      (all_from roots (replicate (length ps) false) (all_map (λ r a. inl a) (all_self roots)) (λ i q. absurd (none_marked (length ps) i q)))
