-- Where nothing is refused for room, each owner is answered as if its calls were the only ones, and what is live under an id is as its
-- owner's calls alone leave it. So two merges tell each owner the same, call by call (`merged_answers`), and end with the same sheets under
-- the same ids (`merged_live`). Assumes nothing.
use Rattle.std.specs.Prelude.{◌≡◌, Bool, true, false, cond, eqb}
use Rattle.std.proofs.Math.Path.{refl, ap₂}
use Rattle.std.proofs.Common.{ap, sym, ◌∙◌, subst}
use Rattle.std.proofs.Math.Option.{Option, some}
use mathlib.Core.List.{List, [], ◌∷◌}
use Prim.Native.Nat.{ℕ}
use Rattle.std.proofs.Math.Decide.{ℕ_discrete}
use Rattle.error.specs.Answers.{Answer, number}
use Rattle.lists.specs.Places.{All, none, both, Any, here, there}
use Rattle.lists.proofs.PlacesLaws.{all_map, all_both, all_self}
use Rattle.model.specs.Rules.{Rule, whether, lookup}
use Rattle.model.specs.RulesLaws.{lookup_without}
use Rattle.histories.specs.Calls.{Act, insert, delete, Call, Told, Machine, answer_of, unless, next, run, end}
use Rattle.histories.proofs.CallsLaws.{Each, Follows, roomy_answer, run_alike, end_alike}
use Rattle.histories.specs.Live.{live_change, lives}
use Rattle.histories.specs.Owners.{pick, calls_of, told_of, Merges, Apart, Roomy}

-- ---- what is live as a function of the id, with room for everything

abbrev leaves : {S : Type 0} → Act S → Option S
leaves (insert s) = some s
leaves delete = Option.none

abbrev ideal : {S : Type 0} → (S → Answer) → Machine (ℕ → Option S) S
ideal refuses = record {
  answer = λ m c. answer_of refuses (m c.id) (λ s. true) c.act;
  changed = λ m c j. whether (ℕ_discrete c.id j) (leaves c.act) (m j);
}

unless_at : {A B : Type 0} (a : Answer) (f g : A → B) (x : A) → unless a f g x ≡ unless a (f x) (g x)
unless_at {A} {B} a f g x = go (eqb (number a) 0)
  where
    go : (b : Bool) → cond b f g x ≡ cond b (f x) (g x)
    go true = refl
    go false = refl

unless_same : {A : Type 0} (a : Answer) (x : A) → unless a x x ≡ x
unless_same {A} a x = go (eqb (number a) 0)
  where
    go : (b : Bool) → cond b x x ≡ x
    go true = refl
    go false = refl

module _ {S : Type 0} (refuses : S → Answer) where
  abbrev after : (ℕ → Option S) → Call S → ℕ → Option S
  after m c = next (ideal refuses) m c

  -- what stands under j after a call
  after_at : (m : ℕ → Option S) (c : Call S) (j : ℕ)
      → after m c j ≡ unless ((ideal refuses).answer m c) (whether (ℕ_discrete c.id j) (leaves c.act) (m j)) (m j)
  after_at m c j = unless_at ((ideal refuses).answer m c) ((ideal refuses).changed m c) m j

  same_answer : (m n : ℕ → Option S) (c : Call S) → m c.id ≡ n c.id → (ideal refuses).answer m c ≡ (ideal refuses).answer n c
  same_answer m n c e = ap (λ (o : Option S). answer_of refuses o (λ s. true) c.act) e

  -- a call under another id leaves what stands under j
  after_other : (m : ℕ → Option S) (c : Call S) (j : ℕ) → ¬ (c.id ≡ j) → after m c j ≡ m j
  after_other m c j d = after_at m c j ∙ go (ℕ_discrete c.id j)
    where
      go : (x : Dec (c.id ≡ j)) → unless ((ideal refuses).answer m c) (whether x (leaves c.act) (m j)) (m j) ≡ m j
      go (yes e) = absurd (d e)
      go (no n) = unless_same ((ideal refuses).answer m c) (m j)

  -- ---- an owner alone

  module _ (own : ℕ → ℕ) where
    -- m and n agree under the ids of owner o
    abbrev Agree : ℕ → (ℕ → Option S) → (ℕ → Option S) → Type 0
    Agree o m n = (j : ℕ) → own j ≡ o → m j ≡ n j

    agree_step : (o : ℕ) (m n : ℕ → Option S) (c : Call S) → m c.id ≡ n c.id → Agree o m n → Agree o (after m c) (after n c)
    agree_step o m n c e h j k =
        after_at m c j
        ∙ ap₂ (λ (a : Answer) (x : Option S). unless a (whether (ℕ_discrete c.id j) (leaves c.act) x) x) (same_answer m n c e) (h j k)
        ∙ sym (after_at n c j)

    agree_skip : (o : ℕ) (m n : ℕ → Option S) (c : Call S) → own c.id ≡ c.owner → ¬ (c.owner ≡ o) → Agree o m n → Agree o (after m c) n
    agree_skip o m n c w d h j k = after_other m c j (λ e. d (sym w ∙ ap own e ∙ k)) ∙ h j k

    -- each call is under an id of its owner
    abbrev Owned : List (Call S) → Type 0
    Owned l = All (λ c. own c.id ≡ c.owner) l

    alone : (o : ℕ) (m n : ℕ → Option S) (l : List (Call S)) → Owned l → Agree o m n
        → told_of o (run (ideal refuses) m l) ≡ run (ideal refuses) n (calls_of o l)
    unfolding pick
    alone o m n [] w h = refl
    alone o m n (c ∷ l) (both v w) h =
        go (ℕ_discrete c.owner o) (told_of o (run (ideal refuses) (after m c) l)) (λ x k. alone o (after m c) x l w k)
      where
        go : (d : Dec (c.owner ≡ o)) (later : List (Told S))
            → ((x : ℕ → Option S) → Agree o (after m c) x → later ≡ run (ideal refuses) x (calls_of o l))
            → whether d (record { call = c; answer = (ideal refuses).answer m c } ∷ later) later
            ≡ run (ideal refuses) n (whether d (c ∷ calls_of o l) (calls_of o l))
        go (yes e) later ih =
            let q = h c.id (v ∙ e) in
            ap₂ (λ (a : Answer) (ts : List (Told S)). record { call = c; answer = a } ∷ ts) (same_answer m n c q)
            (ih (after n c) (agree_step o m n c q h))
        go (no d) later ih = ih n (agree_skip o m n c v d h)

    alone_end : (o : ℕ) (m n : ℕ → Option S) (l : List (Call S)) → Owned l → Agree o m n
        → Agree o (end (ideal refuses) m l) (end (ideal refuses) n (calls_of o l))
    unfolding pick
    alone_end o m n [] w h = h
    alone_end o m n (c ∷ l) (both v w) h =
        go (ℕ_discrete c.owner o) (end (ideal refuses) (after m c) l) (λ x k. alone_end o (after m c) x l w k)
      where
        go : (d : Dec (c.owner ≡ o)) (last : ℕ → Option S)
            → ((x : ℕ → Option S) → Agree o (after m c) x → Agree o last (end (ideal refuses) x (calls_of o l)))
            → Agree o last (end (ideal refuses) n (whether d (c ∷ calls_of o l) (calls_of o l)))
        go (yes e) last ih = ih (after n c) (agree_step o m n c (h c.id (v ∙ e)) h)
        go (no d) last ih = ih n (agree_skip o m n c v d h)

-- ---- the live rules are such a function, as long as there is room

module _ {S : Type 0} (refuses : S → Answer) (room : List (Rule S) → S → Bool) where
  -- the live rules under each id
  abbrev Under : List (Rule S) → (ℕ → Option S) → Type 0
  Under live m = (j : ℕ) → lookup j live ≡ m j

  under_answer : (live : List (Rule S)) (m : ℕ → Option S) (c : Call S) → Under live m → Roomy ((lives refuses room).answer live c)
      → (lives refuses room).answer live c ≡ (ideal refuses).answer m c
  under_answer live m c h r =
      roomy_answer refuses (lookup c.id live) (room live) c.act r
      ∙ ap (λ (o : Option S). answer_of refuses o (λ s. true) c.act) (h c.id)

  under_change : (live : List (Rule S)) (i : ℕ) (act : Act S) (j : ℕ)
      → lookup j (live_change live i act) ≡ whether (ℕ_discrete i j) (leaves act) (lookup j live)
  unfolding lookup
  under_change live i (insert s) j = refl
  under_change live i delete j = lookup_without i j live

  ideal_follows : Follows (lives refuses room) (ideal refuses) Under Roomy
  ideal_follows = record {
    answers = under_answer;
    changes = λ live m c h e j. under_change live c.id c.act j ∙ ap (whether (ℕ_discrete c.id j) (leaves c.act)) (h j);
  }

-- ---- disjoint ids give each id its owner, and two merges have the same calls

owner_of : {S : Type 0} → List (Call S) → ℕ → ℕ
owner_of [] i = 0
owner_of (c ∷ l) i = whether (ℕ_discrete c.id i) c.owner (owner_of l i)

owner_of_lem : {S : Type 0} (c : Call S) (l : List (Call S)) → All (λ d. d.id ≡ c.id → d.owner ≡ c.owner) l → Any (λ d. c ≡ d) l
    → owner_of l c.id ≡ c.owner
unfolding owner_of
owner_of_lem {S} c [] h a = elim a [ ]
owner_of_lem {S} c (d ∷ l) (both h k) a = go (ℕ_discrete d.id c.id) a (λ b. owner_of_lem c l k b)
  where
    go : (x : Dec (d.id ≡ c.id)) → Any (λ d. c ≡ d) (d ∷ l) → (Any (λ d. c ≡ d) l → owner_of l c.id ≡ c.owner)
        → whether x d.owner (owner_of l c.id) ≡ c.owner
    go (yes e) b ih = h e
    go (no n) (here e) ih = absurd (n (sym (ap (λ (q : Call S). q.id) e)))
    go (no n) (there b) ih = ih b

owned : {S : Type 0} (l : List (Call S)) → Apart l → All (λ c. owner_of l c.id ≡ c.owner) l
owned l h = all_map (λ c k. owner_of_lem c l k.0 k.1) (all_both h (all_self l))

-- what each call of one merge has, each call of the other has
module _ {A : Type 0} {P : A → Type 0} (owner : A → ℕ) where
  all_pick : (o : ℕ) {l : List A} → All P l → All P (pick owner o l)
  unfolding pick
  all_pick o none = none
  all_pick o (both {x = x} {xs = l} p h) = go (ℕ_discrete (owner x) o) (all_pick o h)
    where
      go : (d : Dec (owner x ≡ o)) → All P (pick owner o l) → All P (whether d (x ∷ pick owner o l) (pick owner o l))
      go (yes e) ih = both p ih
      go (no n) ih = ih

  pick_all : (l : List A) → ((o : ℕ) → All P (pick owner o l)) → All P l
  unfolding pick
  pick_all [] h = none
  pick_all (x ∷ l) h =
      both (first _ (ℕ_discrete (owner x) (owner x)) (h (owner x))) (pick_all l (λ o. later _ (ℕ_discrete (owner x) o) (h o)))
    where
      first : (k : List A) (d : Dec (owner x ≡ owner x)) → All P (whether d (x ∷ k) k) → P x
      first k (yes e) (both p g) = p
      first k (no n) g = absurd (n refl)

      later : {Y : Type 0} (k : List A) (d : Dec Y) → All P (whether d (x ∷ k) k) → All P k
      later k (yes e) (both p g) = g
      later k (no n) g = g

module _ {S : Type 0} (refuses : S → Answer) (room : List (Rule S) → S → Bool) (live : List (Rule S)) where
  abbrev machine : Machine (List (Rule S)) S
  machine = lives refuses room

  abbrev start : ℕ → Option S
  start j = lookup j live

  module _ (own : ℕ → ℕ) (l : List (Call S)) (owns : All (λ c. own c.id ≡ c.owner) l) (roomy : Each Roomy (run machine live l)) where
    -- what an owner is told goes by its own calls alone
    told_alone : (o : ℕ) → told_of o (run machine live l) ≡ run (ideal refuses) start (calls_of o l)
    told_alone o =
        ap (told_of o) (run_alike (ideal_follows refuses room) live start l (λ j. refl) roomy)
        ∙ alone refuses own o start start l owns (λ j e. refl)

    -- and so does what is live under an id at the end
    left_alone : (i : ℕ) → lookup i (end machine live l) ≡ end (ideal refuses) start (calls_of (own i) l) i
    left_alone i =
        end_alike (ideal_follows refuses room) live start l (λ j. refl) roomy i
        ∙ alone_end refuses own (own i) start start l owns (λ j e. refl) i refl

  module _ (l l' : List (Call S)) (merges : Merges l l') (apart : Apart l) (roomy : Each Roomy (run machine live l))
      (roomy' : Each Roomy (run machine live l')) where
    owned_right : All (λ c. owner_of l c.id ≡ c.owner) l'
    owned_right =
        let owner : Call S → ℕ = λ c. c.owner in
        pick_all owner l' (λ o. subst (λ k. All (λ c. owner_of l c.id ≡ c.owner) k) (merges o) (all_pick owner o (owned l apart)))

    pub merged_answers : (o : ℕ) → told_of o (run machine live l) ≡ told_of o (run machine live l')
    merged_answers o =
        told_alone (owner_of l) l (owned l apart) roomy o
        ∙ ap (run (ideal refuses) start) (merges o)
        ∙ sym (told_alone (owner_of l) l' owned_right roomy' o)

    pub merged_live : (i : ℕ) → lookup i (end machine live l) ≡ lookup i (end machine live l')
    merged_live i =
        left_alone (owner_of l) l (owned l apart) roomy i
        ∙ ap (λ (k : List (Call S)). end (ideal refuses) start k i) (merges (owner_of l i))
        ∙ sym (left_alone (owner_of l) l' owned_right roomy' i)
