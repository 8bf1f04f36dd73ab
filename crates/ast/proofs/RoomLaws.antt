-- Laws of room. The counts depend on which rules are live and on nothing else: any list of parts without repeats that covers exactly the
-- subexpressions of the rules adds up to them. With more rules they are no less, and no more than the counts of these and of those added.
-- Assumes nothing.
use Rattle.std.specs.Prelude.{◌≡◌, ℕ, ◌+◌, ◌≤◌, length}
use Rattle.std.proofs.Math.Path.{refl, ap}
use Rattle.std.proofs.Common.{sym, ◌∙◌, subst, le_of_eq, arith, length-append}
use mathlib.Core.List.{List, [], ◌∷◌, ◌++◌, flat_map, append_assoc}
use Rattle.lists.specs.Places.{sum, Distinct}
use Rattle.lists.proofs.PlacesLaws.{sum_append, sum_one}
use Rattle.lists.proofs.BagLaws.{bag_length}
use Rattle.lists.specs.Counting.{Cover}
use Rattle.lists.proofs.CountingLaws.{cover_refl, cover_trans, cover_right, cover_append}
use Rattle.lists.proofs.CountingLaws.{sum_le, dedup_distinct, dedup_all, dedup_only, counting}
use Rattle.ast.specs.Trees.{Flat, leaf, node}
use Rattle.ast.specs.Same.{Same, same?}
use Rattle.ast.proofs.SameLaws.{same_node, same_equivalence}
use Rattle.ast.specs.Parts.{subexpressions, subexpressions_of}
use Rattle.ast.proofs.PartsLaws.{rules_covered}
use Rattle.ast.specs.Room.{Counts, places_of, elements_of, parts_of, counts_over, counts_of, Within, together}

-- ---- what a part takes, the same of the same parts

module _ {Q : Type 0} where
  places_same : (f g : Flat Q) → Same f g → places_of f ≡ places_of g
  unfolding Same
  places_same (leaf p) (leaf q) s = refl
  places_same (leaf p) (node o gs) s = absurd s
  places_same (node o fs) (leaf q) s = absurd s
  places_same (node o fs) (node o' gs) s = bag_length ((same_node o o' fs gs).0 s).1

  elements_same : (list_length : Q → ℕ) (f g : Flat Q) → Same f g → elements_of list_length f ≡ elements_of list_length g
  unfolding Same
  elements_same list_length (leaf p) (leaf q) s = ap list_length s
  elements_same list_length (leaf p) (node o gs) s = absurd s
  elements_same list_length (node o fs) (leaf q) s = absurd s
  elements_same list_length (node o fs) (node o' gs) s = refl

-- ---- the counts over two lists of parts

-- R holds between the sums of every f that is the same of the same parts
abbrev Sums : {Q : Type 0} → (ℕ → ℕ → Type 0) → List (Flat Q) → List (Flat Q) → Type 0
Sums {Q = Q} R ps qs = (f : Flat Q → ℕ) → ((x y : Flat Q) → Same x y → f x ≡ f y) → R (sum f ps) (sum f qs)

module _ {Q : Type 0} where
  sum_length : (ps : List (Flat Q)) → sum (λ f. 1) ps ≡ length ps
  sum_length ps = sum_one (λ f. 1) (λ f. refl) ps

  module _ (list_length : Q → ℕ) (ps qs : List (Flat Q)) where
    counts_equal : (n : ℕ) → Sums ◌≡◌ ps qs → counts_over list_length n ps ≡ counts_over list_length n qs
    counts_equal n h =
        let e : length ps ≡ length qs = omega (arith, h (λ f. 1) (λ x y s. refl), sum_length ps, sum_length qs) in
        let p = h places_of places_same in
        let l = h (elements_of list_length) (elements_same list_length) in
        cc

    counts_most : {n m : ℕ} → n ≤ m → Sums ◌≤◌ ps qs → Within (counts_over list_length n ps) (counts_over list_length m qs)
    counts_most k h = record {
      rules = k;
      parts = omega (arith, h (λ f. 1) (λ x y s. refl), sum_length ps, sum_length qs);
      places = h places_of places_same;
      elements = h (elements_of list_length) (elements_same list_length);
    }

    counts_append : (n m : ℕ)
        → counts_over list_length (n + m) (ps ++ qs) ≡ together (counts_over list_length n ps) (counts_over list_length m qs)
    counts_append n m =
        let e = length-append ps qs in
        let p = sum_append places_of ps qs in
        let l = sum_append (elements_of list_length) ps qs in
        cc

-- ---- the parts and the counts of the live rules

flat_map_append : {A B : Type 0} (g : A → List B) (l m : List A) → flat_map g (l ++ m) ≡ flat_map g l ++ flat_map g m
unfolding flat_map
flat_map_append g [] m = refl
flat_map_append {B = B} g (x ∷ l) m =
    ap (λ (k : List B). g x ++ k) (flat_map_append g l m) ∙ sym (append_assoc (g x) (flat_map g l) (flat_map g m))

module _ {Q : Type 0} (equal? : (p q : Q) → Dec (p ≡ q)) where
  -- no two parts are the same, each is a subexpression of a rule, and each subexpression of a rule is one of them
  pub parts_distinct : (rules : List (Flat Q)) → Distinct Same (parts_of equal? rules)
  parts_distinct rules = dedup_distinct same_equivalence (same? equal?) (subexpressions_of rules)

  pub parts_only : (rules : List (Flat Q)) → Cover Same (parts_of equal? rules) (subexpressions_of rules)
  parts_only rules = dedup_only same_equivalence (same? equal?) (subexpressions_of rules)

  pub parts_all : (rules : List (Flat Q)) → Cover Same (subexpressions_of rules) (parts_of equal? rules)
  parts_all rules = dedup_all same_equivalence (same? equal?) (subexpressions_of rules)

  module _ (list_length : Q → ℕ) where
    abbrev counts : List (Flat Q) → Counts
    counts rules = counts_of equal? list_length rules

    -- the law of counting: any list of parts that is so has the counts of the n rules
    pub counting_law : (n : ℕ) (ps rules : List (Flat Q)) → Distinct Same ps
        → Cover Same ps (subexpressions_of rules) → Cover Same (subexpressions_of rules) ps
        → counts_over list_length n ps ≡ counts_over list_length n (parts_of equal? rules)
    counting_law n ps rules d h k =
        counts_equal list_length ps (parts_of equal? rules) n (λ f same. counting same_equivalence (same? equal?) f same d h k)

    -- the counts of n rules are settled by which rules are live: neither order nor repeats matter
    pub counts_same : (n : ℕ) (rules rules' : List (Flat Q)) → Cover Same rules rules' → Cover Same rules' rules
        → counts_over list_length n (parts_of equal? rules) ≡ counts_over list_length n (parts_of equal? rules')
    counts_same n rules rules' h k =
        let forth = cover_trans same_equivalence (parts_only rules) (rules_covered h) in
        let back = cover_trans same_equivalence (rules_covered k) (parts_all rules) in
        counting_law n (parts_of equal? rules) rules' (parts_distinct rules) forth back

    -- rules among others count no more than the others
    pub counts_among : (rules rules' : List (Flat Q)) → Cover Same rules rules' → length rules ≤ length rules'
        → Within (counts rules) (counts rules')
    counts_among rules rules' h k =
        let ps = parts_of equal? rules in
        let qs = parts_of equal? rules' in
        let within = cover_trans same_equivalence (cover_trans same_equivalence (parts_only rules) (rules_covered h)) (parts_all rules') in
        counts_most list_length ps qs k (λ f same. sum_le same_equivalence f same (parts_distinct rules) within)

    -- these rules and those count no more than these alone and those alone added
    pub counts_beside : (rules rules' : List (Flat Q)) → Within (counts (rules ++ rules')) (together (counts rules) (counts rules'))
    counts_beside rules rules' =
        let all = rules ++ rules' in
        let ps = parts_of equal? rules in
        let qs = parts_of equal? rules' in
        let apart = cover_append (parts_all rules) (parts_all rules') in
        let whole = subst (λ l. Cover Same l (ps ++ qs)) (sym (flat_map_append subexpressions rules rules')) apart in
        let within = cover_trans same_equivalence (parts_only all) whole in
        let many = le_of_eq (length-append rules rules') in
        let less : Sums ◌≤◌ (parts_of equal? all) (ps ++ qs) = λ f same. sum_le same_equivalence f same (parts_distinct all) within in
        let most = counts_most list_length (parts_of equal? all) (ps ++ qs) many less in
        subst (λ c. Within (counts all) c) (counts_append list_length ps qs (length rules) (length rules')) most

    -- with one rule more the counts are at least what they were, and at most that and the counts of the rule alone
    pub one_more : (r : Flat Q) (rules : List (Flat Q))
        → Within (counts rules) (counts (r ∷ rules)) × Within (counts (r ∷ rules)) (together (counts (r ∷ [])) (counts rules))
    one_more r rules =
        let among = cover_right (r ∷ []) (cover_refl same_equivalence rules) in
        (counts_among rules (r ∷ rules) among (omega arith), counts_beside (r ∷ []) rules)
