-- Laws of values.
--     up_to, to_up        a number from 0 to a limit, as a natural number
--     value_none          a number of no kind stands for no value
--     words_settled       a list of words stays one when it is sorted and made distinct
-- Assumes nothing.
use Rattle.std.specs.Prelude.{◌≡◌, refl, Bool, true, false, cond, List, [], ◌∷◌, ℕ, ◌≤◌, ℤ, pos, negsuc}
use Rattle.std.proofs.Common.{sym, true≢false, arith, ne_eqb, leb-true, le-leb}
use Rattle.std.specs.Int.Signed.{lt_z}
use Rattle.lists.specs.AndLaws.{and_left, and_right, and_both}
use Rattle.lists.specs.Sets.{eq_z, placed, settled}
use Rattle.attributes.specs.declared.AttributeKind.TheVariants as kind
use Rattle.attributes.specs.Kinds.{kind_number}
use Rattle.events.specs.declared.AttributeValue.TheVariants.{Undefined}
use Rattle.events.specs.Values.{is_up_to, is_word, all_words, value_of}

-- ---- ranges

pub up_to : (x : ℤ) (limit : ℕ) → is_up_to x (pos limit) ≡ true → (n : ℕ) × (x ≡ pos n) × (n ≤ limit)
unfolding is_up_to
up_to (pos n) limit h = (n, refl, leb-true n limit (and_right _ _ h))
up_to (negsuc n) limit h = absurd (true≢false (sym (and_left _ _ h)))

pub to_up : (n limit : ℕ) → n ≤ limit → is_up_to (pos n) (pos limit) ≡ true
unfolding is_up_to
to_up n limit h = and_both _ _ (le-leb 0 n (omega arith)) (le-leb n limit h)

-- ---- the value of a place

pub value_none : (k : ℕ) (x : ℤ) (s : ℕ) → (k ≡ kind_number kind.Boolean → ⊥) → (k ≡ kind_number kind.Integer → ⊥)
    → (k ≡ kind_number kind.Float → ⊥) → (k ≡ kind_number kind.String → ⊥) → (k ≡ kind_number kind.IntegerList → ⊥)
    → (k ≡ kind_number kind.StringList → ⊥) → value_of k x s ≡ Undefined
unfolding value_of
value_none k x s b i f w l m = rw (ne_eqb _ _ b, ne_eqb _ _ i, ne_eqb _ _ f, ne_eqb _ _ w, ne_eqb _ _ l, ne_eqb _ _ m)

-- ---- lists of words

words_placed : (x : ℤ) (l : List ℤ) → is_word x ≡ true → all_words l ≡ true → all_words (placed x l) ≡ true
unfolding all_words placed
words_placed x [] h k = and_both _ _ h refl
words_placed x (y ∷ l) h k = go (lt_z y x) (eq_z x y) (words_placed x l h (and_right _ _ k))
  where
    go : (t u : Bool) → all_words (placed x l) ≡ true → all_words (cond t (y ∷ placed x l) (cond u (y ∷ l) (x ∷ y ∷ l))) ≡ true
    go true u r = and_both _ _ (and_left _ _ k) r
    go false true r = k
    go false false r = and_both _ _ h k

pub words_settled : (l : List ℤ) → all_words l ≡ true → all_words (settled l) ≡ true
unfolding all_words settled
words_settled [] h = refl
words_settled (x ∷ l) h = words_placed x (settled l) (and_left _ _ h) (words_settled l (and_right _ _ h))
