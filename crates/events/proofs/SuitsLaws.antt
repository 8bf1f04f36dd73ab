-- Laws of events that suit a table.
--     range_boolean, range_float, range_string, range_words, range_other    the range of a value, kind by kind
--     list_none, list_well                                                  the clauses of lists, of a value that is none and of one
--     place_undefined, place_other, place_list, place_range                 the test of one place, as the code comes to it
--     place_iff, suits_iff                                                  the tests hold exactly where the facts do
-- Assumes nothing.
use Rattle.std.specs.Prelude.{◌≡◌, refl, Bool, true, false, ◌||◌, ◌⊎◌, ◌↔◌, List, ℕ, ◌≤◌, eqb, leb, ℤ, pos}
use Rattle.std.proofs.Common.{sym, ◌∙◌, true≢false, inl, inr}
use borrow.Author.Tests.{eqb-true, eq-eqb, ne_eqb, leb-true, le-leb}
use Rattle.lists.specs.And.{◌and◌}
use Rattle.lists.specs.AndLaws.{true_and, and_true, and_left, and_right, and_first, and_second, and_skip, and_both}
use Rattle.lists.specs.Below.{all_below}
use Rattle.lists.specs.BelowLaws.{below_each, below_all}
use Rattle.lists.specs.Sets.{ascends, list_limit}
use Rattle.decimals.specs.Decimals.{scale_limit}
use Rattle.attributes.specs.declared.AttributeKind.TheVariants.{Boolean, Float, String, StringList}
use Rattle.attributes.specs.Kinds.{kind_number}
use Rattle.attributes.specs.Table.{count_of}
use Rattle.events.specs.declared.Event.{Event}
use Rattle.events.specs.Values.{undefined_number, is_list, is_up_to, is_word, all_words}
use Rattle.events.specs.Suits.{◌implies◌, list_suits, in_range, place_suits, suits_at, suits_of, PlaceSuits, Suits}

-- ---- what an implication says

implied : (a b : Bool) → a implies b ≡ true → a ≡ true → b ≡ true
unfolding ◌implies◌
implied true b h e = h
implied false b h e = absurd (true≢false (sym e))

implies_all : (a b : Bool) → (a ≡ true → b ≡ true) → a implies b ≡ true
unfolding ◌implies◌
implies_all true b f = f refl
implies_all false b f = refl

-- ---- the range of a value

module _ (number : ℤ) (scale : ℕ) (list : List ℤ) where
  pub range_boolean : in_range (kind_number Boolean) number scale list ≡ is_up_to number (pos 1)
  unfolding in_range ◌implies◌
  range_boolean = simp and_true

  pub range_float : in_range (kind_number Float) number scale list ≡ leb scale scale_limit
  unfolding in_range ◌implies◌
  range_float = simp (and_true, true_and)

  pub range_string : in_range (kind_number String) number scale list ≡ is_word number
  unfolding in_range ◌implies◌
  range_string = simp (and_true, true_and)

  pub range_words : in_range (kind_number StringList) number scale list ≡ all_words list
  unfolding in_range ◌implies◌
  range_words = simp (and_true, true_and)

  -- no other kind has a range
  pub range_other : (kind : ℕ) → (kind ≡ kind_number Boolean → ⊥) → (kind ≡ kind_number Float → ⊥)
      → (kind ≡ kind_number String → ⊥) → (kind ≡ kind_number StringList → ⊥) → in_range kind number scale list ≡ true
  unfolding in_range ◌implies◌ ◌and◌
  range_other kind b f s w = rw (ne_eqb _ _ b, ne_eqb _ _ f, ne_eqb _ _ s, ne_eqb _ _ w)

-- ---- one place

module _ (kind length : ℕ) (list : List ℤ) where
  pub list_none : is_list kind ≡ false → list_suits kind length list ≡ true
  unfolding list_suits ◌implies◌ ◌and◌
  list_none e = rw e

  pub list_well : length ≤ list_limit → ascends list ≡ true → list_suits kind length list ≡ true
  unfolding list_suits
  list_well short up = and_both _ _ (implies_all _ _ (λ e. le-leb _ _ short)) (implies_all _ _ (λ e. up))

module _ (own kind : ℕ) (number : ℤ) (scale length : ℕ) (list : List ℤ) where
  pub place_undefined : kind ≡ undefined_number → place_suits own kind number scale length list ≡ true
  unfolding place_suits list_suits in_range is_list ◌implies◌ ◌and◌
  place_undefined e = rw e

  pub place_other : (kind ≡ undefined_number → ⊥) → (kind ≡ own → ⊥) → place_suits own kind number scale length list ≡ false
  unfolding place_suits
  place_other d o = and_first _ _ (and_first _ _ (rw (ne_eqb _ _ d) (ne_eqb _ _ o)))

  pub place_list : list_suits kind length list ≡ false → place_suits own kind number scale length list ≡ false
  unfolding place_suits
  place_list h = and_first _ _ (and_second _ _ h)

  pub place_range : (kind ≡ undefined_number → ⊥) → kind ≡ own → list_suits kind length list ≡ true
      → place_suits own kind number scale length list ≡ in_range kind number scale list
  unfolding place_suits
  place_range d e h = and_skip _ _ (and_both _ _ (rw (ne_eqb _ _ d) (eq-eqb _ _ e)) h)

-- the kind's clause
module _ (own kind : ℕ) where
  kind_means : (eqb kind undefined_number || eqb kind own) ≡ true → (kind ≡ undefined_number) ⊎ (kind ≡ own)
  kind_means h = go (eqb kind undefined_number) refl h
    where
      go : (b : Bool) → eqb kind undefined_number ≡ b → (b || eqb kind own) ≡ true → (kind ≡ undefined_number) ⊎ (kind ≡ own)
      go true e k = inl (eqb-true _ _ e)
      go false e k = inr (eqb-true _ _ k)

  means_kind : (kind ≡ undefined_number) ⊎ (kind ≡ own) → (eqb kind undefined_number || eqb kind own) ≡ true
  means_kind (inl e) = rw (eq-eqb _ _ e)
  means_kind (inr e) = go (eqb kind undefined_number) (eq-eqb _ _ e)
    where
      go : (b : Bool) → eqb kind own ≡ true → (b || eqb kind own) ≡ true
      go true k = refl
      go false k = k

module _ (own kind : ℕ) (number : ℤ) (scale length : ℕ) (list : List ℤ) where
  place_means : place_suits own kind number scale length list ≡ true → PlaceSuits own kind number scale length list
  unfolding place_suits list_suits in_range
  place_means h =
      let l = and_right _ _ (and_left _ _ h) in
      let r = and_right _ _ h in
      record {
        kinds = kind_means own kind (and_left _ _ (and_left _ _ h));
        inside = λ e. leb-true _ _ (implied _ _ (and_left _ _ l) e);
        ascending = λ e. implied _ _ (and_right _ _ l) e;
        booleans = λ e. implied _ _ (and_left _ _ (and_left _ _ (and_left _ _ r))) (eq-eqb _ _ e);
        scales = λ e. leb-true _ _ (implied _ _ (and_right _ _ (and_left _ _ (and_left _ _ r))) (eq-eqb _ _ e));
        words = λ e. implied _ _ (and_right _ _ (and_left _ _ r)) (eq-eqb _ _ e);
        word_lists = λ e. implied _ _ (and_right _ _ r) (eq-eqb _ _ e);
      }

  means_place : PlaceSuits own kind number scale length list → place_suits own kind number scale length list ≡ true
  unfolding place_suits list_suits in_range
  means_place p =
      and_both _ _
      (and_both _ _ (means_kind own kind p.kinds)
      (and_both _ _ (implies_all _ _ (λ e. le-leb _ _ (p.inside e))) (implies_all _ _ p.ascending)))
      (and_both _ _
      (and_both _ _
      (and_both _ _ (implies_all _ _ (λ e. p.booleans (eqb-true _ _ e))) (implies_all _ _ (λ e. le-leb _ _ (p.scales (eqb-true _ _ e)))))
      (implies_all _ _ (λ e. p.words (eqb-true _ _ e))))
      (implies_all _ _ (λ e. p.word_lists (eqb-true _ _ e))))

  pub place_iff : (place_suits own kind number scale length list ≡ true) ↔ PlaceSuits own kind number scale length list
  place_iff = (place_means, means_place)

-- ---- the whole event

module _ (t : List ℕ) (e : Event) where
  suits_means : suits_of t e ≡ true → Suits t e
  unfolding suits_of
  suits_means h =
      record {
        count = eqb-true _ _ (and_left _ _ h);
        places = λ i l. place_means _ _ _ _ _ _ (below_each (suits_at t e) e.count (and_right _ _ h) i l);
      }

  means_suits : Suits t e → suits_of t e ≡ true
  unfolding suits_of
  means_suits s =
      and_both _ _ (eq-eqb _ _ s.count) (below_all (suits_at t e) e.count (λ i l. means_place _ _ _ _ _ _ (s.places i l)))

  pub suits_iff : (suits_of t e ≡ true) ↔ Suits t e
  suits_iff = (suits_means, means_suits)

  -- as the code comes to it: the counts differ, or each place is judged
  pub count_differs : (n : ℕ) → n ≡ count_of t → (e.count ≡ n → ⊥) → eqb e.count n ≡ suits_of t e
  unfolding suits_of
  count_differs n c d = ne_eqb _ _ d ∙ sym (and_first _ _ (ne_eqb _ _ (rw c at d)))

  pub suits_told : e.count ≡ count_of t → (r : Bool) → r ≡ all_below (suits_at t e) e.count → r ≡ suits_of t e
  unfolding suits_of
  suits_told c r told = rw (eq-eqb _ _ c, true_and) told

-- the cases of `place_suits`, one for each way out
pub ruleset place_cases = (place_undefined, place_other, place_list, place_range)

-- the ranges, kind by kind
pub ruleset range_cases = (range_boolean, range_float, range_string, range_words, range_other)
