-- MARKS OF A SOUND BOOK that lie in the store itself: no count passes its limit, the runs of the parts follow one another without gap or
-- overlap and end at the counts, and a part's children stand before it. Bytes past the counts are not judged.
-- Assumes nothing.
use Rattle.std.specs.Prelude.{◌≡◌, true, false, cond, List, ℕ, zero, suc, ◌+◌, ◌≤◌, ◌<◌}
use Rattle.store.specs.declared.Limits.{Limits}
use Rattle.store.specs.declared.Record.{Record}
use Rattle.store.specs.Records.{rule_count, part_count, place_count, element_count, record_at, place_at}
use Rattle.store.specs.Tables.{is_join}

pub record Counted (limits : Limits) (b : List ℕ) : Type 0 where
  pub rules : rule_count b ≤ limits.rules
  pub parts : part_count b ≤ limits.parts
  pub places : place_count b ≤ limits.places
  pub elements : element_count b ≤ limits.elements

-- how many child places and how many list elements a part has
abbrev pub places_in : Record → ℕ
places_in r = cond (is_join r) r.length 0

abbrev pub elements_in : Record → ℕ
elements_in r = cond (is_join r) 0 r.length

-- f added up over the parts before part i
unfoldable pub sum_before : (Record → ℕ) → Limits → List ℕ → ℕ → ℕ
sum_before f limits b zero = 0
sum_before f limits b (suc i) = sum_before f limits b i + f (record_at limits b i)

abbrev pub places_before : Limits → List ℕ → ℕ → ℕ
places_before = sum_before places_in

abbrev pub elements_before : Limits → List ℕ → ℕ → ℕ
elements_before = sum_before elements_in

-- what only a predicate uses is 0
pub record Blank (r : Record) : Type 0 where
  pub attribute : r.attribute ≡ 0
  pub tag : r.tag ≡ 0
  pub scale : r.scale ≡ 0
  pub number : r.number ≡ 0

-- the n child places from start on name parts before part m
abbrev pub ChildrenBelow : Limits → List ℕ → ℕ → ℕ → ℕ → Type 0
ChildrenBelow limits b start n m = (k : ℕ) → k < n → place_at limits b (start + k) < m

-- part i, an And or Or
pub record JoinAt (limits : Limits) (b : List ℕ) (i : ℕ) : Type 0 where
  pub start : (record_at limits b i).start ≡ places_before limits b i
  pub children : ChildrenBelow limits b (places_before limits b i) (record_at limits b i).length i
  pub blank : Blank (record_at limits b i)

pub record Runs (limits : Limits) (b : List ℕ) : Type 0 where
  pub counted : Counted limits b
  pub places : places_before limits b (part_count b) ≡ place_count b
  pub elements : elements_before limits b (part_count b) ≡ element_count b
  pub joins : (i : ℕ) → i < part_count b → is_join (record_at limits b i) ≡ true → JoinAt limits b i
  pub predicates : (i : ℕ) → i < part_count b → is_join (record_at limits b i) ≡ false
      → (record_at limits b i).start ≡ elements_before limits b i
