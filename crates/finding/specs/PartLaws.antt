-- Parts and their keys: the key settles the part, and the part its key.
--     same_key_same_part                   equal keys, equal parts
--     same_part_same_key                   equal parts, equal keys, where And and Or leave the fields that they do not use 0
--     parts_distinct                       NO TWO PARTS OF A BOOK WHOSE ORDER TABLE ASCENDS ARE THE SAME
--     found_predicate, found_join          THE PART THAT IS FOUND IS THE CANDIDATE
--     absent_predicate, absent_join        WHERE A PLACE IS FOUND NO PART IS THE CANDIDATE
-- Assumes nothing.
use Rattle.std.specs.Prelude.{◌≡◌, Bool, cond, List, [], ◌∷◌, map, ℕ, ◌+◌, ◌*◌, ◌<◌, ltb, eqb, ℤ}
use Rattle.std.proofs.Math.Path.{refl, sym}
use Rattle.std.proofs.Common.{ap, ap₂, ◌∙◌, arith, ltb-true, eqb-true, to_z, of_z, SFits}
use Rattle.std.proofs.Math.Bool.{true, false}
use Rattle.std.proofs.lemmas.Bool.{eqb-false}
use Rattle.std.specs.Int.{w64}
use mir.ValLaws.{to_z-of_z, of_z-to_z, of_z_fits}
use Rattle.words.specs.Word.{signed_word}
use Rattle.words.specs.Frame.{Bytes}
use Rattle.words.proofs.FrameLaws.{word_lt}
use Rattle.lists.specs.Places.{All, none, both, Distinct}
use Rattle.lists.proofs.TabulateLaws.{map_tabulate, tabulate_all, tabulate_pairwise}
use Rattle.evaluation.specs.declared.Operator.{Operator}
use Rattle.evaluation.specs.declared.Operator.TheVariants.{And, Or}
use Rattle.predicates.specs.Predicate.{Predicate}
use Rattle.store.specs.declared.Limits.{Limits}
use Rattle.store.specs.declared.Record.{Record}
use Rattle.store.specs.Layout.{parts_at, elements_at}
use Rattle.model.specs.Parts.{Part, alone, over}
use Rattle.store.specs.Records.{record_at, element_word, part_count}
use Rattle.store.specs.Tables.{is_join, operator_of, predicate_of, part_if, part_at, parts_of}
use Rattle.store.specs.Records.{RecordFits}
use Rattle.store.proofs.RecordLaws.{record_fits}
use Rattle.std.specs.declared.result.Result.TheVariants.{Ok, Err}
use Rattle.finding.specs.Keys.{first_of, key_of, items_from, items_of, key_at, predicate_key, join_key}
use Rattle.finding.specs.KeyLaws.{SameFields, same_fields}
use Rattle.finding.specs.Bare.{Unused, Bare}
use Rattle.finding.specs.Ascent.{Ascends}
use Rattle.finding.specs.AscentLaws.{rising_distinct}
use Rattle.finding.specs.Finding.{Right, FoundRight}
use Rattle.finding.specs.FindingLaws.{placed_none}

-- ---- a record with its items as a part

abbrev fields_part : Bool → ℕ → ℕ → ℕ → ℕ → ℕ → List ℕ → Part
fields_part true kind attribute tag number scale items = over (operator_of kind) items
fields_part false kind attribute tag number scale items =
    alone
    (record { attribute = attribute; kind = kind; tag = tag; number = to_z w64 number; scale = scale; elements = map (to_z w64) items })

abbrev part_from : Bool → Record → List ℕ → Part
part_from join r items = fields_part join r.kind r.attribute r.tag r.number r.scale items

part_from_lem : (join : Bool) (limits : Limits) (b : List ℕ) (r : Record)
    → part_if join limits b r ≡ part_from join r (items_from join limits b r.start r.length)
unfolding signed_word
part_from_lem true limits b r = refl
part_from_lem false limits b r =
    ap (λ (l : List ℤ). alone (predicate_of r l)) (sym (map_tabulate (to_z w64) r.length (λ k. element_word limits b (r.start + k))))

part_of : (limits : Limits) (b : List ℕ) (p : ℕ)
    → part_at limits b p ≡ part_from (is_join (record_at limits b p)) (record_at limits b p) (items_of limits b (record_at limits b p))
unfolding part_at
part_of limits b p = part_from_lem (is_join (record_at limits b p)) limits b (record_at limits b p)

-- every word of 64 bits is less than 2 to the 64
abbrev Word64 : ℕ → Type 0
Word64 n = n < 18446744073709551616

-- ---- equal keys

-- of two numbers with one more byte below, the byte and what is above it
low_byte : (x y u v : ℕ) → x < 256 → y < 256 → x + 256 * u ≡ y + 256 * v → x ≡ y
low_byte x y u v f g e = omega arith

above_byte : (x y u v : ℕ) → x < 256 → y < 256 → x + 256 * u ≡ y + 256 * v → u ≡ v
above_byte x y u v f g e = omega (arith, low_byte x y u v f g e)

key_settles : (r t : Record) → RecordFits r → RecordFits t → (items others : List ℕ) → key_of r items ≡ key_of t others
    → part_from (is_join r) r items ≡ part_from (is_join t) t others
unfolding key_of
key_settles r t f g items others e =
    let first : first_of r ≡ first_of t = cc in
    let kind = low_byte r.kind t.kind _ _ f.kind g.kind first in
    let second = above_byte r.kind t.kind _ _ f.kind g.kind first in
    let attribute = low_byte r.attribute t.attribute _ _ f.attribute g.attribute second in
    let third = above_byte r.attribute t.attribute _ _ f.attribute g.attribute second in
    let tag = low_byte r.tag t.tag _ _ f.tag g.tag third in
    let scale = above_byte r.tag t.tag _ _ f.tag g.tag third in
    let number : r.number ≡ t.number = cc in
    let all : items ≡ others = cc in
    λ i. fields_part (ltb (kind i) 2) (kind i) (attribute i) (tag i) (number i) (scale i) (all i)

-- ---- equal parts

same_sort : (join other : Bool) (r t : Record) (items others : List ℕ) → part_from join r items ≡ part_from other t others → join ≡ other
same_sort true true r t items others e = refl
same_sort true false r t items others e = absurd (cc)
same_sort false true r t items others e = absurd (cc)
same_sort false false r t items others e = refl

operators : (k j : ℕ) → k < 2 → j < 2 → operator_of k ≡ operator_of j → k ≡ j
operators k j hk hj e = go (eqb k 0) refl (eqb j 0) refl e
  where
    go : (s : Bool) → eqb k 0 ≡ s → (t : Bool) → eqb j 0 ≡ t → ◌≡◌ {A = Operator} (cond s And Or) (cond t And Or) → k ≡ j
    go true d true f e = eqb-true k 0 d ∙ sym (eqb-true j 0 f)
    go true d false f e = absurd (cc)
    go false d true f e = absurd (cc)
    go false d false f e = omega (arith, eqb-false k 0 d, eqb-false j 0 f)

word_same : (x y : ℕ) → Word64 x → Word64 y → to_z w64 x ≡ to_z w64 y → x ≡ y
word_same x y f g e = sym (of_z-to_z w64 x (record { fits = f })) ∙ ap (of_z w64) e ∙ of_z-to_z w64 y (record { fits = g })

words_same : (l m : List ℕ) → All Word64 l → All Word64 m → map (to_z w64) l ≡ map (to_z w64) m → l ≡ m
words_same [] [] none none e = refl
words_same [] (y ∷ m) none h e = absurd (cc)
words_same (x ∷ l) [] h none e = absurd (cc)
words_same (x ∷ l) (y ∷ m) (both f h) (both g k) e =
    let head : to_z w64 x ≡ to_z w64 y = cc in
    let tail : map (to_z w64) l ≡ map (to_z w64) m = cc in
    ap₂ (λ (z : ℕ) (zs : List ℕ). z ∷ zs) (word_same x y f g head) (words_same l m h k tail)

module _ (r t : Record) (items others : List ℕ) where
  join_settles : is_join r ≡ true → is_join t ≡ true → Unused r → Unused t → part_from true r items ≡ part_from true t others
      → key_of r items ≡ key_of t others
  join_settles jr jt u v e =
      let operator : operator_of r.kind ≡ operator_of t.kind = cc in
      let all : items ≡ others = cc in
      let fields : SameFields r t =
      record {
        kind = operators r.kind t.kind (ltb-true r.kind 2 jr) (ltb-true t.kind 2 jt) operator;
        attribute = u.attribute ∙ sym v.attribute;
        tag = u.tag ∙ sym v.tag;
        scale = u.scale ∙ sym v.scale;
        number = u.number ∙ sym v.number;
      } in
      same_fields r t items others fields all

  predicate_settles : Word64 r.number → Word64 t.number → All Word64 items → All Word64 others
      → part_from false r items ≡ part_from false t others → key_of r items ≡ key_of t others
  predicate_settles wr wt hr ht e =
      let same : predicate_of r (map (to_z w64) items) ≡ predicate_of t (map (to_z w64) others) = cc in
      let fields : SameFields r t =
      record {
        kind = ap (λ (x : Predicate). x.kind) same;
        attribute = ap (λ (x : Predicate). x.attribute) same;
        tag = ap (λ (x : Predicate). x.tag) same;
        scale = ap (λ (x : Predicate). x.scale) same;
        number = word_same r.number t.number wr wt (ap (λ (x : Predicate). x.number) same);
      } in
      same_fields r t items others fields (words_same items others hr ht (ap (λ (x : Predicate). x.elements) same))

-- ---- parts of a book

module _ (limits : Limits) (b : List ℕ) (y : Bytes b) where
  abbrev record_of : ℕ → Record
  record_of p = record_at limits b p

  abbrev part_items : ℕ → List ℕ
  part_items p = items_of limits b (record_at limits b p)

  fits : (p : ℕ) → RecordFits (record_at limits b p)
  fits p = record_fits b (parts_at limits + 24 * p) y

  items_fit : (p : ℕ) → is_join (record_at limits b p) ≡ false → All Word64 (items_of limits b (record_at limits b p))
  items_fit p e =
      let r : Record = record_at limits b p in
      rw e (tabulate_all r.length (λ k. element_word limits b (r.start + k))
      (λ k l. word_lt 8 b (elements_at limits + 8 * (r.start + k)) y))

  pub same_key_same_part : (p q : ℕ) → key_at limits b p ≡ key_at limits b q → part_at limits b p ≡ part_at limits b q
  unfolding key_at
  same_key_same_part p q e =
      part_of limits b p ∙ key_settles (record_of p) (record_of q) (fits p) (fits q) (part_items p) (part_items q) e
      ∙ sym (part_of limits b q)

  -- part p against a record with items that stands for a part too
  module _ (t : Record) (others : List ℕ) (p : ℕ) (e : part_at limits b p ≡ part_from (is_join t) t others) where
    sort : is_join (record_at limits b p) ≡ is_join t
    sort = same_sort (is_join (record_of p)) (is_join t) (record_of p) t (part_items p) others (sym (part_of limits b p) ∙ e)

    from : (join : Bool) → is_join t ≡ join → part_from join (record_of p) (part_items p) ≡ part_from join t others
    from join s =
        ap (λ (j : Bool). part_from j (record_of p) (part_items p)) (sym (sort ∙ s)) ∙ sym (part_of limits b p) ∙ e
        ∙ ap (λ (j : Bool). part_from j t others) s

    join_key_lem : is_join t ≡ true → Unused (record_at limits b p) → Unused t → key_at limits b p ≡ key_of t others
    unfolding key_at
    join_key_lem s u v = join_settles (record_of p) t (part_items p) others (sort ∙ s) s u v (from true s)

    predicate_key_lem : is_join t ≡ false → Word64 t.number → All Word64 others → key_at limits b p ≡ key_of t others
    unfolding key_at
    predicate_key_lem s w h =
        predicate_settles (record_of p) t (part_items p) others (fits p).number w (items_fit p (sort ∙ s)) h (from false s)

  pub same_part_same_key : {n : ℕ} → Bare limits b n → (p q : ℕ) → p < n → q < n → part_at limits b p ≡ part_at limits b q
      → key_at limits b p ≡ key_at limits b q
  unfolding key_at
  same_part_same_key bare p q lp lq e = go (is_join (record_of q)) refl
    where
      f : part_at limits b p ≡ part_from (is_join (record_of q)) (record_of q) (part_items q)
      f = e ∙ part_of limits b q

      go : (join : Bool) → is_join (record_of q) ≡ join → key_at limits b p ≡ key_of (record_of q) (part_items q)
      go true s =
          join_key_lem (record_of q) (part_items q) p f s (bare.unused p lp (sort (record_of q) (part_items q) p f ∙ s))
          (bare.unused q lq s)
      go false s = predicate_key_lem (record_of q) (part_items q) p f s (fits q).number (items_fit q s)

  pub parts_distinct : Bare limits b (part_count b) → Ascends limits b (part_count b) → Distinct ◌≡◌ (parts_of limits b)
  unfolding parts_of
  parts_distinct bare a =
      tabulate_pairwise (part_count b) (part_at limits b)
      (λ i j l h e.
      let same = rising_distinct a i j (omega arith) h (same_part_same_key bare i j (omega arith) h e) in
      omega arith)

-- ---- candidates

-- a predicate: its fields fit, its kind is no operator's, and each element fits 64 bits
pub record PredicateCandidate (content : Record) (elements : List ℤ) : Type 0 where
  pub fits : RecordFits content
  pub sort : is_join content ≡ false
  pub each : All (SFits w64) elements

-- an operator over children
pub record JoinCandidate (content : Record) : Type 0 where
  pub fits : RecordFits content
  pub sort : is_join content ≡ true
  pub unused : Unused content

bits_back : {l : List ℤ} → All (SFits w64) l → map (to_z w64) (map (of_z w64) l) ≡ l
bits_back none = refl
bits_back (both {x = z} f h) = ap₂ (λ (x : ℤ) (xs : List ℤ). x ∷ xs) (to_z-of_z w64 z f) (bits_back h)

bits_fit : {l : List ℤ} → All (SFits w64) l → All Word64 (map (of_z w64) l)
bits_fit none = none
bits_fit (both {x = z} f h) = both (of_z_fits w64 z f).fits (bits_fit h)

predicate_part : (content : Record) (elements : List ℤ) → PredicateCandidate content elements
    → part_from (is_join content) content (map (of_z w64) elements) ≡ alone (predicate_of content elements)
predicate_part content elements c =
    ap (λ (j : Bool). part_from j content (map (of_z w64) elements)) c.sort
    ∙ ap (λ (l : List ℤ). alone (predicate_of content l)) (bits_back c.each)

join_part : (content : Record) (children : List ℕ) → JoinCandidate content
    → part_from (is_join content) content children ≡ over (operator_of content.kind) children
join_part content children c = ap (λ (j : Bool). part_from j content children) c.sort

module _ (limits : Limits) (b : List ℕ) (y : Bytes b) where
  found : (t : Record) → RecordFits t → (others : List ℕ) (p : ℕ) → FoundRight limits b (key_of t others) (Ok p)
      → (p < part_count b) × (part_at limits b p ≡ part_from (is_join t) t others)
  unfolding Right key_at
  found t f others p w =
      (w.0, part_of limits b p ∙ key_settles (record_at limits b p) t (record_fits b (parts_at limits + 24 * p) y) f _ others w.1)

  module _ (content : Record) (elements : List ℤ) (c : PredicateCandidate content elements) where
    pub found_predicate : (p : ℕ) → FoundRight limits b (predicate_key content elements) (Ok p)
        → (p < part_count b) × (part_at limits b p ≡ alone (predicate_of content elements))
    found_predicate p w =
        let f = found content c.fits (map (of_z w64) elements) p w in
        (f.0, f.1 ∙ predicate_part content elements c)

    pub absent_predicate : Ascends limits b (part_count b) → (k : ℕ) → FoundRight limits b (predicate_key content elements) (Err k)
        → (p : ℕ) → p < part_count b → part_at limits b p ≡ alone (predicate_of content elements) → ⊥
    unfolding Right
    absent_predicate a k w p l e =
        placed_none a (predicate_key content elements) k w p l
        (predicate_key_lem limits b y content (map (of_z w64) elements) p (e ∙ sym (predicate_part content elements c)) c.sort
        c.fits.number (bits_fit c.each))

  module _ (content : Record) (children : List ℕ) (c : JoinCandidate content) where
    pub found_join : (p : ℕ) → FoundRight limits b (join_key content children) (Ok p)
        → (p < part_count b) × (part_at limits b p ≡ over (operator_of content.kind) children)
    found_join p w = let f = found content c.fits children p w in (f.0, f.1 ∙ join_part content children c)

    pub absent_join : Bare limits b (part_count b) → Ascends limits b (part_count b) → (k : ℕ)
        → FoundRight limits b (join_key content children) (Err k)
        → (p : ℕ) → p < part_count b → part_at limits b p ≡ over (operator_of content.kind) children → ⊥
    unfolding Right
    absent_join bare a k w p l e =
        let f = e ∙ sym (join_part content children c) in
        placed_none a (join_key content children) k w p l
        (join_key_lem limits b y content children p f c.sort
        (bare.unused p l (sort limits b y content children p f ∙ c.sort)) c.unused)
