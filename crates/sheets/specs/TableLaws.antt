-- What an entry that may stand in a sheet is like: the bounds of its kind and tag, and what x and y are. Assumes nothing.
use Rattle.std.specs.Prelude.{◌≡◌, cond, ◌||◌, List, [], ◌∷◌, leb}
use Rattle.std.proofs.Math.Path.{refl}
use Rattle.std.proofs.Common.{sym, ◌∙◌, true≢false}
use Rattle.std.proofs.Math.Bool.{Bool, true, false}
use Rattle.std.proofs.lemmas.Bool.{false≢true}
use Prim.Native.Nat.{ℕ, zero, suc, ◌≤◌, ◌<◌}
use native.Mathlib.Omega.{arith}
use borrow.Author.Tests.{leb-true, eqb-true, le-leb, lt-leb}
use Rattle.std.proofs.Math.Dec.{eqb}
use Rattle.lists.specs.And.{◌and◌}
use Rattle.lists.specs.AndLaws.{and_left, and_right, and_both, and_first, and_second}
use Rattle.lists.specs.Places.{All, none, both}
use Rattle.decimals.specs.Decimals.{scale_limit}
use Rattle.attributes.specs.Table.{is_between}
use Rattle.sheets.specs.Table.{Row, table, in_row, in_table, allowed, has_list, literal_fits, entry_fits}

module _ (low n high : ℕ) where
  pub between_told : is_between low n high ≡ true → (low ≤ n) × (n ≤ high)
  unfolding is_between
  between_told h = (leb-true low n (and_left (leb low n) (leb n high) h), leb-true n high (and_right (leb low n) (leb n high) h))

  pub told_between : low ≤ n → n ≤ high → is_between low n high ≡ true
  unfolding is_between
  told_between l h = and_both (leb low n) (leb n high) (le-leb low n l) (le-leb n high h)

  pub between_above : high < n → is_between low n high ≡ false
  unfolding is_between
  between_above h = and_second (leb low n) (leb n high) (lt-leb n high h)

  pub between_below : n < low → is_between low n high ≡ false
  unfolding is_between
  between_below h = and_first (leb low n) (leb n high) (lt-leb low n h)

-- ---- kinds and tags

-- a row's kinds are predicates' and its tags are tags
pub record Bounded (kind tag : ℕ) : Type 0 where
  pub predicate : 10 ≤ kind
  pub kinds : kind ≤ 63
  pub tags : tag ≤ 5

abbrev InBounds : Row → Type 0
InBounds r = (10 ≤ r.kind) × (r.last_kind ≤ 63) × (r.last_tag ≤ 5)

module _ (kind tag : ℕ) where
  row_bounded : (r : Row) → InBounds r → in_row kind tag r ≡ true → Bounded kind tag
  row_bounded r b h =
      let k = between_told _ _ _ (and_left (is_between r.kind kind r.last_kind) (is_between r.tag tag r.last_tag) h) in
      let t = between_told _ _ _ (and_right (is_between r.kind kind r.last_kind) (is_between r.tag tag r.last_tag) h) in
      record { predicate = omega arith; kinds = omega arith; tags = omega arith }

  rows_bounded : (rows : List Row) → All InBounds rows → in_table kind tag rows ≡ true → Bounded kind tag
  rows_bounded [] b h = absurd (false≢true h)
  rows_bounded (r ∷ rows) (both b bs) h = go (in_row kind tag r) refl h (rows_bounded rows bs)
    where
      go : (c : Bool) → in_row kind tag r ≡ c → (c || in_table kind tag rows) ≡ true → (in_table kind tag rows ≡ true → Bounded kind tag)
          → Bounded kind tag
      go true e f later = row_bounded r b e
      go false e f later = later f

  pub allowed_bounded : allowed kind tag ≡ true → Bounded kind tag
  unfolding allowed
  allowed_bounded h =
      rows_bounded table
      (both (omega arith, omega arith, omega arith)
      (both (omega arith, omega arith, omega arith)
      (both (omega arith, omega arith, omega arith)
      (both (omega arith, omega arith, omega arith)
      (both (omega arith, omega arith, omega arith)
      (both (omega arith, omega arith, omega arith) none)))))) h

-- ---- the numbers of an entry

module _ (kind attribute tag x y : ℕ) where
  -- a predicate has a kind and a tag of the table, and x and y as the tag asks
  pub predicate_fits : allowed kind tag ≡ true → literal_fits tag x y ≡ true → entry_fits kind attribute tag x y ≡ true
  unfolding entry_fits
  predicate_fits a l =
      let b = allowed_bounded kind tag a in
      let other : is_between 1 kind 3 ≡ false = between_above 1 kind 3 (omega arith) in
      rw other (and_both (allowed kind tag) (literal_fits tag x y) a l)

  pub predicate_told : is_between 1 kind 3 ≡ false → entry_fits kind attribute tag x y ≡ true
      → (allowed kind tag ≡ true) × (literal_fits tag x y ≡ true)
  unfolding entry_fits
  predicate_told n h =
      let f : allowed kind tag and literal_fits tag x y ≡ true = rw n at h in
      (and_left (allowed kind tag) (literal_fits tag x y) f, and_right (allowed kind tag) (literal_fits tag x y) f)

  -- what every entry has in common
  pub record Entered : Type 0 where
    pub kinds : kind ≤ 63
    pub tags : tag ≤ 5
    pub scales : has_list tag ≡ false → y ≤ scale_limit

  pub literal_scale : tag ≤ 5 → literal_fits tag x y ≡ true → has_list tag ≡ false → y ≤ scale_limit
  unfolding literal_fits
  literal_scale b l n = go tag b l n
    where
      go : (t : ℕ) → t ≤ 5 → literal_fits t x y ≡ true → has_list t ≡ false → y ≤ scale_limit
      go zero b l n = let e = eqb-true y 0 (and_right (eqb x 0) (eqb y 0) l) in omega arith
      go (suc zero) b l n = let e = eqb-true y 0 l in omega arith
      go (suc (suc zero)) b l n = leb-true y scale_limit l
      go (suc (suc (suc zero))) b l n = let e = eqb-true y 0 (and_right (is_between 1 x 65535) (eqb y 0) l) in omega arith
      go (suc (suc (suc (suc t)))) b l n =
          absurd (true≢false (sym (told_between 4 (suc (suc (suc (suc t)))) 5 (omega arith) b) ∙ n))

  pub entered : entry_fits kind attribute tag x y ≡ true → Entered
  unfolding entry_fits
  entered h = go (is_between 1 kind 3) refl h
    where
      unused : Bool
      unused = eqb attribute 0 and eqb tag 0 and eqb x 0 and eqb y 0

      go : (b : Bool) → is_between 1 kind 3 ≡ b → cond b unused (allowed kind tag and literal_fits tag x y) ≡ true → Entered
      go true e f =
          let k = between_told 1 kind 3 e in
          let most = and_left (eqb attribute 0 and eqb tag 0 and eqb x 0) (eqb y 0) f in
          let bare = and_left (eqb attribute 0 and eqb tag 0) (eqb x 0) most in
          let t = eqb-true tag 0 (and_right (eqb attribute 0) (eqb tag 0) bare) in
          let z = eqb-true y 0 (and_right (eqb attribute 0 and eqb tag 0 and eqb x 0) (eqb y 0) f) in
          record { kinds = omega arith; tags = omega arith; scales = λ n. omega arith }
      go false e f =
          let b = allowed_bounded kind tag (and_left (allowed kind tag) (literal_fits tag x y) f) in
          let l = and_right (allowed kind tag) (literal_fits tag x y) f in
          record { kinds = b.kinds; tags = b.tags; scales = literal_scale b.tags l }
