-- What an entry of a rule sheet may be by itself: the table of kinds and tags, a line for a row, and what x and y may be under each tag.
-- The limits of a sheet stand here too; those of lists and scales are cited. Assumes nothing: these are definitions.
use Rattle.std.specs.Prelude.{Bool, true, false, cond, ◌||◌, List, [], ◌∷◌, ℕ, eqb, leb}
use Rattle.lists.specs.And.{◌and◌}
use Rattle.decimals.specs.Decimals.{scale_limit}
use Rattle.attributes.specs.Table.{is_between}

-- the most entries of a sheet
abbrev pub entry_limit : ℕ
entry_limit = 128

-- words are numbered from 1 to this
abbrev pub word_limit : ℕ
word_limit = 65535

-- ---- kinds and tags

-- the kinds from one number to another may have the tags from one number to another
pub record Row : Type 0 where
  pub kind : ℕ
  pub last_kind : ℕ
  pub tag : ℕ
  pub last_tag : ℕ

abbrev row : ℕ → ℕ → ℕ → ℕ → Row
row kind last_kind tag last_tag = record { kind = kind; last_kind = last_kind; tag = tag; last_tag = last_tag }

-- kinds from and to, tags from and to
abbrev pub table : List Row
table =
    -- variable, negated variable
    row 10 11 0 0
    -- in, not in
    ∷ row 20 21 4 5
    -- <, <=, >=, >
    ∷ row 30 33 1 2
    -- =, <>
    ∷ row 40 41 1 3
    -- one of, none of, all of, not all of
    ∷ row 50 53 4 5
    -- is null, is not null, is empty, is not empty
    ∷ row 60 63 0 0
    ∷ []

abbrev pub in_row : ℕ → ℕ → Row → Bool
in_row kind tag r = is_between r.kind kind r.last_kind and is_between r.tag tag r.last_tag

abbrev pub in_table : ℕ → ℕ → List Row → Bool
in_table kind tag [] = false
in_table kind tag (r ∷ rows) = in_row kind tag r || in_table kind tag rows

-- a predicate of this kind may have this tag
unfoldable pub allowed : ℕ → ℕ → Bool
allowed kind tag = in_table kind tag table

-- ---- the numbers of an entry

-- tags 4 and 5: a list of integers, a list of words
abbrev pub has_list : ℕ → Bool
has_list tag = is_between 4 tag 5

-- 0: no literal; 1: the integer x; 2: the decimal x with the scale y; 3: the word x; 4 and 5: a list, judged with the other lists
unfoldable pub literal_fits : ℕ → ℕ → ℕ → Bool
literal_fits tag x y =
    cond (eqb tag 0) (eqb x 0 and eqb y 0)
    (cond (eqb tag 1) (eqb y 0)
    (cond (eqb tag 2) (leb y scale_limit)
    (cond (eqb tag 3) (is_between 1 x word_limit and eqb y 0) true)))

-- And, Or and Not, whose other numbers are 0, or a predicate
unfoldable pub entry_fits : ℕ → ℕ → ℕ → ℕ → ℕ → Bool
entry_fits kind attribute tag x y =
    cond (is_between 1 kind 3) (eqb attribute 0 and eqb tag 0 and eqb x 0 and eqb y 0) (allowed kind tag and literal_fits tag x y)
