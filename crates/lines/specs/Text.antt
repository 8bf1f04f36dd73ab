-- Text as bytes: a line is the list of its bytes, and the bytes that mean something in it have names.
-- Assumes nothing: these are definitions.
use Rattle.std.specs.Prelude.{List, [], ◌∷◌, ℕ}
use Prim.Native.Char.{code}
use Prim.Native.String.{String, [] as end, ◌∷◌ as ◌then◌}

-- the bytes of a text of plain characters
abbrev pub bytes_of : String → List ℕ
bytes_of end = []
bytes_of (c then s) = code c ∷ bytes_of s

abbrev pub newline : ℕ
newline = 10

abbrev pub space : ℕ
space = 32

abbrev pub hash : ℕ
hash = 35

abbrev pub minus : ℕ
minus = 45

abbrev pub colon : ℕ
colon = 58
