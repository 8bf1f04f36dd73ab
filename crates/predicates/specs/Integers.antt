-- The elements of a literal's list, as they stand in a book: signed numbers of 8 bytes each, one after the other. Laws in `IntegersLaws`.
-- Assumes nothing: these are definitions.
use Rattle.std.specs.Prelude.{List, ℕ, ◌*◌, ◌/◌, ℤ, length}
use Rattle.lists.specs.Tabulate.{tabulate}
use Rattle.words.specs.Word.{signed_word}

-- the numbers in the bytes; bytes past the last whole number are none
unfoldable pub integers_of : List ℕ → List ℤ
integers_of bytes = tabulate (length bytes / 8) (λ k. signed_word bytes (8 * k))
