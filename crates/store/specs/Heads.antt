-- What the order of two parts looks at first, read from a part's record: its first four bytes are kind, attribute, tag and scale.
-- Assumes nothing.
use Rattle.std.specs.Prelude.{List, ℕ, ◌+◌, ◌*◌}
use Rattle.words.specs.Word.{word}
use Rattle.store.specs.declared.Limits.{Limits}
use Rattle.store.specs.declared.Head.{Head}
use Rattle.store.specs.Layout.{parts_at}

abbrev pub head_in : List ℕ → ℕ → Head
head_in b at =
    record {
      kind = word 1 b at;
      first = word 4 b at;
      number = word 8 b (at + 16);
      length = word 2 b (at + 6);
      start = word 4 b (at + 8);
    }

abbrev pub head_at : Limits → List ℕ → ℕ → Head
head_at limits b i = head_in b (parts_at limits + 24 * i)
