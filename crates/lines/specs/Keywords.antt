-- The words that the desk knows: the first words of its commands, the kinds, the truth values. A word is one of them if it is the same
-- bytes. Laws in `KeywordsLaws`. Assumes nothing: these are definitions.
use Rattle.std.specs.Prelude.{Bool, true, false, cond, List, [], ◌∷◌, ℕ, zero, suc, Option, Some, None}
use Prim.Native.String.{String}
use Rattle.bytes_equal.specs.Bytes.{same_bytes}
use Rattle.lines.specs.Text.{bytes_of}
use Rattle.lines.specs.declared.keywords.Command.{Command}
use Rattle.lines.specs.declared.keywords.Command.TheVariants.{Open, Insert, Delete, Room, Event, Set, Dated, Search, Repeat}
use Rattle.lines.specs.declared.keywords.Kind.{Kind}
use Rattle.lines.specs.declared.keywords.Kind.TheVariants.{Undefined, Boolean, Integer, Float, String as Word, Integers, Strings}

-- the number of a word among others, or how many these are
unfoldable pub place_among : List ℕ → List (List ℕ) → ℕ
place_among w [] = zero
place_among w (n ∷ ns) = cond (same_bytes w n) zero (suc (place_among w ns))

-- what stands beside the word in a table, or nothing where the table lacks the word
unfoldable pub look_up : {A : Type 0} → List (String × A) → List ℕ → Option A
look_up [] w = None
look_up ((k, a) ∷ rest) w = cond (same_bytes w (bytes_of k)) (Some a) (look_up rest w)

abbrev pub commands : List (String × Command)
commands =
    ("open", Open)
    ∷ ("insert", Insert)
    ∷ ("delete", Delete)
    ∷ ("room", Room)
    ∷ ("event", Event)
    ∷ ("set", Set)
    ∷ ("dated", Dated)
    ∷ ("search", Search)
    ∷ ("repeat", Repeat)
    ∷ []

abbrev pub command_of : List ℕ → Option Command
command_of = look_up commands

abbrev pub kinds : List (String × Kind)
kinds =
    ("boolean", Boolean)
    ∷ ("integer", Integer)
    ∷ ("float", Float)
    ∷ ("string", Word)
    ∷ ("integers", Integers)
    ∷ ("strings", Strings)
    ∷ ("undefined", Undefined)
    ∷ []

abbrev pub kind_of : List ℕ → Option Kind
kind_of = look_up kinds

abbrev pub truths : List (String × Bool)
truths = ("true", true) ∷ ("false", false) ∷ []

abbrev pub truth_of : List ℕ → Option Bool
truth_of = look_up truths
