-- THE BYTES THAT EACH CHANGE LEAVES, exactly. What each does to the book is said in `Effects`.
-- Assumes nothing: these are definitions.
use Rattle.std.specs.Prelude.{List, ℕ, zero, suc, ◌+◌, ◌-◌, ◌*◌, length, get_or, ℤ, pos}
use Rattle.std.specs.Int.{w64}
use Rattle.std.proofs.Common.{of_z}
use Rattle.words.specs.Word.{put}
use Rattle.words.specs.Run.{wrote}
use Rattle.store.specs.declared.Limits.{Limits}
use Rattle.store.specs.declared.Record.{Record}
use Rattle.store.specs.declared.Rule.{Rule}
use Rattle.store.specs.Layout.{rule_count_at, part_count_at, place_count_at, element_count_at, places_at, elements_at}
use Rattle.store.specs.Records.{rule_count, part_count, place_count, element_count, put_record, rule_at, put_rule, entry_at, put_entry}
use Rattle.changes.specs.Moving.{raised, lowered}

-- ---- a part appended: its run at the end of its table, its record, the counts

-- a record with its run
abbrev pub placed : Record → ℕ → ℕ → Record
placed r n s =
    record {
      kind = r.kind;
      attribute = r.attribute;
      tag = r.tag;
      scale = r.scale;
      level = r.level;
      size = r.size;
      length = n;
      start = s;
      cost = r.cost;
      number = r.number;
    }

-- the first n of the children put as child places from at on; the first n elements of a list
abbrev pub put_children : Limits → List ℕ → ℕ → List ℕ → ℕ → List ℕ
put_children limits b at children n = wrote 2 b (λ k. places_at limits + 2 * (at + k)) (λ k. get_or children k 0) n

abbrev pub put_all_children : Limits → List ℕ → ℕ → List ℕ → List ℕ
put_all_children limits b at children = put_children limits b at children (length children)

abbrev pub put_elements : Limits → List ℕ → ℕ → List ℤ → ℕ → List ℕ
put_elements limits b at list n = wrote 8 b (λ k. elements_at limits + 8 * (at + k)) (λ k. of_z w64 (get_or list k (pos 0))) n

-- part i closed with its record, as the last part, with p places and e elements in use
abbrev pub closed : Limits → List ℕ → ℕ → Record → ℕ → ℕ → List ℕ
closed limits b i r p e = put 4 (put 4 (put 4 (put_record limits b i r) part_count_at (i + 1)) place_count_at p) element_count_at e

-- one part more, of record r, with p places and e elements more in use
abbrev pub part_more : Limits → List ℕ → Record → ℕ → ℕ → List ℕ
part_more limits b r p e = closed limits b (part_count b) r (place_count b + p) (element_count b + e)

unfoldable pub append_join : Limits → List ℕ → Record → List ℕ → List ℕ
append_join limits b r children =
    closed limits (put_children limits b (place_count b) children (length children)) (part_count b)
    (placed r (length children) (place_count b))
    (place_count b + length children)
    (element_count b)

unfoldable pub append_predicate : Limits → List ℕ → Record → List ℤ → List ℕ
append_predicate limits b r list =
    closed limits (put_elements limits b (element_count b) list (length list)) (part_count b)
    (placed r (length list) (element_count b))
    (place_count b)
    (element_count b + length list)

-- ---- rules

-- a rule put at place i, those from there on moved up; the rule at place i taken away, those after it moved down
unfoldable pub insert_rule : List ℕ → ℕ → Rule → List ℕ
insert_rule b i r = put 4 (put_rule (raised rule_at put_rule b i (rule_count b - i)) i r) rule_count_at (rule_count b + 1)

unfoldable pub remove_rule : List ℕ → ℕ → List ℕ
remove_rule b i = put 4 (lowered rule_at put_rule b i (rule_count b - (i + 1))) rule_count_at (rule_count b - 1)

-- a rule with another root, and the first n rules each with its root's new number
abbrev pub rerooted : Rule → ℕ → Rule
rerooted r root = record { id = r.id; root = root }

unfoldable pub renumber_roots : List ℕ → List ℕ → ℕ → List ℕ
renumber_roots b news zero = b
renumber_roots b news (suc n) = put_rule (renumber_roots b news n) n (rerooted (rule_at b n) (get_or news (rule_at b n).root 0))

-- ---- the order table, of which n entries are in use

unfoldable pub insert_entry : Limits → List ℕ → ℕ → ℕ → ℕ → List ℕ
insert_entry limits b n k part =
    put_entry limits (raised (entry_at limits) (put_entry limits) b k (n - k)) k part
