-- THE BOOK THAT STANDS IN THE BYTES: each table as a list, of what stands at each number up to its count.
-- Assumes nothing.
use Rattle.std.specs.Prelude.{Bool, true, false, cond, List, ℕ, ◌+◌, ltb, eqb, ℤ}
use Rattle.std.specs.Int.{w64}
use Rattle.std.proofs.Common.{to_z}
use Rattle.lists.specs.Tabulate.{tabulate}
use Rattle.predicates.specs.Predicate.{Predicate}
use Rattle.evaluation.specs.declared.Operator.{Operator}
use Rattle.evaluation.specs.declared.Operator.TheVariants.{And, Or}
use Rattle.store.specs.declared.Limits.{Limits}
use Rattle.store.specs.declared.Record.{Record}
use Rattle.model.specs.Parts.{Part, alone, over}
use Rattle.store.specs.Records.{rule_count, part_count, record_at, rule_at, place_at, element_at, entry_at}

-- ---- parts

-- kind 0 is And and kind 1 is Or; any other kind is a predicate's, as the rule sheet numbers them
abbrev pub is_join : Record → Bool
is_join r = ltb r.kind 2

abbrev pub operator_of : ℕ → Operator
operator_of kind = cond (eqb kind 0) And Or

abbrev pub predicate_of : Record → List ℤ → Predicate
predicate_of r elements =
    record {
      attribute = r.attribute;
      kind = r.kind;
      tag = r.tag;
      number = to_z w64 r.number;
      scale = r.scale;
      elements = elements;
    }

-- a run of n child places or of n list elements
abbrev pub children_from : Limits → List ℕ → ℕ → ℕ → List ℕ
children_from limits b start n = tabulate n (λ k. place_at limits b (start + k))

abbrev pub elements_from : Limits → List ℕ → ℕ → ℕ → List ℤ
elements_from limits b start n = tabulate n (λ k. element_at limits b (start + k))

-- the part that a record stands for
abbrev pub part_if : Bool → Limits → List ℕ → Record → Part
part_if true limits b r = over (operator_of r.kind) (children_from limits b r.start r.length)
part_if false limits b r = alone (predicate_of r (elements_from limits b r.start r.length))

abbrev pub part_of : Limits → List ℕ → Record → Part
part_of limits b r = part_if (is_join r) limits b r

unfoldable pub part_at : Limits → List ℕ → ℕ → Part
part_at limits b i = part_of limits b (record_at limits b i)

unfoldable pub parts_of : Limits → List ℕ → List Part
parts_of limits b = tabulate (part_count b) (part_at limits b)

-- ---- rules, each an id and the number of its root part

abbrev pub pair_at : List ℕ → ℕ → ℕ × ℕ
pair_at b i = ((rule_at b i).id, (rule_at b i).root)

unfoldable pub rules_of : List ℕ → List (ℕ × ℕ)
rules_of b = tabulate (rule_count b) (pair_at b)

-- ---- the order table: its first n entries, and all that the parts have

unfoldable pub entries_of : Limits → List ℕ → ℕ → List ℕ
entries_of limits b n = tabulate n (entry_at limits b)

abbrev pub order_of : Limits → List ℕ → List ℕ
order_of limits b = entries_of limits b (part_count b)
