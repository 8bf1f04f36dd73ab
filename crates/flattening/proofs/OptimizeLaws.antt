-- The codes of a sheet whose n entries spell a tree: what `optimize` leaves, said in the words of a caller.
--   sheet_ready: such a sheet can be optimized.
--   codes_most_entries: there are at most n codes. codes_each: each names an entry that is a predicate, or has two children at least.
--   codes_held: run from an empty stack every operator finds its children. codes_run: and the run gives what the recursion gives;
--   codes_run_decoded: also over the predicates that the entries hold.
--   codes_read: they read back to the flattened rule. codes_value: they have the tree's Kleene value.
--   coded_codes, coded_at: the first `count` numbers of the array are the codes.
-- Assumes nothing.
use Rattle.std.specs.Prelude.{◌≡◌, refl, Bool, false, not, List, [], ◌∷◌, ℕ, ◌+◌, ◌*◌, ◌/◌, ◌-◌, ◌<◌, ◌≤◌, length, get_or, take}
use Rattle.std.specs.Prelude.{replicate, ℤ}
use Rattle.std.proofs.Common.{sym, ◌∙◌, take_at}
use Rattle.std.proofs.Math.Path.{ap}
use native.Mathlib.Omega.{arith}
use Rattle.std.proofs.Math.ListN.{get_or-append}
use Rattle.evaluation.specs.declared.Truth.{Truth}
use Rattle.evaluation.specs.declared.Operator.{Operator}
use Rattle.evaluation.specs.Kleene.{operator_under, truth_under, join_all}
use Rattle.lists.specs.Places.{All}
use Rattle.ast.specs.Trees.{Tree, Join, Not, Value, value, Flat}
use Rattle.ast.specs.Flattening.{splice, flat, optimize}
use Rattle.ast.proofs.FlatteningLaws.{flat_flattened, optimize_value}
use Rattle.sheets.specs.Entries.{kind_of}
use Rattle.sheets.specs.declared.Shape.TheVariants.{Stands}
use Rattle.sheets.specs.Spells.{shape_of, Spells}
use Rattle.flattening.specs.Codes.{predicate_code, operator_code, codes_of, code_entry, Leaves}
use Rattle.flattening.proofs.CodesLaws.{entry_code, count_code, operator_high, codes_most, leaves_append}
use Rattle.flattening.proofs.CodesLaws.{leaves_splice, leaves_map, codes_all}
use Rattle.flattening.specs.Running.{push, run_codes, Holds, run_flat, values_of, read_back}
use Rattle.flattening.proofs.RunningLaws.{run_flat_lem, codes_hold, values_fold, read_back_lem}
use Rattle.flattening.specs.Mapping.{map_tree, decode}
use Rattle.flattening.proofs.MappingLaws.{optimize_decoded, run_map}
use Rattle.sheets.specs.SpellsLaws.{spells_size}
use Rattle.flattening.specs.Writing.{Ready, CodeWithin, Coded}
use Rattle.flattening.specs.declared.Optimized.{Optimized}

module _ (first : ℕ) (s : List ℤ) (n : ℕ) where
  -- a predicate's code names an entry that is a predicate
  abbrev Names : ℕ → Type 0
  Names c = (code_entry c < n) × (shape_of (kind_of first s (code_entry c)) ≡ Stands)

  flat_names : (negate : Bool) (t : Tree ℕ) (i j : ℕ) → Spells first s t i j → j ≤ n → Leaves Names (flat predicate_code negate t)
  unfolding Spells
  flat_names negate (Value p) i j h l =
      let e = h.0 in
      let f = h.1 in
      rw (entry_code negate p) (omega arith, ap (λ (k : ℕ). shape_of (kind_of first s k)) e ∙ h.2)
  flat_names negate (Not a) i j h l = flat_names (not negate) a (i + 1) j h.1 l
  flat_names negate (Join o a b) i j h l =
      let o' = operator_under negate o in
      let f = flat predicate_code negate a in
      let g = flat predicate_code negate b in
      let e = spells_size first s b h.0 j h.3 in
      leaves_append Names (splice o' f) (splice o' g)
      (leaves_splice Names o' f (flat_names negate a (i + 1) h.0 h.2 (omega arith)))
      (leaves_splice Names o' g (flat_names negate b h.0 j h.3 l))

  module _ (small : n ≤ 128) (t : Tree ℕ) (spelled : Spells first s t 0 n) where
    abbrev rule : Flat ℕ
    rule = optimize predicate_code t

    leaves_names : Leaves Names rule
    leaves_names = flat_names false t 0 n spelled (omega arith)

    leaves_low : Leaves (λ c. c < 256) rule
    leaves_low = leaves_map (λ c h. let e : c / 2 < n = h.0 in omega arith) rule leaves_names

    pub sheet_ready : first + 5 * n ≤ length s → Ready first s 0 0 128
    sheet_ready h = record { tree = t; end = n; spells = spelled; inside = h; small = small; room = omega arith }

    pub codes_most_entries : length (codes_of rule) ≤ n
    codes_most_entries = omega (arith, codes_most predicate_code false t, spells_size first s t 0 n spelled)

    pub codes_each : All (CodeWithin first s n) (codes_of rule)
    codes_each = codes_all operators rule (flat_flattened predicate_code false t) (leaves_map predicates rule leaves_names)
      where
        operators : (o : Operator) (count : ℕ) → 2 ≤ count → CodeWithin first s n (operator_code o count)
        operators o count h =
            let low : 256 ≤ operator_code o count = operator_high o count in
            record {
              entry = λ l. absurd (omega arith);
              predicate = λ l. absurd (omega arith);
              count = λ l. rw (count_code o count) h;
            }

        predicates : (c : ℕ) → Names c → CodeWithin first s n c
        predicates c h =
            let e : c / 2 < n = h.0 in
            record { entry = λ l. h.0; predicate = λ l. h.1; count = λ l. absurd (omega arith) }

    pub codes_held : Holds (codes_of rule) 0
    codes_held = codes_hold rule leaves_low

    pub codes_run : {S A : Type 0} (leafStep : S → ℕ → S × A) (joinStep : S → Operator → List A → S × A) (start : S)
        → run_codes leafStep joinStep (start, []) (codes_of rule) ≡ push [] (run_flat leafStep joinStep start rule)
    codes_run leafStep joinStep start = run_flat_lem leafStep joinStep rule leaves_low start []

    -- the same over predicates, where entry i holds the predicate `entry i`
    pub codes_run_decoded : {P Q S A : Type 0} (lit : Bool → P → Q) (entry : ℕ → P)
        (leafStep : S → Q → S × A) (joinStep : S → Operator → List A → S × A) (start : S)
        → run_codes (λ r c. leafStep r (decode lit entry c)) joinStep (start, []) (codes_of rule)
        ≡ push [] (run_flat leafStep joinStep start (optimize lit (map_tree entry t)))
    codes_run_decoded {Q = Q} lit entry leafStep joinStep start =
        codes_run (λ r c. leafStep r (decode lit entry c)) joinStep start
        ∙ ap (push []) (sym (run_map (decode lit entry) leafStep joinStep start rule))
        ∙ ap (λ (f : Flat Q). push [] (run_flat leafStep joinStep start f)) (optimize_decoded lit entry t)

    pub codes_read : read_back (codes_of rule) ≡ rule ∷ []
    codes_read = read_back_lem rule leaves_low

    -- where each code is worth what its entry is worth, or Kleene's Not of it where it is negated
    pub codes_value : (v w : ℕ → Truth) → ((negate : Bool) (i : ℕ) → w (predicate_code negate i) ≡ truth_under negate (v i))
        → values_of w join_all (codes_of rule) ≡ value v t ∷ []
    codes_value v w worth =
        values_fold w join_all rule leaves_low
        ∙ ap (λ (x : Truth). x ∷ []) (optimize_value predicate_code v w worth t)

module _ (codes : List ℕ) (r : Optimized) (h : Coded codes r) where
  pub coded_codes : take r.count r.codes ≡ codes
  coded_codes = rw (h.count, h.codes) (take_at codes (replicate (128 - length codes) 0) (length codes) refl)

  pub coded_at : (k : ℕ) → k < length codes → get_or r.codes k 0 ≡ get_or codes k 0
  coded_at k l = rw h.codes (get_or-append codes (replicate (128 - length codes) 0) 0 k l)
