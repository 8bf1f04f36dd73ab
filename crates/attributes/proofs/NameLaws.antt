-- Names and records as the code reads and writes them: a name written to its places, the fields of a record as they are stored, and the
-- outcomes of a definition, one for each way out.
-- Assumes nothing.
use Rattle.std.proofs.Common.{◌≡◌, true, false, Bool, Option, None, Some, List, ◌++◌, ℕ, suc, ◌+◌, ◌-◌, ◌≤◌, ◌<◌}
use Rattle.std.proofs.Common.{length, set, take, drop, replicate}
use Rattle.std.proofs.Common.{sym, ap, ap₂, ◌∙◌, true≢false, append_assoc, arith}
use Rattle.std.specs.Option.{is_some}
use Rattle.std.proofs.lemmas.List.Edits.{sets, sets-eq}
use Rattle.std.proofs.lemmas.Slice.{take-put_mid, drop-put_mid}
use borrow.Rule.Slice.PartMut.{mid_of, put_mid, post_of, same_len_mid, mid_len, Post-is}
use borrow.Author.Tests.{le-ltb, lt-ltb}
use Rattle.error.specs.Answers.{Refused, Done, number}
use Rattle.error.specs.declared.Refusal.TheVariants.{LimitPassed, NameTwice}
use Rattle.lists.specs.AndLaws.{and_first, and_second, and_both}
use Rattle.bytes_equal.specs.Bytes.{same_bytes}
use Rattle.attributes.specs.declared.AttributeId.{AttributeId}
use Rattle.attributes.specs.declared.Definition.{Definition}
use Rattle.attributes.specs.Table.{attribute_limit, name_limit, record_at, is_between, count_of, name_at, named, by_name}
use Rattle.attributes.specs.Definitions.{padded, added, name_of, within_limits, outcome, defined, defined_of}
use Rattle.attributes.specs.DefinitionsLaws.{outcome_limit, outcome_twice, outcome_done}
use Rattle.attributes.specs.AddedLaws.{padded_length}

-- ---- a name written to its places, and zeros after it

regrouped : (a b c d : List ℕ) → (a ++ b) ++ (c ++ d) ≡ (a ++ (b ++ c)) ++ d
regrouped a b c d = simp append_assoc

pub name_written : (t n : List ℕ) (at : ℕ) → at + name_limit ≤ length t → length n ≤ name_limit
    → (copied zeros : List ℕ) → copied ≡ n
    → zeros ≡ replicate (length (mid_of (at + length n) (at + 32 - (at + length n)) (put_mid at (at + length n - at) t copied))) 0
    → put_mid (at + length n) (at + 32 - (at + length n)) (put_mid at (at + length n - at) t copied) zeros ≡ sets t at (padded n)
name_written t n at fits short copied zeros same filled =
    let e : ℕ = at + length n in
    let one : List ℕ = put_mid at (e - at) t copied in
    let long : length copied ≡ e - at = omega (arith, ap length same) in
    let kept : length one ≡ length t = same_len_mid at (e - at) t copied (long ∙ sym (mid_len at e t (omega arith))) in
    let many : length (mid_of e (at + 32 - e) one) ≡ 32 - length n = mid_len e (at + 32) one (omega arith) ∙ omega arith in
    let before : take e one ≡ take at t ++ copied = take-put_mid at (e - at) t copied e (omega arith) (omega arith) in
    let after : drop (at + 32) one ≡ drop (at + 32) t =
    drop-put_mid at (e - at) t copied (at + 32) (omega arith) (omega arith) long in
    let rest : post_of e (at + 32 - e) one ≡ drop (at + 32) t = Post-is e (at + 32) one (omega arith) ∙ after in
    let whole : sets t at (padded n) ≡ take at t ++ padded n ++ drop (at + 32) t =
    rw padded_length at (sets-eq (padded n) t at (omega (arith, padded_length n short))) in
    let zero : zeros ≡ replicate (32 - length n) 0 = filled ∙ ap (λ (m : ℕ). replicate m 0) many in
    ap₂ (λ (x y : List ℕ). x ++ y) before (ap₂ (λ (x y : List ℕ). x ++ y) zero rest)
    ∙ rw same (regrouped (take at t) n (replicate (32 - length n) 0) (drop (at + 32) t))
    ∙ sym whole

-- ---- what a comparison with an attribute's name told

pub named_told : (t n m : List ℕ) (i : ℕ) {told b : Bool} → m ≡ name_at t i → told ≡ same_bytes m n → told ≡ b → named t n i ≡ b
named_told t n m i e f g = ap (λ (x : List ℕ). same_bytes x n) (sym e) ∙ sym f ∙ g

-- ---- a record written field by field

pub record_written : (t : List ℕ) (count at kind : ℕ) (n : List ℕ) → count ≡ count_of t → at ≡ record_at count
    → sets (set (set (set t 0 (count_of t + 1)) at kind) (at + 1) (length n)) (at + 2) (padded n) ≡ added t kind n
unfolding added
record_written t count at kind n counted place =
    let one : at + 1 ≡ suc at = omega arith in
    let two : at + 2 ≡ suc (suc at) = omega arith in
    rw (one, two, place, counted)

-- ---- the outcomes of a definition

module _ (t : List ℕ) (d : Definition) where
  -- its name is empty or long
  pub long_refused : (told : Bool) → told ≡ is_between 1 d.length name_limit → told ≡ false
      → outcome (number (Refused LimitPassed)) t ≡ defined_of t d
  long_refused told e f = sym (outcome_limit t d (and_first _ _ (sym e ∙ f)))

  -- a full table takes no definition
  pub full_refused : (n : ℕ) → n ≡ count_of t → attribute_limit ≤ n → outcome (number (Refused LimitPassed)) t ≡ defined_of t d
  full_refused n e h = sym (outcome_limit t d (and_second _ _ (le-ltb _ _ (rw e at h))))

  -- within the limits
  module _ (told : Bool) (e : told ≡ is_between 1 d.length name_limit) (f : told ≡ true)
      (n : ℕ) (g : n ≡ count_of t) (h : n < attribute_limit) where
    within : within_limits t d ≡ true
    within = and_both _ _ (sym e ∙ f) (lt-ltb _ _ (rw g at h))

    pub twice_refused : (r : Option AttributeId) → r ≡ by_name t (name_of d) → is_some r ≡ true
        → outcome (number (Refused NameTwice)) t ≡ defined_of t d
    twice_refused (Some i) k s = sym (outcome_twice t d i within (sym k))
    twice_refused None k s = absurd (true≢false (sym s))

    pub new_taken : (r : Option AttributeId) → r ≡ by_name t (name_of d) → is_some r ≡ false
        → outcome (number Done) (defined t d) ≡ defined_of t d
    new_taken (Some i) k s = absurd (true≢false s)
    new_taken None k s = sym (outcome_done t d within (sym k))
