-- The rules and the order table are tables whose entries can be moved (`Table`).
-- Assumes nothing.
use mathlib.Core.Logic.{inl, inr, ⊎_elim}
use Prim.Native.Nat.{ℕ, ◌+◌, ◌*◌, ◌<◌}
use native.Mathlib.Omega.{arith}
use Rattle.words.proofs.WordLaws.{word_back}
use Rattle.words.proofs.FrameLaws.{only_wide, only_put, word_only, bytes_put, word_lt}
use Rattle.store.specs.declared.Limits.{Limits}
use Rattle.store.specs.declared.Rule.{Rule}
use Rattle.store.specs.Layout.{rules_at, order_at}
use Rattle.store.specs.Records.{rule_at, put_rule, entry_at, put_entry}
use Rattle.store.proofs.RecordLaws.{rule_only, only_put_rule, rule_back, bytes_put_rule}
use Rattle.changes.proofs.MovingLaws.{Table}

-- what a rule's two numbers fit
abbrev pub RuleFits : Rule → Type 0
RuleFits r = (r.id < 4294967296) × (r.root < 4294967296)

abbrev pub rule_spot : ℕ → ℕ
rule_spot i = rules_at + 8 * i

abbrev pub entry_spot : Limits → ℕ → ℕ
entry_spot limits i = order_at limits + 2 * i

pub rule_table : Table rule_at put_rule rule_spot RuleFits
rule_table =
    record {
      past = λ i k h. omega arith;
      rise = λ i. omega arith;
      reach = λ b i x. only_wide (omega arith) (omega arith) (only_put_rule b (rule_spot i) x);
      apart = λ p i o. rule_only p (rule_spot i) (⊎_elim (λ u. inl (omega arith)) (λ v. inr v) o);
      back = λ b i x f room. rule_back b (rule_spot i) x f.0 f.1 (omega arith);
      fits = λ b i y. (word_lt 4 b (rule_spot i) y, word_lt 4 b (rule_spot i + 4) y);
      bytes = λ b i x y. bytes_put_rule b (rule_spot i) x y;
    }

pub entry_table : (limits : Limits) → Table (entry_at limits) (put_entry limits) (entry_spot limits) (λ x. x < 65536)
entry_table limits =
    record {
      past = λ i k h. omega arith;
      rise = λ i. omega arith;
      reach = λ b i x. only_wide (omega arith) (omega arith) (only_put 2 b (entry_spot limits i) x);
      apart = λ p i o. word_only p 2 (entry_spot limits i) (⊎_elim (λ u. inl (omega arith)) (λ v. inr v) o);
      back = λ b i x f room. word_back 2 b (entry_spot limits i) x (omega arith) f;
      fits = λ b i y. word_lt 2 b (entry_spot limits i) y;
      bytes = λ b i x y. bytes_put 2 b (entry_spot limits i) x y;
    }
