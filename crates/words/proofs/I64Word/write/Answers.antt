-- `write` of `i64` meets its contract. The check finds this alone, but must-fail/negative_one_less.edit is to fall by a fact.
-- Assumes nothing.
use mathlib.Core.Path.{ap, ◌∙◌}
use Prim.Native.Nat.{ℕ}
use mir.Syntax.{w64}
use mir.Val.{of_z}
use mir.ValLaws.{to_z-of_z}
use Rattle.words.specs.Word.{put}
use Rattle.words.proofs.I64Word.write.Goals as goal

pub returns : goal.returns
returns c =
    let bits = c.cast_unsigned.ensures ∙ ap (of_z w64) (to_z-of_z w64 c.args.self c.ranges.self) in
    c.write.ensures ∙ ap (λ (u : ℕ). put 8 c.args.bytes.now c.args.at u) bits
