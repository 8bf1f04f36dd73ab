-- `trials::predicate_trials::says` meets its contract: the literals' list ascends, and every scale is in range. Assumes nothing.
use Rattle.std.proofs.Common.{arith, sym, ◌∙◌}
use Rattle.std.proofs.Math.Path.{refl}
use Rattle.lists.specs.Sets.{ascends}
use Rattle.lists.specs.Tabulate.{tabulate}
use Rattle.words.specs.Word.{word, signed_word}
use Rattle.predicates.specs.Integers.{integers_of}
use Rattle.predicates.proofs.MeaningLaws.{literal_scale}
use Rattle.trials.proofs.predicate_trials.says.Goals as goal

pub evaluate-truth-requires : goal.evaluate-truth-requires
unfolding ascends integers_of tabulate signed_word word
evaluate-truth-requires g c =
    record {
      literal_scale = rw c.literal_of-literal.ensures (literal_scale _ _ 1 (omega arith));
      value_scale = c.requires.value_scale;
      elements_ascend = refl;
      list_ascends = sym c.ascending.ensures ∙ c.if-ascending.true;
    }
