use Rattle.std.proofs.Common.{refl, ◌∙◌}
use Rattle.js_value.specs.Arguments.{seen, to_text}
use Rattle.js_machine.specs.private.Config.{keyed}
use Rattle.js_machine.proofs.Chosen.{halts, halted_if}
use Rattle.js_machine.proofs.operators.key_text.Goals as goal

pub returns-in-Ok-clause-means : goal.returns-in-Ok-clause-means
returns-in-Ok-clause-means c = λ t. rw c.in-Ok.ensures refl

pub returns-in-Err-clause-means : goal.returns-in-Err-clause-means
returns-in-Err-clause-means c = halted_if c.halted.result c.in-Err.halt _ _ c.halted.ensures.memory c.halted.ensures.means
    (λ step n means t. means t ∙ halts (to_text (seen c.args.value.now)) (keyed t c.args.next c.args.env.index) c.in-Err.halt c.in-Err.ensures n)
