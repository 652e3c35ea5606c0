use Rattle.std.proofs.Common.{refl}
use Rattle.js_meaning.specs.declared.outcome.Completion.TheVariants as completion
use Rattle.js_meaning.specs.Effects.{ret}
use Rattle.js_machine.specs.private.Config.{view_of}
use Rattle.js_machine.proofs.AtOnce.{some_is}
use Rattle.js_machine.proofs.Assigned.{choice_turns}
use Rattle.js_machine.proofs.choices.return_operand.Goals as goal

pub returns-in-Some-clause-turns : goal.returns-in-Some-clause-turns
returns-in-Some-clause-turns c = λ p. choice_turns (view_of p c.args.code.now.nodes) c.args.value c.args.env.index c.args.heap.now c.in-Some.value (λ v. ret (completion.Return v)) _
    (some_is _ _ _ c.in-Some.is c.in_ok-value.ensures p) refl
