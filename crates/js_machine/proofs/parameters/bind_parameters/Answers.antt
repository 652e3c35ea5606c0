use Rattle.std.proofs.Common.{sym, subst, ap, ◌∙◌}
use Rattle.js_code.specs.Code.{reader}
use Rattle.js_code.specs.Node.{build}
use Rattle.js_code.specs.Part.{as_code, as_params}
use Rattle.js_meaning.specs.Effects.{handle}
use Rattle.js_meaning.specs.Meaning as M
use Rattle.js_meaning.specs.Scopes.{params_of}
use Rattle.js_machine.specs.private.Config.{view_of, body_comp, control_comp}
use Rattle.js_machine.specs.private.State.{Turns}
use Rattle.js_machine.proofs.AtOnce.{found_then}
use Rattle.js_machine.proofs.Forms.{method_params}
use Rattle.js_machine.proofs.parameters.bind_parameters.Goals as goal

pub returns-in-Function-clause-turns : goal.returns-in-Function-clause-turns
returns-in-Function-clause-turns c = found_then c.bind.result _ _ c.bind.ensures.turns (λ control turns p.
    subst (λ x. Turns (handle (M.comp_params p x c.args.env.index c.args.arguments.now) (M.with_value (λ v. body_comp (view_of p c.args.code.now.nodes) c.args.function c.args.env.index))) c.args.heap.now (control_comp (view_of p c.args.code.now.nodes) control) c.bind.new.heap)
    (sym (ap params_of (ap as_code (c.node.ensures.read ∙ ap (build (reader c.args.code.now.nodes)) c.in-Function.is)) ∙ method_params c.in-Function.is_method c.in-Function.number (as_params (reader c.args.code.now.nodes c.in-Function.params)) _)) (turns p))

pub returns-in-ArrowExpression-clause-turns : goal.returns-in-ArrowExpression-clause-turns
returns-in-ArrowExpression-clause-turns c = found_then c.bind-in-ArrowExpression.result _ _ c.bind-in-ArrowExpression.ensures.turns (λ control turns p.
    subst (λ x. Turns (handle (M.comp_params p x c.args.env.index c.args.arguments.now) (M.with_value (λ v. body_comp (view_of p c.args.code.now.nodes) c.args.function c.args.env.index))) c.args.heap.now (control_comp (view_of p c.args.code.now.nodes) control) c.bind-in-ArrowExpression.new.heap)
    (sym (ap params_of (ap as_code (c.node.ensures.read ∙ ap (build (reader c.args.code.now.nodes)) c.in-ArrowExpression.is)))) (turns p))

pub returns-in-ArrowBlock-clause-turns : goal.returns-in-ArrowBlock-clause-turns
returns-in-ArrowBlock-clause-turns c = found_then c.bind-in-ArrowBlock.result _ _ c.bind-in-ArrowBlock.ensures.turns (λ control turns p.
    subst (λ x. Turns (handle (M.comp_params p x c.args.env.index c.args.arguments.now) (M.with_value (λ v. body_comp (view_of p c.args.code.now.nodes) c.args.function c.args.env.index))) c.args.heap.now (control_comp (view_of p c.args.code.now.nodes) control) c.bind-in-ArrowBlock.new.heap)
    (sym (ap params_of (ap as_code (c.node.ensures.read ∙ ap (build (reader c.args.code.now.nodes)) c.in-ArrowBlock.is)))) (turns p))
