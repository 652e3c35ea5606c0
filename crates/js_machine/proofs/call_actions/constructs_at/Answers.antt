use Rattle.std.proofs.Common.{sym, ap, ◌∙◌}
use Rattle.js_tree.specs.Codes.{is_constructor}
use Rattle.js_code.specs.Code.{reader}
use Rattle.js_code.specs.Node.{build}
use Rattle.js_code.specs.Part.{as_code}
use Rattle.js_machine.proofs.OtherNodes as other
use Rattle.js_machine.proofs.Shapes.{method_constructs}
use Rattle.js_machine.proofs.call_actions.constructs_at.Goals as goal

pub returns-in-Function : goal.returns-in-Function
returns-in-Function c = method_constructs c.in-Function.is_method _ ∙ ap (λ x. is_constructor (as_code x)) (sym (c.node.ensures.read ∙ ap (build (reader c.args.code.now.nodes)) c.in-Function.is))

pub returns-in-ArrowExpression : goal.returns-in-ArrowExpression
returns-in-ArrowExpression c = ap (λ x. is_constructor (as_code x)) (sym (c.node.ensures.read ∙ ap (build (reader c.args.code.now.nodes)) c.in-ArrowExpression.is))

pub returns-in-ArrowBlock : goal.returns-in-ArrowBlock
returns-in-ArrowBlock c = ap (λ x. is_constructor (as_code x)) (sym (c.node.ensures.read ∙ ap (build (reader c.args.code.now.nodes)) c.in-ArrowBlock.is))

pub returns-in_default : goal.returns-in_default
returns-in_default c = ap is_constructor (sym (ap as_code c.node.ensures.read ∙ other.no_code (reader c.args.code.now.nodes) c.node.result.now c.in_default.not-Function c.in_default.not-ArrowExpression c.in_default.not-ArrowBlock))
