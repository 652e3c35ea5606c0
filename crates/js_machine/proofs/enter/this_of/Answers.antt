use Rattle.std.proofs.Common.{sym, ap, ◌∙◌}
use Rattle.js_code.specs.Code.{reader}
use Rattle.js_code.specs.Node.{build}
use Rattle.js_code.specs.Part.{as_code}
use Rattle.js_machine.specs.private.Config.{own_this}
use Rattle.js_machine.proofs.OtherNodes as other
use Rattle.js_machine.proofs.Shapes.{method_this}
use Rattle.js_machine.proofs.enter.this_of.Goals as goal

pub returns-in-ArrowExpression : goal.returns-in-ArrowExpression
returns-in-ArrowExpression c = ap (λ x. own_this (as_code x) c.args.this) (sym (c.node.ensures.read ∙ ap (build (reader c.args.code.now.nodes)) c.in-ArrowExpression.is))

pub returns-in-ArrowBlock : goal.returns-in-ArrowBlock
returns-in-ArrowBlock c = ap (λ x. own_this (as_code x) c.args.this) (sym (c.node.ensures.read ∙ ap (build (reader c.args.code.now.nodes)) c.in-ArrowBlock.is))

pub returns-in-Function : goal.returns-in-Function
returns-in-Function c = method_this _ _ c.args.this ∙ ap (λ x. own_this (as_code x) c.args.this) (sym (c.node.ensures.read ∙ ap (build (reader c.args.code.now.nodes)) c.in-Function.is))

pub returns-in_default : goal.returns-in_default
returns-in_default c = ap (λ x. own_this x c.args.this) (sym (ap as_code c.node.ensures.read ∙ other.no_code (reader c.args.code.now.nodes) c.node.result.now c.in_default.not-Function c.in_default.not-ArrowExpression c.in_default.not-ArrowBlock))
