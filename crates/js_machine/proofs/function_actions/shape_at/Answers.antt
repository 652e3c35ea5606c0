use Rattle.std.proofs.Common.{refl, sym, ap, ◌∙◌}
use Rattle.std.proofs.Common.{subst}
use Rattle.js_code.specs.Code.{reader}
use Rattle.js_code.specs.Node.{ScopeHolds, build}
use Rattle.std.proofs.Common.{None, false}
use Rattle.js_tree.specs.Plain as P
use Rattle.js_code.specs.Part.{as_code, as_expr, as_params, as_stmts}
use Rattle.js_meaning.specs.Scopes.{shape_of}
use Rattle.js_machine.specs.private.Config.{form_code}
use Rattle.js_machine.proofs.OtherNodes as other
use Rattle.js_machine.proofs.Shapes.{function_shape, arrow_shape}
use Rattle.js_machine.proofs.function_actions.shape_at.Goals as goal

pub returns-in-Function : goal.returns-in-Function
returns-in-Function c =
    let holds = subst (ScopeHolds (reader c.args.code.now.nodes)) c.in-Function.is c.node.ensures.scope in
    rw c.shape.ensures (function_shape c.args.form c.in-Function.is_method c.in-Function.number c.in-Function.length (as_params ((reader c.args.code.now.nodes) c.in-Function.params)) (P.MakeFunctionBody c.in-Function.body_loc (as_stmts ((reader c.args.code.now.nodes) c.in-Function.body))) holds.0 ∙ ap (λ x. shape_of (form_code c.args.form (as_code x))) (sym (c.node.ensures.read ∙ ap (build (reader c.args.code.now.nodes)) c.in-Function.is)))

pub returns-in-ArrowExpression : goal.returns-in-ArrowExpression
returns-in-ArrowExpression c =
    let holds = subst (ScopeHolds (reader c.args.code.now.nodes)) c.in-ArrowExpression.is c.node.ensures.scope in
    rw c.shape-in-ArrowExpression.ensures (arrow_shape c.args.form c.in-ArrowExpression.number c.in-ArrowExpression.length (as_params ((reader c.args.code.now.nodes) c.in-ArrowExpression.params)) (P.ExpressionBody (as_expr ((reader c.args.code.now.nodes) c.in-ArrowExpression.value))) holds.0 ∙ ap (λ x. shape_of (form_code c.args.form (as_code x))) (sym (c.node.ensures.read ∙ ap (build (reader c.args.code.now.nodes)) c.in-ArrowExpression.is)))

pub returns-in-ArrowBlock : goal.returns-in-ArrowBlock
returns-in-ArrowBlock c =
    let holds = subst (ScopeHolds (reader c.args.code.now.nodes)) c.in-ArrowBlock.is c.node.ensures.scope in
    rw c.shape-in-ArrowBlock.ensures (arrow_shape c.args.form c.in-ArrowBlock.number c.in-ArrowBlock.length (as_params ((reader c.args.code.now.nodes) c.in-ArrowBlock.params)) (P.BlockBody (P.MakeFunctionBody c.in-ArrowBlock.body_loc (as_stmts ((reader c.args.code.now.nodes) c.in-ArrowBlock.body)))) holds.0 ∙ ap (λ x. shape_of (form_code c.args.form (as_code x))) (sym (c.node.ensures.read ∙ ap (build (reader c.args.code.now.nodes)) c.in-ArrowBlock.is)))

pub returns-in_default : goal.returns-in_default
returns-in_default c =
    rw c.shape-in_default.ensures (function_shape c.args.form false 0 0 P.no_param (P.MakeFunctionBody None P.no_stmt) refl
    ∙ ap (λ x. shape_of (form_code c.args.form x)) (sym (ap as_code c.node.ensures.read ∙ other.no_code (reader c.args.code.now.nodes) c.node.result.now c.in_default.not-Function c.in_default.not-ArrowExpression c.in_default.not-ArrowBlock)))
