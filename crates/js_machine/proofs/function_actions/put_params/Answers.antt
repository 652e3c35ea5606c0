use Rattle.std.proofs.Common.{sym, subst, ap, ◌∙◌}
use Rattle.std.proofs.lemmas.Result.{IfOk-weaker}
use Rattle.std.proofs.Common.{◌++◌, map, false, append-nil}
use Rattle.js_heap.specs.Environment.{plain_binding}
use Rattle.js_code.specs.Code.{reader}
use Rattle.js_code.specs.Node.{ScopeHolds, build}
use Rattle.js_code.specs.Part.{as_code}
use Rattle.js_code.specs.declared.scopes.BodyScope.{BodyScope}
use Rattle.js_meaning.specs.Scopes.{param_names, params_of, uninitialized}
use Rattle.js_machine.proofs.Forms.{method_params}
use Rattle.js_machine.proofs.OtherNodes as other
use Rattle.js_machine.proofs.function_actions.put_params.Goals as goal

pub returns-in-Function : goal.returns-in-Function
returns-in-Function c =
    let holds = subst (ScopeHolds (reader c.args.code.now.nodes)) c.in-Function.is c.node.ensures.scope in
    IfOk-weaker c.put_names.result _ _ (λ u e. e ∙ ap (λ xs. map plain_binding c.args.names.now ++ map (uninitialized false) xs)
    (c.as_slice.ensures ∙ ap (λ (s : BodyScope). s.params) holds.1 ∙ ap param_names (sym (method_params _ _ _ _))
    ∙ ap (λ x. param_names (params_of (as_code x))) (sym (c.node.ensures.read ∙ ap (build (reader c.args.code.now.nodes)) c.in-Function.is)))) c.put_names.ensures

pub returns-in-ArrowExpression : goal.returns-in-ArrowExpression
returns-in-ArrowExpression c =
    let holds = subst (ScopeHolds (reader c.args.code.now.nodes)) c.in-ArrowExpression.is c.node.ensures.scope in
    IfOk-weaker c.put_names-in-ArrowExpression.result _ _ (λ u e. e ∙ ap (λ xs. map plain_binding c.args.names.now ++ map (uninitialized false) xs)
    (c.as_slice-in-ArrowExpression.ensures ∙ ap (λ (s : BodyScope). s.params) holds.1
    ∙ ap (λ x. param_names (params_of (as_code x))) (sym (c.node.ensures.read ∙ ap (build (reader c.args.code.now.nodes)) c.in-ArrowExpression.is)))) c.put_names-in-ArrowExpression.ensures

pub returns-in-ArrowBlock : goal.returns-in-ArrowBlock
returns-in-ArrowBlock c =
    let holds = subst (ScopeHolds (reader c.args.code.now.nodes)) c.in-ArrowBlock.is c.node.ensures.scope in
    IfOk-weaker c.put_names-in-ArrowBlock.result _ _ (λ u e. e ∙ ap (λ xs. map plain_binding c.args.names.now ++ map (uninitialized false) xs)
    (c.as_slice-in-ArrowBlock.ensures ∙ ap (λ (s : BodyScope). s.params) holds.1
    ∙ ap (λ x. param_names (params_of (as_code x))) (sym (c.node.ensures.read ∙ ap (build (reader c.args.code.now.nodes)) c.in-ArrowBlock.is)))) c.put_names-in-ArrowBlock.ensures

pub returns-in_default : goal.returns-in_default
returns-in_default c = sym (ap (λ x. map plain_binding c.args.names.now ++ map (uninitialized false) (param_names (params_of x)))
    (ap as_code c.node.ensures.read ∙ other.no_code (reader c.args.code.now.nodes) c.node.result.now c.in_default.not-Function c.in_default.not-ArrowExpression c.in_default.not-ArrowBlock)
    ∙ append-nil (map plain_binding c.args.names.now))
