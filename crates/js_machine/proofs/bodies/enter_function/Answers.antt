use Rattle.std.proofs.Common.{sym, subst, ap, ◌∙◌}
use Rattle.std.proofs.lemmas.Result.{IfOk-weaker}
use Rattle.js_tree.specs.Codes.{Code}
use Rattle.js_code.specs.Code.{reader}
use Rattle.js_code.specs.Node.{ScopeHolds, arrow_body, build}
use Rattle.std.proofs.Common.{None}
use Rattle.js_tree.specs.Plain as P
use Rattle.js_code.specs.Part.{as_code, as_params, as_stmts}
use Rattle.js_meaning.specs.Effects.{Comp}
use Rattle.js_meaning.specs.Meaning as M
use Rattle.js_machine.specs.private.Config.{view_of, control_comp}
use Rattle.js_machine.specs.private.State.{Turns}
use Rattle.js_machine.proofs.Calls.{in_code, method_names, no_names}
use Rattle.js_machine.proofs.OtherNodes as other
use Rattle.js_machine.proofs.bodies.enter_function.Goals as goal

pub returns-in-Function-clause-means : goal.returns-in-Function-clause-means
returns-in-Function-clause-means c =
    let holds = subst (ScopeHolds (reader c.args.code.now.nodes)) c.in-Function.is c.node.ensures.scope in
    IfOk-weaker c.enter_code.result _ _ (λ control turns p.
    subst (λ (code : Code). Turns (in_code code c.args.env.index (M.comp_concise p (arrow_body (as_code ((reader c.args.code.now.nodes) c.args.function))))) c.args.heap.now (control_comp (view_of p c.args.code.now.nodes) control) c.enter_code.new.heap)
    (sym (ap as_code (c.node.ensures.read ∙ ap (build (reader c.args.code.now.nodes)) c.in-Function.is)))
    (subst (λ (x : Comp). Turns x c.args.heap.now (control_comp (view_of p c.args.code.now.nodes) control) c.enter_code.new.heap) (method_names c.in-Function.is_method c.in-Function.number (as_params ((reader c.args.code.now.nodes) c.in-Function.params)) c.in-Function.body_loc (as_stmts ((reader c.args.code.now.nodes) c.in-Function.body)) c.args.env.index
    (M.comp_concise p (arrow_body (as_code ((reader c.args.code.now.nodes) c.args.function))))) (turns p (as_params ((reader c.args.code.now.nodes) c.in-Function.params)) (as_stmts ((reader c.args.code.now.nodes) c.in-Function.body)) holds.1))) c.enter_code.ensures.means

pub returns-in-ArrowExpression-clause-means : goal.returns-in-ArrowExpression-clause-means
returns-in-ArrowExpression-clause-means c =
    let holds = subst (ScopeHolds (reader c.args.code.now.nodes)) c.in-ArrowExpression.is c.node.ensures.scope in
    IfOk-weaker c.enter_code-in-ArrowExpression.result _ _ (λ control turns p.
    subst (λ (code : Code). Turns (in_code code c.args.env.index (M.comp_concise p (arrow_body (as_code ((reader c.args.code.now.nodes) c.args.function))))) c.args.heap.now (control_comp (view_of p c.args.code.now.nodes) control) c.enter_code-in-ArrowExpression.new.heap)
    (sym (ap as_code (c.node.ensures.read ∙ ap (build (reader c.args.code.now.nodes)) c.in-ArrowExpression.is))) (turns p (as_params ((reader c.args.code.now.nodes) c.in-ArrowExpression.params)) P.no_stmt holds.1)) c.enter_code-in-ArrowExpression.ensures.means

pub returns-in-ArrowBlock-clause-means : goal.returns-in-ArrowBlock-clause-means
returns-in-ArrowBlock-clause-means c =
    let holds = subst (ScopeHolds (reader c.args.code.now.nodes)) c.in-ArrowBlock.is c.node.ensures.scope in
    IfOk-weaker c.enter_code-in-ArrowBlock.result _ _ (λ control turns p.
    subst (λ (code : Code). Turns (in_code code c.args.env.index (M.comp_concise p (arrow_body (as_code ((reader c.args.code.now.nodes) c.args.function))))) c.args.heap.now (control_comp (view_of p c.args.code.now.nodes) control) c.enter_code-in-ArrowBlock.new.heap)
    (sym (ap as_code (c.node.ensures.read ∙ ap (build (reader c.args.code.now.nodes)) c.in-ArrowBlock.is))) (turns p (as_params ((reader c.args.code.now.nodes) c.in-ArrowBlock.params)) (as_stmts ((reader c.args.code.now.nodes) c.in-ArrowBlock.body)) holds.1)) c.enter_code-in-ArrowBlock.ensures.means

pub returns-in_default-clause-means : goal.returns-in_default-clause-means
returns-in_default-clause-means c = λ p.
    subst (λ (code : Code). Turns (in_code code c.args.env.index (M.comp_concise p (arrow_body (as_code ((reader c.args.code.now.nodes) c.args.function))))) c.args.heap.now (M.comp_concise p (arrow_body (as_code ((reader c.args.code.now.nodes) c.args.function))) c.args.env.index) c.args.heap.now)
    (sym (ap as_code c.node.ensures.read ∙ other.no_code (reader c.args.code.now.nodes) c.node.result.now c.in_default.not-Function c.in_default.not-ArrowExpression c.in_default.not-ArrowBlock))
    (no_names 0 None c.args.env.index c.args.heap.now (M.comp_concise p (arrow_body (as_code ((reader c.args.code.now.nodes) c.args.function)))))
