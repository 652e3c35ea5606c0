use Rattle.std.proofs.Common.{sym, ap, ◌∙◌}
use Rattle.std.proofs.lemmas.Result.{IfOk-weaker}
use Rattle.std.proofs.Common.{subst}
use Rattle.js_code.specs.Code.{reader}
use Rattle.js_code.specs.Node.{ScopeHolds, build}
use Rattle.js_code.specs.Part.{as_for_init}
use Rattle.js_meaning.specs.Scopes.{init_scope}
use Rattle.js_machine.proofs.OtherScopes.{init_else}
use Rattle.js_machine.proofs.scope_actions.init_names.Goals as goal

pub returns-in-InitDeclaration : goal.returns-in-InitDeclaration
returns-in-InitDeclaration c =
    let holds = subst (ScopeHolds (reader c.args.code.now.nodes)) c.in-InitDeclaration.is c.node.ensures.scope in
    IfOk-weaker c.bindings.result _ _ (λ names e. e ∙ c.as_slice.ensures ∙ holds.0
    ∙ ap (λ x. (init_scope (as_for_init x)).lexical) (sym (c.node.ensures.read ∙ ap (build (reader c.args.code.now.nodes)) c.in-InitDeclaration.is))) c.bindings.ensures

pub returns-in_default : goal.returns-in_default
returns-in_default c = rw c.new.ensures (sym (ap (λ x. (init_scope (as_for_init x)).lexical) c.node.ensures.read ∙ init_else (reader c.args.code.now.nodes) c.node.result.now c.in_default.not-InitDeclaration))
