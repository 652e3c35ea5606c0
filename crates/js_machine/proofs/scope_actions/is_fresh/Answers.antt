use Rattle.std.proofs.Common.{sym, ap, ◌∙◌}
use Rattle.std.proofs.Common.{subst}
use Rattle.js_code.specs.Code.{reader}
use Rattle.js_code.specs.Node.{ScopeHolds, build}
use Rattle.js_code.specs.Part.{as_for_init}
use Rattle.js_meaning.specs.Scopes.{is_fresh}
use Rattle.js_machine.proofs.OtherScopes.{fresh_else}
use Rattle.js_machine.proofs.scope_actions.is_fresh.Goals as goal

pub returns-in-InitDeclaration : goal.returns-in-InitDeclaration
returns-in-InitDeclaration c =
    let holds = subst (ScopeHolds (reader c.args.code.now.nodes)) c.in-InitDeclaration.is c.node.ensures.scope in
    holds.1 ∙ ap (λ x. is_fresh (as_for_init x)) (sym (c.node.ensures.read ∙ ap (build (reader c.args.code.now.nodes)) c.in-InitDeclaration.is))

pub returns-in_default : goal.returns-in_default
returns-in_default c = sym (ap (λ x. is_fresh (as_for_init x)) c.node.ensures.read ∙ fresh_else (reader c.args.code.now.nodes) c.node.result.now c.in_default.not-InitDeclaration)
