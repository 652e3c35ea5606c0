use Rattle.std.proofs.Common.{sym, ap, ◌∙◌}
use Rattle.std.proofs.lemmas.Result.{IfOk-weaker}
use Rattle.js_code.specs.Code.{reader}
use Rattle.js_code.specs.Node.{build}
use Rattle.js_code.specs.Part.{as_for_target}
use Rattle.js_meaning.specs.Scopes.{target_scope}
use Rattle.js_machine.proofs.OtherScopes.{target_else}
use Rattle.js_machine.proofs.scope_actions.target_names.Goals as goal

pub returns-in-TargetDeclaration : goal.returns-in-TargetDeclaration
returns-in-TargetDeclaration c = IfOk-weaker c.kind_names.result _ _ (λ names e. e
    ∙ ap (λ x. (target_scope (as_for_target x)).lexical) (sym (c.node.ensures.read ∙ ap (build (reader c.args.code.now.nodes)) c.in-TargetDeclaration.is))) c.kind_names.ensures

pub returns-in_default : goal.returns-in_default
returns-in_default c = rw c.new.ensures (sym (ap (λ x. (target_scope (as_for_target x)).lexical) c.node.ensures.read ∙ target_else (reader c.args.code.now.nodes) c.node.result.now c.in_default.not-TargetDeclaration))
