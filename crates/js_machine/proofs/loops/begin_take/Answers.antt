use Rattle.std.proofs.Common.{refl, ap, ◌∙◌}
use Rattle.js_machine.proofs.OtherNodes as other
use Rattle.js_meaning.specs.Meaning as M
use Rattle.js_meaning.specs.Effects.{handle}
use Rattle.std.proofs.Common.{[], ◌∷◌}
use Rattle.js_host.specs.Iteration.{plain_iteration}
use Rattle.js_meaning.specs.Scopes.{lexical_names, lexical_scope}
use Rattle.js_machine.specs.private.Config.{name_of, pass}
use Rattle.js_machine.proofs.loops.begin_take.Goals as goal

pub returns-in-TargetDeclaration-clause-means : goal.returns-in-TargetDeclaration-clause-means
returns-in-TargetDeclaration-clause-means c = λ t named. rw (c.in-TargetDeclaration.is, c.get.ensures, c.get-in-TargetDeclaration.ensures)
    (ap (λ n. M.in_scope (lexical_scope (lexical_names c.in-TargetDeclaration.kind (n ∷ []))) c.args.round.env.index (λ inner. handle (M.binds c.in-TargetDeclaration.kind n inner c.args.value)
    (M.with_value (λ w. pass t c.args.round inner (plain_iteration c.args.rest))))) (named ∙ ap name_of c.in-TargetDeclaration.is))

pub returns-in_ok-value-in-TargetExpression-clause-means : goal.returns-in_ok-value-in-TargetExpression-clause-means
returns-in_ok-value-in-TargetExpression-clause-means c = λ t named. rw (c.in-TargetExpression.is, c.in_ok-value-in-TargetExpression.ensures, c.get.ensures) refl

pub returns-in_default-clause-means : goal.returns-in_default-clause-means
returns-in_default-clause-means c = λ t named. rw (other.no_target t.tree c.args.node.now c.in_default.not-TargetDeclaration c.in_default.not-TargetExpression) refl
