use Rattle.std.proofs.Common.{[], ◌∷◌, ◌++◌, ap, ◌∙◌}
use Rattle.js_code.proofs.BoundNames.{declarator_goes_on}
use Rattle.js_code.proofs.names.push_uninitialized.Goals as goal

pub loop-declarator-preserved : goal.loop-declarator-preserved
loop-declarator-preserved c =
    declarator_goes_on c.loop-declarator.names c.args.constant c.args.declarators.now c.loop-declarator-test.true c.declarator-item.is c.in_ok-name.ensures
    (c.in_ok-push.ensures.ok ∙ ap (λ n. c.loop-declarator.names ++ n ∷ []) c.uninitialized.ensures) c.loop-declarator.invariant
