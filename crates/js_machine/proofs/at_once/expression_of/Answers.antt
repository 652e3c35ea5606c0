use Rattle.std.proofs.Common.{ap, ◌∙◌}
use Rattle.js_meaning.specs.Meaning as M
use Rattle.js_machine.specs.private.Config.{view_of, expr_or, task_comp}
use Rattle.js_machine.proofs.at_once.expression_of.Goals as goal

pub returns-in-Some-clause-means : goal.returns-in-Some-clause-means
returns-in-Some-clause-means c = λ p. ap (task_comp (view_of p c.args.code.now.nodes)) c.in-EvaluateIf.is
    ∙ ap (λ e. M.comp_expr_if p e c.in-EvaluateIf.env.index) (c.there.ensures.expr p ∙ ap (expr_or (view_of p c.args.code.now.nodes)) c.in-Some.is)
