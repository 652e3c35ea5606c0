use Rattle.std.proofs.Common.{sym, ◌∙◌}
use Rattle.js_meaning.specs.Meaning as M
use Rattle.js_machine.specs.private.Config.{expr_at}
use Rattle.js_machine.proofs.Chosen.{goes_right, stays_left}
use Rattle.js_machine.proofs.operators.logical.Goals as goal

pub returns-then-goes_on-clause-means : goal.returns-then-goes_on-clause-means
returns-then-goes_on-clause-means c = λ t. goes_right c.args.operator (M.comp_expr t.program (expr_at t c.args.right) c.args.env.index) c.args.value (sym c.goes_on.ensures ∙ c.if-goes_on.true)

pub returns-else-goes_on-clause-means : goal.returns-else-goes_on-clause-means
returns-else-goes_on-clause-means c = λ t. stays_left c.args.operator (M.comp_expr t.program (expr_at t c.args.right) c.args.env.index) c.args.value (sym c.goes_on.ensures ∙ c.if-goes_on.false)
