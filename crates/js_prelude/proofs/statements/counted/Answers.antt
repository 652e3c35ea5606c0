use Rattle.std.proofs.Common.{None, Some, ap, ◌∙◌}
use Rattle.js_tree.specs.Plain as tree
use Rattle.js_tree.specs.Tree.{plain_expr, plain_expr_if, plain_for_init, plain_stmt}
use Rattle.js_tree.proofs.Equations.{expr_if_some, stmt_for}
use Rattle.js_prelude.proofs.statements.counted.Goals as goal

pub returns : goal.returns
returns c =
    c.statement.ensures ∙ stmt_for _ _ _ _ _
    ∙ ap (λ i. tree.For None (plain_for_init i) (plain_expr_if (Some c.in_ok-test.test)) (plain_expr_if (Some c.in_ok-update.update)) (plain_stmt c.in_ok-body.body)) c.in_ok-init.ensures
    ∙ ap (λ e. tree.For None (plain_for_init c.args.init) e (plain_expr_if (Some c.in_ok-update.update)) (plain_stmt c.in_ok-body.body)) (expr_if_some _ ∙ ap (λ e. tree.some_expr (plain_expr e)) c.in_ok-test.ensures)
    ∙ ap (λ e. tree.For None (plain_for_init c.args.init) (tree.some_expr (plain_expr c.args.test)) e (plain_stmt c.in_ok-body.body)) (expr_if_some _ ∙ ap (λ e. tree.some_expr (plain_expr e)) c.in_ok-update.ensures)
    ∙ ap (λ x. tree.For None (plain_for_init c.args.init) (tree.some_expr (plain_expr c.args.test)) (tree.some_expr (plain_expr c.args.update)) (plain_stmt x)) c.in_ok-body.ensures
