use Rattle.std.proofs.Common.{None, ap, ◌∙◌}
use Rattle.js_tree.specs.Plain as tree
use Rattle.js_tree.specs.Tree.{plain_expr, plain_stmt, plain_stmt_if}
use Rattle.js_tree.proofs.Equations.{stmt_if, stmt_if_none}
use Rattle.js_prelude.proofs.statements.when.Goals as goal

pub returns : goal.returns
returns c =
    c.statement.ensures ∙ stmt_if _ _ _ _
    ∙ ap (λ e. tree.If None (plain_expr e) (plain_stmt c.in_ok-holds.holds) (plain_stmt_if None)) c.in_ok-test.ensures
    ∙ ap (λ x. tree.If None (plain_expr c.args.test) (plain_stmt x) (plain_stmt_if None)) c.in_ok-holds.ensures
    ∙ ap (λ x. tree.If None (plain_expr c.args.test) (plain_stmt c.args.holds) x) stmt_if_none
