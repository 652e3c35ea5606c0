use Rattle.std.proofs.Common.{None, ap, ◌∙◌}
use Rattle.js_tree.specs.Plain as tree
use Rattle.js_tree.specs.Tree.{plain_expr}
use Rattle.js_tree.proofs.Equations.{expr_if_some, stmt_return}
use Rattle.js_prelude.proofs.statements.returns.Goals as goal

pub returns : goal.returns
returns c = c.statement.ensures ∙ stmt_return _ _ ∙ ap (tree.Return None) (expr_if_some _ ∙ ap (λ e. tree.some_expr (plain_expr e)) c.in_ok-value.ensures)
