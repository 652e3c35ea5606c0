use Rattle.std.proofs.Common.{None, ap, ◌∙◌}
use Rattle.js_tree.specs.Plain as tree
use Rattle.js_tree.specs.Tree.{plain_expr, plain_stmt, plain_stmt_if}
use Rattle.js_tree.proofs.Equations.{stmt_if, stmt_if_none}
use Rattle.cov_preamble.specs.Pieces as pieces
use Rattle.cov_preamble.proofs.whole.puts_data.Goals as goal

pub returns : goal.returns
returns c =
    c.statement.ensures ∙ stmt_if _ _ _ _
    ∙ ap (λ e. tree.If None e (plain_stmt c.in_ok-then.then) (plain_stmt_if None)) (ap plain_expr c.in_ok-test.ensures ∙ c.in_ok-has_other.ensures)
    ∙ ap (λ x. tree.If None pieces.has_other x (plain_stmt_if None)) (ap plain_stmt c.in_ok-then.ensures ∙ c.in_ok-puts.ensures)
    ∙ ap (tree.If None pieces.has_other pieces.puts) stmt_if_none
