use Rattle.std.proofs.Common.{ap, None, ◌∙◌}
use Rattle.js_tree.specs.Plain as tree
use Rattle.js_tree.specs.Tree.{plain_expr, plain_stmts}
use Rattle.js_tree.proofs.Equations.{concise_body_block_body, expr_if_some, function_body_rolled, stmt_return, stmt_rolled}
use Rattle.cov_rewrite.proofs.Joined.{joined_one}
use Rattle.cov_rewrite.proofs.blocks.in_body.Goals as goal

pub returns : goal.returns
returns c =
    let back = stmt_rolled _ ∙ stmt_return _ _ ∙ ap (tree.Return None) (expr_if_some _ ∙ ap (λ v. tree.some_expr (plain_expr v)) c.in_ok-value.ensures) in
    concise_body_block_body _ ∙ ap tree.BlockBody (function_body_rolled _ ∙ ap (tree.MakeFunctionBody None) (ap plain_stmts c.in_ok-push.ensures.ok ∙ joined_one c.args.before _ back))
