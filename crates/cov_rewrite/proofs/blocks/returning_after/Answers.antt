use Rattle.std.proofs.Common.{arith}
use Rattle.js_tree.specs.Tree.{plain_expr, plain_stmt}
use Rattle.cov_rewrite.proofs.Joined.{block_rules, concise_made}
use Rattle.cov_rewrite.proofs.blocks.returning_after.Goals as goal

pub returns-else-is_empty : goal.returns-else-is_empty
returns-else-is_empty c =
    let made = concise_made c.args.before (plain_expr c.args.value) in
    grind (arith, block_rules, made)
