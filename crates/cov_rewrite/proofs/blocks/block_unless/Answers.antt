use Rattle.std.proofs.Common.{arith}
use Rattle.js_tree.specs.Tree.{plain_expr, plain_stmt}
use Rattle.cov_rewrite.proofs.Joined.{block_rules, block_made}
use Rattle.cov_rewrite.proofs.blocks.block_unless.Goals as goal

pub returns-else-is_empty : goal.returns-else-is_empty
returns-else-is_empty c =
    let made = block_made c.args.before (plain_stmt c.args.x) in
    grind (arith, block_rules, made)
