use Rattle.std.proofs.Common.{arith}
use Rattle.js_tree.specs.Tree.{plain_expr, plain_stmt}
use Rattle.cov_rewrite.proofs.Joined.{block_rules, missing_made}
use Rattle.cov_rewrite.proofs.blocks.missing_arm.Goals as goal

pub returns-in_ok-new : goal.returns-in_ok-new
returns-in_ok-new c =
    let made = missing_made c.args.before in
    grind (arith, block_rules, made)
