use Rattle.std.proofs.Common.{ap, sym, ◌∙◌}
use Rattle.js_tree.specs.Tree.{plain_stmts}
use Rattle.cov_rewritten.specs.Rewritten.{joined}
use Rattle.cov_rewrite.specs.Blocks.{waiting}
use Rattle.cov_rewrite.proofs.Joined.{joined_none}
use Rattle.cov_rewrite.proofs.blocks.append_if.Goals as goal

pub returns-in-None : goal.returns-in-None
returns-in-None c =
    let out = plain_stmts c.args.out.now in
    sym (ap (λ left. joined out (waiting left)) c.in-None.is ∙ joined_none out)
