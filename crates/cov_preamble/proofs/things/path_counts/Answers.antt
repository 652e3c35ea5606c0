use Rattle.std.proofs.Common.{ap, ◌∙◌}
use Rattle.js_tree.specs.Tree.{plain_expr, plain_exprs}
use Rattle.js_tree.proofs.Equations.{exprs_push}
use Rattle.cov_object.specs.Json.{count_data}
use Rattle.cov_object.specs.declared.file.PathCoverage.{PathCoverage}
use Rattle.cov_rewritten.specs.Counters.{numeral}
use Rattle.cov_preamble.proofs.Members.{element_more}
use Rattle.cov_preamble.proofs.things.path_counts.Goals as goal

pub loop-path-preserved : goal.loop-path-preserved
loop-path-preserved c =
    element_more (λ (path : PathCoverage). count_data path.count) c.paths-paths.result.now c.loop-path.path-index c.path-item.result (plain_exprs c.loop-path.list) (plain_exprs c.push.new.self) (plain_expr c.in_ok-numeral.field-0)
    c.loop-path-test.true c.path-item.is c.loop-path.invariant (ap plain_exprs c.in_ok-push.ensures.ok ∙ exprs_push c.loop-path.list c.in_ok-numeral.field-0)
    (c.in_ok-numeral.ensures ∙ ap numeral c.get.ensures.value)
