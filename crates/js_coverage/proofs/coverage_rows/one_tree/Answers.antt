use Rattle.js_coverage.proofs.Levels.{one_tree}
use Rattle.js_coverage.proofs.coverage_rows.one_tree.Goals as goal

pub returns : goal.returns
returns c = one_tree
