use Rattle.js_coverage.proofs.CoverageWorked.{values, objects, cycles}
use Rattle.js_coverage.proofs.coverage_rows.worked_coverage.Goals as goal

pub returns-clause-values : goal.returns-clause-values
returns-clause-values c = values

pub returns-clause-objects : goal.returns-clause-objects
returns-clause-objects c = objects

pub returns-clause-cycles : goal.returns-clause-cycles
returns-clause-cycles c = cycles
