use Rattle.std.proofs.lemmas.Iterator.Consumers.{YieldsList-from_rest, map_from_collect}
use Rattle.cov_report.proofs.put.files_of.Goals as goal

pub returns-clause-files : goal.returns-clause-files
returns-clause-files c = map_from_collect c.collect.result c.collect.ensures.ran (YieldsList-from_rest {s = c.files.result} c.args.coverage.now c.files.ensures.files)
