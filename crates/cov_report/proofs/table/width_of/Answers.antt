use Rattle.std.proofs.Common.{ap, ◌∙◌}
use Rattle.std.proofs.lemmas.Iterator.Consumers.{YieldsList-from_rest, YieldsList-end}
use Rattle.cov_report.specs.Table.{width_of}
use Rattle.cov_report.proofs.table.width_of.Goals as goal

pub returns : goal.returns
returns c = c.loop-file.invariant ∙ ap width_of (YieldsList-end (YieldsList-from_rest {s = c.into_iter-file-iterator.result} c.args.map.now cc) c.loop-file.yielded c.loop-file.file-iterator c.loop-file.yielded_by c.next.result c.next.new.self c.in-None.is c.next.ensures.steps).0
