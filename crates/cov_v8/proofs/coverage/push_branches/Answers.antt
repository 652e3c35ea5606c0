use Rattle.std.proofs.Common.{length}
use Rattle.cov_v8.proofs.coverage.push_branches.Goals as goal

pub push_parts-requires-clause-within : goal.push_parts-requires-clause-within
push_parts-requires-clause-within c = c.further.ensures.within (length c.args.table.now) c.requires.within
