use Rattle.std.proofs.Common.{rules}
use Rattle.cov_commands.proofs.LineLemmas.{line-refused}
use Rattle.cov_commands.proofs.line.refused_line.Goals as goal

pub returns : goal.returns
returns c = rw (line-refused c.args.path.now c.args.place c.args.why.now) (search rules)
