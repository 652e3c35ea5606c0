use Rattle.std.proofs.Common.{rules}
use Rattle.cov_commands.proofs.DemoLemmas.{line-sum}
use Rattle.cov_commands.proofs.demo_sums.sum_line.Goals as goal

pub returns : goal.returns
returns c = rw (line-sum c.args.name.now c.args.totals) (search rules)
