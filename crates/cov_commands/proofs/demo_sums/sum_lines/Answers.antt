use Rattle.std.proofs.Common.{rules}
use Rattle.cov_commands.proofs.DemoLemmas.{lines-sum}
use Rattle.cov_commands.proofs.demo_sums.sum_lines.Goals as goal

pub returns : goal.returns
returns c = rw (lines-sum c.args.sums) (search rules)
