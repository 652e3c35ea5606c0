use Rattle.std.proofs.Common.{rules}
use Rattle.cov_commands.proofs.DemoLemmas.{line-function}
use Rattle.cov_commands.proofs.demo_file.function_line.Goals as goal

pub returns : goal.returns
returns c = rw (line-function c.args.number c.args.constant) (search rules)
