use Rattle.std.proofs.Common.{rules}
use Rattle.cov_commands.proofs.DemoLemmas.{text-demo}
use Rattle.cov_commands.proofs.demo_file.demo_text.Goals as goal

pub returns : goal.returns
returns c = rw (text-demo c.args.seed c.args.count) (search rules)
