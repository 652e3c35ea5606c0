use Rattle.cov_rewrite.proofs.Linking.{makes_rewritten}
use Rattle.cov_rewrite.proofs.laws.makes.Goals as goal

pub returns : goal.returns
returns c = makes_rewritten
