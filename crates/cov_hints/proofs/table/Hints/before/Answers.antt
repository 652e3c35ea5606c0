use Rattle.std.proofs.Common.{◌∙◌}
use Rattle.cov_hints.proofs.table.Hints.before.Goals as goal

pub returns : goal.returns
returns c = c.copied.ensures ∙ c.get.ensures.value
