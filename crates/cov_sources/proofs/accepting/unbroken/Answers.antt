use Rattle.std.proofs.Common.{sym, ap, ◌∙◌}
use Rattle.js_tree.specs.Tree.{plain_file}
use Rattle.cov_sources.proofs.accepting.unbroken.Goals as goal

pub returns-in-Ok-clause-only : goal.returns-in-Ok-clause-only
returns-in-Ok-clause-only c = λ other reads. c.requires.only other reads ∙ ap plain_file (sym c.in-Ok.ensures.file)
