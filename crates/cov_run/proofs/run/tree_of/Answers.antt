-- The copy that is read has the bytes of the source.
use Rattle.std.proofs.Common.{IfOk, subst, ◌∙◌}
use Rattle.js_tree.specs.Tree.{plain_file}
use Rattle.cov_sources.specs.Refused.{HasOnly}
use Rattle.cov_run.proofs.run.tree_of.Goals as goal

pub returns-clause-only : goal.returns-clause-only
returns-clause-only c =
    subst (λ bytes. HasOnly bytes (plain_file c.in-Ok.tree)) (c.in_ok-bytes.ensures.items ∙ c.as_slice.ensures)
    (subst (λ answer. IfOk answer (λ source. HasOnly c.in_ok-bytes.bytes.items (plain_file source.1))) c.in-Ok.is c.in_ok-tree.ensures.only)
