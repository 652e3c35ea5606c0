-- The copy that is read has the bytes of the file.
use Rattle.std.proofs.Common.{IfOk, subst}
use Rattle.js_tree.specs.Tree.{plain_file}
use Rattle.cov_sources.specs.Refused.{HasOnly}
use Rattle.cov_run.proofs.loader.tree_of.Goals as goal

pub returns-in-Ok-clause-only : goal.returns-in-Ok-clause-only
returns-in-Ok-clause-only c =
    subst (λ bytes. HasOnly bytes (plain_file c.in-Ok.tree)) c.in_ok-from_slice.ensures.items
    (subst (λ answer. IfOk answer (λ source. HasOnly c.in_ok-from_slice.field-0.items (plain_file source.1))) c.in-Ok.is c.in_ok-tree.ensures.only)
