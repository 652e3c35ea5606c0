use Rattle.std.proofs.Common.{◌≡◌, false, None, Some, ap, sym, ◌∙◌}
use Rattle.js_scopes.specs.Checks.{first_fault}
use Rattle.js_prelude.proofs.Unbroken.{unbroken}
use Rattle.js_prelude.proofs.tree.prelude.Goals as goal

-- the tree breaks no rule
pub unreachable-requires : goal.unreachable-requires
unreachable-requires c =
    let some = c.in-Err.ensures.fault c.in_default.not-Memory in
    let both : None ≡ Some c.in-Err.field-0-1 = sym unbroken ∙ sym (ap (first_fault false) c.in_ok-file.ensures) ∙ some in
    absurd cc
