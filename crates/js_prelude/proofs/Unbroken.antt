-- The tree of the prelude breaks no early rule, by computing.
use Rattle.std.proofs.Common.{◌≡◌, false, None, refl}
use Rattle.js_scopes.specs.Checks.{faults, first_fault}
use Rattle.js_scopes.specs.Reserved.{is_reserved}
use Rattle.js_prelude.specs.Prelude.{prelude_tree}

pub unbroken : first_fault false prelude_tree ≡ None
unfolding prelude_tree faults is_reserved
unbroken = refl
