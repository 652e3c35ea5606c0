-- The table has what was declared before, and what is left of the list is found after what is found already.
use Rattle.std.proofs.Common.{◌++◌, drop}
use Rattle.js_scopes.specs.Scopes.{scope}
use Rattle.js_scopes.specs.private.Plain.{plain_all}
use Rattle.js_scopes.proofs.Steps.{Goes}
use Rattle.js_scopes.proofs.scopes.scope.Given as goal

abbrev pub invariant-loop-name : goal.invariant-loop-name
invariant-loop-name l = Goes l.table l.out (drop l.name-index l.names) (l.fn.out ++ scope (plain_all l.names))
