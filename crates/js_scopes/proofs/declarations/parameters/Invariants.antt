-- What is left of the list is declared after what is out already.
use Rattle.std.proofs.Common.{◌≡◌, ◌++◌, drop}
use Rattle.js_scopes.specs.Declarations.{parameters}
use Rattle.js_scopes.specs.private.Plain.{plain_all}
use Rattle.js_tree.specs.Tree.{plain_params}
use Rattle.js_scopes.proofs.declarations.parameters.Given as goal

abbrev pub invariant-loop-param : goal.invariant-loop-param
invariant-loop-param l = plain_all l.out ++ parameters (plain_params (drop l.param-index l.list)) ≡ plain_all l.fn.out ++ parameters (plain_params l.list)
