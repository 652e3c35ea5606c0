use Rattle.std.proofs.Common.{◌≡◌, ◌++◌, drop}
use Rattle.js_tree.specs.Tree.{plain_params}
use Rattle.js_meaning.specs.Scopes.{param_names}
use Rattle.js_code.proofs.names.param_names.Given as goal

abbrev pub invariant-loop-param : goal.invariant-loop-param
invariant-loop-param l = l.names ++ param_names (plain_params (drop l.param-index l.params)) ≡ param_names (plain_params l.params)
