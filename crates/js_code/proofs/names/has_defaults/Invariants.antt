use Rattle.std.proofs.Common.{◌≡◌, drop}
use Rattle.js_tree.specs.Tree.{plain_params}
use Rattle.js_meaning.specs.Scopes.{has_defaults}
use Rattle.js_code.proofs.names.has_defaults.Given as goal

abbrev pub invariant-loop-param : goal.invariant-loop-param
invariant-loop-param l = has_defaults (plain_params (drop l.param-index l.params)) ≡ has_defaults (plain_params l.params)
