use Rattle.std.proofs.Common.{◌≡◌, ◌+◌, drop}
use Rattle.js_tree.specs.Tree.{plain_params}
use Rattle.js_meaning.specs.Scopes.{expected_arguments}
use Rattle.js_code.proofs.names.expected_arguments.Given as goal

abbrev pub invariant-loop-index : goal.invariant-loop-index
invariant-loop-index l = l.index + expected_arguments (plain_params (drop l.index l.params)) ≡ expected_arguments (plain_params l.params)
