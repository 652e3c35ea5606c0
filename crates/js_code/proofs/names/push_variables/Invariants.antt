use Rattle.std.proofs.Common.{◌≡◌, ◌++◌, drop, map}
use Rattle.js_value.specs.Realm.{undefined}
use Rattle.js_meaning.specs.Scopes.{names_of, variable_of}
use Rattle.js_code.proofs.names.push_variables.Given as goal

abbrev pub invariant-loop-function : goal.invariant-loop-function
invariant-loop-function l = l.names ++ map (variable_of undefined) (names_of (drop l.function-index l.functions)) ≡ l.fn.names ++ map (variable_of undefined) (names_of l.functions)
