use Rattle.std.proofs.Common.{◌≡◌, ◌++◌, drop}
use Rattle.js_meaning.specs.Scopes.{names_of}
use Rattle.js_code.proofs.names.push_names.Given as goal

abbrev pub invariant-loop-function : goal.invariant-loop-function
invariant-loop-function l = l.names ++ names_of (drop l.function-index l.functions) ≡ l.fn.names ++ names_of l.functions
