use Rattle.std.proofs.Common.{◌≡◌, ◌++◌}
use Rattle.js_meaning.specs.Scopes.{function_stmts}
use Rattle.js_code.specs.Part.{as_stmts}
use Rattle.js_code.specs.Code.{reader}
use Rattle.js_code.proofs.hoisting.hoist_list.Given as goal

abbrev pub invariant-loop-first : goal.invariant-loop-first
invariant-loop-first l =
    l.functions ++ function_stmts (as_stmts (reader l.code.nodes l.rest)) ≡ l.fn.functions ++ function_stmts (as_stmts (reader l.code.nodes l.list))

abbrev pub decreases-loop-first : goal.decreases-loop-first
decreases-loop-first l = l.rest
