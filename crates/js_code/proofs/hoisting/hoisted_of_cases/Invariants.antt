use Rattle.std.proofs.Common.{◌≡◌, ◌++◌}
use Rattle.js_meaning.specs.Scopes.{cases_stmts, function_stmts}
use Rattle.js_code.specs.Part.{as_cases}
use Rattle.js_code.specs.Code.{reader}
use Rattle.js_code.proofs.hoisting.hoisted_of_cases.Given as goal

abbrev pub invariant-loop-first : goal.invariant-loop-first
invariant-loop-first l = l.functions ++ function_stmts (cases_stmts (as_cases (reader l.code.nodes l.rest))) ≡ function_stmts (cases_stmts (as_cases (reader l.code.nodes l.list)))

abbrev pub decreases-loop-first : goal.decreases-loop-first
decreases-loop-first l = l.rest
