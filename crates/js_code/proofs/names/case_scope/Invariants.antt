use Rattle.std.proofs.Common.{◌≡◌, ◌++◌, drop, map}
use Rattle.js_tree.specs.Tree.{plain_cases}
use Rattle.js_value.specs.Realm.{undefined}
use Rattle.js_meaning.specs.Scopes.{cases_stmts, lexical_stmts, names_of, variable_of}
use Rattle.js_code.proofs.names.case_scope.Given as goal

abbrev pub invariant-loop-case : goal.invariant-loop-case
invariant-loop-case l = l.names ++ lexical_stmts (cases_stmts (plain_cases (drop l.case-index l.cases))) ≡ map (variable_of undefined) (names_of l.fn.functions) ++ lexical_stmts (cases_stmts (plain_cases l.cases))
