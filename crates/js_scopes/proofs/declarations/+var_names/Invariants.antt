-- What is left of a list is declared after what is out already.
use Rattle.std.proofs.Common.{◌≡◌, ◌++◌, drop}
use Rattle.js_scopes.specs.Declarations.{var_stmts, var_cases}
use Rattle.js_scopes.specs.private.Plain.{plain_all}
use Rattle.js_tree.specs.Tree.{plain_stmts, plain_cases}
use Rattle.js_scopes.proofs.declarations.+var_names.Given as goal

abbrev pub invariant-var_stmts-loop-stmt : goal.invariant-var_stmts-loop-stmt
invariant-var_stmts-loop-stmt l = plain_all l.out ++ var_stmts (plain_stmts (drop l.stmt-index l.list)) ≡ plain_all l.fn.out ++ var_stmts (plain_stmts l.list)

abbrev pub invariant-var_cases-loop-case : goal.invariant-var_cases-loop-case
invariant-var_cases-loop-case l = plain_all l.out ++ var_cases (plain_cases (drop l.case-index l.list)) ≡ plain_all l.fn.out ++ var_cases (plain_cases l.list)
