-- What is left of the list is declared after what is out already.
use Rattle.std.proofs.Common.{◌≡◌, ◌++◌, drop}
use Rattle.js_scopes.specs.Declarations.{declared_cases}
use Rattle.js_scopes.specs.private.Plain.{plain_all}
use Rattle.js_tree.specs.Tree.{plain_cases}
use Rattle.js_scopes.proofs.declarations.declared_cases.Given as goal

abbrev pub invariant-loop-case : goal.invariant-loop-case
invariant-loop-case l = plain_all l.out ++ declared_cases (plain_cases (drop l.case-index l.list)) ≡ plain_all l.fn.out ++ declared_cases (plain_cases l.list)
