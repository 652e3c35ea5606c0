-- What is left of the list is declared after what is out already.
use Rattle.std.proofs.Common.{◌≡◌, ◌++◌, drop}
use Rattle.js_scopes.specs.Declarations.{declared_stmts}
use Rattle.js_scopes.specs.private.Plain.{plain_all}
use Rattle.js_tree.specs.Tree.{plain_stmts}
use Rattle.js_scopes.proofs.declarations.declared_stmts.Given as goal

abbrev pub invariant-loop-stmt : goal.invariant-loop-stmt
invariant-loop-stmt l = plain_all l.out ++ declared_stmts l.top (plain_stmts (drop l.stmt-index l.list)) ≡ plain_all l.fn.out ++ declared_stmts l.top (plain_stmts l.list)
