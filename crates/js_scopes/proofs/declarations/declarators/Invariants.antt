-- What is left of the list is declared after what is out already.
use Rattle.std.proofs.Common.{◌≡◌, ◌++◌, drop}
use Rattle.js_scopes.specs.Declarations.{declarators}
use Rattle.js_scopes.specs.private.Plain.{plain_all}
use Rattle.js_tree.specs.Tree.{plain_declarators}
use Rattle.js_scopes.proofs.declarations.declarators.Given as goal

abbrev pub invariant-loop-declarator : goal.invariant-loop-declarator
invariant-loop-declarator l = plain_all l.out ++ declarators l.how (plain_declarators (drop l.declarator-index l.list)) ≡ plain_all l.fn.out ++ declarators l.how (plain_declarators l.list)
