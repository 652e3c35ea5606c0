use Rattle.std.proofs.Common.{◌≡◌, ◌++◌, drop}
use Rattle.js_tree.specs.Tree.{plain_stmts}
use Rattle.js_meaning.specs.Scopes.{lexical_stmts}
use Rattle.js_code.proofs.names.push_lexical.Given as goal

abbrev pub invariant-loop-stmt : goal.invariant-loop-stmt
invariant-loop-stmt l = l.names ++ lexical_stmts (plain_stmts (drop l.stmt-index l.stmts)) ≡ l.fn.names ++ lexical_stmts (plain_stmts l.stmts)
