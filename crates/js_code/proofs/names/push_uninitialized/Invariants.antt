use Rattle.std.proofs.Common.{◌≡◌, ◌++◌, drop, map}
use Rattle.js_tree.specs.Tree.{plain_declarators}
use Rattle.js_meaning.specs.Scopes.{bound_names, uninitialized}
use Rattle.js_code.proofs.names.push_uninitialized.Given as goal

abbrev pub invariant-loop-declarator : goal.invariant-loop-declarator
invariant-loop-declarator l = l.names ++ map (uninitialized l.constant) (bound_names (plain_declarators (drop l.declarator-index l.declarators))) ≡ l.fn.names ++ map (uninitialized l.constant) (bound_names (plain_declarators l.declarators))
