use Rattle.js_tree.specs.Tree.{plain_stmts}
use Rattle.js_code.proofs.Told.{scope_told}
use Rattle.js_code.proofs.declare.put_scope.Goals as goal

pub push-requires-clause-below : goal.push-requires-clause-below
push-requires-clause-below c w = (c.requires.reads w).placed

pub push-requires-clause-scope : goal.push-requires-clause-scope
push-requires-clause-scope c w = scope_told (plain_stmts c.args.stmts.now) (c.requires.reads w) c.in-Ok.ensures c.in-Ok-block_scope.ensures
