use Rattle.js_tree.specs.Tree.{plain_params, plain_stmts}
use Rattle.js_code.proofs.Told.{code_told, length_told}
use Rattle.js_code.proofs.declare.put_function.Goals as goal

pub push-requires-clause-below : goal.push-requires-clause-below
push-requires-clause-below c w = ((c.requires.params w).placed, (c.requires.body w).placed)

pub push-requires-clause-scope : goal.push-requires-clause-scope
push-requires-clause-scope c w = (length_told (plain_params c.args.params.now) (c.requires.params w) c.expected_arguments.ensures, code_told (plain_params c.args.params.now) (plain_stmts c.args.stmts.now) (c.requires.params w) (c.requires.body w) c.in-Ok.ensures c.in-Ok-code_scope.ensures)
