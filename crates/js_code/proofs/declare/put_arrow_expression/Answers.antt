use Rattle.js_tree.specs.Tree.{plain_params}
use Rattle.js_code.proofs.Told.{arrow_told, length_told}
use Rattle.js_code.proofs.declare.put_arrow_expression.Goals as goal

pub push-requires-clause-below : goal.push-requires-clause-below
push-requires-clause-below c w = ((c.requires.params w).placed, (c.requires.body w))

pub push-requires-clause-scope : goal.push-requires-clause-scope
push-requires-clause-scope c w = (length_told (plain_params c.args.params.now) (c.requires.params w) c.expected_arguments.ensures, arrow_told (plain_params c.args.params.now) (c.requires.params w) c.new.ensures c.in-Ok.ensures)
