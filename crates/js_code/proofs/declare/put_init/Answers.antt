use Rattle.js_tree.specs.Tree.{plain_declarators}
use Rattle.js_code.proofs.Told.{init_told}
use Rattle.js_code.proofs.declare.put_init.Goals as goal

pub push-requires-clause-below : goal.push-requires-clause-below
push-requires-clause-below c w = (c.requires.reads w).placed

pub push-requires-clause-scope : goal.push-requires-clause-scope
push-requires-clause-scope c w = init_told (plain_declarators c.args.declarators.now) c.args.kind (c.requires.reads w) c.new-names.ensures c.in-Ok.ensures c.is_fresh.ensures
