use Rattle.js_tree.specs.Tree.{plain_cases}
use Rattle.js_code.proofs.Told.{case_scope_told}
use Rattle.js_code.proofs.declare.put_case_scope.Goals as goal

pub push-requires-clause-below : goal.push-requires-clause-below
push-requires-clause-below c w = (c.requires.reads w).placed

pub push-requires-clause-scope : goal.push-requires-clause-scope
push-requires-clause-scope c w = case_scope_told (plain_cases c.args.cases.now) (c.requires.reads w) c.in-Ok.ensures c.in-Ok-case_scope.ensures
