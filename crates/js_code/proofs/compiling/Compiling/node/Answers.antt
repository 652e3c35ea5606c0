use Rattle.js_code.proofs.Reading.{stands_at}
use Rattle.js_code.proofs.compiling.Compiling.node.Goals as goal

pub returns-clause-stands : goal.returns-clause-stands
returns-clause-stands c = stands_at c.args.self.now c.self.inside.nodes c.self.inside.functions c.self.inside.wanting c.self.view_is c.self.invariant.0 c.self.invariant.1 c.args.place c.as_slice.ensures c.at.ensures
