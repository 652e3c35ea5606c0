use Rattle.std.proofs.Common.{Some, sym, ap}
use Rattle.js_tree.specs.Plain as tree
use Rattle.js_reading.specs.Makes.{declaration_of}
use Rattle.js_build.proofs.MadeAs.{makes_as}
use Rattle.js_build.proofs.functions.declared.Goals as goal

pub returns-in-None : goal.returns-in-None
returns-in-None c = makes_as c.nothing.result (ap (declaration_of (λ f. tree.FunctionDeclaration (Some c.args.place) c.args.name f)) (sym (rw c.in-None.is at c.in_ok-function.ensures))) c.nothing.ensures

pub returns-in-Some : goal.returns-in-Some
returns-in-Some c = makes_as c.declaration_node.result (ap (declaration_of (λ f. tree.FunctionDeclaration (Some c.args.place) c.args.name f)) (sym (rw c.in-Some.is at c.in_ok-function.ensures))) c.declaration_node.ensures
