use Rattle.std.proofs.Common.{◌∙◌, sym, ap}
use Rattle.js_tree.specs.Height.{height_for_init}
use Rattle.js_tree.proofs.Equations.{for_init_init_expression}
use Rattle.js_reading.specs.Makes.{for_of}
use Rattle.js_build.specs.DeclaratorPieces.{cons_if}
use Rattle.js_build.specs.View.{plain_pieces}
use Rattle.js_build.proofs.MadeAs.{makes_as}
use Rattle.js_build.proofs.fors.for_initial.Goals as goal

pub for_rest-requires : goal.for_rest-requires
for_rest-requires c = c.args.operand.height_exact ∙ sym (ap height_for_init (for_init_init_expression c.args.operand.tree))

pub returns : goal.returns
returns c = makes_as c.for_rest.result (ap (λ i. for_of c.args.place i (cons_if c.args.next (plain_pieces c.args.pieces))) (sym (for_init_init_expression c.args.operand.tree))) c.for_rest.ensures
