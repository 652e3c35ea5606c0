use Rattle.std.proofs.Common.{◌∙◌, sym, ap}
use Rattle.js_tree.specs.Plain as tree
use Rattle.js_tree.proofs.Equations.{for_init_no_init}
use Rattle.js_tree.specs.Height.{height_for_init}
use Rattle.js_reading.specs.Makes.{for_of}
use Rattle.js_build.specs.DeclaratorPieces.{cons_if}
use Rattle.js_build.specs.View.{plain_pieces}
use Rattle.js_build.proofs.MadeAs.{makes_as}
use Rattle.js_build.proofs.heads.for_without.Goals as goal

pub for_rest-requires : goal.for_rest-requires
for_rest-requires c = sym (ap height_for_init for_init_no_init)

pub returns : goal.returns
returns c = makes_as c.for_rest.result (ap (for_of c.args.place tree.NoInit) c.taken-next.ensures.next ∙ ap (λ i. for_of c.args.place i (cons_if c.taken-next.result (plain_pieces c.taken-next.new.pieces))) (sym for_init_no_init)) c.for_rest.ensures
