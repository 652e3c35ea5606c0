use Rattle.std.proofs.Common.{◌∙◌, Some, sym, ap}
use Rattle.js_tree.specs.Plain as tree
use Rattle.js_build.specs.View.{plain_pieces}
use Rattle.js_build.proofs.JumpForms.{continue_form, of_label}
use Rattle.js_build.proofs.MadeAs.{makes_as}
use Rattle.js_build.proofs.jumps.continue_statement.Goals as goal

pub returns-in-None : goal.returns-in-None
returns-in-None c = makes_as c.nothing.result (continue_form c.args.place (plain_pieces c.args.pieces) ∙ ap (λ x. of_label x (λ i. tree.Continue (Some c.args.place) i)) (sym c.in-None.ensures)) c.nothing.ensures

pub returns-in-Some : goal.returns-in-Some
returns-in-Some c = makes_as c.continue_node.result (continue_form c.args.place (plain_pieces c.args.pieces) ∙ ap (λ x. of_label x (λ i. tree.Continue (Some c.args.place) i)) (sym c.in-Some.ensures)) c.continue_node.ensures
