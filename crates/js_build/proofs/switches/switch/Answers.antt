use Rattle.std.proofs.Common.{◌∙◌, sym, ap}
use Rattle.js_tree.specs.Tree.{plain_expr}
use Rattle.js_reading.specs.Makes.{switch_of}
use Rattle.js_build.specs.View.{plain_pieces}
use Rattle.js_build.proofs.ListLaws.{switch_after, switch_form}
use Rattle.js_build.proofs.MadeAs.{makes_as}
use Rattle.js_build.proofs.switches.switch.Goals as goal

pub returns-in-None : goal.returns-in-None
returns-in-None c = makes_as c.nothing.result (switch_form c.args.place (plain_pieces c.args.pieces) ∙ ap (switch_after c.args.place) (sym c.in-None.ensures)) c.nothing.ensures

pub returns-in-None-2 : goal.returns-in-None-2
returns-in-None-2 c = makes_as c.nothing-in-None-2.result (switch_form c.args.place (plain_pieces c.args.pieces) ∙ (ap (switch_after c.args.place) (sym c.in-Some.ensures) ∙ ap (switch_of c.args.place (plain_expr c.in-Some.value.tree)) (sym (rw c.in-None-2.is at c.in_ok-cases-in-Some.ensures)))) c.nothing-in-None-2.ensures

pub returns : goal.returns
returns c = makes_as c.switch_node.result (switch_form c.args.place (plain_pieces c.args.pieces) ∙ (ap (switch_after c.args.place) (sym c.in-Some.ensures) ∙ ap (switch_of c.args.place (plain_expr c.in-Some.value.tree)) (sym (rw c.in-Some-2.is at c.in_ok-cases-in-Some.ensures)))) c.switch_node.ensures
