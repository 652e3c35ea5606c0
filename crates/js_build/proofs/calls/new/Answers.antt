use Rattle.std.proofs.Common.{◌∙◌, sym, ap}
use Rattle.js_tree.specs.Tree.{plain_expr}
use Rattle.js_build.specs.View.{plain_pieces}
use Rattle.js_build.proofs.CallForms.{new_after, new_form, new_of}
use Rattle.js_build.proofs.MadeAs.{makes_as}
use Rattle.js_build.proofs.calls.new.Goals as goal

pub returns-in-None : goal.returns-in-None
returns-in-None c = makes_as c.nothing.result (new_form c.args.place (plain_pieces c.args.pieces) ∙ ap (new_after c.args.place) (sym c.in-None.ensures)) c.nothing.ensures

pub returns-in-None-arguments : goal.returns-in-None-arguments
returns-in-None-arguments c = makes_as c.nothing-in-None-arguments.result (new_form c.args.place (plain_pieces c.args.pieces) ∙ (ap (new_after c.args.place) (sym c.in-Some.ensures) ∙ ap (new_of c.args.place (plain_expr c.in-Some.callee.tree)) (sym c.in-None-arguments.ensures))) c.nothing-in-None-arguments.ensures

pub returns-in-Some-arguments : goal.returns-in-Some-arguments
returns-in-Some-arguments c = makes_as c.new_node.result (new_form c.args.place (plain_pieces c.args.pieces) ∙ (ap (new_after c.args.place) (sym c.in-Some.ensures) ∙ ap (new_of c.args.place (plain_expr c.in-Some.callee.tree)) (sym c.in-Some-arguments.ensures))) c.new_node.ensures
