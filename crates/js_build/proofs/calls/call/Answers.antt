use Rattle.std.proofs.Common.{◌∙◌, sym, ap}
use Rattle.js_tree.specs.Tree.{plain_expr}
use Rattle.js_build.specs.View.{plain_pieces}
use Rattle.js_build.proofs.CallForms.{call_after, call_form, call_of}
use Rattle.js_build.proofs.MadeAs.{makes_as}
use Rattle.js_build.proofs.calls.call.Goals as goal

pub returns-in-None : goal.returns-in-None
returns-in-None c = makes_as c.nothing.result (call_form c.args.place (plain_pieces c.args.pieces) ∙ ap (call_after c.args.place) (sym c.in-None.ensures)) c.nothing.ensures

pub returns-in-None-one_list : goal.returns-in-None-one_list
returns-in-None-one_list c = makes_as c.nothing-in-None-one_list.result (call_form c.args.place (plain_pieces c.args.pieces) ∙ (ap (call_after c.args.place) (sym c.in-Some.ensures) ∙ ap (call_of c.args.place (plain_expr c.in-Some.callee.tree)) (sym c.in-None-one_list.ensures))) c.nothing-in-None-one_list.ensures

pub returns-in-Some-one_list : goal.returns-in-Some-one_list
returns-in-Some-one_list c = makes_as c.call_node.result (call_form c.args.place (plain_pieces c.args.pieces) ∙ (ap (call_after c.args.place) (sym c.in-Some.ensures) ∙ ap (call_of c.args.place (plain_expr c.in-Some.callee.tree)) (sym c.in-Some-one_list.ensures))) c.call_node.ensures
