use Rattle.std.proofs.Common.{◌∙◌, sym, ap}
use Rattle.js_build.specs.View.{plain_operand, plain_pieces}
use Rattle.js_build.proofs.CallForms.{dot_after, dot_form, dot_of}
use Rattle.js_build.proofs.MadeAs.{makes_as}
use Rattle.js_build.proofs.calls.dot.Goals as goal

pub returns-in-None : goal.returns-in-None
returns-in-None c = makes_as c.nothing.result (dot_form c.args.place (plain_pieces c.args.pieces) ∙ ap (dot_after c.args.place) (sym c.in-None.ensures)) c.nothing.ensures

pub returns-in-None-one_name : goal.returns-in-None-one_name
returns-in-None-one_name c = makes_as c.nothing-in-None-one_name.result (dot_form c.args.place (plain_pieces c.args.pieces) ∙ (ap (dot_after c.args.place) (sym c.in-Some.ensures) ∙ ap (dot_of c.args.place (plain_operand c.in-Some.object)) (sym c.in-None-one_name.ensures))) c.nothing-in-None-one_name.ensures

pub returns-in-Some-one_name : goal.returns-in-Some-one_name
returns-in-Some-one_name c = makes_as c.dot_node.result (dot_form c.args.place (plain_pieces c.args.pieces) ∙ (ap (dot_after c.args.place) (sym c.in-Some.ensures) ∙ ap (dot_of c.args.place (plain_operand c.in-Some.object)) (sym c.in-Some-one_name.ensures))) c.dot_node.ensures
