use Rattle.std.proofs.Common.{◌∙◌, sym, ap}
use Rattle.js_build.specs.View.{plain_pieces}
use Rattle.js_build.proofs.CallForms.{array_form, array_of}
use Rattle.js_build.proofs.MadeAs.{makes_as}
use Rattle.js_build.proofs.calls.array.Goals as goal

pub returns-in-None : goal.returns-in-None
returns-in-None c = makes_as c.nothing.result (array_form c.args.place (plain_pieces c.args.pieces) ∙ ap (array_of c.args.place) (sym c.in-None.ensures)) c.nothing.ensures

pub returns-in-Some : goal.returns-in-Some
returns-in-Some c = makes_as c.array_node.result (array_form c.args.place (plain_pieces c.args.pieces) ∙ ap (array_of c.args.place) (sym c.in-Some.ensures)) c.array_node.ensures
