use Rattle.std.proofs.Common.{◌∙◌, sym, ap}
use Rattle.js_build.specs.View.{plain_pieces}
use Rattle.js_build.proofs.CallForms.{member_form, member_of}
use Rattle.js_build.proofs.MadeAs.{makes_as}
use Rattle.js_build.proofs.calls.member.Goals as goal

pub returns-in-None : goal.returns-in-None
returns-in-None c = makes_as c.nothing.result (member_form c.args.place (plain_pieces c.args.pieces) ∙ ap (member_of c.args.place) (sym c.in-None.ensures)) c.nothing.ensures

pub returns-in-Some : goal.returns-in-Some
returns-in-Some c = makes_as c.member_node.result (member_form c.args.place (plain_pieces c.args.pieces) ∙ ap (member_of c.args.place) (sym c.in-Some.ensures)) c.member_node.ensures
