use Rattle.std.proofs.Common.{◌∙◌, sym, ap}
use Rattle.js_build.specs.View.{plain_pieces}
use Rattle.js_build.proofs.MadeAs.{makes_as}
use Rattle.js_build.proofs.TryForms.{try_after, try_form}
use Rattle.js_build.proofs.tries.try_statement.Goals as goal

pub returns-in-None : goal.returns-in-None
returns-in-None c = makes_as c.nothing.result (try_form c.args.place (plain_pieces c.args.pieces) ∙ ap (try_after c.args.place) (sym c.in-None.ensures.read)) c.nothing.ensures

pub returns-in-Some : goal.returns-in-Some
returns-in-Some c = makes_as c.after_block.result (try_form c.args.place (plain_pieces c.args.pieces) ∙ ap (try_after c.args.place) (sym c.in-Some.ensures.read)) c.after_block.ensures
