use Rattle.std.proofs.Common.{sym}
use Rattle.js_build.proofs.ExprPlaces.{expr_place_same}
use Rattle.js_build.proofs.parentheses.place_of.Goals as goal

pub returns : goal.returns
returns c = sym (expr_place_same c.args.expression.now)
