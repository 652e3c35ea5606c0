use Rattle.std.proofs.Common.{false, rules}
use Rattle.js_layout.specs.Tokens.{regular_expression}
use Rattle.js_sheet.proofs.Standing.{puts_spelled}
use Rattle.js_sheet.proofs.sheet.Sheet.expression.Goals as goal

pub returns-in-Ok : goal.returns-in-Ok
returns-in-Ok g c = puts_spelled c.args.place (regular_expression c.args.body.now c.args.flags.now) false _ (search rules) c.put.ensures

pub returns-in-Err : goal.returns-in-Err
returns-in-Err g c = c.want.ensures _ _ _
