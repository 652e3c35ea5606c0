use Rattle.std.proofs.Common.{true}
use Rattle.js_text.specs.Token as T
use Rattle.js_sheet.proofs.Standing.{puts_spelled}
use Rattle.js_sheet.proofs.sheet.Sheet.last_mark.Goals as goal

pub returns : goal.returns
returns g c = puts_spelled c.args.place (T.Punctuator c.args.punctuator) true c.spelling.result.now c.spelling.ensures c.put.ensures
