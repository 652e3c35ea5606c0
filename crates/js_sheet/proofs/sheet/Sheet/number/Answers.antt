use Rattle.std.proofs.Common.{false, refl}
use Rattle.js_text.specs.Token as T
use Rattle.js_sheet.proofs.Standing.{puts_spelled}
use Rattle.js_sheet.proofs.sheet.Sheet.number.Goals as goal

pub returns : goal.returns
returns g c = puts_spelled c.args.place (T.Numeral c.args.digits.now) false c.args.digits.now refl c.put.ensures
