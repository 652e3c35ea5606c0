use Rattle.std.proofs.Common.{false, refl}
use Rattle.js_text.specs.Token as T
use Rattle.js_sheet.proofs.Standing.{puts_spelled}
use Rattle.js_sheet.proofs.sheet.Sheet.word.Goals as goal

pub returns : goal.returns
returns g c = puts_spelled c.args.place (T.Word c.args.word.now) false c.args.word.now refl c.put.ensures
