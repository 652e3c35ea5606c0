use Rattle.std.proofs.Common.{ap}
use Rattle.js_reading.specs.Productions.{sign_of}
use Rattle.js_sheet.proofs.Standing.{puts_kind}
use Rattle.js_sheet.proofs.words.put_binary_sign.Goals as goal

pub returns-in-InstanceOf : goal.returns-in-InstanceOf
returns-in-InstanceOf g c = puts_kind c.args.loc (ap sign_of c.in-InstanceOf.is) c.word.ensures
