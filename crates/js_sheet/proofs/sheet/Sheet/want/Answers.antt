use Rattle.std.proofs.Common.{rules}
use Rattle.js_sheet.proofs.Standing.{wanted, wants}
use Rattle.js_sheet.proofs.sheet.Sheet.want.Goals as goal

pub returns-then-is_some : goal.returns-then-is_some
returns-then-is_some c = wanted c.args.self.now (search rules)

pub returns : goal.returns
returns c = wants c.args.self.now (search rules)
