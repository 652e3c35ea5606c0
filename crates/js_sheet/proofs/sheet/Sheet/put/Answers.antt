use Rattle.std.proofs.Common.{is_some, rules}
use Rattle.js_sheet.proofs.Standing.{spelled}
use Rattle.js_sheet.proofs.sheet.Sheet.put.Goals as goal

pub returns : goal.returns
returns g c =
    spelled c.args.sort (is_some c.args.place) c.args.ends_line c.gap.ensures (c.keep.ensures _ _) c.push.ensures.turns c.first_of.ensures (search rules) c.left_after-self.ensures
