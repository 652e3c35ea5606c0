use Rattle.std.proofs.Common.{rules}
use Rattle.js_sheet.proofs.Standing.{whole_at}
use Rattle.js_sheet.proofs.sheet.Sheet.finish_whole.Goals as goal

pub returns : goal.returns
returns g c = λ start s h. whole_at (c.end.ensures.turns.stands start s h) (search rules) c.into_whole.ensures
