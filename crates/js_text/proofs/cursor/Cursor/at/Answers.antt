use Rattle.std.proofs.Common.{sym}
use Rattle.js_text.proofs.Place.{length-encodes-front}
use Rattle.js_text.proofs.cursor.Cursor.at.Goals as goal

pub returns : goal.returns
returns c = rw (← c.self.view_is) (sym (length-encodes-front _ _ c.self.invariant.within c.self.invariant.front))
