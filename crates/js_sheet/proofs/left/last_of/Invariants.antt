use Rattle.std.proofs.Common.{◌≡◌, length}
use Rattle.std.specs.Str.{chars}
use Rattle.js_sheet.specs.Meeting.{last_of}
use Rattle.js_sheet.proofs.Lasts.{last_or}
use Rattle.js_sheet.proofs.left.last_of.Given as goal

abbrev pub invariant-loop-character : goal.invariant-loop-character
invariant-loop-character l = last_or l.last l.cursor.after ≡ last_of (chars l.text)

abbrev pub decreases-loop-character : goal.decreases-loop-character
decreases-loop-character l = length l.cursor.after
