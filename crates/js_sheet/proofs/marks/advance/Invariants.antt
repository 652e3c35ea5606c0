use Rattle.std.proofs.Common.{◌≡◌, ◌++◌, ◌≤◌, length, encode_utf8_all}
use Rattle.js_sheet.proofs.marks.advance.Given as goal

abbrev pub invariant-loop-next : goal.invariant-loop-next
invariant-loop-next l = (l.cursor.before ++ l.cursor.after ≡ l.fn.cursor.before ++ l.fn.cursor.after) × (length (encode_utf8_all l.cursor.before) ≤ l.at)

abbrev pub decreases-loop-next : goal.decreases-loop-next
decreases-loop-next l = length l.cursor.after
