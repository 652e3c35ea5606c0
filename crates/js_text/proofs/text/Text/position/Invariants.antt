use Rattle.std.proofs.Common.{◌≡◌, ◌++◌, ◌≤◌, length, chars, encode_utf8_all}
use Rattle.js_text.proofs.text.Text.position.Given as goal

abbrev pub invariant-loop-next : goal.invariant-loop-next
invariant-loop-next l = (l.cursor.before ++ l.cursor.after ≡ chars l.self) × (length (encode_utf8_all l.cursor.before) ≤ l.at)

abbrev pub decreases-loop-next : goal.decreases-loop-next
decreases-loop-next l = length l.cursor.after
