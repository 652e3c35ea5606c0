use Rattle.std.proofs.Common.{◌≡◌, ◌++◌, length, zero, chars}
use Rattle.js_text.specs.Units.{value_units}
use Rattle.js_lexer.proofs.units.value_units.Given as goal

abbrev pub invariant-loop-next : goal.invariant-loop-next
invariant-loop-next l = l.units ++ value_units zero l.cursor.after ≡ value_units zero (chars l.text)

abbrev pub decreases-loop-next : goal.decreases-loop-next
decreases-loop-next l = length l.cursor.after
