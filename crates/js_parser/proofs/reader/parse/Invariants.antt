use Rattle.std.proofs.Common.{◌≡◌, false, is_some, length}
use Rattle.js_stack.specs.Reader.{machine, height_of}
use Rattle.js_parser.specs.Turn.{Stands}
use Rattle.js_parser.proofs.reader.parse.Given as goal

abbrev pub invariant-tokens : goal.invariant-tokens
invariant-tokens l = Stands l.text l.lexer (machine l.reader) l.comments l.recent × (is_some (height_of (machine l.reader)) ≡ false)

abbrev pub decreases-tokens : goal.decreases-tokens
decreases-tokens l = length l.lexer.after
