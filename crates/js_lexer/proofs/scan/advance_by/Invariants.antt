use Rattle.std.proofs.Common.{◌≡◌, ◌-◌}
use Rattle.js_text.specs.Lex.{moved}
use Rattle.js_lexer.proofs.scan.advance_by.Given as goal

abbrev pub invariant-loop : goal.invariant-loop
invariant-loop l = moved (l.count - l.counter) l.cursor ≡ moved l.count l.initial.cursor
