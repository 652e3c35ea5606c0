-- An escape, or a CR with its LF, was moved over and its units put at the end.
use Rattle.std.proofs.Common.{arith}
use Rattle.js_lexer.specs.Escape.{meaning}
use Rattle.js_lexer.proofs.Steps.{shorter}
use Rattle.js_lexer.proofs.Values.{value-escape, value-return}
use Rattle.js_lexer.proofs.units.put_next.Goals as goal

pub returns-in_ok-put_escaped-in-Some-clause-units : goal.returns-in_ok-put_escaped-in-Some-clause-units
returns-in_ok-put_escaped-in-Some-clause-units c =
    value-escape c.args.units.now c.put_escaped.new.units c.args.cursor.now.after c.args.next c.requires c.in-92.is c.advance.new.cursor c.escape.new.cursor (meaning c.in-Some.escaped)
    c.advance.ensures.rest c.in-Some.ensures.value c.escape.ensures.text c.escape.ensures.onward c.in_ok-put_escaped-in-Some.ensures

pub returns-in_ok-put_escaped-in-Some-clause-shorter : goal.returns-in_ok-put_escaped-in-Some-clause-shorter
returns-in_ok-put_escaped-in-Some-clause-shorter c =
    omega (arith, shorter c.args.cursor.now.after c.advance.new.cursor.after c.args.next c.requires c.advance.ensures.rest, c.escape.ensures.onward)

pub returns-in_ok-push-in-13-clause-units : goal.returns-in_ok-push-in-13-clause-units
returns-in_ok-push-in-13-clause-units c =
    value-return c.args.units.now c.push.new.self c.args.cursor.now.after c.args.next c.requires c.in-13.is c.advance.new.cursor.after c.skip_line_feed.new.cursor.after
    c.advance.ensures.rest c.skip_line_feed.ensures.rest c.in_ok-push-in-13.ensures.ok
