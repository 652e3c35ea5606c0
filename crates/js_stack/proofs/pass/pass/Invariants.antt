-- The slots that are left lead to where all of them led.
use Rattle.std.proofs.Common.{◌≡◌, length}
use Rattle.js_lexer.specs.Token.{plain_token}
use Rattle.js_grammar.specs.View.{plain_slots}
use Rattle.js_build.specs.View.{plain_pieces}
use Rattle.js_stack.specs.View.{frames, passed}
use Rattle.js_stack.proofs.pass.pass.Given as goal

abbrev pub invariant-loop-next : goal.invariant-loop-next
invariant-loop-next l =
    (passed l.fn.production.form l.fn.production.start (plain_slots l.fn.production.left) (plain_pieces l.fn.production.parts) l.last (frames l.fn.stack) (plain_token l.token)
    ≡ passed l.production.form l.production.start (plain_slots l.production.left) (plain_pieces l.production.parts) l.last (frames l.stack) (plain_token l.token))
    × (frames l.stack ≡ frames l.fn.stack)

abbrev pub decreases-loop-next : goal.decreases-loop-next
decreases-loop-next l = length l.production.left
