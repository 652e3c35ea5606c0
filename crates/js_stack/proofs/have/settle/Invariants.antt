-- Each turn leads to where the token leads.
use Rattle.std.proofs.Common.{◌≡◌, length}
use Rattle.js_lexer.specs.Token.{plain_token}
use Rattle.js_stack.specs.View.{frames, turned, rank}
use Rattle.js_stack.proofs.have.settle.Given as goal

abbrev pub invariant-loop-turn : goal.invariant-loop-turn
invariant-loop-turn l = turned l.fn.turn (frames l.fn.stack) (plain_token l.token) ≡ turned l.turn (frames l.stack) (plain_token l.token)

abbrev pub decreases-loop-turn : goal.decreases-loop-turn
decreases-loop-turn l = rank l.turn (length (frames l.stack))
