use Rattle.std.proofs.Common.{subst}
use Rattle.js_lexer.specs.Token.{plain_token}
use Rattle.js_parser.specs.Recent.{Recalls}
use Rattle.js_parser.proofs.LastTurn.{no_turn, one_turn}
use Rattle.js_parser.proofs.Standing.{ok_then}
use Rattle.js_parser.proofs.recent.Recent.two_back.Goals as goal

pub returns-in-Some : goal.returns-in-Some
returns-in-Some c = ok_then c.two.result _ _ c.two.ensures (λ find h turns remembers. one_turn c.in-Some.turn turns (plain_token c.args.token) find (subst (λ last. Recalls last turns) c.in-Some.is remembers.0) h)

pub returns-in-None : goal.returns-in-None
returns-in-None c = λ turns remembers. no_turn turns (plain_token c.args.token) (subst (λ last. Recalls last turns) c.in-None.is remembers.0)
