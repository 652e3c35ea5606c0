use Rattle.std.proofs.Common.{IfOk, ◌≡◌, ap, subst, sym}
use Rattle.js_lexer.specs.Token.{plain_token}
use Rattle.js_reading.specs.Found as Found
use Rattle.js_reading.specs.Reads.{one_met}
use Rattle.js_reading.specs.Turns.{Config}
use Rattle.js_stack.specs.Sight.{Sees}
use Rattle.js_parser.proofs.search.three_ahead.Goals as goal

pub returns-in-Ok : goal.returns-in-Ok
returns-in-Ok c = subst (λ met. IfOk c.three.result (λ find. (d : Config) → Sees c.args.sight d → find ≡ Found.three_ahead d (plain_token c.args.token) (plain_token c.args.next) met)) (sym (ap one_met c.in-Ok.ensures.token)) c.three.ensures

pub returns-in-Err : goal.returns-in-Err
returns-in-Err c = λ d sees. ap (Found.three_ahead d (plain_token c.args.token) (plain_token c.args.next)) (sym (ap one_met c.in-Err.ensures.fault))
