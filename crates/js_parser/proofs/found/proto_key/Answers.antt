use Rattle.std.proofs.Common.{arith}
use Rattle.js_lexer.specs.Token.{plain_token}
use Rattle.js_parser.proofs.Recalling.{no_object}
use Rattle.js_parser.proofs.found.proto_key.Goals as goal

pub returns-then-not-sight : goal.returns-then-not-sight
returns-then-not-sight c = λ d sees. no_object d (plain_token c.args.token) (plain_token c.args.next) (grind (arith, c.if-not-sight.true, sees.2))
