use Rattle.js_lexer.specs.Token.{plain_token}
use Rattle.js_stack.specs.Reader.{machine}
use Rattle.js_parser.proofs.Advancing.{goes}
use Rattle.js_parser.proofs.further.goes_on.Goals as goal

pub returns-in-Ok : goal.returns-in-Ok
returns-in-Ok c = goes c.in-Ok.taken (machine c.args.reader.now) (machine c.take.new.reader) (plain_token c.args.token) c.args.limit c.in-Ok.ensures.taken
