use Rattle.std.proofs.Common.{length}
use Rattle.js_lexer.specs.Token.{plain_token}
use Rattle.js_stack.specs.Reader.{machine}
use Rattle.js_parser.specs.Further.{Arguing}
use Rattle.js_parser.proofs.further.arrow_comes.Given as goal

abbrev pub invariant-tokens : goal.invariant-tokens
invariant-tokens l = Arguing (plain_token l.word) (plain_token l.opening) l.lexer (machine l.reader) l.rest

abbrev pub decreases-tokens : goal.decreases-tokens
decreases-tokens l = length l.rest.after
