-- The token has what stands before it, and what it is.
use Rattle.js_lexer.specs.Token.{kind_of}
use Rattle.js_lexer.proofs.Next.{next-is}
use Rattle.js_lexer.proofs.lexer.next_of.Goals as goal

pub returns-clause-token : goal.returns-clause-token
returns-clause-token c =
    next-is c.args.goal c.args.cursor.now c.skip_gap-gap.new.cursor c.kind.new.cursor (kind_of c.in-Some.kind) c.in-Some.ensures.0
    c.skip_gap-gap.result.line_terminator c.position-place.result c.position.result c.at-at.result c.at.result c.skip_gap-gap.result.comments c.unwrap_or.result
    c.skip_gap-gap.ensures.place c.in-Some.ensures.1 c.in-Some.ensures.2 c.skip_gap-gap.ensures.line c.at-at.ensures c.at.ensures c.position-place.ensures c.position.ensures
    c.skip_gap-gap.ensures.comments c.unwrap_or.ensures
