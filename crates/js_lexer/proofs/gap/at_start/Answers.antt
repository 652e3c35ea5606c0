-- No bytes stand before a place exactly where no character does.
use Rattle.std.proofs.Common.{◌==◌, ap, ◌∙◌}
use Rattle.js_lexer.proofs.Places.{start-is}
use Rattle.js_lexer.proofs.gap.at_start.Goals as goal

pub returns : goal.returns
returns c = ap (λ n. n == 0) c.at.ensures ∙ start-is c.args.cursor.now.before
