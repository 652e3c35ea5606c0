-- At the end each was a flag.
use Rattle.std.proofs.Common.{sym, ap, ◌∙◌}
use Rattle.js_text.specs.RegularExpression.{are_flags}
use Rattle.js_lexer.proofs.Steps.{none_is}
use Rattle.js_lexer.proofs.regexp.are_flags.Goals as goal

pub returns : goal.returns
returns c = sym (ap are_flags (none_is c.loop-next.cursor.after (sym c.peek.ensures ∙ c.in_default.is))) ∙ c.loop-next.invariant
