-- An empty text begins with none.
use Rattle.std.proofs.Common.{◌≡◌, [], sym, ap, ◌∙◌}
use Rattle.std.specs.Str.{chars}
use Rattle.js_text.specs.Punctuator.{longest_punctuator}
use Rattle.js_lexer.proofs.longest.longest.Goals as goal

pub returns-in_err-first : goal.returns-in_err-first
unfolding longest_punctuator
returns-in_err-first c =
    let empty : chars c.args.text.now ≡ [] = sym c.new-cursor.ensures.after ∙ c.in_err-first.ensures.end in
    c.from_residual.ensures ∙ sym (ap longest_punctuator empty)
