-- A number that begins with a zero.
use Rattle.std.proofs.Common.{ap, ◌∙◌}
use Rattle.js_text.specs.Place.{Place}
use Rattle.js_text.specs.Number.{number_rest}
use Rattle.js_lexer.proofs.Steps.{zero-is}
use Rattle.js_lexer.proofs.number.skip_number.Goals as goal

pub returns-in-0-clause-rest : goal.returns-in-0-clause-rest
returns-in-0-clause-rest c =
    ap (λ x. number_rest x c.args.cursor.now.after) c.in-0.is
    ∙ zero-is c.skip_based-based.result c.args.cursor.now.after c.skip_based-based.new.cursor.after _ c.skip_based-based.ensures.rest
    (λ e. ap (λ (x : Place). x.after) (c.skip_based-based.ensures.unmoved e)) c.end_whole.ensures.rest
