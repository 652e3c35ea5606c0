-- The sign is taken where the token is it.
use Rattle.std.proofs.Common.{None, ap, if◌then◌else◌, sym, ◌∙◌}
use Rattle.js_reading.specs.Turns.{enter}
use Rattle.js_grammar.specs.View.{plain_slots}
use Rattle.js_build.specs.View.{plain_pieces}
use Rattle.js_stack.specs.View.{frames}
use Rattle.js_stack.proofs.take.take_sign.Goals as goal

pub returns-then-is_sign : goal.returns-then-is_sign
returns-then-is_sign c =
    let production = c.args.production in
    ap (λ is. if is then enter production.form production.start (plain_slots production.left) (plain_pieces production.parts) c.args.token.loc (frames c.args.stack.now) else None) (sym c.is_sign.ensures ∙ c.if-is_sign.true)

pub returns-else-is_sign : goal.returns-else-is_sign
returns-else-is_sign c =
    let production = c.args.production in
    ap (λ is. if is then enter production.form production.start (plain_slots production.left) (plain_pieces production.parts) c.args.token.loc (frames c.args.stack.now) else None) (sym c.is_sign.ensures ∙ c.if-is_sign.false)
