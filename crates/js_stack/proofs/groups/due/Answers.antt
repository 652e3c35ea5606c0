-- What a group begins is told by the frame round it, if there is one.
use Rattle.std.proofs.Common.{ap, sym, ◌∙◌}
use Rattle.js_lexer.specs.Token.{plain_token}
use Rattle.js_grammar.specs.View.{plain_slots}
use Rattle.js_build.specs.View.{plain_pieces}
use Rattle.js_stack.specs.Groups.{found_at, found_in, site_in}
use Rattle.js_stack.proofs.GroupLemmas.{group_is}
use Rattle.js_stack.proofs.groups.due.Goals as goal

pub returns-in-Some : goal.returns-in-Some
returns-in-Some c =
    let production = c.args.production.now in
    c.found_in.ensures
    ∙ (ap (λ site. found_in site production.form production.start (plain_slots production.left) (plain_pieces production.parts) (plain_token c.args.token)) c.site.ensures
    ∙ sym (group_is production.form production.start (plain_slots production.left) (plain_pieces production.parts) c.args.last c.args.stack.now (plain_token c.args.token)
    ∙ ap (λ frame. found_at (site_in frame) production.form production.start (plain_slots production.left) (plain_pieces production.parts) (plain_token c.args.token)) (sym c.in-Some.ensures)))

pub returns-in-None : goal.returns-in-None
returns-in-None c =
    let production = c.args.production.now in
    sym (group_is production.form production.start (plain_slots production.left) (plain_pieces production.parts) c.args.last c.args.stack.now (plain_token c.args.token)
    ∙ ap (λ frame. found_at (site_in frame) production.form production.start (plain_slots production.left) (plain_pieces production.parts) (plain_token c.args.token)) (sym c.in-None.ensures))
