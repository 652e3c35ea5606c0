use Rattle.std.proofs.Common.{◌∙◌, sym, ap, subst}
use Rattle.js_build.specs.View.{plain_pieces, Makes}
use Rattle.js_build.proofs.ParenthesesForms.{parentheses_after, parentheses_form}
use Rattle.js_build.proofs.parentheses.parentheses.Goals as goal

pub returns-in-None : goal.returns-in-None
returns-in-None c = subst (λ due. Makes c.nothing.result due) (sym (parentheses_form c.args.place (plain_pieces c.args.pieces) ∙ ap (parentheses_after c.args.place) (sym c.in-None.ensures))) c.nothing.ensures

pub returns-in-Some : goal.returns-in-Some
returns-in-Some c = subst (λ due. Makes c.after_list.result due) (sym (parentheses_form c.args.place (plain_pieces c.args.pieces) ∙ ap (parentheses_after c.args.place) (sym c.in-Some.ensures))) c.after_list.ensures
