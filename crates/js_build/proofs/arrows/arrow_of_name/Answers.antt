use Rattle.std.proofs.Common.{◌≡◌, ◌∙◌, true, false, sym, ap, subst}
use Rattle.std.specs.Option.{option_map}
use Rattle.js_tree.specs.Plain.{no_expr, more_expr}
use Rattle.js_tree.specs.Tree.{plain_expr}
use Rattle.js_reading.specs.Makes.{arrow_of, params_of}
use Rattle.js_build.specs.Callables.{concise_view}
use Rattle.js_build.specs.NameTests.{is_name}
use Rattle.js_build.specs.View.{plain_operand, plain_pieces, Makes}
use Rattle.js_build.proofs.ArrowForms.{name_missing, no_name, a_name}
use Rattle.js_build.proofs.arrows.arrow_of_name.Goals as goal

pub returns-in-None : goal.returns-in-None
returns-in-None c = subst (λ due. Makes c.nothing.result due) (sym (name_missing c.args.place (plain_pieces c.args.pieces) c.in-None.ensures)) c.nothing.ensures

pub returns-else-is_name : goal.returns-else-is_name
returns-else-is_name c =
    let is : is_name (plain_expr c.in-Some.name.tree) ≡ false = sym (c.if-is_name.ensures ∙ ap (λ e. is_name (plain_expr e)) c.get.ensures) in
    subst (λ due. Makes c.nothing-else-is_name.result due) (sym (no_name c.args.place (plain_pieces c.args.pieces) (plain_pieces c.take_expression.new.pieces) (plain_operand c.in-Some.name) c.in-Some.ensures is)) c.nothing-else-is_name.ensures

pub returns-in_ok-list-in-Some : goal.returns-in_ok-list-in-Some
returns-in_ok-list-in-Some c =
    let l = c.args.place in
    let is : is_name (plain_expr c.in-Some.name.tree) ≡ true = sym (c.if-is_name.ensures ∙ ap (λ e. is_name (plain_expr e)) c.get.ensures) in
    subst (λ due. Makes c.arrow.result due) (ap (λ xs. arrow_of l (params_of xs) (option_map concise_view c.in_ok-body-in-Some.body)) c.in_ok-list-in-Some.ensures
    ∙ ap (arrow_of l (params_of (more_expr (plain_expr c.in-Some.name.tree) no_expr))) c.in_ok-body-in-Some.ensures
    ∙ sym (a_name l (plain_pieces c.args.pieces) (plain_pieces c.take_expression.new.pieces) (plain_operand c.in-Some.name) c.in-Some.ensures is)) c.arrow.ensures
