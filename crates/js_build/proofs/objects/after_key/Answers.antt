use Rattle.std.proofs.Common.{◌≡◌, ◌∙◌, IfOk, sym, ap, subst}
use Rattle.js_tree.specs.Tree.{plain_property_key}
use Rattle.js_build.specs.Objects.{property_view, with_rest}
use Rattle.js_build.specs.View.{plain_pieces}
use Rattle.js_build.proofs.ObjectLaws.{after_definition, after_defined}
use Rattle.js_build.proofs.objects.after_key.Goals as goal

pub returns-in-None : goal.returns-in-None
returns-in-None c = sym (after_defined (plain_property_key c.args.key.tree) c.args.place (plain_pieces c.args.pieces.now) ∙ ap (after_definition (plain_property_key c.args.key.tree) c.args.place) (sym c.in-None.ensures))

pub returns-in-Some-Shorthand : goal.returns-in-Some-Shorthand
returns-in-Some-Shorthand c = ap (λ p. with_rest p (plain_pieces c.take_definition.new.pieces)) c.shorthand.ensures ∙ sym (after_defined (plain_property_key c.args.key.tree) c.args.place (plain_pieces c.args.pieces.now) ∙ ap (after_definition (plain_property_key c.args.key.tree) c.args.place) (sym (rw c.in-Some-Shorthand.field-0-is at c.in-Some-Shorthand.ensures)))

pub returns-in-Some-Method : goal.returns-in-Some-Method
returns-in-Some-Method c = subst (λ due. IfOk c.method.result (λ made. property_view made (plain_pieces c.method.new.pieces) ≡ due)) (sym (after_defined (plain_property_key c.args.key.tree) c.args.place (plain_pieces c.args.pieces.now) ∙ ap (after_definition (plain_property_key c.args.key.tree) c.args.place) (sym (rw c.in-Some-Method.field-0-is at c.in-Some-Method.ensures)))) c.method.ensures
