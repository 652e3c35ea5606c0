use Rattle.std.proofs.Common.{◌≡◌, ◌∙◌, IfOk, sym, ap, subst}
use Rattle.js_build.specs.Objects.{property_view}
use Rattle.js_build.specs.View.{plain_piece, plain_pieces}
use Rattle.js_build.proofs.ObjectLaws.{property_keyed, with_key}
use Rattle.js_build.proofs.objects.one_property.Goals as goal

pub returns-in-None : goal.returns-in-None
returns-in-None c = sym (property_keyed (plain_piece c.args.first) (plain_pieces c.args.pieces.now) ∙ ap with_key (sym c.in-None.ensures))

pub returns-in-Some : goal.returns-in-Some
returns-in-Some c = subst (λ due. IfOk c.after_key.result (λ made. property_view made (plain_pieces c.after_key.new.pieces) ≡ due)) (sym (property_keyed (plain_piece c.args.first) (plain_pieces c.args.pieces.now) ∙ ap with_key (sym c.in-Some.ensures))) c.after_key.ensures
