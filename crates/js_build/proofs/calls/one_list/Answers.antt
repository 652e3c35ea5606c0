use Rattle.std.proofs.Common.{◌∙◌, sym, ap}
use Rattle.js_tree.specs.Tree.{plain_exprs}
use Rattle.js_build.specs.Shapes.{if_over}
use Rattle.js_build.specs.View.{plain_pieces}
use Rattle.js_build.proofs.CallForms.{list_alone, one_list_first}
use Rattle.js_build.proofs.calls.one_list.Goals as goal

pub returns-in-None : goal.returns-in-None
returns-in-None c = sym (one_list_first (plain_pieces c.args.pieces) ∙ ap list_alone (sym c.in-None.ensures))

pub returns-then-is_over : goal.returns-then-is_over
returns-then-is_over c = sym (one_list_first (plain_pieces c.args.pieces) ∙ (ap list_alone (sym c.in-Some.ensures) ∙ ap (λ b. if_over b (plain_exprs c.in-Some.list.items)) (sym c.is_over.ensures ∙ c.if-is_over.true)))

pub returns-else-is_over : goal.returns-else-is_over
returns-else-is_over c = sym (one_list_first (plain_pieces c.args.pieces) ∙ (ap list_alone (sym c.in-Some.ensures) ∙ ap (λ b. if_over b (plain_exprs c.in-Some.list.items)) (sym c.is_over.ensures ∙ c.if-is_over.false)))
