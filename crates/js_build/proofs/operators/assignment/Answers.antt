use Rattle.std.proofs.Common.{◌∙◌, if◌then◌else◌, Some, None, sym, ap}
use Rattle.js_tree.specs.Plain as tree
use Rattle.js_tree.specs.Tree.{plain_expr}
use Rattle.js_reading.specs.Makes.{is_target}
use Rattle.js_reading.specs.Slots.{AnExpr}
use Rattle.js_build.specs.View.{plain_pieces}
use Rattle.js_build.proofs.Forms.{assignment_form, of_two}
use Rattle.js_build.proofs.MadeAs.{makes_as}
use Rattle.js_build.proofs.operators.assignment.Goals as goal

pub returns-in-None : goal.returns-in-None
returns-in-None c = makes_as c.nothing.result (assignment_form c.args.operator c.args.place (plain_pieces c.args.pieces) ∙ ap (λ x. of_two x (λ a b. if is_target a then Some (AnExpr 2 (tree.Assignment (Some c.args.place) c.args.operator a b)) else None)) (sym c.in-None.ensures)) c.nothing.ensures

pub returns-then-is_target : goal.returns-then-is_target
returns-then-is_target c = makes_as c.assignment_node.result (assignment_form c.args.operator c.args.place (plain_pieces c.args.pieces) ∙ (ap (λ x. of_two x (λ a b. if is_target a then Some (AnExpr 2 (tree.Assignment (Some c.args.place) c.args.operator a b)) else None)) (sym c.in-Some.ensures) ∙ ap (λ b. if b then Some (AnExpr 2 (tree.Assignment (Some c.args.place) c.args.operator (plain_expr c.in-Some.target.tree) (plain_expr c.in-Some.value.tree))) else None) (sym (c.is_target.ensures ∙ ap (λ e. is_target (plain_expr e)) c.get.ensures) ∙ c.if-is_target.true))) c.assignment_node.ensures

pub returns-else-is_target : goal.returns-else-is_target
returns-else-is_target c = makes_as c.nothing-else-is_target.result (assignment_form c.args.operator c.args.place (plain_pieces c.args.pieces) ∙ (ap (λ x. of_two x (λ a b. if is_target a then Some (AnExpr 2 (tree.Assignment (Some c.args.place) c.args.operator a b)) else None)) (sym c.in-Some.ensures) ∙ ap (λ b. if b then Some (AnExpr 2 (tree.Assignment (Some c.args.place) c.args.operator (plain_expr c.in-Some.target.tree) (plain_expr c.in-Some.value.tree))) else None) (sym (c.is_target.ensures ∙ ap (λ e. is_target (plain_expr e)) c.get.ensures) ∙ c.if-is_target.false))) c.nothing-else-is_target.ensures
