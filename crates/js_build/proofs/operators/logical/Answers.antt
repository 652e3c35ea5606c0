use Rattle.std.proofs.Common.{◌∙◌, if◌then◌else◌, Some, None, sym, ap}
use Rattle.js_tree.specs.Plain as tree
use Rattle.js_tree.specs.Tree.{plain_expr}
use Rattle.js_reading.specs.Level.{logical_level}
use Rattle.js_reading.specs.Slots.{AnExpr}
use Rattle.js_build.specs.Mixed.{is_mixed}
use Rattle.js_build.specs.View.{plain_pieces}
use Rattle.js_build.proofs.Forms.{logical_form, of_two}
use Rattle.js_build.proofs.MadeAs.{makes_as}
use Rattle.js_build.proofs.operators.logical.Goals as goal

pub returns-in-None : goal.returns-in-None
returns-in-None c = makes_as c.nothing.result (logical_form c.args.operator c.args.place (plain_pieces c.args.pieces) ∙ ap (λ x. of_two x (λ a b. if is_mixed c.args.operator a then None else Some (AnExpr (logical_level c.args.operator) (tree.Logical (Some c.args.place) c.args.operator a b)))) (sym c.in-None.ensures)) c.nothing.ensures

pub returns-then-is_mixed : goal.returns-then-is_mixed
returns-then-is_mixed c = makes_as c.nothing-then-is_mixed.result (logical_form c.args.operator c.args.place (plain_pieces c.args.pieces) ∙ (ap (λ x. of_two x (λ a b. if is_mixed c.args.operator a then None else Some (AnExpr (logical_level c.args.operator) (tree.Logical (Some c.args.place) c.args.operator a b)))) (sym c.in-Some.ensures) ∙ ap (λ b. if b then None else Some (AnExpr (logical_level c.args.operator) (tree.Logical (Some c.args.place) c.args.operator (plain_expr c.in-Some.left.tree) (plain_expr c.in-Some.right.tree)))) (sym (c.is_mixed.ensures ∙ ap (λ e. is_mixed c.args.operator (plain_expr e)) c.get.ensures) ∙ c.if-is_mixed.true))) c.nothing-then-is_mixed.ensures

pub returns-else-is_mixed : goal.returns-else-is_mixed
returns-else-is_mixed c = makes_as c.logical_node.result (logical_form c.args.operator c.args.place (plain_pieces c.args.pieces) ∙ (ap (λ x. of_two x (λ a b. if is_mixed c.args.operator a then None else Some (AnExpr (logical_level c.args.operator) (tree.Logical (Some c.args.place) c.args.operator a b)))) (sym c.in-Some.ensures) ∙ ap (λ b. if b then None else Some (AnExpr (logical_level c.args.operator) (tree.Logical (Some c.args.place) c.args.operator (plain_expr c.in-Some.left.tree) (plain_expr c.in-Some.right.tree)))) (sym (c.is_mixed.ensures ∙ ap (λ e. is_mixed c.args.operator (plain_expr e)) c.get.ensures) ∙ c.if-is_mixed.false))) c.logical_node.ensures
