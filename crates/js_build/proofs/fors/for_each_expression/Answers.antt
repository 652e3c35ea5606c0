use Rattle.std.proofs.Common.{◌≡◌, ◌∙◌, true, false, sym, ap}
use Rattle.js_tree.specs.Height.{height_for_target}
use Rattle.js_tree.specs.Plain as tree
use Rattle.js_tree.specs.Tree.{plain_expr}
use Rattle.js_tree.proofs.Equations.{for_target_target_expression}
use Rattle.js_build.specs.Fors.{each_of, guarded, may_take}
use Rattle.js_build.specs.View.{plain_pieces}
use Rattle.js_build.proofs.MadeAs.{makes_as}
use Rattle.js_build.proofs.fors.for_each_expression.Goals as goal

pub for_each-requires : goal.for_each-requires
for_each-requires c = c.args.operand.height_exact ∙ sym (ap height_for_target (for_target_target_expression c.args.operand.tree))

pub returns : goal.returns
returns c =
    let taken : may_take c.args.of (plain_expr c.args.operand.tree) ≡ true = ap (λ e. may_take c.args.of (plain_expr e)) (sym c.get.ensures) ∙ (sym c.may_take.ensures ∙ c.if-not-may_take.false) in
    makes_as c.for_each.result (ap (λ b. guarded b (each_of c.args.of c.args.place (tree.TargetExpression (plain_expr c.args.operand.tree)) (plain_pieces c.args.pieces))) taken ∙ ap (λ t. each_of c.args.of c.args.place t (plain_pieces c.args.pieces)) (sym (for_target_target_expression c.args.operand.tree))) c.for_each.ensures

pub returns-then-not-may_take : goal.returns-then-not-may_take
returns-then-not-may_take c =
    let refused : may_take c.args.of (plain_expr c.args.operand.tree) ≡ false = ap (λ e. may_take c.args.of (plain_expr e)) (sym c.get.ensures) ∙ (sym c.may_take.ensures ∙ c.if-not-may_take.true) in
    makes_as c.nothing.result (ap (λ b. guarded b (each_of c.args.of c.args.place (tree.TargetExpression (plain_expr c.args.operand.tree)) (plain_pieces c.args.pieces))) refused) c.nothing.ensures
