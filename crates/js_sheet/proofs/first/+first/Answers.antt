use Rattle.std.proofs.Common.{◌≡◌, ◌∙◌, nat_lt, sym, ap, arith}
use Rattle.js_tree.specs.declared.tree.ConciseBody.TheViews.{out-Expr}
use Rattle.js_tree.specs.Tree.{plain_expr, plain_exprs}
use Rattle.js_tree.specs.Plain as tree
use Rattle.js_tree.proofs.Equations.{tree_rules, expr_array_literal, expr_arrow_function, expr_boolean_literal, expr_function_expression, expr_new, expr_null_literal, expr_numeric_literal, expr_object_literal, expr_prefix_update, expr_regular_expression_literal, expr_string_literal, expr_template_literal, expr_this, expr_unary}
use Rattle.js_layout.specs.Neat.{level}
use Rattle.js_sheet.specs.Openings.{opens, unless_pair}
use Rattle.js_sheet.proofs.Forms.{of_node}
use Rattle.js_sheet.proofs.first.+first.Goals as goal

pub opens_with-returns-in-ObjectLiteral : goal.opens_with-returns-in-ObjectLiteral
opens_with-returns-in-ObjectLiteral t c = ap opens (sym (of_node c.args.expr.now c.in-ObjectLiteral.is (expr_object_literal _ _)))

pub opens_with-returns-in-FunctionExpression : goal.opens_with-returns-in-FunctionExpression
opens_with-returns-in-FunctionExpression t c = ap opens (sym (of_node c.args.expr.now c.in-FunctionExpression.is (expr_function_expression _ _ _)))

pub opens_with-returns-in-This : goal.opens_with-returns-in-This
opens_with-returns-in-This t c = ap opens (sym (of_node c.args.expr.now c.in-This.is (expr_this _)))

pub opens_with-returns-in-NullLiteral : goal.opens_with-returns-in-NullLiteral
opens_with-returns-in-NullLiteral t c = ap opens (sym (of_node c.args.expr.now c.in-NullLiteral.is (expr_null_literal _)))

pub opens_with-returns-in-BooleanLiteral : goal.opens_with-returns-in-BooleanLiteral
opens_with-returns-in-BooleanLiteral t c = ap opens (sym (of_node c.args.expr.now c.in-BooleanLiteral.is (expr_boolean_literal _ _)))

pub opens_with-returns-in-NumericLiteral : goal.opens_with-returns-in-NumericLiteral
opens_with-returns-in-NumericLiteral t c = ap opens (sym (of_node c.args.expr.now c.in-NumericLiteral.is (expr_numeric_literal _ _)))

pub opens_with-returns-in-StringLiteral : goal.opens_with-returns-in-StringLiteral
opens_with-returns-in-StringLiteral t c = ap opens (sym (of_node c.args.expr.now c.in-StringLiteral.is (expr_string_literal _ _)))

pub opens_with-returns-in-ArrayLiteral : goal.opens_with-returns-in-ArrayLiteral
opens_with-returns-in-ArrayLiteral t c = ap opens (sym (of_node c.args.expr.now c.in-ArrayLiteral.is (expr_array_literal _ _)))

pub opens_with-returns-in-ArrowFunction : goal.opens_with-returns-in-ArrowFunction
opens_with-returns-in-ArrowFunction t c = ap opens (sym (of_node c.args.expr.now c.in-ArrowFunction.is (expr_arrow_function _ _ _)))

pub opens_with-returns-in-RegularExpressionLiteral : goal.opens_with-returns-in-RegularExpressionLiteral
opens_with-returns-in-RegularExpressionLiteral t c = ap opens (sym (of_node c.args.expr.now c.in-RegularExpressionLiteral.is (expr_regular_expression_literal _ _ _)))

pub opens_with-returns-in-TemplateLiteral : goal.opens_with-returns-in-TemplateLiteral
opens_with-returns-in-TemplateLiteral t c = ap opens (sym (of_node c.args.expr.now c.in-TemplateLiteral.is (expr_template_literal _ _ _)))

pub opens_with-returns-in-New : goal.opens_with-returns-in-New
opens_with-returns-in-New t c = ap opens (sym (of_node c.args.expr.now c.in-New.is (expr_new _ _ _)))

pub opens_with-returns-in-PrefixUpdate : goal.opens_with-returns-in-PrefixUpdate
opens_with-returns-in-PrefixUpdate t c = ap opens (sym (of_node c.args.expr.now c.in-PrefixUpdate.is (expr_prefix_update _ _ _)))

pub opens_with-returns-in-Unary : goal.opens_with-returns-in-Unary
opens_with-returns-in-Unary t c = ap opens (sym (of_node c.args.expr.now c.in-Unary.is (expr_unary _ _ _)))

pub opens_with-returns-in-Parenthesized : goal.opens_with-returns-in-Parenthesized
opens_with-returns-in-Parenthesized t c =
    let l = (out-Expr c.args.expr.now).loc in
    let is : plain_expr c.args.expr.now ≡ tree.Parenthesized l (plain_expr c.get.result.now) = grind (arith, tree_rules) in
    c.opens_with.ensures ∙ ap opens (sym is)

pub opens_with-returns-in-NamedMember : goal.opens_with-returns-in-NamedMember
opens_with-returns-in-NamedMember t c =
    let l = (out-Expr c.args.expr.now).loc in
    let is : plain_expr c.args.expr.now ≡ tree.NamedMember l (plain_expr c.get-in-NamedMember.result.now) c.in-NamedMember.field-1 = grind (arith, tree_rules) in
    c.part_opens_with.ensures ∙ ap opens (sym is)

pub opens_with-returns-in-ComputedMember : goal.opens_with-returns-in-ComputedMember
opens_with-returns-in-ComputedMember t c =
    let l = (out-Expr c.args.expr.now).loc in
    let is : plain_expr c.args.expr.now ≡ tree.ComputedMember l (plain_expr c.get-in-ComputedMember.result.now) (plain_expr c.in-ComputedMember.field-1) = grind (arith, tree_rules) in
    c.part_opens_with-in-ComputedMember.ensures ∙ ap opens (sym is)

pub opens_with-returns-in-Call : goal.opens_with-returns-in-Call
opens_with-returns-in-Call t c =
    let l = (out-Expr c.args.expr.now).loc in
    let is : plain_expr c.args.expr.now ≡ tree.Call l (plain_expr c.get-in-Call.result.now) (plain_exprs c.in-Call.field-1) = grind (arith, tree_rules) in
    c.part_opens_with-in-Call.ensures ∙ ap opens (sym is)

pub opens_with-returns-in-PostfixUpdate : goal.opens_with-returns-in-PostfixUpdate
opens_with-returns-in-PostfixUpdate t c =
    let l = (out-Expr c.args.expr.now).loc in
    let is : plain_expr c.args.expr.now ≡ tree.PostfixUpdate l c.in-PostfixUpdate.field-0 (plain_expr c.get-in-PostfixUpdate.result.now) = grind (arith, tree_rules) in
    c.part_opens_with-in-PostfixUpdate.ensures ∙ ap opens (sym is)

pub opens_with-returns-in-Assignment : goal.opens_with-returns-in-Assignment
opens_with-returns-in-Assignment t c =
    let l = (out-Expr c.args.expr.now).loc in
    let is : plain_expr c.args.expr.now ≡ tree.Assignment l c.in-Assignment.field-0 (plain_expr c.get-in-Assignment.result.now) (plain_expr c.in-Assignment.field-2) = grind (arith, tree_rules) in
    c.part_opens_with-in-Assignment.ensures ∙ ap opens (sym is)

pub opens_with-returns-in-Conditional : goal.opens_with-returns-in-Conditional
opens_with-returns-in-Conditional t c =
    let l = (out-Expr c.args.expr.now).loc in
    let is : plain_expr c.args.expr.now ≡ tree.Conditional l (plain_expr c.get-in-Conditional.result.now) (plain_expr c.in-Conditional.field-1) (plain_expr c.in-Conditional.field-2) = grind (arith, tree_rules) in
    c.part_opens_with-in-Conditional.ensures ∙ ap opens (sym is)

pub opens_with-returns-in-Comma : goal.opens_with-returns-in-Comma
opens_with-returns-in-Comma t c =
    let l = (out-Expr c.args.expr.now).loc in
    let is : plain_expr c.args.expr.now ≡ tree.Comma l (plain_expr c.get-in-Comma.result.now) (plain_expr c.in-Comma.field-1) = grind (arith, tree_rules) in
    c.opens_with-in-Comma.ensures ∙ ap opens (sym is)

pub opens_with-returns-in-Binary : goal.opens_with-returns-in-Binary
opens_with-returns-in-Binary t c =
    let l = (out-Expr c.args.expr.now).loc in
    let is : plain_expr c.args.expr.now ≡ tree.Binary l c.in-Binary.operator (plain_expr c.get-in-Binary.result.now) (plain_expr c.in-Binary.field-2) = grind (arith, tree_rules) in
    c.part_opens_with-in-Binary.ensures ∙ ap (λ m. unless_pair (nat_lt (level (plain_expr c.get-in-Binary.result.now)) m) (opens (plain_expr c.get-in-Binary.result.now))) c.left_level.ensures ∙ ap opens (sym is)
