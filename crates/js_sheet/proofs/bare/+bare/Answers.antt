use Rattle.std.proofs.Common.{◌≡◌, ◌∙◌, ◌&&◌, not, nat_lt, sym, ap, arith}
use Rattle.js_tree.specs.declared.tree.ConciseBody.TheViews.{out-Expr}
use Rattle.js_tree.specs.Tree.{plain_expr, plain_params, plain_function_body}
use Rattle.js_tree.specs.Plain as tree
use Rattle.js_tree.proofs.Equations.{tree_rules, expr_array_literal, expr_boolean_literal, expr_call, expr_computed_member, expr_function_expression, expr_identifier_reference, expr_named_member, expr_new, expr_null_literal, expr_numeric_literal, expr_object_literal, expr_postfix_update, expr_regular_expression_literal, expr_string_literal, expr_template_literal, expr_this}
use Rattle.js_layout.specs.Neat.{level}
use Rattle.js_sheet.specs.Openings.{bares}
use Rattle.js_sheet.proofs.Forms.{of_node, or_is}
use Rattle.js_sheet.proofs.bare.+bare.Goals as goal

pub has_bare_in-returns-in-IdentifierReference : goal.has_bare_in-returns-in-IdentifierReference
has_bare_in-returns-in-IdentifierReference t c = ap bares (sym (of_node c.args.expr.now c.in-IdentifierReference.is (expr_identifier_reference _ _)))

pub has_bare_in-returns-in-This : goal.has_bare_in-returns-in-This
has_bare_in-returns-in-This t c = ap bares (sym (of_node c.args.expr.now c.in-This.is (expr_this _)))

pub has_bare_in-returns-in-NullLiteral : goal.has_bare_in-returns-in-NullLiteral
has_bare_in-returns-in-NullLiteral t c = ap bares (sym (of_node c.args.expr.now c.in-NullLiteral.is (expr_null_literal _)))

pub has_bare_in-returns-in-BooleanLiteral : goal.has_bare_in-returns-in-BooleanLiteral
has_bare_in-returns-in-BooleanLiteral t c = ap bares (sym (of_node c.args.expr.now c.in-BooleanLiteral.is (expr_boolean_literal _ _)))

pub has_bare_in-returns-in-NumericLiteral : goal.has_bare_in-returns-in-NumericLiteral
has_bare_in-returns-in-NumericLiteral t c = ap bares (sym (of_node c.args.expr.now c.in-NumericLiteral.is (expr_numeric_literal _ _)))

pub has_bare_in-returns-in-StringLiteral : goal.has_bare_in-returns-in-StringLiteral
has_bare_in-returns-in-StringLiteral t c = ap bares (sym (of_node c.args.expr.now c.in-StringLiteral.is (expr_string_literal _ _)))

pub has_bare_in-returns-in-ArrayLiteral : goal.has_bare_in-returns-in-ArrayLiteral
has_bare_in-returns-in-ArrayLiteral t c = ap bares (sym (of_node c.args.expr.now c.in-ArrayLiteral.is (expr_array_literal _ _)))

pub has_bare_in-returns-in-ObjectLiteral : goal.has_bare_in-returns-in-ObjectLiteral
has_bare_in-returns-in-ObjectLiteral t c = ap bares (sym (of_node c.args.expr.now c.in-ObjectLiteral.is (expr_object_literal _ _)))

pub has_bare_in-returns-in-FunctionExpression : goal.has_bare_in-returns-in-FunctionExpression
has_bare_in-returns-in-FunctionExpression t c = ap bares (sym (of_node c.args.expr.now c.in-FunctionExpression.is (expr_function_expression _ _ _)))

pub has_bare_in-returns-in-RegularExpressionLiteral : goal.has_bare_in-returns-in-RegularExpressionLiteral
has_bare_in-returns-in-RegularExpressionLiteral t c = ap bares (sym (of_node c.args.expr.now c.in-RegularExpressionLiteral.is (expr_regular_expression_literal _ _ _)))

pub has_bare_in-returns-in-TemplateLiteral : goal.has_bare_in-returns-in-TemplateLiteral
has_bare_in-returns-in-TemplateLiteral t c = ap bares (sym (of_node c.args.expr.now c.in-TemplateLiteral.is (expr_template_literal _ _ _)))

pub has_bare_in-returns-in-NamedMember : goal.has_bare_in-returns-in-NamedMember
has_bare_in-returns-in-NamedMember t c = ap bares (sym (of_node c.args.expr.now c.in-NamedMember.is (expr_named_member _ _ _)))

pub has_bare_in-returns-in-ComputedMember : goal.has_bare_in-returns-in-ComputedMember
has_bare_in-returns-in-ComputedMember t c = ap bares (sym (of_node c.args.expr.now c.in-ComputedMember.is (expr_computed_member _ _ _)))

pub has_bare_in-returns-in-New : goal.has_bare_in-returns-in-New
has_bare_in-returns-in-New t c = ap bares (sym (of_node c.args.expr.now c.in-New.is (expr_new _ _ _)))

pub has_bare_in-returns-in-Call : goal.has_bare_in-returns-in-Call
has_bare_in-returns-in-Call t c = ap bares (sym (of_node c.args.expr.now c.in-Call.is (expr_call _ _ _)))

pub has_bare_in-returns-in-PostfixUpdate : goal.has_bare_in-returns-in-PostfixUpdate
has_bare_in-returns-in-PostfixUpdate t c = ap bares (sym (of_node c.args.expr.now c.in-PostfixUpdate.is (expr_postfix_update _ _ _)))

pub has_bare_in-returns-in-Binary : goal.has_bare_in-returns-in-Binary
has_bare_in-returns-in-Binary t c =
    let l = (out-Expr c.args.expr.now).loc in
    let is : plain_expr c.args.expr.now ≡ tree.Binary l c.in-Binary.operator (plain_expr c.get-in-Binary.result.now) (plain_expr c.get-in-Binary-2.result.now) = grind (arith, tree_rules) in
    or_is c.is_in.ensures (or_is (c.has_bare_in_part-on_left.ensures ∙ ap (λ m. not (nat_lt (level (plain_expr c.get-in-Binary.result.now)) m) && bares (plain_expr c.get-in-Binary.result.now)) c.left_level.ensures) (c.has_bare_in_part-on_right.ensures ∙ ap (λ m. not (nat_lt (level (plain_expr c.get-in-Binary-2.result.now)) m) && bares (plain_expr c.get-in-Binary-2.result.now)) c.right_level.ensures)) ∙ ap bares (sym is)

pub has_bare_in-returns-in-Logical : goal.has_bare_in-returns-in-Logical
has_bare_in-returns-in-Logical t c =
    let l = (out-Expr c.args.expr.now).loc in
    let is : plain_expr c.args.expr.now ≡ tree.Logical l c.in-Logical.operator (plain_expr c.get-in-Logical.result.now) (plain_expr c.get-in-Logical-2.result.now) = grind (arith, tree_rules) in
    or_is c.has_bare_in_left-on_left.ensures (c.has_bare_in_part-on_right-in-Logical.ensures ∙ ap (λ m. not (nat_lt (level (plain_expr c.get-in-Logical-2.result.now)) m) && bares (plain_expr c.get-in-Logical-2.result.now)) c.logical_right.ensures) ∙ ap bares (sym is)

pub has_bare_in-returns-in-Conditional : goal.has_bare_in-returns-in-Conditional
has_bare_in-returns-in-Conditional t c =
    let l = (out-Expr c.args.expr.now).loc in
    let is : plain_expr c.args.expr.now ≡ tree.Conditional l (plain_expr c.get-in-Conditional.result.now) (plain_expr c.in-Conditional.field-1) (plain_expr c.get-in-Conditional-2.result.now) = grind (arith, tree_rules) in
    or_is c.has_bare_in_part-in_test.ensures c.has_bare_in_part-in_otherwise.ensures ∙ ap bares (sym is)

pub has_bare_in-returns-in-Comma : goal.has_bare_in-returns-in-Comma
has_bare_in-returns-in-Comma t c =
    let l = (out-Expr c.args.expr.now).loc in
    let is : plain_expr c.args.expr.now ≡ tree.Comma l (plain_expr c.get-in-Comma.result.now) (plain_expr c.get-in-Comma-2.result.now) = grind (arith, tree_rules) in
    or_is c.has_bare_in-on_left.ensures c.has_bare_in_part-on_right-in-Comma.ensures ∙ ap bares (sym is)

pub has_bare_in-returns-in-Assignment : goal.has_bare_in-returns-in-Assignment
has_bare_in-returns-in-Assignment t c =
    let l = (out-Expr c.args.expr.now).loc in
    let is : plain_expr c.args.expr.now ≡ tree.Assignment l c.in-Assignment.field-0 (plain_expr c.in-Assignment.field-1) (plain_expr c.get-in-Assignment.result.now) = grind (arith, tree_rules) in
    c.has_bare_in_part.ensures ∙ ap bares (sym is)

pub has_bare_in-returns-in-PrefixUpdate : goal.has_bare_in-returns-in-PrefixUpdate
has_bare_in-returns-in-PrefixUpdate t c =
    let l = (out-Expr c.args.expr.now).loc in
    let is : plain_expr c.args.expr.now ≡ tree.PrefixUpdate l c.in-PrefixUpdate.field-0 (plain_expr c.get-in-PrefixUpdate.result.now) = grind (arith, tree_rules) in
    c.has_bare_in_part-in-PrefixUpdate.ensures ∙ ap bares (sym is)

pub has_bare_in-returns-in-Unary : goal.has_bare_in-returns-in-Unary
has_bare_in-returns-in-Unary t c =
    let l = (out-Expr c.args.expr.now).loc in
    let is : plain_expr c.args.expr.now ≡ tree.Unary l c.in-Unary.field-0 (plain_expr c.get-in-Unary.result.now) = grind (arith, tree_rules) in
    c.has_bare_in_part-in-Unary.ensures ∙ ap bares (sym is)

pub has_bare_in-returns-in-ExpressionBody : goal.has_bare_in-returns-in-ExpressionBody
has_bare_in-returns-in-ExpressionBody t c =
    let l = (out-Expr c.args.expr.now).loc in
    let is : plain_expr c.args.expr.now ≡ tree.ArrowFunction l 0 (plain_params c.in-ArrowFunction.field-0) (tree.ExpressionBody (plain_expr c.in-ExpressionBody.value)) = grind (arith, tree_rules) in
    c.has_bare_in_as_body.ensures ∙ ap bares (sym is)

pub has_bare_in-returns-in-BlockBody : goal.has_bare_in-returns-in-BlockBody
has_bare_in-returns-in-BlockBody t c =
    let l = (out-Expr c.args.expr.now).loc in
    let is : plain_expr c.args.expr.now ≡ tree.ArrowFunction l 0 (plain_params c.in-ArrowFunction.field-0) (tree.BlockBody (plain_function_body c.in-BlockBody.field-0)) = grind (arith, tree_rules) in
    ap bares (sym is)

pub has_bare_in-returns-in-Parenthesized : goal.has_bare_in-returns-in-Parenthesized
has_bare_in-returns-in-Parenthesized t c =
    let l = (out-Expr c.args.expr.now).loc in
    let is : plain_expr c.args.expr.now ≡ tree.Parenthesized l (plain_expr c.get.result.now) = grind (arith, tree_rules) in
    c.has_bare_in.ensures ∙ ap bares (sym is)
