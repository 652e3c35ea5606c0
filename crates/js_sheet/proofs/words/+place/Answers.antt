use Rattle.std.proofs.Common.{◌≡◌, sym, ap}
use Rattle.js_tree.proofs.Equations.{expr_array_literal, expr_arrow_function, expr_assignment, expr_binary, expr_boolean_literal, expr_call, expr_comma, expr_computed_member, expr_conditional, expr_function_expression, expr_identifier_reference, expr_logical, expr_named_member, expr_new, expr_null_literal, expr_numeric_literal, expr_object_literal, expr_postfix_update, expr_prefix_update, expr_regular_expression_literal, expr_string_literal, expr_template_literal, expr_this, expr_unary}
use Rattle.js_reading.specs.Makes.{loc_of}
use Rattle.js_layout.specs.Neat.{neat_expr}
use Rattle.js_sheet.proofs.Forms.{of_node}
use Rattle.js_sheet.proofs.words.+place.Goals as goal

pub returns-in-IdentifierReference : goal.returns-in-IdentifierReference
returns-in-IdentifierReference t c = ap (λ e. loc_of (neat_expr e)) (sym (of_node c.args.expr.now c.in-IdentifierReference.is (expr_identifier_reference _ _)))

pub returns-in-This : goal.returns-in-This
returns-in-This t c = ap (λ e. loc_of (neat_expr e)) (sym (of_node c.args.expr.now c.in-This.is (expr_this _)))

pub returns-in-NullLiteral : goal.returns-in-NullLiteral
returns-in-NullLiteral t c = ap (λ e. loc_of (neat_expr e)) (sym (of_node c.args.expr.now c.in-NullLiteral.is (expr_null_literal _)))

pub returns-in-BooleanLiteral : goal.returns-in-BooleanLiteral
returns-in-BooleanLiteral t c = ap (λ e. loc_of (neat_expr e)) (sym (of_node c.args.expr.now c.in-BooleanLiteral.is (expr_boolean_literal _ _)))

pub returns-in-NumericLiteral : goal.returns-in-NumericLiteral
returns-in-NumericLiteral t c = ap (λ e. loc_of (neat_expr e)) (sym (of_node c.args.expr.now c.in-NumericLiteral.is (expr_numeric_literal _ _)))

pub returns-in-StringLiteral : goal.returns-in-StringLiteral
returns-in-StringLiteral t c = ap (λ e. loc_of (neat_expr e)) (sym (of_node c.args.expr.now c.in-StringLiteral.is (expr_string_literal _ _)))

pub returns-in-ArrayLiteral : goal.returns-in-ArrayLiteral
returns-in-ArrayLiteral t c = ap (λ e. loc_of (neat_expr e)) (sym (of_node c.args.expr.now c.in-ArrayLiteral.is (expr_array_literal _ _)))

pub returns-in-ObjectLiteral : goal.returns-in-ObjectLiteral
returns-in-ObjectLiteral t c = ap (λ e. loc_of (neat_expr e)) (sym (of_node c.args.expr.now c.in-ObjectLiteral.is (expr_object_literal _ _)))

pub returns-in-FunctionExpression : goal.returns-in-FunctionExpression
returns-in-FunctionExpression t c = ap (λ e. loc_of (neat_expr e)) (sym (of_node c.args.expr.now c.in-FunctionExpression.is (expr_function_expression _ _ _)))

pub returns-in-ArrowFunction : goal.returns-in-ArrowFunction
returns-in-ArrowFunction t c = ap (λ e. loc_of (neat_expr e)) (sym (of_node c.args.expr.now c.in-ArrowFunction.is (expr_arrow_function _ _ _)))

pub returns-in-RegularExpressionLiteral : goal.returns-in-RegularExpressionLiteral
returns-in-RegularExpressionLiteral t c = ap (λ e. loc_of (neat_expr e)) (sym (of_node c.args.expr.now c.in-RegularExpressionLiteral.is (expr_regular_expression_literal _ _ _)))

pub returns-in-TemplateLiteral : goal.returns-in-TemplateLiteral
returns-in-TemplateLiteral t c = ap (λ e. loc_of (neat_expr e)) (sym (of_node c.args.expr.now c.in-TemplateLiteral.is (expr_template_literal _ _ _)))

pub returns-in-NamedMember : goal.returns-in-NamedMember
returns-in-NamedMember t c = ap (λ e. loc_of (neat_expr e)) (sym (of_node c.args.expr.now c.in-NamedMember.is (expr_named_member _ _ _)))

pub returns-in-ComputedMember : goal.returns-in-ComputedMember
returns-in-ComputedMember t c = ap (λ e. loc_of (neat_expr e)) (sym (of_node c.args.expr.now c.in-ComputedMember.is (expr_computed_member _ _ _)))

pub returns-in-New : goal.returns-in-New
returns-in-New t c = ap (λ e. loc_of (neat_expr e)) (sym (of_node c.args.expr.now c.in-New.is (expr_new _ _ _)))

pub returns-in-Call : goal.returns-in-Call
returns-in-Call t c = ap (λ e. loc_of (neat_expr e)) (sym (of_node c.args.expr.now c.in-Call.is (expr_call _ _ _)))

pub returns-in-PostfixUpdate : goal.returns-in-PostfixUpdate
returns-in-PostfixUpdate t c = ap (λ e. loc_of (neat_expr e)) (sym (of_node c.args.expr.now c.in-PostfixUpdate.is (expr_postfix_update _ _ _)))

pub returns-in-PrefixUpdate : goal.returns-in-PrefixUpdate
returns-in-PrefixUpdate t c = ap (λ e. loc_of (neat_expr e)) (sym (of_node c.args.expr.now c.in-PrefixUpdate.is (expr_prefix_update _ _ _)))

pub returns-in-Unary : goal.returns-in-Unary
returns-in-Unary t c = ap (λ e. loc_of (neat_expr e)) (sym (of_node c.args.expr.now c.in-Unary.is (expr_unary _ _ _)))

pub returns-in-Binary : goal.returns-in-Binary
returns-in-Binary t c = ap (λ e. loc_of (neat_expr e)) (sym (of_node c.args.expr.now c.in-Binary.is (expr_binary _ _ _ _)))

pub returns-in-Logical : goal.returns-in-Logical
returns-in-Logical t c = ap (λ e. loc_of (neat_expr e)) (sym (of_node c.args.expr.now c.in-Logical.is (expr_logical _ _ _ _)))

pub returns-in-Conditional : goal.returns-in-Conditional
returns-in-Conditional t c = ap (λ e. loc_of (neat_expr e)) (sym (of_node c.args.expr.now c.in-Conditional.is (expr_conditional _ _ _ _)))

pub returns-in-Assignment : goal.returns-in-Assignment
returns-in-Assignment t c = ap (λ e. loc_of (neat_expr e)) (sym (of_node c.args.expr.now c.in-Assignment.is (expr_assignment _ _ _ _)))

pub returns-in-Comma : goal.returns-in-Comma
returns-in-Comma t c = ap (λ e. loc_of (neat_expr e)) (sym (of_node c.args.expr.now c.in-Comma.is (expr_comma _ _ _)))
