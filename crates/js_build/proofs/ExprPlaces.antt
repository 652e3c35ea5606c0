-- The plain tree keeps the place of an expression.
use Rattle.std.proofs.Common.{◌≡◌, Option, sym, ap, ◌∙◌}
use Rattle.js_terms.specs.declared.place.Loc.{Loc}
use Rattle.js_tree.specs.declared.tree.Case.{Case}
use Rattle.js_tree.specs.declared.tree.Catch.{Catch}
use Rattle.js_tree.specs.declared.tree.ConciseBody.{ConciseBody}
use Rattle.js_tree.specs.declared.tree.Declarator.{Declarator}
use Rattle.js_tree.specs.declared.tree.Expr.{Expr}
use Rattle.js_tree.specs.declared.tree.ExprNode.{ExprNode}
use Rattle.js_tree.specs.declared.tree.ForInit.{ForInit}
use Rattle.js_tree.specs.declared.tree.ForTarget.{ForTarget}
use Rattle.js_tree.specs.declared.tree.Function.{Function}
use Rattle.js_tree.specs.declared.tree.FunctionBody.{FunctionBody}
use Rattle.js_tree.specs.declared.tree.Param.{Param}
use Rattle.js_tree.specs.declared.tree.Property.{Property}
use Rattle.js_tree.specs.declared.tree.PropertyKey.{PropertyKey}
use Rattle.js_tree.specs.declared.tree.PropertyNode.{PropertyNode}
use Rattle.js_tree.specs.declared.tree.Stmt.{Stmt}
use Rattle.js_tree.specs.declared.tree.StmtNode.{StmtNode}
use Rattle.js_tree.specs.declared.tree.TemplatePart.{TemplatePart}
use Rattle.js_tree.specs.declared.tree.ExprNode.TheVariants as expr_node
use Rattle.js_tree.specs.declared.tree.ConciseBody.TheOpen.{ExprNode-F}
use Rattle.js_tree.specs.declared.tree.ConciseBody.TheViews.{roll-ExprNode, out-ExprNode, roll-out-ExprNode, out-Expr}
use Rattle.js_tree.specs.Tree.{plain_expr, plain_expr_node}
use Rattle.js_tree.proofs.Equations.{expr_made, expr_identifier_reference, expr_this, expr_null_literal, expr_boolean_literal, expr_numeric_literal, expr_string_literal, expr_array_literal, expr_object_literal, expr_function_expression, expr_arrow_function, expr_regular_expression_literal, expr_template_literal, expr_parenthesized, expr_named_member, expr_computed_member, expr_new, expr_call, expr_postfix_update, expr_prefix_update, expr_unary, expr_binary, expr_logical, expr_conditional, expr_assignment, expr_comma}
use Rattle.js_reading.specs.Makes.{loc_of}

-- one layer of an expression
expr_layer : (y : ExprNode-F ConciseBody ExprNode ForInit ForTarget PropertyKey PropertyNode StmtNode Case Catch Declarator Expr Function FunctionBody Param Property Stmt TemplatePart) (loc : Option Loc) → loc_of (plain_expr_node (roll-ExprNode y) loc) ≡ loc
expr_layer (ExprNode-F.IdentifierReference name) loc = ap (λ (x : ExprNode). loc_of (plain_expr_node x loc)) (expr_node.rolls-IdentifierReference name) ∙ ap loc_of (expr_identifier_reference name loc)
expr_layer ExprNode-F.This loc = ap (λ (x : ExprNode). loc_of (plain_expr_node x loc)) (expr_node.rolls-This) ∙ ap loc_of (expr_this loc)
expr_layer ExprNode-F.NullLiteral loc = ap (λ (x : ExprNode). loc_of (plain_expr_node x loc)) (expr_node.rolls-NullLiteral) ∙ ap loc_of (expr_null_literal loc)
expr_layer (ExprNode-F.BooleanLiteral value) loc = ap (λ (x : ExprNode). loc_of (plain_expr_node x loc)) (expr_node.rolls-BooleanLiteral value) ∙ ap loc_of (expr_boolean_literal value loc)
expr_layer (ExprNode-F.NumericLiteral spelling) loc = ap (λ (x : ExprNode). loc_of (plain_expr_node x loc)) (expr_node.rolls-NumericLiteral spelling) ∙ ap loc_of (expr_numeric_literal spelling loc)
expr_layer (ExprNode-F.StringLiteral string) loc = ap (λ (x : ExprNode). loc_of (plain_expr_node x loc)) (expr_node.rolls-StringLiteral string) ∙ ap loc_of (expr_string_literal string loc)
expr_layer (ExprNode-F.ArrayLiteral items) loc = ap (λ (x : ExprNode). loc_of (plain_expr_node x loc)) (expr_node.rolls-ArrayLiteral items) ∙ ap loc_of (expr_array_literal items loc)
expr_layer (ExprNode-F.ObjectLiteral properties) loc = ap (λ (x : ExprNode). loc_of (plain_expr_node x loc)) (expr_node.rolls-ObjectLiteral properties) ∙ ap loc_of (expr_object_literal properties loc)
expr_layer (ExprNode-F.FunctionExpression name function) loc = ap (λ (x : ExprNode). loc_of (plain_expr_node x loc)) (expr_node.rolls-FunctionExpression name function) ∙ ap loc_of (expr_function_expression name function loc)
expr_layer (ExprNode-F.ArrowFunction params body) loc = ap (λ (x : ExprNode). loc_of (plain_expr_node x loc)) (expr_node.rolls-ArrowFunction params body) ∙ ap loc_of (expr_arrow_function params body loc)
expr_layer (ExprNode-F.RegularExpressionLiteral body flags) loc = ap (λ (x : ExprNode). loc_of (plain_expr_node x loc)) (expr_node.rolls-RegularExpressionLiteral body flags) ∙ ap loc_of (expr_regular_expression_literal body flags loc)
expr_layer (ExprNode-F.TemplateLiteral head parts) loc = ap (λ (x : ExprNode). loc_of (plain_expr_node x loc)) (expr_node.rolls-TemplateLiteral head parts) ∙ ap loc_of (expr_template_literal head parts loc)
expr_layer (ExprNode-F.Parenthesized inner) loc = ap (λ (x : ExprNode). loc_of (plain_expr_node x loc)) (expr_node.rolls-Parenthesized inner) ∙ ap loc_of (expr_parenthesized inner loc)
expr_layer (ExprNode-F.NamedMember object name) loc = ap (λ (x : ExprNode). loc_of (plain_expr_node x loc)) (expr_node.rolls-NamedMember object name) ∙ ap loc_of (expr_named_member object name loc)
expr_layer (ExprNode-F.ComputedMember object key) loc = ap (λ (x : ExprNode). loc_of (plain_expr_node x loc)) (expr_node.rolls-ComputedMember object key) ∙ ap loc_of (expr_computed_member object key loc)
expr_layer (ExprNode-F.New constructor arguments) loc = ap (λ (x : ExprNode). loc_of (plain_expr_node x loc)) (expr_node.rolls-New constructor arguments) ∙ ap loc_of (expr_new constructor arguments loc)
expr_layer (ExprNode-F.Call callee arguments) loc = ap (λ (x : ExprNode). loc_of (plain_expr_node x loc)) (expr_node.rolls-Call callee arguments) ∙ ap loc_of (expr_call callee arguments loc)
expr_layer (ExprNode-F.PostfixUpdate operator operand) loc = ap (λ (x : ExprNode). loc_of (plain_expr_node x loc)) (expr_node.rolls-PostfixUpdate operator operand) ∙ ap loc_of (expr_postfix_update operator operand loc)
expr_layer (ExprNode-F.PrefixUpdate operator operand) loc = ap (λ (x : ExprNode). loc_of (plain_expr_node x loc)) (expr_node.rolls-PrefixUpdate operator operand) ∙ ap loc_of (expr_prefix_update operator operand loc)
expr_layer (ExprNode-F.Unary operator operand) loc = ap (λ (x : ExprNode). loc_of (plain_expr_node x loc)) (expr_node.rolls-Unary operator operand) ∙ ap loc_of (expr_unary operator operand loc)
expr_layer (ExprNode-F.Binary operator left right) loc = ap (λ (x : ExprNode). loc_of (plain_expr_node x loc)) (expr_node.rolls-Binary operator left right) ∙ ap loc_of (expr_binary operator left right loc)
expr_layer (ExprNode-F.Logical operator left right) loc = ap (λ (x : ExprNode). loc_of (plain_expr_node x loc)) (expr_node.rolls-Logical operator left right) ∙ ap loc_of (expr_logical operator left right loc)
expr_layer (ExprNode-F.Conditional test then otherwise) loc = ap (λ (x : ExprNode). loc_of (plain_expr_node x loc)) (expr_node.rolls-Conditional test then otherwise) ∙ ap loc_of (expr_conditional test then otherwise loc)
expr_layer (ExprNode-F.Assignment operator target value) loc = ap (λ (x : ExprNode). loc_of (plain_expr_node x loc)) (expr_node.rolls-Assignment operator target value) ∙ ap loc_of (expr_assignment operator target value loc)
expr_layer (ExprNode-F.Comma left right) loc = ap (λ (x : ExprNode). loc_of (plain_expr_node x loc)) (expr_node.rolls-Comma left right) ∙ ap loc_of (expr_comma left right loc)

expr_node_place : (node : ExprNode) (loc : Option Loc) → loc_of (plain_expr_node node loc) ≡ loc
expr_node_place node loc = ap (λ (x : ExprNode). loc_of (plain_expr_node x loc)) (sym (roll-out-ExprNode node)) ∙ expr_layer (out-ExprNode node) loc

-- an expression
pub expr_place_same : (expr : Expr) → loc_of (plain_expr expr) ≡ (out-Expr expr).loc
expr_place_same expr = ap loc_of (expr_made expr) ∙ expr_node_place (out-Expr expr).node (out-Expr expr).loc
