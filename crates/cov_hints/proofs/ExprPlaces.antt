-- The plain tree keeps the place of an expression, with the parentheses round it.
use Rattle.std.proofs.Common.{◌≡◌, Option, sym, ap, ◌∙◌}
use Rattle.js_terms.specs.declared.place.Loc.{Loc}
use Rattle.js_tree.specs.declared.tree.Case.{Case}
use Rattle.js_tree.specs.declared.tree.Catch.{Catch}
use Rattle.js_tree.specs.declared.tree.ConciseBody.{ConciseBody}
use Rattle.js_tree.specs.declared.tree.Declarator.{Declarator}
use Rattle.js_tree.specs.declared.tree.Expr.{Expr}
use Rattle.js_tree.specs.declared.tree.ExprNode.{ExprNode}
use Rattle.js_tree.specs.declared.tree.ForInit.{ForInit}
use Rattle.js_tree.specs.declared.tree.ForTarget.{ForTarget}
use Rattle.js_tree.specs.declared.tree.Function.{Function}
use Rattle.js_tree.specs.declared.tree.FunctionBody.{FunctionBody}
use Rattle.js_tree.specs.declared.tree.Param.{Param}
use Rattle.js_tree.specs.declared.tree.Property.{Property}
use Rattle.js_tree.specs.declared.tree.PropertyKey.{PropertyKey}
use Rattle.js_tree.specs.declared.tree.PropertyNode.{PropertyNode}
use Rattle.js_tree.specs.declared.tree.Stmt.{Stmt}
use Rattle.js_tree.specs.declared.tree.StmtNode.{StmtNode}
use Rattle.js_tree.specs.declared.tree.TemplatePart.{TemplatePart}
use Rattle.js_tree.specs.declared.tree.ExprNode.TheVariants as expr_node
use Rattle.js_tree.specs.declared.tree.ConciseBody.TheOpen.{ExprNode-F}
use Rattle.js_tree.specs.declared.tree.ConciseBody.TheViews.{roll-ExprNode, out-ExprNode, roll-out-ExprNode, out-Expr}
use Rattle.js_tree.specs.Places.{expr_place}
use Rattle.js_tree.specs.Tree.{plain_expr, plain_expr_node}
use Rattle.js_tree.proofs.Equations.{expr_made, expr_identifier_reference, expr_this, expr_null_literal, expr_boolean_literal, expr_numeric_literal, expr_string_literal, expr_array_literal, expr_object_literal, expr_function_expression, expr_arrow_function, expr_regular_expression_literal, expr_template_literal, expr_parenthesized, expr_named_member, expr_computed_member, expr_new, expr_call, expr_postfix_update, expr_prefix_update, expr_unary, expr_binary, expr_logical, expr_conditional, expr_assignment, expr_comma}

-- one layer of an expression
expr_layer : (y : ExprNode-F ConciseBody ExprNode ForInit ForTarget PropertyKey PropertyNode StmtNode Case Catch Declarator Expr Function FunctionBody Param Property Stmt TemplatePart) (loc : Option Loc) → expr_place (plain_expr_node (roll-ExprNode y) loc) ≡ loc
expr_layer (ExprNode-F.IdentifierReference x) loc = ap (λ (x : ExprNode). expr_place (plain_expr_node x loc)) (expr_node.rolls-IdentifierReference x) ∙ ap expr_place (expr_identifier_reference x loc)
expr_layer ExprNode-F.This loc = ap (λ (x : ExprNode). expr_place (plain_expr_node x loc)) (expr_node.rolls-This) ∙ ap expr_place (expr_this loc)
expr_layer ExprNode-F.NullLiteral loc = ap (λ (x : ExprNode). expr_place (plain_expr_node x loc)) (expr_node.rolls-NullLiteral) ∙ ap expr_place (expr_null_literal loc)
expr_layer (ExprNode-F.BooleanLiteral x) loc = ap (λ (x : ExprNode). expr_place (plain_expr_node x loc)) (expr_node.rolls-BooleanLiteral x) ∙ ap expr_place (expr_boolean_literal x loc)
expr_layer (ExprNode-F.NumericLiteral x) loc = ap (λ (x : ExprNode). expr_place (plain_expr_node x loc)) (expr_node.rolls-NumericLiteral x) ∙ ap expr_place (expr_numeric_literal x loc)
expr_layer (ExprNode-F.StringLiteral x) loc = ap (λ (x : ExprNode). expr_place (plain_expr_node x loc)) (expr_node.rolls-StringLiteral x) ∙ ap expr_place (expr_string_literal x loc)
expr_layer (ExprNode-F.ArrayLiteral x) loc = ap (λ (x : ExprNode). expr_place (plain_expr_node x loc)) (expr_node.rolls-ArrayLiteral x) ∙ ap expr_place (expr_array_literal x loc)
expr_layer (ExprNode-F.ObjectLiteral x) loc = ap (λ (x : ExprNode). expr_place (plain_expr_node x loc)) (expr_node.rolls-ObjectLiteral x) ∙ ap expr_place (expr_object_literal x loc)
expr_layer (ExprNode-F.FunctionExpression x y) loc = ap (λ (x : ExprNode). expr_place (plain_expr_node x loc)) (expr_node.rolls-FunctionExpression x y) ∙ ap expr_place (expr_function_expression x y loc)
expr_layer (ExprNode-F.ArrowFunction x y) loc = ap (λ (x : ExprNode). expr_place (plain_expr_node x loc)) (expr_node.rolls-ArrowFunction x y) ∙ ap expr_place (expr_arrow_function x y loc)
expr_layer (ExprNode-F.RegularExpressionLiteral x y) loc = ap (λ (x : ExprNode). expr_place (plain_expr_node x loc)) (expr_node.rolls-RegularExpressionLiteral x y) ∙ ap expr_place (expr_regular_expression_literal x y loc)
expr_layer (ExprNode-F.TemplateLiteral x y) loc = ap (λ (x : ExprNode). expr_place (plain_expr_node x loc)) (expr_node.rolls-TemplateLiteral x y) ∙ ap expr_place (expr_template_literal x y loc)
expr_layer (ExprNode-F.Parenthesized x) loc = ap (λ (x : ExprNode). expr_place (plain_expr_node x loc)) (expr_node.rolls-Parenthesized x) ∙ ap expr_place (expr_parenthesized x loc)
expr_layer (ExprNode-F.NamedMember x y) loc = ap (λ (x : ExprNode). expr_place (plain_expr_node x loc)) (expr_node.rolls-NamedMember x y) ∙ ap expr_place (expr_named_member x y loc)
expr_layer (ExprNode-F.ComputedMember x y) loc = ap (λ (x : ExprNode). expr_place (plain_expr_node x loc)) (expr_node.rolls-ComputedMember x y) ∙ ap expr_place (expr_computed_member x y loc)
expr_layer (ExprNode-F.New x y) loc = ap (λ (x : ExprNode). expr_place (plain_expr_node x loc)) (expr_node.rolls-New x y) ∙ ap expr_place (expr_new x y loc)
expr_layer (ExprNode-F.Call x y) loc = ap (λ (x : ExprNode). expr_place (plain_expr_node x loc)) (expr_node.rolls-Call x y) ∙ ap expr_place (expr_call x y loc)
expr_layer (ExprNode-F.PostfixUpdate x y) loc = ap (λ (x : ExprNode). expr_place (plain_expr_node x loc)) (expr_node.rolls-PostfixUpdate x y) ∙ ap expr_place (expr_postfix_update x y loc)
expr_layer (ExprNode-F.PrefixUpdate x y) loc = ap (λ (x : ExprNode). expr_place (plain_expr_node x loc)) (expr_node.rolls-PrefixUpdate x y) ∙ ap expr_place (expr_prefix_update x y loc)
expr_layer (ExprNode-F.Unary x y) loc = ap (λ (x : ExprNode). expr_place (plain_expr_node x loc)) (expr_node.rolls-Unary x y) ∙ ap expr_place (expr_unary x y loc)
expr_layer (ExprNode-F.Binary x y z) loc = ap (λ (x : ExprNode). expr_place (plain_expr_node x loc)) (expr_node.rolls-Binary x y z) ∙ ap expr_place (expr_binary x y z loc)
expr_layer (ExprNode-F.Logical x y z) loc = ap (λ (x : ExprNode). expr_place (plain_expr_node x loc)) (expr_node.rolls-Logical x y z) ∙ ap expr_place (expr_logical x y z loc)
expr_layer (ExprNode-F.Conditional x y z) loc = ap (λ (x : ExprNode). expr_place (plain_expr_node x loc)) (expr_node.rolls-Conditional x y z) ∙ ap expr_place (expr_conditional x y z loc)
expr_layer (ExprNode-F.Assignment x y z) loc = ap (λ (x : ExprNode). expr_place (plain_expr_node x loc)) (expr_node.rolls-Assignment x y z) ∙ ap expr_place (expr_assignment x y z loc)
expr_layer (ExprNode-F.Comma x y) loc = ap (λ (x : ExprNode). expr_place (plain_expr_node x loc)) (expr_node.rolls-Comma x y) ∙ ap expr_place (expr_comma x y loc)

expr_node_place : (node : ExprNode) (loc : Option Loc) → expr_place (plain_expr_node node loc) ≡ loc
expr_node_place node loc = ap (λ (x : ExprNode). expr_place (plain_expr_node x loc)) (sym (roll-out-ExprNode node)) ∙ expr_layer (out-ExprNode node) loc

-- an expression
pub expr_place_same : (expr : Expr) → expr_place (plain_expr expr) ≡ (out-Expr expr).loc
expr_place_same expr = ap expr_place (expr_made expr) ∙ expr_node_place (out-Expr expr).node (out-Expr expr).loc
