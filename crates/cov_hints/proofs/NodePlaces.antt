-- The plain tree keeps the place of a statement.
use Rattle.std.proofs.Common.{◌≡◌, Option, sym, ap, ◌∙◌}
use Rattle.js_terms.specs.declared.place.Loc.{Loc}
use Rattle.js_tree.specs.declared.tree.Case.{Case}
use Rattle.js_tree.specs.declared.tree.Catch.{Catch}
use Rattle.js_tree.specs.declared.tree.ConciseBody.{ConciseBody}
use Rattle.js_tree.specs.declared.tree.Declarator.{Declarator}
use Rattle.js_tree.specs.declared.tree.Expr.{Expr}
use Rattle.js_tree.specs.declared.tree.ExprNode.{ExprNode}
use Rattle.js_tree.specs.declared.tree.ForInit.{ForInit}
use Rattle.js_tree.specs.declared.tree.ForTarget.{ForTarget}
use Rattle.js_tree.specs.declared.tree.Function.{Function}
use Rattle.js_tree.specs.declared.tree.FunctionBody.{FunctionBody}
use Rattle.js_tree.specs.declared.tree.Param.{Param}
use Rattle.js_tree.specs.declared.tree.Property.{Property}
use Rattle.js_tree.specs.declared.tree.PropertyKey.{PropertyKey}
use Rattle.js_tree.specs.declared.tree.PropertyNode.{PropertyNode}
use Rattle.js_tree.specs.declared.tree.Stmt.{Stmt}
use Rattle.js_tree.specs.declared.tree.StmtNode.{StmtNode}
use Rattle.js_tree.specs.declared.tree.TemplatePart.{TemplatePart}
use Rattle.js_tree.specs.declared.tree.StmtNode.TheVariants as stmt_node
use Rattle.js_tree.specs.declared.tree.ConciseBody.TheOpen.{StmtNode-F}
use Rattle.js_tree.specs.declared.tree.ConciseBody.TheViews.{roll-StmtNode, out-StmtNode, roll-out-StmtNode, out-Stmt}
use Rattle.js_tree.specs.Places.{stmt_place}
use Rattle.js_tree.specs.Tree.{plain_stmt, plain_stmt_node}
use Rattle.js_tree.proofs.Equations.{stmt_made, stmt_directive, stmt_block, stmt_variable_declaration, stmt_empty, stmt_expression, stmt_if, stmt_do_while, stmt_while, stmt_for, stmt_for_in, stmt_for_of, stmt_continue, stmt_break, stmt_return, stmt_switch, stmt_labelled, stmt_throw, stmt_try_catch, stmt_try_finally, stmt_try_catch_finally, stmt_debugger, stmt_function_declaration}

-- one layer of a statement
stmt_layer : (y : StmtNode-F ConciseBody ExprNode ForInit ForTarget PropertyKey PropertyNode StmtNode Case Catch Declarator Expr Function FunctionBody Param Property Stmt TemplatePart) (loc : Option Loc) → stmt_place (plain_stmt_node (roll-StmtNode y) loc) ≡ loc
stmt_layer (StmtNode-F.Directive string) loc = ap (λ (x : StmtNode). stmt_place (plain_stmt_node x loc)) (stmt_node.rolls-Directive string) ∙ ap stmt_place (stmt_directive string loc)
stmt_layer (StmtNode-F.Block statements) loc = ap (λ (x : StmtNode). stmt_place (plain_stmt_node x loc)) (stmt_node.rolls-Block statements) ∙ ap stmt_place (stmt_block statements loc)
stmt_layer (StmtNode-F.VariableDeclaration kind declarators) loc = ap (λ (x : StmtNode). stmt_place (plain_stmt_node x loc)) (stmt_node.rolls-VariableDeclaration kind declarators) ∙ ap stmt_place (stmt_variable_declaration kind declarators loc)
stmt_layer StmtNode-F.Empty loc = ap (λ (x : StmtNode). stmt_place (plain_stmt_node x loc)) (stmt_node.rolls-Empty) ∙ ap stmt_place (stmt_empty loc)
stmt_layer (StmtNode-F.Expression expression) loc = ap (λ (x : StmtNode). stmt_place (plain_stmt_node x loc)) (stmt_node.rolls-Expression expression) ∙ ap stmt_place (stmt_expression expression loc)
stmt_layer (StmtNode-F.If test then otherwise) loc = ap (λ (x : StmtNode). stmt_place (plain_stmt_node x loc)) (stmt_node.rolls-If test then otherwise) ∙ ap stmt_place (stmt_if test then otherwise loc)
stmt_layer (StmtNode-F.DoWhile body test) loc = ap (λ (x : StmtNode). stmt_place (plain_stmt_node x loc)) (stmt_node.rolls-DoWhile body test) ∙ ap stmt_place (stmt_do_while body test loc)
stmt_layer (StmtNode-F.While test body) loc = ap (λ (x : StmtNode). stmt_place (plain_stmt_node x loc)) (stmt_node.rolls-While test body) ∙ ap stmt_place (stmt_while test body loc)
stmt_layer (StmtNode-F.For init test update body) loc = ap (λ (x : StmtNode). stmt_place (plain_stmt_node x loc)) (stmt_node.rolls-For init test update body) ∙ ap stmt_place (stmt_for init test update body loc)
stmt_layer (StmtNode-F.ForIn target object body) loc = ap (λ (x : StmtNode). stmt_place (plain_stmt_node x loc)) (stmt_node.rolls-ForIn target object body) ∙ ap stmt_place (stmt_for_in target object body loc)
stmt_layer (StmtNode-F.ForOf target iterable body) loc = ap (λ (x : StmtNode). stmt_place (plain_stmt_node x loc)) (stmt_node.rolls-ForOf target iterable body) ∙ ap stmt_place (stmt_for_of target iterable body loc)
stmt_layer (StmtNode-F.Continue label) loc = ap (λ (x : StmtNode). stmt_place (plain_stmt_node x loc)) (stmt_node.rolls-Continue label) ∙ ap stmt_place (stmt_continue label loc)
stmt_layer (StmtNode-F.Break label) loc = ap (λ (x : StmtNode). stmt_place (plain_stmt_node x loc)) (stmt_node.rolls-Break label) ∙ ap stmt_place (stmt_break label loc)
stmt_layer (StmtNode-F.Return value) loc = ap (λ (x : StmtNode). stmt_place (plain_stmt_node x loc)) (stmt_node.rolls-Return value) ∙ ap stmt_place (stmt_return value loc)
stmt_layer (StmtNode-F.Switch value cases) loc = ap (λ (x : StmtNode). stmt_place (plain_stmt_node x loc)) (stmt_node.rolls-Switch value cases) ∙ ap stmt_place (stmt_switch value cases loc)
stmt_layer (StmtNode-F.Labelled label body) loc = ap (λ (x : StmtNode). stmt_place (plain_stmt_node x loc)) (stmt_node.rolls-Labelled label body) ∙ ap stmt_place (stmt_labelled label body loc)
stmt_layer (StmtNode-F.Throw value) loc = ap (λ (x : StmtNode). stmt_place (plain_stmt_node x loc)) (stmt_node.rolls-Throw value) ∙ ap stmt_place (stmt_throw value loc)
stmt_layer (StmtNode-F.TryCatch block catch) loc = ap (λ (x : StmtNode). stmt_place (plain_stmt_node x loc)) (stmt_node.rolls-TryCatch block catch) ∙ ap stmt_place (stmt_try_catch block catch loc)
stmt_layer (StmtNode-F.TryFinally block finally) loc = ap (λ (x : StmtNode). stmt_place (plain_stmt_node x loc)) (stmt_node.rolls-TryFinally block finally) ∙ ap stmt_place (stmt_try_finally block finally loc)
stmt_layer (StmtNode-F.TryCatchFinally block catch finally) loc = ap (λ (x : StmtNode). stmt_place (plain_stmt_node x loc)) (stmt_node.rolls-TryCatchFinally block catch finally) ∙ ap stmt_place (stmt_try_catch_finally block catch finally loc)
stmt_layer StmtNode-F.Debugger loc = ap (λ (x : StmtNode). stmt_place (plain_stmt_node x loc)) (stmt_node.rolls-Debugger) ∙ ap stmt_place (stmt_debugger loc)
stmt_layer (StmtNode-F.FunctionDeclaration name function) loc = ap (λ (x : StmtNode). stmt_place (plain_stmt_node x loc)) (stmt_node.rolls-FunctionDeclaration name function) ∙ ap stmt_place (stmt_function_declaration name function loc)

stmt_node_place : (node : StmtNode) (loc : Option Loc) → stmt_place (plain_stmt_node node loc) ≡ loc
stmt_node_place node loc = ap (λ (x : StmtNode). stmt_place (plain_stmt_node x loc)) (sym (roll-out-StmtNode node)) ∙ stmt_layer (out-StmtNode node) loc

-- a statement
pub stmt_place_same : (stmt : Stmt) → stmt_place (plain_stmt stmt) ≡ (out-Stmt stmt).loc
stmt_place_same stmt = ap stmt_place (stmt_made stmt) ∙ stmt_node_place (out-Stmt stmt).node (out-Stmt stmt).loc
