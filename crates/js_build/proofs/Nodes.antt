-- What the plain trees of nodes are that are made here, and what is known of their operands.
use Rattle.std.proofs.Common.{◌≡◌, Option, Some, None, refl, ap, ◌∙◌}
use Rattle.js_terms.specs.declared.operators.BinaryOperator.{BinaryOperator}
use Rattle.js_terms.specs.declared.operators.BinaryOperator.TheVariants as b
use Rattle.js_tree.specs.Plain.{Expr}
use Rattle.js_tree.specs.Plain as tree
use Rattle.js_terms.specs.declared.place.Loc.{Loc}
use Rattle.js_tree.proofs.Equations.{expr_postfix_update, expr_prefix_update, expr_unary, expr_binary, expr_logical, expr_conditional, expr_assignment, expr_comma}
use Rattle.js_tree.proofs.Equations.{stmt_if, stmt_if_none, stmt_if_some, stmt_return, expr_if_none, expr_if_some}
use Rattle.js_tree.specs.declared.tree.Expr as code
use Rattle.js_tree.specs.declared.tree.Stmt as code_stmt
use Rattle.js_tree.specs.declared.tree.StmtNode.TheVariants as stmt_node
use Rattle.js_tree.specs.Tree.{plain_expr, plain_stmt, plain_stmt_node}
use Rattle.js_tree.proofs.Equations.{expr_function_expression, stmt_function_declaration}
use Rattle.js_reading.specs.Makes.{bare_in}
use Rattle.js_build.specs.Measures.{bare_in_binary}

pub bare_binary : (l : Option Loc) (o : BinaryOperator) (x y : Expr) → bare_in (tree.Binary l o x y) ≡ bare_in_binary o (bare_in x) (bare_in y)
bare_binary l b.In x y = refl
bare_binary l o x y = refl

pub ruleset postfix_rules = (expr_postfix_update)

pub ruleset prefix_rules = (expr_prefix_update)

pub ruleset unary_rules = (expr_unary)

pub ruleset binary_rules = (expr_binary, bare_binary)

pub ruleset logical_rules = (expr_logical)

pub ruleset conditional_rules = (expr_conditional)

pub ruleset assignment_rules = (expr_assignment)

pub ruleset comma_rules = (expr_comma)

-- ---- nodes that have a part or not

pub if_without : (test : code.Expr) (body : code_stmt.Stmt) (l : Option Loc) → plain_stmt_node (stmt_node.If test body None) l ≡ tree.If l (plain_expr test) (plain_stmt body) tree.none_stmt
if_without test body l = stmt_if test body None l ∙ ap (tree.If l (plain_expr test) (plain_stmt body)) stmt_if_none

pub if_with : (test : code.Expr) (body other : code_stmt.Stmt) (l : Option Loc) → plain_stmt_node (stmt_node.If test body (Some other)) l ≡ tree.If l (plain_expr test) (plain_stmt body) (tree.some_stmt (plain_stmt other))
if_with test body other l = stmt_if test body (Some other) l ∙ ap (tree.If l (plain_expr test) (plain_stmt body)) (stmt_if_some other)

pub return_without : (l : Option Loc) → plain_stmt_node (stmt_node.Return None) l ≡ tree.Return l tree.none_expr
return_without l = stmt_return None l ∙ ap (tree.Return l) expr_if_none

pub return_with : (value : code.Expr) (l : Option Loc) → plain_stmt_node (stmt_node.Return (Some value)) l ≡ tree.Return l (tree.some_expr (plain_expr value))
return_with value l = stmt_return (Some value) l ∙ ap (tree.Return l) (expr_if_some value)

-- ---- functions

pub ruleset function_rules = (expr_function_expression, stmt_function_declaration)
