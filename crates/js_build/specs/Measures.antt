-- What an operand, a statement and their lists say of their trees.
use Rattle.std.specs.Prelude.{ℕ, Bool, true, ◌||◌, List}
use Rattle.js_tree.specs.Plain as tree
use Rattle.js_terms.specs.declared.operators.BinaryOperator.{BinaryOperator}
use Rattle.js_terms.specs.declared.operators.BinaryOperator.TheVariants as b
use Rattle.js_tree.specs.declared.tree.ConciseBody.{ConciseBody}
use Rattle.js_tree.specs.declared.tree.Expr.{Expr}
use Rattle.js_tree.specs.declared.tree.Function.{Function}
use Rattle.js_tree.specs.declared.tree.FunctionBody.{FunctionBody}
use Rattle.js_tree.specs.declared.tree.Param.{Param}
use Rattle.js_tree.specs.declared.tree.PropertyKey.{PropertyKey}
use Rattle.js_tree.specs.declared.tree.Stmt.{Stmt}
use Rattle.js_tree.specs.Tree.{plain_concise_body, plain_expr, plain_exprs, plain_function, plain_function_body, plain_param, plain_params, plain_property_key, plain_stmt, plain_stmts}
use Rattle.js_tree.specs.Height.{height_concise_body, height_expr, height_exprs, height_function, height_function_body, height_param, height_params, height_property_key, height_stmt, height_stmts}
use Rattle.js_reading.specs.Makes.{bare_in, comma_of, last_level, loc_of}

abbrev pub expr_height : Expr → ℕ
expr_height e = height_expr (plain_expr e)

abbrev pub exprs_height : List Expr → ℕ
exprs_height xs = height_exprs (plain_exprs xs)

abbrev pub key_height : PropertyKey → ℕ
key_height k = height_property_key (plain_property_key k)

abbrev pub stmt_height : Stmt → ℕ
stmt_height s = height_stmt (plain_stmt s)

abbrev pub stmts_height : List Stmt → ℕ
stmts_height ss = height_stmts (plain_stmts ss)

abbrev pub ends_at : Expr → ℕ
ends_at e = last_level (plain_expr e)

abbrev pub has_bare_in : Expr → Bool
has_bare_in e = bare_in (plain_expr e)

-- all that an operand says of its tree
abbrev pub measures : tree.Expr → ℕ × (ℕ × Bool)
measures e = (height_expr e, (last_level e, bare_in e))

-- whether a binary operator's expression has a bare `in`, by its operands
abbrev pub bare_in_binary : BinaryOperator → Bool → Bool → Bool
bare_in_binary b.In left right = true
bare_in_binary operator left right = left || right

-- the height of what a comma between every two makes of expressions (13.16)
abbrev pub height_joined : tree.Exprs → ℕ
height_joined tree.no_expr = 0
height_joined (tree.more_expr e es) = height_expr (comma_of loc_of e es)

abbrev pub joined_height : List Expr → ℕ
joined_height xs = height_joined (plain_exprs xs)

-- of parameters and bodies

abbrev pub param_height : Param → ℕ
param_height p = height_param (plain_param p)

abbrev pub params_height : List Param → ℕ
params_height ps = height_params (plain_params ps)

abbrev pub body_height : FunctionBody → ℕ
body_height b = height_function_body (plain_function_body b)

abbrev pub function_height : Function → ℕ
function_height f = height_function (plain_function f)

abbrev pub concise_height : ConciseBody → ℕ
concise_height b = height_concise_body (plain_concise_body b)
