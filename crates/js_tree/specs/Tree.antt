-- The plain tree that a tree is.
use Rattle.std.specs.Prelude.{List, [], ◌∷◌, Option, Some, None}
use Rattle.js_tree.specs.Plain as P
use Rattle.js_terms.specs.declared.place.Loc.{Loc}
use Rattle.js_tree.specs.declared.tree.Case.{Case}
use Rattle.js_tree.specs.declared.tree.Catch.{Catch}
use Rattle.js_tree.specs.declared.tree.ConciseBody.{ConciseBody}
use Rattle.js_tree.specs.declared.tree.Declarator.{Declarator}
use Rattle.js_tree.specs.declared.tree.Expr.{Expr}
use Rattle.js_tree.specs.declared.tree.ExprNode.{ExprNode}
use Rattle.js_tree.specs.declared.tree.File.{File}
use Rattle.js_tree.specs.declared.tree.ForInit.{ForInit}
use Rattle.js_tree.specs.declared.tree.ForTarget.{ForTarget}
use Rattle.js_tree.specs.declared.tree.Function.{Function}
use Rattle.js_tree.specs.declared.tree.FunctionBody.{FunctionBody}
use Rattle.js_tree.specs.declared.tree.Param.{Param}
use Rattle.js_tree.specs.declared.tree.Pattern.{Pattern}
use Rattle.js_tree.specs.declared.tree.PatternNode.{PatternNode}
use Rattle.js_tree.specs.declared.tree.Property.{Property}
use Rattle.js_tree.specs.declared.tree.PropertyKey.{PropertyKey}
use Rattle.js_tree.specs.declared.tree.PropertyNode.{PropertyNode}
use Rattle.js_tree.specs.declared.tree.Stmt.{Stmt}
use Rattle.js_tree.specs.declared.tree.StmtNode.{StmtNode}
use Rattle.js_tree.specs.declared.tree.TemplatePart.{TemplatePart}
use Rattle.js_tree.specs.declared.tree.PatternNode.TheVariants as pattern_node
use Rattle.js_tree.specs.declared.tree.ConciseBody.TheOpen.{ConciseBody-F, ExprNode-F, ForInit-F, ForTarget-F, PropertyKey-F, PropertyNode-F, StmtNode-F, Case-F, Catch-F, Declarator-F, Expr-F, Function-F, FunctionBody-F, Param-F, Property-F, Stmt-F, TemplatePart-F}
use Rattle.js_tree.specs.declared.tree.ConciseBody.TheFolds.{fold-ConciseBody, fold-ExprNode, fold-ForInit, fold-ForTarget, fold-PropertyKey, fold-PropertyNode, fold-StmtNode, fold-Case, fold-Catch, fold-Declarator, fold-Expr, fold-Function, fold-FunctionBody, fold-Param, fold-Property, fold-Stmt, fold-TemplatePart}

-- a pattern
unfoldable pub plain_pattern_node : PatternNode → Option Loc → P.Pattern
plain_pattern_node (pattern_node.BindingIdentifier name) loc = P.BindingIdentifier loc name

unfoldable pub plain_pattern : Pattern → P.Pattern
plain_pattern x = plain_pattern_node x.node x.loc

unfoldable pub plain_pattern_if : Option Pattern → P.MaybePattern
plain_pattern_if None = P.none_pattern
plain_pattern_if (Some x) = P.some_pattern (plain_pattern x)

-- lists and options of plain trees
abbrev pub template_parts_of : List P.TemplatePart → P.TemplateParts
template_parts_of [] = P.no_template_part
template_parts_of (x ∷ xs) = P.more_template_part x (template_parts_of xs)

abbrev pub properties_of : List P.Property → P.Properties
properties_of [] = P.no_property
properties_of (x ∷ xs) = P.more_property x (properties_of xs)

abbrev pub params_of : List P.Param → P.Params
params_of [] = P.no_param
params_of (x ∷ xs) = P.more_param x (params_of xs)

abbrev pub exprs_of : List P.Expr → P.Exprs
exprs_of [] = P.no_expr
exprs_of (x ∷ xs) = P.more_expr x (exprs_of xs)

abbrev pub stmts_of : List P.Stmt → P.Stmts
stmts_of [] = P.no_stmt
stmts_of (x ∷ xs) = P.more_stmt x (stmts_of xs)

abbrev pub declarators_of : List P.Declarator → P.Declarators
declarators_of [] = P.no_declarator
declarators_of (x ∷ xs) = P.more_declarator x (declarators_of xs)

abbrev pub cases_of : List P.Case → P.Cases
cases_of [] = P.no_case
cases_of (x ∷ xs) = P.more_case x (cases_of xs)

abbrev pub expr_if_of : Option P.Expr → P.MaybeExpr
expr_if_of None = P.none_expr
expr_if_of (Some x) = P.some_expr x

abbrev pub stmt_if_of : Option P.Stmt → P.MaybeStmt
stmt_if_of None = P.none_stmt
stmt_if_of (Some x) = P.some_stmt x

-- one layer of the tree, its children plain already
abbrev pub expr_node_step : ExprNode-F P.ConciseBody (Option Loc → P.Expr) P.ForInit P.ForTarget P.PropertyKey (Option Loc → P.Property) (Option Loc → P.Stmt) P.Case P.Catch P.Declarator P.Expr P.Function P.FunctionBody P.Param P.Property P.Stmt P.TemplatePart → Option Loc → P.Expr
expr_node_step (ExprNode-F.IdentifierReference name) loc = P.IdentifierReference loc name
expr_node_step ExprNode-F.This loc = P.This loc
expr_node_step ExprNode-F.NullLiteral loc = P.NullLiteral loc
expr_node_step (ExprNode-F.BooleanLiteral value) loc = P.BooleanLiteral loc value
expr_node_step (ExprNode-F.NumericLiteral spelling) loc = P.NumericLiteral loc spelling
expr_node_step (ExprNode-F.StringLiteral string) loc = P.StringLiteral loc string
expr_node_step (ExprNode-F.ArrayLiteral items) loc = P.ArrayLiteral loc (exprs_of items)
expr_node_step (ExprNode-F.ObjectLiteral properties) loc = P.ObjectLiteral loc (properties_of properties)
expr_node_step (ExprNode-F.FunctionExpression name function) loc = P.FunctionExpression loc name function
expr_node_step (ExprNode-F.ArrowFunction params body) loc = P.ArrowFunction loc 0 (params_of params) body
expr_node_step (ExprNode-F.RegularExpressionLiteral body flags) loc = P.RegularExpressionLiteral loc body flags
expr_node_step (ExprNode-F.TemplateLiteral head parts) loc = P.TemplateLiteral loc head (template_parts_of parts)
expr_node_step (ExprNode-F.Parenthesized inner) loc = P.Parenthesized loc inner
expr_node_step (ExprNode-F.NamedMember object name) loc = P.NamedMember loc object name
expr_node_step (ExprNode-F.ComputedMember object key) loc = P.ComputedMember loc object key
expr_node_step (ExprNode-F.New constructor arguments) loc = P.New loc constructor (exprs_of arguments)
expr_node_step (ExprNode-F.Call callee arguments) loc = P.Call loc callee (exprs_of arguments)
expr_node_step (ExprNode-F.PostfixUpdate operator operand) loc = P.PostfixUpdate loc operator operand
expr_node_step (ExprNode-F.PrefixUpdate operator operand) loc = P.PrefixUpdate loc operator operand
expr_node_step (ExprNode-F.Unary operator operand) loc = P.Unary loc operator operand
expr_node_step (ExprNode-F.Binary operator left right) loc = P.Binary loc operator left right
expr_node_step (ExprNode-F.Logical operator left right) loc = P.Logical loc operator left right
expr_node_step (ExprNode-F.Conditional test then otherwise) loc = P.Conditional loc test then otherwise
expr_node_step (ExprNode-F.Assignment operator target value) loc = P.Assignment loc operator target value
expr_node_step (ExprNode-F.Comma left right) loc = P.Comma loc left right

abbrev pub stmt_node_step : StmtNode-F P.ConciseBody (Option Loc → P.Expr) P.ForInit P.ForTarget P.PropertyKey (Option Loc → P.Property) (Option Loc → P.Stmt) P.Case P.Catch P.Declarator P.Expr P.Function P.FunctionBody P.Param P.Property P.Stmt P.TemplatePart → Option Loc → P.Stmt
stmt_node_step (StmtNode-F.Directive string) loc = P.Directive loc string
stmt_node_step (StmtNode-F.Block statements) loc = P.Block loc (stmts_of statements)
stmt_node_step (StmtNode-F.VariableDeclaration kind declarators) loc = P.VariableDeclaration loc kind (declarators_of declarators)
stmt_node_step StmtNode-F.Empty loc = P.Empty loc
stmt_node_step (StmtNode-F.Expression expression) loc = P.Expression loc expression
stmt_node_step (StmtNode-F.If test then otherwise) loc = P.If loc test then (stmt_if_of otherwise)
stmt_node_step (StmtNode-F.DoWhile body test) loc = P.DoWhile loc body test
stmt_node_step (StmtNode-F.While test body) loc = P.While loc test body
stmt_node_step (StmtNode-F.For init test update body) loc = P.For loc init (expr_if_of test) (expr_if_of update) body
stmt_node_step (StmtNode-F.ForIn target object body) loc = P.ForIn loc target object body
stmt_node_step (StmtNode-F.ForOf target iterable body) loc = P.ForOf loc target iterable body
stmt_node_step (StmtNode-F.Continue label) loc = P.Continue loc label
stmt_node_step (StmtNode-F.Break label) loc = P.Break loc label
stmt_node_step (StmtNode-F.Return value) loc = P.Return loc (expr_if_of value)
stmt_node_step (StmtNode-F.Switch value cases) loc = P.Switch loc value (cases_of cases)
stmt_node_step (StmtNode-F.Labelled label body) loc = P.Labelled loc label body
stmt_node_step (StmtNode-F.Throw value) loc = P.Throw loc value
stmt_node_step (StmtNode-F.TryCatch block catch) loc = P.TryCatch loc (stmts_of block) catch
stmt_node_step (StmtNode-F.TryFinally block finally) loc = P.TryFinally loc (stmts_of block) (stmts_of finally)
stmt_node_step (StmtNode-F.TryCatchFinally block catch finally) loc = P.TryCatchFinally loc (stmts_of block) catch (stmts_of finally)
stmt_node_step StmtNode-F.Debugger loc = P.Debugger loc
stmt_node_step (StmtNode-F.FunctionDeclaration name function) loc = P.FunctionDeclaration loc name function

abbrev pub property_node_step : PropertyNode-F P.ConciseBody (Option Loc → P.Expr) P.ForInit P.ForTarget P.PropertyKey (Option Loc → P.Property) (Option Loc → P.Stmt) P.Case P.Catch P.Declarator P.Expr P.Function P.FunctionBody P.Param P.Property P.Stmt P.TemplatePart → Option Loc → P.Property
property_node_step (PropertyNode-F.Shorthand name) loc = P.Shorthand loc name
property_node_step (PropertyNode-F.KeyValue key value) loc = P.KeyValue loc key value
property_node_step (PropertyNode-F.Method key function) loc = P.Method loc key function

abbrev pub property_key_step : PropertyKey-F P.ConciseBody (Option Loc → P.Expr) P.ForInit P.ForTarget P.PropertyKey (Option Loc → P.Property) (Option Loc → P.Stmt) P.Case P.Catch P.Declarator P.Expr P.Function P.FunctionBody P.Param P.Property P.Stmt P.TemplatePart → P.PropertyKey
property_key_step (PropertyKey-F.NameKey name) = P.NameKey name
property_key_step (PropertyKey-F.StringKey string) = P.StringKey string
property_key_step (PropertyKey-F.NumberKey spelling) = P.NumberKey spelling
property_key_step (PropertyKey-F.ComputedKey key) = P.ComputedKey key

abbrev pub concise_body_step : ConciseBody-F P.ConciseBody (Option Loc → P.Expr) P.ForInit P.ForTarget P.PropertyKey (Option Loc → P.Property) (Option Loc → P.Stmt) P.Case P.Catch P.Declarator P.Expr P.Function P.FunctionBody P.Param P.Property P.Stmt P.TemplatePart → P.ConciseBody
concise_body_step (ConciseBody-F.ExpressionBody value) = P.ExpressionBody value
concise_body_step (ConciseBody-F.BlockBody body) = P.BlockBody body

abbrev pub for_init_step : ForInit-F P.ConciseBody (Option Loc → P.Expr) P.ForInit P.ForTarget P.PropertyKey (Option Loc → P.Property) (Option Loc → P.Stmt) P.Case P.Catch P.Declarator P.Expr P.Function P.FunctionBody P.Param P.Property P.Stmt P.TemplatePart → P.ForInit
for_init_step ForInit-F.NoInit = P.NoInit
for_init_step (ForInit-F.InitDeclaration kind declarators) = P.InitDeclaration kind (declarators_of declarators)
for_init_step (ForInit-F.InitExpression expression) = P.InitExpression expression

abbrev pub for_target_step : ForTarget-F P.ConciseBody (Option Loc → P.Expr) P.ForInit P.ForTarget P.PropertyKey (Option Loc → P.Property) (Option Loc → P.Stmt) P.Case P.Catch P.Declarator P.Expr P.Function P.FunctionBody P.Param P.Property P.Stmt P.TemplatePart → P.ForTarget
for_target_step (ForTarget-F.TargetDeclaration kind pattern) = P.TargetDeclaration kind (plain_pattern pattern)
for_target_step (ForTarget-F.TargetExpression target) = P.TargetExpression target

abbrev pub case_step : Case-F P.ConciseBody (Option Loc → P.Expr) P.ForInit P.ForTarget P.PropertyKey (Option Loc → P.Property) (Option Loc → P.Stmt) P.Case P.Catch P.Declarator P.Expr P.Function P.FunctionBody P.Param P.Property P.Stmt P.TemplatePart → P.Case
case_step x = P.MakeCase x.loc (expr_if_of x.test) (stmts_of x.statements)

abbrev pub catch_step : Catch-F P.ConciseBody (Option Loc → P.Expr) P.ForInit P.ForTarget P.PropertyKey (Option Loc → P.Property) (Option Loc → P.Stmt) P.Case P.Catch P.Declarator P.Expr P.Function P.FunctionBody P.Param P.Property P.Stmt P.TemplatePart → P.Catch
catch_step x = P.MakeCatch (plain_pattern_if x.parameter) (stmts_of x.statements)

abbrev pub declarator_step : Declarator-F P.ConciseBody (Option Loc → P.Expr) P.ForInit P.ForTarget P.PropertyKey (Option Loc → P.Property) (Option Loc → P.Stmt) P.Case P.Catch P.Declarator P.Expr P.Function P.FunctionBody P.Param P.Property P.Stmt P.TemplatePart → P.Declarator
declarator_step x = P.MakeDeclarator x.loc (plain_pattern x.pattern) (expr_if_of x.initializer)

abbrev pub expr_step : Expr-F P.ConciseBody (Option Loc → P.Expr) P.ForInit P.ForTarget P.PropertyKey (Option Loc → P.Property) (Option Loc → P.Stmt) P.Case P.Catch P.Declarator P.Expr P.Function P.FunctionBody P.Param P.Property P.Stmt P.TemplatePart → P.Expr
expr_step x = x.node x.loc

abbrev pub function_step : Function-F P.ConciseBody (Option Loc → P.Expr) P.ForInit P.ForTarget P.PropertyKey (Option Loc → P.Property) (Option Loc → P.Stmt) P.Case P.Catch P.Declarator P.Expr P.Function P.FunctionBody P.Param P.Property P.Stmt P.TemplatePart → P.Function
function_step x = P.MakeFunction 0 (params_of x.params) x.body

abbrev pub function_body_step : FunctionBody-F P.ConciseBody (Option Loc → P.Expr) P.ForInit P.ForTarget P.PropertyKey (Option Loc → P.Property) (Option Loc → P.Stmt) P.Case P.Catch P.Declarator P.Expr P.Function P.FunctionBody P.Param P.Property P.Stmt P.TemplatePart → P.FunctionBody
function_body_step x = P.MakeFunctionBody x.loc (stmts_of x.statements)

abbrev pub param_step : Param-F P.ConciseBody (Option Loc → P.Expr) P.ForInit P.ForTarget P.PropertyKey (Option Loc → P.Property) (Option Loc → P.Stmt) P.Case P.Catch P.Declarator P.Expr P.Function P.FunctionBody P.Param P.Property P.Stmt P.TemplatePart → P.Param
param_step x = P.MakeParam x.loc (plain_pattern x.pattern) (expr_if_of x.default)

abbrev pub property_step : Property-F P.ConciseBody (Option Loc → P.Expr) P.ForInit P.ForTarget P.PropertyKey (Option Loc → P.Property) (Option Loc → P.Stmt) P.Case P.Catch P.Declarator P.Expr P.Function P.FunctionBody P.Param P.Property P.Stmt P.TemplatePart → P.Property
property_step x = x.node x.loc

abbrev pub stmt_step : Stmt-F P.ConciseBody (Option Loc → P.Expr) P.ForInit P.ForTarget P.PropertyKey (Option Loc → P.Property) (Option Loc → P.Stmt) P.Case P.Catch P.Declarator P.Expr P.Function P.FunctionBody P.Param P.Property P.Stmt P.TemplatePart → P.Stmt
stmt_step x = x.node x.loc

abbrev pub template_part_step : TemplatePart-F P.ConciseBody (Option Loc → P.Expr) P.ForInit P.ForTarget P.PropertyKey (Option Loc → P.Property) (Option Loc → P.Stmt) P.Case P.Catch P.Declarator P.Expr P.Function P.FunctionBody P.Param P.Property P.Stmt P.TemplatePart → P.TemplatePart
template_part_step x = P.MakeTemplatePart x.value x.text

-- the whole tree
unfoldable pub plain_concise_body : ConciseBody → P.ConciseBody
plain_concise_body = fold-ConciseBody P.ConciseBody (Option Loc → P.Expr) P.ForInit P.ForTarget P.PropertyKey (Option Loc → P.Property) (Option Loc → P.Stmt) P.Case P.Catch P.Declarator P.Expr P.Function P.FunctionBody P.Param P.Property P.Stmt P.TemplatePart
    concise_body_step expr_node_step for_init_step for_target_step property_key_step property_node_step stmt_node_step case_step catch_step declarator_step expr_step function_step function_body_step param_step property_step stmt_step template_part_step

unfoldable pub plain_expr_node : ExprNode → Option Loc → P.Expr
plain_expr_node = fold-ExprNode P.ConciseBody (Option Loc → P.Expr) P.ForInit P.ForTarget P.PropertyKey (Option Loc → P.Property) (Option Loc → P.Stmt) P.Case P.Catch P.Declarator P.Expr P.Function P.FunctionBody P.Param P.Property P.Stmt P.TemplatePart
    concise_body_step expr_node_step for_init_step for_target_step property_key_step property_node_step stmt_node_step case_step catch_step declarator_step expr_step function_step function_body_step param_step property_step stmt_step template_part_step

unfoldable pub plain_for_init : ForInit → P.ForInit
plain_for_init = fold-ForInit P.ConciseBody (Option Loc → P.Expr) P.ForInit P.ForTarget P.PropertyKey (Option Loc → P.Property) (Option Loc → P.Stmt) P.Case P.Catch P.Declarator P.Expr P.Function P.FunctionBody P.Param P.Property P.Stmt P.TemplatePart
    concise_body_step expr_node_step for_init_step for_target_step property_key_step property_node_step stmt_node_step case_step catch_step declarator_step expr_step function_step function_body_step param_step property_step stmt_step template_part_step

unfoldable pub plain_for_target : ForTarget → P.ForTarget
plain_for_target = fold-ForTarget P.ConciseBody (Option Loc → P.Expr) P.ForInit P.ForTarget P.PropertyKey (Option Loc → P.Property) (Option Loc → P.Stmt) P.Case P.Catch P.Declarator P.Expr P.Function P.FunctionBody P.Param P.Property P.Stmt P.TemplatePart
    concise_body_step expr_node_step for_init_step for_target_step property_key_step property_node_step stmt_node_step case_step catch_step declarator_step expr_step function_step function_body_step param_step property_step stmt_step template_part_step

unfoldable pub plain_property_key : PropertyKey → P.PropertyKey
plain_property_key = fold-PropertyKey P.ConciseBody (Option Loc → P.Expr) P.ForInit P.ForTarget P.PropertyKey (Option Loc → P.Property) (Option Loc → P.Stmt) P.Case P.Catch P.Declarator P.Expr P.Function P.FunctionBody P.Param P.Property P.Stmt P.TemplatePart
    concise_body_step expr_node_step for_init_step for_target_step property_key_step property_node_step stmt_node_step case_step catch_step declarator_step expr_step function_step function_body_step param_step property_step stmt_step template_part_step

unfoldable pub plain_property_node : PropertyNode → Option Loc → P.Property
plain_property_node = fold-PropertyNode P.ConciseBody (Option Loc → P.Expr) P.ForInit P.ForTarget P.PropertyKey (Option Loc → P.Property) (Option Loc → P.Stmt) P.Case P.Catch P.Declarator P.Expr P.Function P.FunctionBody P.Param P.Property P.Stmt P.TemplatePart
    concise_body_step expr_node_step for_init_step for_target_step property_key_step property_node_step stmt_node_step case_step catch_step declarator_step expr_step function_step function_body_step param_step property_step stmt_step template_part_step

unfoldable pub plain_stmt_node : StmtNode → Option Loc → P.Stmt
plain_stmt_node = fold-StmtNode P.ConciseBody (Option Loc → P.Expr) P.ForInit P.ForTarget P.PropertyKey (Option Loc → P.Property) (Option Loc → P.Stmt) P.Case P.Catch P.Declarator P.Expr P.Function P.FunctionBody P.Param P.Property P.Stmt P.TemplatePart
    concise_body_step expr_node_step for_init_step for_target_step property_key_step property_node_step stmt_node_step case_step catch_step declarator_step expr_step function_step function_body_step param_step property_step stmt_step template_part_step

unfoldable pub plain_case : Case → P.Case
plain_case = fold-Case P.ConciseBody (Option Loc → P.Expr) P.ForInit P.ForTarget P.PropertyKey (Option Loc → P.Property) (Option Loc → P.Stmt) P.Case P.Catch P.Declarator P.Expr P.Function P.FunctionBody P.Param P.Property P.Stmt P.TemplatePart
    concise_body_step expr_node_step for_init_step for_target_step property_key_step property_node_step stmt_node_step case_step catch_step declarator_step expr_step function_step function_body_step param_step property_step stmt_step template_part_step

unfoldable pub plain_catch : Catch → P.Catch
plain_catch = fold-Catch P.ConciseBody (Option Loc → P.Expr) P.ForInit P.ForTarget P.PropertyKey (Option Loc → P.Property) (Option Loc → P.Stmt) P.Case P.Catch P.Declarator P.Expr P.Function P.FunctionBody P.Param P.Property P.Stmt P.TemplatePart
    concise_body_step expr_node_step for_init_step for_target_step property_key_step property_node_step stmt_node_step case_step catch_step declarator_step expr_step function_step function_body_step param_step property_step stmt_step template_part_step

unfoldable pub plain_declarator : Declarator → P.Declarator
plain_declarator = fold-Declarator P.ConciseBody (Option Loc → P.Expr) P.ForInit P.ForTarget P.PropertyKey (Option Loc → P.Property) (Option Loc → P.Stmt) P.Case P.Catch P.Declarator P.Expr P.Function P.FunctionBody P.Param P.Property P.Stmt P.TemplatePart
    concise_body_step expr_node_step for_init_step for_target_step property_key_step property_node_step stmt_node_step case_step catch_step declarator_step expr_step function_step function_body_step param_step property_step stmt_step template_part_step

unfoldable pub plain_expr : Expr → P.Expr
plain_expr = fold-Expr P.ConciseBody (Option Loc → P.Expr) P.ForInit P.ForTarget P.PropertyKey (Option Loc → P.Property) (Option Loc → P.Stmt) P.Case P.Catch P.Declarator P.Expr P.Function P.FunctionBody P.Param P.Property P.Stmt P.TemplatePart
    concise_body_step expr_node_step for_init_step for_target_step property_key_step property_node_step stmt_node_step case_step catch_step declarator_step expr_step function_step function_body_step param_step property_step stmt_step template_part_step

unfoldable pub plain_function : Function → P.Function
plain_function = fold-Function P.ConciseBody (Option Loc → P.Expr) P.ForInit P.ForTarget P.PropertyKey (Option Loc → P.Property) (Option Loc → P.Stmt) P.Case P.Catch P.Declarator P.Expr P.Function P.FunctionBody P.Param P.Property P.Stmt P.TemplatePart
    concise_body_step expr_node_step for_init_step for_target_step property_key_step property_node_step stmt_node_step case_step catch_step declarator_step expr_step function_step function_body_step param_step property_step stmt_step template_part_step

unfoldable pub plain_function_body : FunctionBody → P.FunctionBody
plain_function_body = fold-FunctionBody P.ConciseBody (Option Loc → P.Expr) P.ForInit P.ForTarget P.PropertyKey (Option Loc → P.Property) (Option Loc → P.Stmt) P.Case P.Catch P.Declarator P.Expr P.Function P.FunctionBody P.Param P.Property P.Stmt P.TemplatePart
    concise_body_step expr_node_step for_init_step for_target_step property_key_step property_node_step stmt_node_step case_step catch_step declarator_step expr_step function_step function_body_step param_step property_step stmt_step template_part_step

unfoldable pub plain_param : Param → P.Param
plain_param = fold-Param P.ConciseBody (Option Loc → P.Expr) P.ForInit P.ForTarget P.PropertyKey (Option Loc → P.Property) (Option Loc → P.Stmt) P.Case P.Catch P.Declarator P.Expr P.Function P.FunctionBody P.Param P.Property P.Stmt P.TemplatePart
    concise_body_step expr_node_step for_init_step for_target_step property_key_step property_node_step stmt_node_step case_step catch_step declarator_step expr_step function_step function_body_step param_step property_step stmt_step template_part_step

unfoldable pub plain_property : Property → P.Property
plain_property = fold-Property P.ConciseBody (Option Loc → P.Expr) P.ForInit P.ForTarget P.PropertyKey (Option Loc → P.Property) (Option Loc → P.Stmt) P.Case P.Catch P.Declarator P.Expr P.Function P.FunctionBody P.Param P.Property P.Stmt P.TemplatePart
    concise_body_step expr_node_step for_init_step for_target_step property_key_step property_node_step stmt_node_step case_step catch_step declarator_step expr_step function_step function_body_step param_step property_step stmt_step template_part_step

unfoldable pub plain_stmt : Stmt → P.Stmt
plain_stmt = fold-Stmt P.ConciseBody (Option Loc → P.Expr) P.ForInit P.ForTarget P.PropertyKey (Option Loc → P.Property) (Option Loc → P.Stmt) P.Case P.Catch P.Declarator P.Expr P.Function P.FunctionBody P.Param P.Property P.Stmt P.TemplatePart
    concise_body_step expr_node_step for_init_step for_target_step property_key_step property_node_step stmt_node_step case_step catch_step declarator_step expr_step function_step function_body_step param_step property_step stmt_step template_part_step

unfoldable pub plain_template_part : TemplatePart → P.TemplatePart
plain_template_part = fold-TemplatePart P.ConciseBody (Option Loc → P.Expr) P.ForInit P.ForTarget P.PropertyKey (Option Loc → P.Property) (Option Loc → P.Stmt) P.Case P.Catch P.Declarator P.Expr P.Function P.FunctionBody P.Param P.Property P.Stmt P.TemplatePart
    concise_body_step expr_node_step for_init_step for_target_step property_key_step property_node_step stmt_node_step case_step catch_step declarator_step expr_step function_step function_body_step param_step property_step stmt_step template_part_step

abbrev pub plain_template_parts : List TemplatePart → P.TemplateParts
plain_template_parts [] = P.no_template_part
plain_template_parts (x ∷ xs) = P.more_template_part (plain_template_part x) (plain_template_parts xs)

abbrev pub plain_properties : List Property → P.Properties
plain_properties [] = P.no_property
plain_properties (x ∷ xs) = P.more_property (plain_property x) (plain_properties xs)

abbrev pub plain_params : List Param → P.Params
plain_params [] = P.no_param
plain_params (x ∷ xs) = P.more_param (plain_param x) (plain_params xs)

abbrev pub plain_exprs : List Expr → P.Exprs
plain_exprs [] = P.no_expr
plain_exprs (x ∷ xs) = P.more_expr (plain_expr x) (plain_exprs xs)

abbrev pub plain_stmts : List Stmt → P.Stmts
plain_stmts [] = P.no_stmt
plain_stmts (x ∷ xs) = P.more_stmt (plain_stmt x) (plain_stmts xs)

abbrev pub plain_declarators : List Declarator → P.Declarators
plain_declarators [] = P.no_declarator
plain_declarators (x ∷ xs) = P.more_declarator (plain_declarator x) (plain_declarators xs)

abbrev pub plain_cases : List Case → P.Cases
plain_cases [] = P.no_case
plain_cases (x ∷ xs) = P.more_case (plain_case x) (plain_cases xs)

unfoldable pub plain_expr_if : Option Expr → P.MaybeExpr
plain_expr_if None = P.none_expr
plain_expr_if (Some x) = P.some_expr (plain_expr x)

unfoldable pub plain_stmt_if : Option Stmt → P.MaybeStmt
plain_stmt_if None = P.none_stmt
plain_stmt_if (Some x) = P.some_stmt (plain_stmt x)

abbrev pub plain_file : File → P.File
plain_file x = P.MakeFile (plain_stmts x.body) x.comments
