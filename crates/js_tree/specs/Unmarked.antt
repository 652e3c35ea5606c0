-- A tree without its marks.
use Rattle.std.specs.Prelude.{◌≡◌}
use Rattle.js_tree.specs.Linked.{Marking, Unmarked, Numbers, link_file}
use Rattle.js_tree.specs.Plain as tree
use Rattle.js_tree.specs.Plain.{Expr, Stmt, Property, PropertyKey, ConciseBody, ForInit, ForTarget, TemplatePart, Function, FunctionBody, Param, Declarator, Case, Catch, MaybeExpr, MaybeStmt, Exprs, TemplateParts, Properties, Params, Stmts, Declarators, Cases, File}

abbrev mutual
  pub unmarked_expr : Expr → Expr
  unmarked_expr (tree.IdentifierReference loc text) = tree.IdentifierReference loc text
  unmarked_expr (tree.This loc) = tree.This loc
  unmarked_expr (tree.NullLiteral loc) = tree.NullLiteral loc
  unmarked_expr (tree.BooleanLiteral loc b) = tree.BooleanLiteral loc b
  unmarked_expr (tree.NumericLiteral loc text) = tree.NumericLiteral loc text
  unmarked_expr (tree.StringLiteral loc spelled) = tree.StringLiteral loc spelled
  unmarked_expr (tree.ArrayLiteral loc es) = tree.ArrayLiteral loc (unmarked_exprs es)
  unmarked_expr (tree.ObjectLiteral loc properties) = tree.ObjectLiteral loc (unmarked_properties properties)
  unmarked_expr (tree.FunctionExpression loc name function) = tree.FunctionExpression loc name (unmarked_function function)
  unmarked_expr (tree.ArrowFunction loc number params body) = tree.ArrowFunction loc number (unmarked_params params) (unmarked_concise_body body)
  unmarked_expr (tree.RegularExpressionLiteral loc text flags) = tree.RegularExpressionLiteral loc text flags
  unmarked_expr (tree.TemplateLiteral loc spelled parts) = tree.TemplateLiteral loc spelled (unmarked_template_parts parts)
  unmarked_expr (tree.Parenthesized loc e) = tree.Parenthesized loc (unmarked_expr e)
  unmarked_expr (tree.NamedMember loc e text) = tree.NamedMember loc (unmarked_expr e) text
  unmarked_expr (tree.ComputedMember loc e f) = tree.ComputedMember loc (unmarked_expr e) (unmarked_expr f)
  unmarked_expr (tree.New loc e es) = tree.New loc (unmarked_expr e) (unmarked_exprs es)
  unmarked_expr (tree.Call loc e es) = tree.Call loc (unmarked_expr e) (unmarked_exprs es)
  unmarked_expr (tree.PostfixUpdate loc operator e) = tree.PostfixUpdate loc operator (unmarked_expr e)
  unmarked_expr (tree.PrefixUpdate loc operator e) = tree.PrefixUpdate loc operator (unmarked_expr e)
  unmarked_expr (tree.Unary loc operator e) = tree.Unary loc operator (unmarked_expr e)
  unmarked_expr (tree.Binary loc operator e f) = tree.Binary loc operator (unmarked_expr e) (unmarked_expr f)
  unmarked_expr (tree.Logical loc operator e f) = tree.Logical loc operator (unmarked_expr e) (unmarked_expr f)
  unmarked_expr (tree.Conditional loc e f g) = tree.Conditional loc (unmarked_expr e) (unmarked_expr f) (unmarked_expr g)
  unmarked_expr (tree.Assignment loc operator e f) = tree.Assignment loc operator (unmarked_expr e) (unmarked_expr f)
  unmarked_expr (tree.Comma loc e f) = tree.Comma loc (unmarked_expr e) (unmarked_expr f)
  unmarked_expr (tree.Entered mark e) = unmarked_expr e

  pub unmarked_stmt : Stmt → Stmt
  unmarked_stmt (tree.Directive loc spelled) = tree.Directive loc spelled
  unmarked_stmt (tree.Block loc xs) = tree.Block loc (unmarked_stmts xs)
  unmarked_stmt (tree.VariableDeclaration loc kind declarators) = tree.VariableDeclaration loc kind (unmarked_declarators declarators)
  unmarked_stmt (tree.Empty loc) = tree.Empty loc
  unmarked_stmt (tree.Expression loc e) = tree.Expression loc (unmarked_expr e)
  unmarked_stmt (tree.If loc e x y) = tree.If loc (unmarked_expr e) (unmarked_stmt x) (unmarked_stmt_if y)
  unmarked_stmt (tree.DoWhile loc x e) = tree.DoWhile loc (unmarked_stmt x) (unmarked_expr e)
  unmarked_stmt (tree.While loc e x) = tree.While loc (unmarked_expr e) (unmarked_stmt x)
  unmarked_stmt (tree.For loc init e f x) = tree.For loc (unmarked_for_init init) (unmarked_expr_if e) (unmarked_expr_if f) (unmarked_stmt x)
  unmarked_stmt (tree.ForIn loc target e x) = tree.ForIn loc (unmarked_for_target target) (unmarked_expr e) (unmarked_stmt x)
  unmarked_stmt (tree.ForOf loc target e x) = tree.ForOf loc (unmarked_for_target target) (unmarked_expr e) (unmarked_stmt x)
  unmarked_stmt (tree.Continue loc name) = tree.Continue loc name
  unmarked_stmt (tree.Break loc name) = tree.Break loc name
  unmarked_stmt (tree.Return loc e) = tree.Return loc (unmarked_expr_if e)
  unmarked_stmt (tree.Switch loc e cases) = tree.Switch loc (unmarked_expr e) (unmarked_cases cases)
  unmarked_stmt (tree.Labelled loc name x) = tree.Labelled loc name (unmarked_stmt x)
  unmarked_stmt (tree.Throw loc e) = tree.Throw loc (unmarked_expr e)
  unmarked_stmt (tree.TryCatch loc xs catch) = tree.TryCatch loc (unmarked_stmts xs) (unmarked_catch catch)
  unmarked_stmt (tree.TryFinally loc xs ys) = tree.TryFinally loc (unmarked_stmts xs) (unmarked_stmts ys)
  unmarked_stmt (tree.TryCatchFinally loc xs catch ys) = tree.TryCatchFinally loc (unmarked_stmts xs) (unmarked_catch catch) (unmarked_stmts ys)
  unmarked_stmt (tree.Debugger loc) = tree.Debugger loc
  unmarked_stmt (tree.FunctionDeclaration loc name function) = tree.FunctionDeclaration loc name (unmarked_function function)
  unmarked_stmt (tree.EnteredStmt mark x) = unmarked_stmt x

  pub unmarked_property : Property → Property
  unmarked_property (tree.Shorthand loc text) = tree.Shorthand loc text
  unmarked_property (tree.KeyValue loc key e) = tree.KeyValue loc (unmarked_property_key key) (unmarked_expr e)
  unmarked_property (tree.Method loc key function) = tree.Method loc (unmarked_property_key key) (unmarked_function function)

  pub unmarked_property_key : PropertyKey → PropertyKey
  unmarked_property_key (tree.NameKey text) = tree.NameKey text
  unmarked_property_key (tree.StringKey spelled) = tree.StringKey spelled
  unmarked_property_key (tree.NumberKey text) = tree.NumberKey text
  unmarked_property_key (tree.ComputedKey e) = tree.ComputedKey (unmarked_expr e)

  pub unmarked_concise_body : ConciseBody → ConciseBody
  unmarked_concise_body (tree.ExpressionBody e) = tree.ExpressionBody (unmarked_expr e)
  unmarked_concise_body (tree.BlockBody body) = tree.BlockBody (unmarked_function_body body)

  pub unmarked_for_init : ForInit → ForInit
  unmarked_for_init tree.NoInit = tree.NoInit
  unmarked_for_init (tree.InitDeclaration kind declarators) = tree.InitDeclaration kind (unmarked_declarators declarators)
  unmarked_for_init (tree.InitExpression e) = tree.InitExpression (unmarked_expr e)

  pub unmarked_for_target : ForTarget → ForTarget
  unmarked_for_target (tree.TargetDeclaration kind pattern) = tree.TargetDeclaration kind pattern
  unmarked_for_target (tree.TargetExpression e) = tree.TargetExpression (unmarked_expr e)

  pub unmarked_template_part : TemplatePart → TemplatePart
  unmarked_template_part (tree.MakeTemplatePart e spelled) = tree.MakeTemplatePart (unmarked_expr e) spelled

  pub unmarked_function : Function → Function
  unmarked_function (tree.MakeFunction number params body) = tree.MakeFunction number (unmarked_params params) (unmarked_function_body body)

  pub unmarked_function_body : FunctionBody → FunctionBody
  unmarked_function_body (tree.MakeFunctionBody loc xs) = tree.MakeFunctionBody loc (unmarked_stmts xs)
  unmarked_function_body (tree.EnteredBody mark body) = unmarked_function_body body

  pub unmarked_param : Param → Param
  unmarked_param (tree.MakeParam loc pattern e) = tree.MakeParam loc pattern (unmarked_expr_if e)

  pub unmarked_declarator : Declarator → Declarator
  unmarked_declarator (tree.MakeDeclarator loc pattern e) = tree.MakeDeclarator loc pattern (unmarked_expr_if e)

  pub unmarked_case : Case → Case
  unmarked_case (tree.MakeCase loc e xs) = tree.MakeCase loc (unmarked_expr_if e) (unmarked_stmts xs)
  unmarked_case (tree.EnteredCase mark x) = unmarked_case x

  pub unmarked_catch : Catch → Catch
  unmarked_catch (tree.MakeCatch pattern xs) = tree.MakeCatch pattern (unmarked_stmts xs)

  pub unmarked_expr_if : MaybeExpr → MaybeExpr
  unmarked_expr_if tree.none_expr = tree.none_expr
  unmarked_expr_if (tree.some_expr e) = tree.some_expr (unmarked_expr e)

  pub unmarked_stmt_if : MaybeStmt → MaybeStmt
  unmarked_stmt_if tree.none_stmt = tree.none_stmt
  unmarked_stmt_if (tree.some_stmt x) = tree.some_stmt (unmarked_stmt x)
  unmarked_stmt_if (tree.entered_none mark) = tree.none_stmt

  pub unmarked_exprs : Exprs → Exprs
  unmarked_exprs tree.no_expr = tree.no_expr
  unmarked_exprs (tree.more_expr x xs) = tree.more_expr (unmarked_expr x) (unmarked_exprs xs)

  pub unmarked_template_parts : TemplateParts → TemplateParts
  unmarked_template_parts tree.no_template_part = tree.no_template_part
  unmarked_template_parts (tree.more_template_part x xs) = tree.more_template_part (unmarked_template_part x) (unmarked_template_parts xs)

  pub unmarked_properties : Properties → Properties
  unmarked_properties tree.no_property = tree.no_property
  unmarked_properties (tree.more_property x xs) = tree.more_property (unmarked_property x) (unmarked_properties xs)

  pub unmarked_params : Params → Params
  unmarked_params tree.no_param = tree.no_param
  unmarked_params (tree.more_param x xs) = tree.more_param (unmarked_param x) (unmarked_params xs)

  pub unmarked_stmts : Stmts → Stmts
  unmarked_stmts tree.no_stmt = tree.no_stmt
  unmarked_stmts (tree.more_stmt x xs) = tree.more_stmt (unmarked_stmt x) (unmarked_stmts xs)

  pub unmarked_declarators : Declarators → Declarators
  unmarked_declarators tree.no_declarator = tree.no_declarator
  unmarked_declarators (tree.more_declarator x xs) = tree.more_declarator (unmarked_declarator x) (unmarked_declarators xs)

  pub unmarked_cases : Cases → Cases
  unmarked_cases tree.no_case = tree.no_case
  unmarked_cases (tree.more_case x xs) = tree.more_case (unmarked_case x) (unmarked_cases xs)

abbrev pub unmarked_file : File → File
unmarked_file (tree.MakeFile body comments) = tree.MakeFile (unmarked_stmts body) comments

-- a linked file without its marks is the same file linked without marks, with the same numbers of functions
abbrev pub UnmarksLinked : Type 0
UnmarksLinked = (m : Marking) (tree : File) (k k' : Numbers) → k.code ≡ k'.code →
    (unmarked_file (link_file m tree k).tree ≡ (link_file Unmarked tree k').tree)
    × ((link_file m tree k).next.code ≡ (link_file Unmarked tree k').next.code)
