-- A tree without its places, its comments and its pairs of parentheses.
use Rattle.std.specs.Prelude.{Bool, true, false, [], Option, Some, None}
use Rattle.js_terms.specs.declared.words.Identifier.{Identifier}
use Rattle.js_tree.specs.Plain as tree
use Rattle.js_tree.specs.Plain.{Expr, Stmt, Property, PropertyKey, ConciseBody, ForInit, ForTarget, TemplatePart, Function, FunctionBody, Param, Declarator, Case, Catch, Pattern, MaybePattern, MaybeExpr, MaybeStmt, TemplateParts, Properties, Params, Exprs, Stmts, Declarators, Cases, File}

-- the name of a function, or a label
abbrev pub bare_identifier : Identifier → Identifier
bare_identifier x = record { loc = None; name = x.name }

abbrev pub bare_identifier_if : Option Identifier → Option Identifier
bare_identifier_if None = None
bare_identifier_if (Some x) = Some (bare_identifier x)

abbrev mutual
  -- a pair of parentheses is what stands in it
  pub bare_expr : Expr → Expr
  bare_expr (tree.IdentifierReference _ name) = tree.IdentifierReference None name
  bare_expr (tree.This _) = tree.This None
  bare_expr (tree.NullLiteral _) = tree.NullLiteral None
  bare_expr (tree.BooleanLiteral _ value) = tree.BooleanLiteral None value
  bare_expr (tree.NumericLiteral _ spelling) = tree.NumericLiteral None spelling
  bare_expr (tree.StringLiteral _ string) = tree.StringLiteral None string
  bare_expr (tree.ArrayLiteral _ items) = tree.ArrayLiteral None (bare_exprs items)
  bare_expr (tree.ObjectLiteral _ properties) = tree.ObjectLiteral None (bare_properties properties)
  bare_expr (tree.FunctionExpression _ name function) = tree.FunctionExpression None (bare_identifier_if name) (bare_function function)
  bare_expr (tree.ArrowFunction _ number params body) = tree.ArrowFunction None number (bare_params params) (bare_concise_body body)
  bare_expr (tree.RegularExpressionLiteral _ body flags) = tree.RegularExpressionLiteral None body flags
  bare_expr (tree.TemplateLiteral _ head parts) = tree.TemplateLiteral None head (bare_template_parts parts)
  bare_expr (tree.Parenthesized _ inner) = bare_expr inner
  bare_expr (tree.NamedMember _ object name) = tree.NamedMember None (bare_expr object) name
  bare_expr (tree.ComputedMember _ object key) = tree.ComputedMember None (bare_expr object) (bare_expr key)
  bare_expr (tree.New _ constructor arguments) = tree.New None (bare_expr constructor) (bare_exprs arguments)
  bare_expr (tree.Call _ callee arguments) = tree.Call None (bare_expr callee) (bare_exprs arguments)
  bare_expr (tree.PostfixUpdate _ operator operand) = tree.PostfixUpdate None operator (bare_expr operand)
  bare_expr (tree.PrefixUpdate _ operator operand) = tree.PrefixUpdate None operator (bare_expr operand)
  bare_expr (tree.Unary _ operator operand) = tree.Unary None operator (bare_expr operand)
  bare_expr (tree.Binary _ operator left right) = tree.Binary None operator (bare_expr left) (bare_expr right)
  bare_expr (tree.Logical _ operator left right) = tree.Logical None operator (bare_expr left) (bare_expr right)
  bare_expr (tree.Conditional _ test then otherwise) = tree.Conditional None (bare_expr test) (bare_expr then) (bare_expr otherwise)
  bare_expr (tree.Assignment _ operator target value) = tree.Assignment None operator (bare_expr target) (bare_expr value)
  bare_expr (tree.Comma _ left right) = tree.Comma None (bare_expr left) (bare_expr right)
  bare_expr (tree.Entered mark inner) = tree.Entered mark (bare_expr inner)

  pub bare_stmt : Stmt → Stmt
  bare_stmt (tree.Directive _ string) = tree.Directive None string
  bare_stmt (tree.Block _ statements) = tree.Block None (bare_stmts statements)
  bare_stmt (tree.VariableDeclaration _ kind declarators) = tree.VariableDeclaration None kind (bare_declarators declarators)
  bare_stmt (tree.Empty _) = tree.Empty None
  bare_stmt (tree.Expression _ expression) = tree.Expression None (bare_expr expression)
  bare_stmt (tree.If _ test then otherwise) = tree.If None (bare_expr test) (bare_stmt then) (bare_stmt_if otherwise)
  bare_stmt (tree.DoWhile _ body test) = tree.DoWhile None (bare_stmt body) (bare_expr test)
  bare_stmt (tree.While _ test body) = tree.While None (bare_expr test) (bare_stmt body)
  bare_stmt (tree.For _ init test update body) = tree.For None (bare_for_init init) (bare_expr_if test) (bare_expr_if update) (bare_stmt body)
  bare_stmt (tree.ForIn _ target object body) = tree.ForIn None (bare_for_target target) (bare_expr object) (bare_stmt body)
  bare_stmt (tree.ForOf _ target iterable body) = tree.ForOf None (bare_for_target target) (bare_expr iterable) (bare_stmt body)
  bare_stmt (tree.Continue _ label) = tree.Continue None (bare_identifier_if label)
  bare_stmt (tree.Break _ label) = tree.Break None (bare_identifier_if label)
  bare_stmt (tree.Return _ value) = tree.Return None (bare_expr_if value)
  bare_stmt (tree.Switch _ value cases) = tree.Switch None (bare_expr value) (bare_cases cases)
  bare_stmt (tree.Labelled _ label body) = tree.Labelled None (bare_identifier label) (bare_stmt body)
  bare_stmt (tree.Throw _ value) = tree.Throw None (bare_expr value)
  bare_stmt (tree.TryCatch _ block catch) = tree.TryCatch None (bare_stmts block) (bare_catch catch)
  bare_stmt (tree.TryFinally _ block finally) = tree.TryFinally None (bare_stmts block) (bare_stmts finally)
  bare_stmt (tree.TryCatchFinally _ block catch finally) = tree.TryCatchFinally None (bare_stmts block) (bare_catch catch) (bare_stmts finally)
  bare_stmt (tree.Debugger _) = tree.Debugger None
  bare_stmt (tree.FunctionDeclaration _ name function) = tree.FunctionDeclaration None (bare_identifier name) (bare_function function)
  bare_stmt (tree.EnteredStmt mark inner) = tree.EnteredStmt mark (bare_stmt inner)

  pub bare_property : Property → Property
  bare_property (tree.Shorthand _ name) = tree.Shorthand None name
  bare_property (tree.KeyValue _ key value) = tree.KeyValue None (bare_property_key key) (bare_expr value)
  bare_property (tree.Method _ key function) = tree.Method None (bare_property_key key) (bare_function function)

  pub bare_property_key : PropertyKey → PropertyKey
  bare_property_key (tree.NameKey name) = tree.NameKey name
  bare_property_key (tree.StringKey string) = tree.StringKey string
  bare_property_key (tree.NumberKey spelling) = tree.NumberKey spelling
  bare_property_key (tree.ComputedKey key) = tree.ComputedKey (bare_expr key)

  pub bare_concise_body : ConciseBody → ConciseBody
  bare_concise_body (tree.ExpressionBody value) = tree.ExpressionBody (bare_expr value)
  bare_concise_body (tree.BlockBody body) = tree.BlockBody (bare_function_body body)

  pub bare_for_init : ForInit → ForInit
  bare_for_init tree.NoInit = tree.NoInit
  bare_for_init (tree.InitDeclaration kind declarators) = tree.InitDeclaration kind (bare_declarators declarators)
  bare_for_init (tree.InitExpression expression) = tree.InitExpression (bare_expr expression)

  pub bare_for_target : ForTarget → ForTarget
  bare_for_target (tree.TargetDeclaration kind pattern) = tree.TargetDeclaration kind (bare_pattern pattern)
  bare_for_target (tree.TargetExpression target) = tree.TargetExpression (bare_expr target)

  pub bare_template_part : TemplatePart → TemplatePart
  bare_template_part (tree.MakeTemplatePart value text) = tree.MakeTemplatePart (bare_expr value) text

  pub bare_function : Function → Function
  bare_function (tree.MakeFunction number params body) = tree.MakeFunction number (bare_params params) (bare_function_body body)

  pub bare_function_body : FunctionBody → FunctionBody
  bare_function_body (tree.MakeFunctionBody _ statements) = tree.MakeFunctionBody None (bare_stmts statements)
  bare_function_body (tree.EnteredBody mark body) = tree.EnteredBody mark (bare_function_body body)

  pub bare_param : Param → Param
  bare_param (tree.MakeParam _ pattern default) = tree.MakeParam None (bare_pattern pattern) (bare_expr_if default)

  pub bare_declarator : Declarator → Declarator
  bare_declarator (tree.MakeDeclarator _ pattern initializer) = tree.MakeDeclarator None (bare_pattern pattern) (bare_expr_if initializer)

  pub bare_case : Case → Case
  bare_case (tree.MakeCase _ test statements) = tree.MakeCase None (bare_expr_if test) (bare_stmts statements)
  bare_case (tree.EnteredCase mark case) = tree.EnteredCase mark (bare_case case)

  pub bare_catch : Catch → Catch
  bare_catch (tree.MakeCatch parameter statements) = tree.MakeCatch (bare_pattern_if parameter) (bare_stmts statements)

  pub bare_pattern : Pattern → Pattern
  bare_pattern (tree.BindingIdentifier _ name) = tree.BindingIdentifier None name

  pub bare_pattern_if : MaybePattern → MaybePattern
  bare_pattern_if tree.none_pattern = tree.none_pattern
  bare_pattern_if (tree.some_pattern x) = tree.some_pattern (bare_pattern x)

  pub bare_expr_if : MaybeExpr → MaybeExpr
  bare_expr_if tree.none_expr = tree.none_expr
  bare_expr_if (tree.some_expr x) = tree.some_expr (bare_expr x)

  pub bare_stmt_if : MaybeStmt → MaybeStmt
  bare_stmt_if tree.none_stmt = tree.none_stmt
  bare_stmt_if (tree.some_stmt x) = tree.some_stmt (bare_stmt x)
  bare_stmt_if (tree.entered_none mark) = tree.entered_none mark

  pub bare_template_parts : TemplateParts → TemplateParts
  bare_template_parts tree.no_template_part = tree.no_template_part
  bare_template_parts (tree.more_template_part x xs) = tree.more_template_part (bare_template_part x) (bare_template_parts xs)

  pub bare_properties : Properties → Properties
  bare_properties tree.no_property = tree.no_property
  bare_properties (tree.more_property x xs) = tree.more_property (bare_property x) (bare_properties xs)

  pub bare_params : Params → Params
  bare_params tree.no_param = tree.no_param
  bare_params (tree.more_param x xs) = tree.more_param (bare_param x) (bare_params xs)

  pub bare_exprs : Exprs → Exprs
  bare_exprs tree.no_expr = tree.no_expr
  bare_exprs (tree.more_expr x xs) = tree.more_expr (bare_expr x) (bare_exprs xs)

  pub bare_stmts : Stmts → Stmts
  bare_stmts tree.no_stmt = tree.no_stmt
  bare_stmts (tree.more_stmt x xs) = tree.more_stmt (bare_stmt x) (bare_stmts xs)

  pub bare_declarators : Declarators → Declarators
  bare_declarators tree.no_declarator = tree.no_declarator
  bare_declarators (tree.more_declarator x xs) = tree.more_declarator (bare_declarator x) (bare_declarators xs)

  pub bare_cases : Cases → Cases
  bare_cases tree.no_case = tree.no_case
  bare_cases (tree.more_case x xs) = tree.more_case (bare_case x) (bare_cases xs)

abbrev pub bare_file : File → File
bare_file (tree.MakeFile body _) = tree.MakeFile (bare_stmts body) []

-- whether it is a pair of parentheses
abbrev pub is_parenthesized : Expr → Bool
is_parenthesized (tree.Parenthesized _ _) = true
is_parenthesized _ = false
