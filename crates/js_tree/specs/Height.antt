-- How high a tree is: how many nodes stand each inside the one before, at most.
-- Names of functions, labels, members and keys that are not computed are no nodes, nor are marks.
use Rattle.std.specs.Prelude.{ℕ, ◌+◌, max}
use Rattle.js_tree.specs.Plain as tree
use Rattle.js_tree.specs.Plain.{Expr, Stmt, Property, PropertyKey, ConciseBody, ForInit, ForTarget, TemplatePart, Function, FunctionBody, Param, Declarator, Case, Catch, Pattern, MaybePattern, MaybeExpr, MaybeStmt, TemplateParts, Properties, Params, Exprs, Stmts, Declarators, Cases, File}

abbrev mutual
  -- a leaf is 1, every other expression one more than its highest part
  pub height_expr : Expr → ℕ
  height_expr (tree.IdentifierReference _ _) = 1
  height_expr (tree.This _) = 1
  height_expr (tree.NullLiteral _) = 1
  height_expr (tree.BooleanLiteral _ _) = 1
  height_expr (tree.NumericLiteral _ _) = 1
  height_expr (tree.StringLiteral _ _) = 1
  height_expr (tree.ArrayLiteral _ items) = height_exprs items + 1
  height_expr (tree.ObjectLiteral _ properties) = height_properties properties + 1
  height_expr (tree.FunctionExpression _ _ function) = height_function function
  height_expr (tree.ArrowFunction _ _ params body) = max (height_params params) (height_concise_body body) + 1
  height_expr (tree.RegularExpressionLiteral _ _ _) = 1
  height_expr (tree.TemplateLiteral _ _ parts) = height_template_parts parts + 1
  height_expr (tree.Parenthesized _ inner) = height_expr inner + 1
  height_expr (tree.NamedMember _ object _) = height_expr object + 1
  height_expr (tree.ComputedMember _ object key) = max (height_expr object) (height_expr key) + 1
  height_expr (tree.New _ constructor arguments) = max (height_expr constructor) (height_exprs arguments) + 1
  height_expr (tree.Call _ callee arguments) = max (height_expr callee) (height_exprs arguments) + 1
  height_expr (tree.PostfixUpdate _ _ operand) = height_expr operand + 1
  height_expr (tree.PrefixUpdate _ _ operand) = height_expr operand + 1
  height_expr (tree.Unary _ _ operand) = height_expr operand + 1
  height_expr (tree.Binary _ _ left right) = max (height_expr left) (height_expr right) + 1
  height_expr (tree.Logical _ _ left right) = max (height_expr left) (height_expr right) + 1
  height_expr (tree.Conditional _ test then otherwise) = max (height_expr test) (max (height_expr then) (height_expr otherwise)) + 1
  height_expr (tree.Assignment _ _ target value) = max (height_expr target) (height_expr value) + 1
  height_expr (tree.Comma _ left right) = max (height_expr left) (height_expr right) + 1
  height_expr (tree.Entered _ inner) = height_expr inner

  -- the string of a directive is a leaf, as in an expression statement
  pub height_stmt : Stmt → ℕ
  height_stmt (tree.Directive _ _) = 2
  height_stmt (tree.Block _ statements) = height_stmts statements + 1
  height_stmt (tree.VariableDeclaration _ _ declarators) = height_declarators declarators + 1
  height_stmt (tree.Empty _) = 1
  height_stmt (tree.Expression _ expression) = height_expr expression + 1
  height_stmt (tree.If _ test then otherwise) = max (height_expr test) (max (height_stmt then) (height_stmt_if otherwise)) + 1
  height_stmt (tree.DoWhile _ body test) = max (height_stmt body) (height_expr test) + 1
  height_stmt (tree.While _ test body) = max (height_expr test) (height_stmt body) + 1
  height_stmt (tree.For _ init test update body) = max (height_for_init init) (max (height_expr_if test) (max (height_expr_if update) (height_stmt body))) + 1
  height_stmt (tree.ForIn _ target object body) = max (height_for_target target) (max (height_expr object) (height_stmt body)) + 1
  height_stmt (tree.ForOf _ target iterable body) = max (height_for_target target) (max (height_expr iterable) (height_stmt body)) + 1
  height_stmt (tree.Continue _ _) = 1
  height_stmt (tree.Break _ _) = 1
  height_stmt (tree.Return _ value) = height_expr_if value + 1
  height_stmt (tree.Switch _ value cases) = max (height_expr value) (height_cases cases) + 1
  height_stmt (tree.Labelled _ _ body) = height_stmt body + 1
  height_stmt (tree.Throw _ value) = height_expr value + 1
  height_stmt (tree.TryCatch _ block catch) = max (height_stmts block) (height_catch catch) + 1
  height_stmt (tree.TryFinally _ block finally) = max (height_stmts block) (height_stmts finally) + 1
  height_stmt (tree.TryCatchFinally _ block catch finally) = max (height_stmts block) (max (height_catch catch) (height_stmts finally)) + 1
  height_stmt (tree.Debugger _) = 1
  height_stmt (tree.FunctionDeclaration _ _ function) = height_function function
  height_stmt (tree.EnteredStmt _ inner) = height_stmt inner

  -- the name of a shorthand is a leaf
  pub height_property : Property → ℕ
  height_property (tree.Shorthand _ _) = 2
  height_property (tree.KeyValue _ key value) = max (height_property_key key) (height_expr value) + 1
  height_property (tree.Method _ key function) = max (height_property_key key) (height_function function) + 1

  -- a key counts where it is computed
  pub height_property_key : PropertyKey → ℕ
  height_property_key (tree.NameKey _) = 0
  height_property_key (tree.StringKey _) = 0
  height_property_key (tree.NumberKey _) = 0
  height_property_key (tree.ComputedKey key) = height_expr key

  -- a body counts as what stands in it
  pub height_concise_body : ConciseBody → ℕ
  height_concise_body (tree.ExpressionBody value) = height_expr value
  height_concise_body (tree.BlockBody body) = height_function_body body

  pub height_for_init : ForInit → ℕ
  height_for_init tree.NoInit = 0
  height_for_init (tree.InitDeclaration _ declarators) = height_declarators declarators
  height_for_init (tree.InitExpression expression) = height_expr expression

  pub height_for_target : ForTarget → ℕ
  height_for_target (tree.TargetDeclaration _ pattern) = height_pattern pattern
  height_for_target (tree.TargetExpression target) = height_expr target

  pub height_template_part : TemplatePart → ℕ
  height_template_part (tree.MakeTemplatePart value _) = height_expr value

  -- one more than its highest part: its declaration or its expression is the function and no level more, a method is a
  -- property with a function in it
  pub height_function : Function → ℕ
  height_function (tree.MakeFunction _ params body) = max (height_params params) (height_function_body body) + 1

  pub height_function_body : FunctionBody → ℕ
  height_function_body (tree.MakeFunctionBody _ statements) = height_stmts statements
  height_function_body (tree.EnteredBody _ body) = height_function_body body

  -- a parameter without a default is a leaf
  pub height_param : Param → ℕ
  height_param (tree.MakeParam _ pattern tree.none_expr) = height_pattern pattern
  height_param (tree.MakeParam _ pattern (tree.some_expr default)) = max (height_pattern pattern) (height_expr default) + 1

  pub height_declarator : Declarator → ℕ
  height_declarator (tree.MakeDeclarator _ pattern initializer) = max (height_pattern pattern) (height_expr_if initializer) + 1

  pub height_case : Case → ℕ
  height_case (tree.MakeCase _ test statements) = max (height_expr_if test) (height_stmts statements) + 1
  height_case (tree.EnteredCase _ case) = height_case case

  pub height_catch : Catch → ℕ
  height_catch (tree.MakeCatch parameter statements) = max (height_pattern_if parameter) (height_stmts statements)

  pub height_pattern : Pattern → ℕ
  height_pattern (tree.BindingIdentifier _ _) = 1

  pub height_pattern_if : MaybePattern → ℕ
  height_pattern_if tree.none_pattern = 0
  height_pattern_if (tree.some_pattern x) = height_pattern x

  pub height_expr_if : MaybeExpr → ℕ
  height_expr_if tree.none_expr = 0
  height_expr_if (tree.some_expr x) = height_expr x

  pub height_stmt_if : MaybeStmt → ℕ
  height_stmt_if tree.none_stmt = 0
  height_stmt_if (tree.some_stmt x) = height_stmt x
  height_stmt_if (tree.entered_none _) = 0

  pub height_template_parts : TemplateParts → ℕ
  height_template_parts tree.no_template_part = 0
  height_template_parts (tree.more_template_part x xs) = max (height_template_part x) (height_template_parts xs)

  pub height_properties : Properties → ℕ
  height_properties tree.no_property = 0
  height_properties (tree.more_property x xs) = max (height_property x) (height_properties xs)

  pub height_params : Params → ℕ
  height_params tree.no_param = 0
  height_params (tree.more_param x xs) = max (height_param x) (height_params xs)

  pub height_exprs : Exprs → ℕ
  height_exprs tree.no_expr = 0
  height_exprs (tree.more_expr x xs) = max (height_expr x) (height_exprs xs)

  pub height_stmts : Stmts → ℕ
  height_stmts tree.no_stmt = 0
  height_stmts (tree.more_stmt x xs) = max (height_stmt x) (height_stmts xs)

  pub height_declarators : Declarators → ℕ
  height_declarators tree.no_declarator = 0
  height_declarators (tree.more_declarator x xs) = max (height_declarator x) (height_declarators xs)

  pub height_cases : Cases → ℕ
  height_cases tree.no_case = 0
  height_cases (tree.more_case x xs) = max (height_case x) (height_cases xs)

-- of a file: that of its highest statement
abbrev pub height_file : File → ℕ
height_file (tree.MakeFile body _) = height_stmts body
