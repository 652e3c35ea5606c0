-- A tree without its places and its comments, but with its pairs of parentheses.
use Rattle.std.specs.Prelude.{[], None}
use Rattle.js_tree.specs.Plain.{Expr, IdentifierReference, This, NullLiteral, BooleanLiteral, NumericLiteral, StringLiteral, ArrayLiteral, ObjectLiteral, FunctionExpression, ArrowFunction, RegularExpressionLiteral, TemplateLiteral, Parenthesized, NamedMember, ComputedMember, New, Call, PostfixUpdate, PrefixUpdate, Unary, Binary, Logical, Conditional, Assignment, Comma, Entered}
use Rattle.js_tree.specs.Plain.{Stmt, Directive, Block, VariableDeclaration, Empty, Expression, If, DoWhile, While, For, ForIn, ForOf, Continue, Break, Return, Switch, Labelled, Throw, TryCatch, TryFinally, TryCatchFinally, Debugger, FunctionDeclaration, EnteredStmt}
use Rattle.js_tree.specs.Plain.{Property, Shorthand, KeyValue, Method, PropertyKey, NameKey, StringKey, NumberKey, ComputedKey, ConciseBody, ExpressionBody, BlockBody, ForInit, NoInit, InitDeclaration, InitExpression, ForTarget, TargetDeclaration, TargetExpression}
use Rattle.js_tree.specs.Plain.{TemplatePart, MakeTemplatePart, Function, MakeFunction, FunctionBody, MakeFunctionBody, EnteredBody, Param, MakeParam, Declarator, MakeDeclarator, Case, MakeCase, EnteredCase, Catch, MakeCatch, Pattern, BindingIdentifier}
use Rattle.js_tree.specs.Plain.{MaybePattern, none_pattern, some_pattern, MaybeExpr, none_expr, some_expr, MaybeStmt, none_stmt, some_stmt, entered_none}
use Rattle.js_tree.specs.Plain.{TemplateParts, no_template_part, more_template_part, Properties, no_property, more_property, Params, no_param, more_param, Exprs, no_expr, more_expr, Stmts, no_stmt, more_stmt, Declarators, no_declarator, more_declarator, Cases, no_case, more_case, File, MakeFile}
use Rattle.js_tree.specs.Same.{bare_identifier, bare_identifier_if}

abbrev mutual
  pub unplaced_expr : Expr → Expr
  unplaced_expr (IdentifierReference _ name) = IdentifierReference None name
  unplaced_expr (This _) = This None
  unplaced_expr (NullLiteral _) = NullLiteral None
  unplaced_expr (BooleanLiteral _ value) = BooleanLiteral None value
  unplaced_expr (NumericLiteral _ spelling) = NumericLiteral None spelling
  unplaced_expr (StringLiteral _ string) = StringLiteral None string
  unplaced_expr (ArrayLiteral _ items) = ArrayLiteral None (unplaced_exprs items)
  unplaced_expr (ObjectLiteral _ properties) = ObjectLiteral None (unplaced_properties properties)
  unplaced_expr (FunctionExpression _ name function) = FunctionExpression None (bare_identifier_if name) (unplaced_function function)
  unplaced_expr (ArrowFunction _ number params body) = ArrowFunction None number (unplaced_params params) (unplaced_concise_body body)
  unplaced_expr (RegularExpressionLiteral _ body flags) = RegularExpressionLiteral None body flags
  unplaced_expr (TemplateLiteral _ head parts) = TemplateLiteral None head (unplaced_template_parts parts)
  unplaced_expr (Parenthesized _ inner) = Parenthesized None (unplaced_expr inner)
  unplaced_expr (NamedMember _ object name) = NamedMember None (unplaced_expr object) name
  unplaced_expr (ComputedMember _ object key) = ComputedMember None (unplaced_expr object) (unplaced_expr key)
  unplaced_expr (New _ constructor arguments) = New None (unplaced_expr constructor) (unplaced_exprs arguments)
  unplaced_expr (Call _ callee arguments) = Call None (unplaced_expr callee) (unplaced_exprs arguments)
  unplaced_expr (PostfixUpdate _ operator operand) = PostfixUpdate None operator (unplaced_expr operand)
  unplaced_expr (PrefixUpdate _ operator operand) = PrefixUpdate None operator (unplaced_expr operand)
  unplaced_expr (Unary _ operator operand) = Unary None operator (unplaced_expr operand)
  unplaced_expr (Binary _ operator left right) = Binary None operator (unplaced_expr left) (unplaced_expr right)
  unplaced_expr (Logical _ operator left right) = Logical None operator (unplaced_expr left) (unplaced_expr right)
  unplaced_expr (Conditional _ test then otherwise) = Conditional None (unplaced_expr test) (unplaced_expr then) (unplaced_expr otherwise)
  unplaced_expr (Assignment _ operator target value) = Assignment None operator (unplaced_expr target) (unplaced_expr value)
  unplaced_expr (Comma _ left right) = Comma None (unplaced_expr left) (unplaced_expr right)
  unplaced_expr (Entered mark inner) = Entered mark (unplaced_expr inner)

  pub unplaced_stmt : Stmt → Stmt
  unplaced_stmt (Directive _ string) = Directive None string
  unplaced_stmt (Block _ statements) = Block None (unplaced_stmts statements)
  unplaced_stmt (VariableDeclaration _ kind declarators) = VariableDeclaration None kind (unplaced_declarators declarators)
  unplaced_stmt (Empty _) = Empty None
  unplaced_stmt (Expression _ expression) = Expression None (unplaced_expr expression)
  unplaced_stmt (If _ test then otherwise) = If None (unplaced_expr test) (unplaced_stmt then) (unplaced_stmt_if otherwise)
  unplaced_stmt (DoWhile _ body test) = DoWhile None (unplaced_stmt body) (unplaced_expr test)
  unplaced_stmt (While _ test body) = While None (unplaced_expr test) (unplaced_stmt body)
  unplaced_stmt (For _ init test update body) = For None (unplaced_for_init init) (unplaced_expr_if test) (unplaced_expr_if update) (unplaced_stmt body)
  unplaced_stmt (ForIn _ target object body) = ForIn None (unplaced_for_target target) (unplaced_expr object) (unplaced_stmt body)
  unplaced_stmt (ForOf _ target iterable body) = ForOf None (unplaced_for_target target) (unplaced_expr iterable) (unplaced_stmt body)
  unplaced_stmt (Continue _ label) = Continue None (bare_identifier_if label)
  unplaced_stmt (Break _ label) = Break None (bare_identifier_if label)
  unplaced_stmt (Return _ value) = Return None (unplaced_expr_if value)
  unplaced_stmt (Switch _ value cases) = Switch None (unplaced_expr value) (unplaced_cases cases)
  unplaced_stmt (Labelled _ label body) = Labelled None (bare_identifier label) (unplaced_stmt body)
  unplaced_stmt (Throw _ value) = Throw None (unplaced_expr value)
  unplaced_stmt (TryCatch _ block catch) = TryCatch None (unplaced_stmts block) (unplaced_catch catch)
  unplaced_stmt (TryFinally _ block finally) = TryFinally None (unplaced_stmts block) (unplaced_stmts finally)
  unplaced_stmt (TryCatchFinally _ block catch finally) = TryCatchFinally None (unplaced_stmts block) (unplaced_catch catch) (unplaced_stmts finally)
  unplaced_stmt (Debugger _) = Debugger None
  unplaced_stmt (FunctionDeclaration _ name function) = FunctionDeclaration None (bare_identifier name) (unplaced_function function)
  unplaced_stmt (EnteredStmt mark inner) = EnteredStmt mark (unplaced_stmt inner)

  pub unplaced_property : Property → Property
  unplaced_property (Shorthand _ name) = Shorthand None name
  unplaced_property (KeyValue _ key value) = KeyValue None (unplaced_property_key key) (unplaced_expr value)
  unplaced_property (Method _ key function) = Method None (unplaced_property_key key) (unplaced_function function)

  pub unplaced_property_key : PropertyKey → PropertyKey
  unplaced_property_key (NameKey name) = NameKey name
  unplaced_property_key (StringKey string) = StringKey string
  unplaced_property_key (NumberKey spelling) = NumberKey spelling
  unplaced_property_key (ComputedKey key) = ComputedKey (unplaced_expr key)

  pub unplaced_concise_body : ConciseBody → ConciseBody
  unplaced_concise_body (ExpressionBody value) = ExpressionBody (unplaced_expr value)
  unplaced_concise_body (BlockBody body) = BlockBody (unplaced_function_body body)

  pub unplaced_for_init : ForInit → ForInit
  unplaced_for_init NoInit = NoInit
  unplaced_for_init (InitDeclaration kind declarators) = InitDeclaration kind (unplaced_declarators declarators)
  unplaced_for_init (InitExpression expression) = InitExpression (unplaced_expr expression)

  pub unplaced_for_target : ForTarget → ForTarget
  unplaced_for_target (TargetDeclaration kind pattern) = TargetDeclaration kind (unplaced_pattern pattern)
  unplaced_for_target (TargetExpression target) = TargetExpression (unplaced_expr target)

  pub unplaced_template_part : TemplatePart → TemplatePart
  unplaced_template_part (MakeTemplatePart value text) = MakeTemplatePart (unplaced_expr value) text

  pub unplaced_function : Function → Function
  unplaced_function (MakeFunction number params body) = MakeFunction number (unplaced_params params) (unplaced_function_body body)

  pub unplaced_function_body : FunctionBody → FunctionBody
  unplaced_function_body (MakeFunctionBody _ statements) = MakeFunctionBody None (unplaced_stmts statements)
  unplaced_function_body (EnteredBody mark body) = EnteredBody mark (unplaced_function_body body)

  pub unplaced_param : Param → Param
  unplaced_param (MakeParam _ pattern default) = MakeParam None (unplaced_pattern pattern) (unplaced_expr_if default)

  pub unplaced_declarator : Declarator → Declarator
  unplaced_declarator (MakeDeclarator _ pattern initializer) = MakeDeclarator None (unplaced_pattern pattern) (unplaced_expr_if initializer)

  pub unplaced_case : Case → Case
  unplaced_case (MakeCase _ test statements) = MakeCase None (unplaced_expr_if test) (unplaced_stmts statements)
  unplaced_case (EnteredCase mark case) = EnteredCase mark (unplaced_case case)

  pub unplaced_catch : Catch → Catch
  unplaced_catch (MakeCatch parameter statements) = MakeCatch (unplaced_pattern_if parameter) (unplaced_stmts statements)

  pub unplaced_pattern : Pattern → Pattern
  unplaced_pattern (BindingIdentifier _ name) = BindingIdentifier None name

  pub unplaced_pattern_if : MaybePattern → MaybePattern
  unplaced_pattern_if none_pattern = none_pattern
  unplaced_pattern_if (some_pattern x) = some_pattern (unplaced_pattern x)

  pub unplaced_expr_if : MaybeExpr → MaybeExpr
  unplaced_expr_if none_expr = none_expr
  unplaced_expr_if (some_expr x) = some_expr (unplaced_expr x)

  pub unplaced_stmt_if : MaybeStmt → MaybeStmt
  unplaced_stmt_if none_stmt = none_stmt
  unplaced_stmt_if (some_stmt x) = some_stmt (unplaced_stmt x)
  unplaced_stmt_if (entered_none mark) = entered_none mark

  pub unplaced_template_parts : TemplateParts → TemplateParts
  unplaced_template_parts no_template_part = no_template_part
  unplaced_template_parts (more_template_part x xs) = more_template_part (unplaced_template_part x) (unplaced_template_parts xs)

  pub unplaced_properties : Properties → Properties
  unplaced_properties no_property = no_property
  unplaced_properties (more_property x xs) = more_property (unplaced_property x) (unplaced_properties xs)

  pub unplaced_params : Params → Params
  unplaced_params no_param = no_param
  unplaced_params (more_param x xs) = more_param (unplaced_param x) (unplaced_params xs)

  pub unplaced_exprs : Exprs → Exprs
  unplaced_exprs no_expr = no_expr
  unplaced_exprs (more_expr x xs) = more_expr (unplaced_expr x) (unplaced_exprs xs)

  pub unplaced_stmts : Stmts → Stmts
  unplaced_stmts no_stmt = no_stmt
  unplaced_stmts (more_stmt x xs) = more_stmt (unplaced_stmt x) (unplaced_stmts xs)

  pub unplaced_declarators : Declarators → Declarators
  unplaced_declarators no_declarator = no_declarator
  unplaced_declarators (more_declarator x xs) = more_declarator (unplaced_declarator x) (unplaced_declarators xs)

  pub unplaced_cases : Cases → Cases
  unplaced_cases no_case = no_case
  unplaced_cases (more_case x xs) = more_case (unplaced_case x) (unplaced_cases xs)

-- of a file its comments go too
abbrev pub unplaced_file : File → File
unplaced_file (MakeFile body _) = MakeFile (unplaced_stmts body) []
