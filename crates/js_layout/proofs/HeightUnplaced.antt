-- A tree without its places is as high.
use Rattle.std.proofs.Common.{◌≡◌, ◌+◌, refl}
use Rattle.std.specs.Prelude.{max}
use Rattle.js_tree.specs.Plain.{Expr, IdentifierReference, This, NullLiteral, BooleanLiteral, NumericLiteral, StringLiteral, ArrayLiteral, ObjectLiteral, FunctionExpression, ArrowFunction, RegularExpressionLiteral, TemplateLiteral, Parenthesized, NamedMember, ComputedMember, New, Call, PostfixUpdate, PrefixUpdate, Unary, Binary, Logical, Conditional, Assignment, Comma, Entered}
use Rattle.js_tree.specs.Plain.{Stmt, Directive, Block, VariableDeclaration, Empty, Expression, If, DoWhile, While, For, ForIn, ForOf, Continue, Break, Return, Switch, Labelled, Throw, TryCatch, TryFinally, TryCatchFinally, Debugger, FunctionDeclaration, EnteredStmt}
use Rattle.js_tree.specs.Plain.{Property, Shorthand, KeyValue, Method, PropertyKey, NameKey, StringKey, NumberKey, ComputedKey, ConciseBody, ExpressionBody, BlockBody, ForInit, NoInit, InitDeclaration, InitExpression, ForTarget, TargetDeclaration, TargetExpression}
use Rattle.js_tree.specs.Plain.{TemplatePart, MakeTemplatePart, Function, MakeFunction, FunctionBody, MakeFunctionBody, EnteredBody, Param, MakeParam, Declarator, MakeDeclarator, Case, MakeCase, EnteredCase, Catch, MakeCatch, Pattern, BindingIdentifier}
use Rattle.js_tree.specs.Plain.{MaybePattern, none_pattern, some_pattern, MaybeExpr, none_expr, some_expr, MaybeStmt, none_stmt, some_stmt, entered_none}
use Rattle.js_tree.specs.Plain.{TemplateParts, no_template_part, more_template_part, Properties, no_property, more_property, Params, no_param, more_param, Exprs, no_expr, more_expr, Stmts, no_stmt, more_stmt, Declarators, no_declarator, more_declarator, Cases, no_case, more_case, File, MakeFile}
use Rattle.js_tree.specs.Height.{height_expr, height_stmt, height_property, height_property_key, height_concise_body, height_for_init, height_for_target, height_template_part, height_function, height_function_body, height_param, height_declarator, height_case, height_catch, height_pattern, height_pattern_if, height_expr_if, height_stmt_if, height_template_parts, height_properties, height_params, height_exprs, height_stmts, height_declarators, height_cases, height_file}
use Rattle.js_layout.specs.Unplaced.{unplaced_expr, unplaced_stmt, unplaced_property, unplaced_property_key, unplaced_concise_body, unplaced_for_init, unplaced_for_target, unplaced_template_part, unplaced_function, unplaced_function_body, unplaced_param, unplaced_declarator, unplaced_case, unplaced_catch, unplaced_pattern, unplaced_pattern_if, unplaced_expr_if, unplaced_stmt_if, unplaced_template_parts, unplaced_properties, unplaced_params, unplaced_exprs, unplaced_stmts, unplaced_declarators, unplaced_cases, unplaced_file}

mutual
  pub height_unplaced_expr : (x : Expr) → height_expr (unplaced_expr x) ≡ height_expr x
  height_unplaced_expr (IdentifierReference _ _) = refl
  height_unplaced_expr (This _) = refl
  height_unplaced_expr (NullLiteral _) = refl
  height_unplaced_expr (BooleanLiteral _ _) = refl
  height_unplaced_expr (NumericLiteral _ _) = refl
  height_unplaced_expr (StringLiteral _ _) = refl
  height_unplaced_expr (ArrayLiteral _ items) = λ i. height_unplaced_exprs items i + 1
  height_unplaced_expr (ObjectLiteral _ properties) = λ i. height_unplaced_properties properties i + 1
  height_unplaced_expr (FunctionExpression _ _ function) = height_unplaced_function function
  height_unplaced_expr (ArrowFunction _ _ params body) = λ i. max (height_unplaced_params params i) (height_unplaced_concise_body body i) + 1
  height_unplaced_expr (RegularExpressionLiteral _ _ _) = refl
  height_unplaced_expr (TemplateLiteral _ _ parts) = λ i. height_unplaced_template_parts parts i + 1
  height_unplaced_expr (Parenthesized _ inner) = λ i. height_unplaced_expr inner i + 1
  height_unplaced_expr (NamedMember _ object _) = λ i. height_unplaced_expr object i + 1
  height_unplaced_expr (ComputedMember _ object key) = λ i. max (height_unplaced_expr object i) (height_unplaced_expr key i) + 1
  height_unplaced_expr (New _ constructor arguments) = λ i. max (height_unplaced_expr constructor i) (height_unplaced_exprs arguments i) + 1
  height_unplaced_expr (Call _ callee arguments) = λ i. max (height_unplaced_expr callee i) (height_unplaced_exprs arguments i) + 1
  height_unplaced_expr (PostfixUpdate _ _ operand) = λ i. height_unplaced_expr operand i + 1
  height_unplaced_expr (PrefixUpdate _ _ operand) = λ i. height_unplaced_expr operand i + 1
  height_unplaced_expr (Unary _ _ operand) = λ i. height_unplaced_expr operand i + 1
  height_unplaced_expr (Binary _ _ left right) = λ i. max (height_unplaced_expr left i) (height_unplaced_expr right i) + 1
  height_unplaced_expr (Logical _ _ left right) = λ i. max (height_unplaced_expr left i) (height_unplaced_expr right i) + 1
  height_unplaced_expr (Conditional _ test then otherwise) = λ i. max (height_unplaced_expr test i) (max (height_unplaced_expr then i) (height_unplaced_expr otherwise i)) + 1
  height_unplaced_expr (Assignment _ _ target value) = λ i. max (height_unplaced_expr target i) (height_unplaced_expr value i) + 1
  height_unplaced_expr (Comma _ left right) = λ i. max (height_unplaced_expr left i) (height_unplaced_expr right i) + 1
  height_unplaced_expr (Entered _ inner) = height_unplaced_expr inner

  pub height_unplaced_stmt : (x : Stmt) → height_stmt (unplaced_stmt x) ≡ height_stmt x
  height_unplaced_stmt (Directive _ _) = refl
  height_unplaced_stmt (Block _ statements) = λ i. height_unplaced_stmts statements i + 1
  height_unplaced_stmt (VariableDeclaration _ _ declarators) = λ i. height_unplaced_declarators declarators i + 1
  height_unplaced_stmt (Empty _) = refl
  height_unplaced_stmt (Expression _ expression) = λ i. height_unplaced_expr expression i + 1
  height_unplaced_stmt (If _ test then otherwise) = λ i. max (height_unplaced_expr test i) (max (height_unplaced_stmt then i) (height_unplaced_stmt_if otherwise i)) + 1
  height_unplaced_stmt (DoWhile _ body test) = λ i. max (height_unplaced_stmt body i) (height_unplaced_expr test i) + 1
  height_unplaced_stmt (While _ test body) = λ i. max (height_unplaced_expr test i) (height_unplaced_stmt body i) + 1
  height_unplaced_stmt (For _ init test update body) = λ i. max (height_unplaced_for_init init i) (max (height_unplaced_expr_if test i) (max (height_unplaced_expr_if update i) (height_unplaced_stmt body i))) + 1
  height_unplaced_stmt (ForIn _ target object body) = λ i. max (height_unplaced_for_target target i) (max (height_unplaced_expr object i) (height_unplaced_stmt body i)) + 1
  height_unplaced_stmt (ForOf _ target iterable body) = λ i. max (height_unplaced_for_target target i) (max (height_unplaced_expr iterable i) (height_unplaced_stmt body i)) + 1
  height_unplaced_stmt (Continue _ _) = refl
  height_unplaced_stmt (Break _ _) = refl
  height_unplaced_stmt (Return _ value) = λ i. height_unplaced_expr_if value i + 1
  height_unplaced_stmt (Switch _ value cases) = λ i. max (height_unplaced_expr value i) (height_unplaced_cases cases i) + 1
  height_unplaced_stmt (Labelled _ _ body) = λ i. height_unplaced_stmt body i + 1
  height_unplaced_stmt (Throw _ value) = λ i. height_unplaced_expr value i + 1
  height_unplaced_stmt (TryCatch _ block catch) = λ i. max (height_unplaced_stmts block i) (height_unplaced_catch catch i) + 1
  height_unplaced_stmt (TryFinally _ block finally) = λ i. max (height_unplaced_stmts block i) (height_unplaced_stmts finally i) + 1
  height_unplaced_stmt (TryCatchFinally _ block catch finally) = λ i. max (height_unplaced_stmts block i) (max (height_unplaced_catch catch i) (height_unplaced_stmts finally i)) + 1
  height_unplaced_stmt (Debugger _) = refl
  height_unplaced_stmt (FunctionDeclaration _ _ function) = height_unplaced_function function
  height_unplaced_stmt (EnteredStmt _ inner) = height_unplaced_stmt inner

  pub height_unplaced_property : (x : Property) → height_property (unplaced_property x) ≡ height_property x
  height_unplaced_property (Shorthand _ _) = refl
  height_unplaced_property (KeyValue _ key value) = λ i. max (height_unplaced_property_key key i) (height_unplaced_expr value i) + 1
  height_unplaced_property (Method _ key function) = λ i. max (height_unplaced_property_key key i) (height_unplaced_function function i) + 1

  pub height_unplaced_property_key : (x : PropertyKey) → height_property_key (unplaced_property_key x) ≡ height_property_key x
  height_unplaced_property_key (NameKey _) = refl
  height_unplaced_property_key (StringKey _) = refl
  height_unplaced_property_key (NumberKey _) = refl
  height_unplaced_property_key (ComputedKey key) = height_unplaced_expr key

  pub height_unplaced_concise_body : (x : ConciseBody) → height_concise_body (unplaced_concise_body x) ≡ height_concise_body x
  height_unplaced_concise_body (ExpressionBody value) = height_unplaced_expr value
  height_unplaced_concise_body (BlockBody body) = height_unplaced_function_body body

  pub height_unplaced_for_init : (x : ForInit) → height_for_init (unplaced_for_init x) ≡ height_for_init x
  height_unplaced_for_init NoInit = refl
  height_unplaced_for_init (InitDeclaration _ declarators) = height_unplaced_declarators declarators
  height_unplaced_for_init (InitExpression expression) = height_unplaced_expr expression

  pub height_unplaced_for_target : (x : ForTarget) → height_for_target (unplaced_for_target x) ≡ height_for_target x
  height_unplaced_for_target (TargetDeclaration _ pattern) = height_unplaced_pattern pattern
  height_unplaced_for_target (TargetExpression target) = height_unplaced_expr target

  pub height_unplaced_template_part : (x : TemplatePart) → height_template_part (unplaced_template_part x) ≡ height_template_part x
  height_unplaced_template_part (MakeTemplatePart value _) = height_unplaced_expr value

  pub height_unplaced_function : (x : Function) → height_function (unplaced_function x) ≡ height_function x
  height_unplaced_function (MakeFunction _ params body) = λ i. max (height_unplaced_params params i) (height_unplaced_function_body body i) + 1

  pub height_unplaced_function_body : (x : FunctionBody) → height_function_body (unplaced_function_body x) ≡ height_function_body x
  height_unplaced_function_body (MakeFunctionBody _ statements) = height_unplaced_stmts statements
  height_unplaced_function_body (EnteredBody _ body) = height_unplaced_function_body body

  pub height_unplaced_param : (x : Param) → height_param (unplaced_param x) ≡ height_param x
  height_unplaced_param (MakeParam _ pattern none_expr) = height_unplaced_pattern pattern
  height_unplaced_param (MakeParam _ pattern (some_expr default)) = λ i. max (height_unplaced_pattern pattern i) (height_unplaced_expr default i) + 1

  pub height_unplaced_declarator : (x : Declarator) → height_declarator (unplaced_declarator x) ≡ height_declarator x
  height_unplaced_declarator (MakeDeclarator _ pattern initializer) = λ i. max (height_unplaced_pattern pattern i) (height_unplaced_expr_if initializer i) + 1

  pub height_unplaced_case : (x : Case) → height_case (unplaced_case x) ≡ height_case x
  height_unplaced_case (MakeCase _ test statements) = λ i. max (height_unplaced_expr_if test i) (height_unplaced_stmts statements i) + 1
  height_unplaced_case (EnteredCase _ case) = height_unplaced_case case

  pub height_unplaced_catch : (x : Catch) → height_catch (unplaced_catch x) ≡ height_catch x
  height_unplaced_catch (MakeCatch parameter statements) = λ i. max (height_unplaced_pattern_if parameter i) (height_unplaced_stmts statements i)

  pub height_unplaced_pattern : (x : Pattern) → height_pattern (unplaced_pattern x) ≡ height_pattern x
  height_unplaced_pattern (BindingIdentifier _ _) = refl

  pub height_unplaced_pattern_if : (x : MaybePattern) → height_pattern_if (unplaced_pattern_if x) ≡ height_pattern_if x
  height_unplaced_pattern_if none_pattern = refl
  height_unplaced_pattern_if (some_pattern x) = height_unplaced_pattern x

  pub height_unplaced_expr_if : (x : MaybeExpr) → height_expr_if (unplaced_expr_if x) ≡ height_expr_if x
  height_unplaced_expr_if none_expr = refl
  height_unplaced_expr_if (some_expr x) = height_unplaced_expr x

  pub height_unplaced_stmt_if : (x : MaybeStmt) → height_stmt_if (unplaced_stmt_if x) ≡ height_stmt_if x
  height_unplaced_stmt_if none_stmt = refl
  height_unplaced_stmt_if (some_stmt x) = height_unplaced_stmt x
  height_unplaced_stmt_if (entered_none _) = refl

  pub height_unplaced_template_parts : (x : TemplateParts) → height_template_parts (unplaced_template_parts x) ≡ height_template_parts x
  height_unplaced_template_parts no_template_part = refl
  height_unplaced_template_parts (more_template_part x xs) = λ i. max (height_unplaced_template_part x i) (height_unplaced_template_parts xs i)

  pub height_unplaced_properties : (x : Properties) → height_properties (unplaced_properties x) ≡ height_properties x
  height_unplaced_properties no_property = refl
  height_unplaced_properties (more_property x xs) = λ i. max (height_unplaced_property x i) (height_unplaced_properties xs i)

  pub height_unplaced_params : (x : Params) → height_params (unplaced_params x) ≡ height_params x
  height_unplaced_params no_param = refl
  height_unplaced_params (more_param x xs) = λ i. max (height_unplaced_param x i) (height_unplaced_params xs i)

  pub height_unplaced_exprs : (x : Exprs) → height_exprs (unplaced_exprs x) ≡ height_exprs x
  height_unplaced_exprs no_expr = refl
  height_unplaced_exprs (more_expr x xs) = λ i. max (height_unplaced_expr x i) (height_unplaced_exprs xs i)

  pub height_unplaced_stmts : (x : Stmts) → height_stmts (unplaced_stmts x) ≡ height_stmts x
  height_unplaced_stmts no_stmt = refl
  height_unplaced_stmts (more_stmt x xs) = λ i. max (height_unplaced_stmt x i) (height_unplaced_stmts xs i)

  pub height_unplaced_declarators : (x : Declarators) → height_declarators (unplaced_declarators x) ≡ height_declarators x
  height_unplaced_declarators no_declarator = refl
  height_unplaced_declarators (more_declarator x xs) = λ i. max (height_unplaced_declarator x i) (height_unplaced_declarators xs i)

  pub height_unplaced_cases : (x : Cases) → height_cases (unplaced_cases x) ≡ height_cases x
  height_unplaced_cases no_case = refl
  height_unplaced_cases (more_case x xs) = λ i. max (height_unplaced_case x i) (height_unplaced_cases xs i)

pub height_unplaced_file : (file : File) → height_file (unplaced_file file) ≡ height_file file
height_unplaced_file (MakeFile body comments) = height_unplaced_stmts body
