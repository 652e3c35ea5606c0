-- Without its pairs, a tree without its places is the tree without both.
use Rattle.std.proofs.Common.{◌≡◌, [], Option, Some, None, refl, sym, ap, ◌∙◌}
use Rattle.js_terms.specs.declared.words.Identifier.{Identifier}
use Rattle.js_tree.specs.Plain.{Expr, IdentifierReference, This, NullLiteral, BooleanLiteral, NumericLiteral, StringLiteral, ArrayLiteral, ObjectLiteral, FunctionExpression, ArrowFunction, RegularExpressionLiteral, TemplateLiteral, Parenthesized, NamedMember, ComputedMember, New, Call, PostfixUpdate, PrefixUpdate, Unary, Binary, Logical, Conditional, Assignment, Comma, Entered}
use Rattle.js_tree.specs.Plain.{Stmt, Directive, Block, VariableDeclaration, Empty, Expression, If, DoWhile, While, For, ForIn, ForOf, Continue, Break, Return, Switch, Labelled, Throw, TryCatch, TryFinally, TryCatchFinally, Debugger, FunctionDeclaration, EnteredStmt}
use Rattle.js_tree.specs.Plain.{Property, Shorthand, KeyValue, Method, PropertyKey, NameKey, StringKey, NumberKey, ComputedKey, ConciseBody, ExpressionBody, BlockBody, ForInit, NoInit, InitDeclaration, InitExpression, ForTarget, TargetDeclaration, TargetExpression}
use Rattle.js_tree.specs.Plain.{TemplatePart, MakeTemplatePart, Function, MakeFunction, FunctionBody, MakeFunctionBody, EnteredBody, Param, MakeParam, Declarator, MakeDeclarator, Case, MakeCase, EnteredCase, Catch, MakeCatch, Pattern, BindingIdentifier}
use Rattle.js_tree.specs.Plain.{MaybePattern, none_pattern, some_pattern, MaybeExpr, none_expr, some_expr, MaybeStmt, none_stmt, some_stmt, entered_none}
use Rattle.js_tree.specs.Plain.{TemplateParts, no_template_part, more_template_part, Properties, no_property, more_property, Params, no_param, more_param, Exprs, no_expr, more_expr, Stmts, no_stmt, more_stmt, Declarators, no_declarator, more_declarator, Cases, no_case, more_case, File, MakeFile}
use Rattle.js_tree.specs.Same.{bare_identifier, bare_identifier_if, bare_expr, bare_stmt, bare_property, bare_property_key, bare_concise_body, bare_for_init, bare_for_target, bare_template_part, bare_function, bare_function_body, bare_param, bare_declarator, bare_case, bare_catch, bare_pattern, bare_pattern_if, bare_expr_if, bare_stmt_if, bare_template_parts, bare_properties, bare_params, bare_exprs, bare_stmts, bare_declarators, bare_cases, bare_file}
use Rattle.js_layout.specs.Unplaced.{unplaced_expr, unplaced_stmt, unplaced_property, unplaced_property_key, unplaced_concise_body, unplaced_for_init, unplaced_for_target, unplaced_template_part, unplaced_function, unplaced_function_body, unplaced_param, unplaced_declarator, unplaced_case, unplaced_catch, unplaced_pattern, unplaced_pattern_if, unplaced_expr_if, unplaced_stmt_if, unplaced_template_parts, unplaced_properties, unplaced_params, unplaced_exprs, unplaced_stmts, unplaced_declarators, unplaced_cases, unplaced_file}

bare_unplaced_identifier_if : (x : Option Identifier) → bare_identifier_if (bare_identifier_if x) ≡ bare_identifier_if x
bare_unplaced_identifier_if None = refl
bare_unplaced_identifier_if (Some x) = refl

mutual
  pub bare_unplaced_expr : (x : Expr) → bare_expr (unplaced_expr x) ≡ bare_expr x
  bare_unplaced_expr (IdentifierReference _ name) = refl
  bare_unplaced_expr (This _) = refl
  bare_unplaced_expr (NullLiteral _) = refl
  bare_unplaced_expr (BooleanLiteral _ value) = refl
  bare_unplaced_expr (NumericLiteral _ spelling) = refl
  bare_unplaced_expr (StringLiteral _ string) = refl
  bare_unplaced_expr (ArrayLiteral _ items) = λ i. ArrayLiteral None (bare_unplaced_exprs items i)
  bare_unplaced_expr (ObjectLiteral _ properties) = λ i. ObjectLiteral None (bare_unplaced_properties properties i)
  bare_unplaced_expr (FunctionExpression _ name function) = λ i. FunctionExpression None (bare_unplaced_identifier_if name i) (bare_unplaced_function function i)
  bare_unplaced_expr (ArrowFunction _ number params body) = λ i. ArrowFunction None number (bare_unplaced_params params i) (bare_unplaced_concise_body body i)
  bare_unplaced_expr (RegularExpressionLiteral _ body flags) = refl
  bare_unplaced_expr (TemplateLiteral _ head parts) = λ i. TemplateLiteral None head (bare_unplaced_template_parts parts i)
  bare_unplaced_expr (Parenthesized _ inner) = bare_unplaced_expr inner
  bare_unplaced_expr (NamedMember _ object name) = λ i. NamedMember None (bare_unplaced_expr object i) name
  bare_unplaced_expr (ComputedMember _ object key) = λ i. ComputedMember None (bare_unplaced_expr object i) (bare_unplaced_expr key i)
  bare_unplaced_expr (New _ constructor arguments) = λ i. New None (bare_unplaced_expr constructor i) (bare_unplaced_exprs arguments i)
  bare_unplaced_expr (Call _ callee arguments) = λ i. Call None (bare_unplaced_expr callee i) (bare_unplaced_exprs arguments i)
  bare_unplaced_expr (PostfixUpdate _ operator operand) = λ i. PostfixUpdate None operator (bare_unplaced_expr operand i)
  bare_unplaced_expr (PrefixUpdate _ operator operand) = λ i. PrefixUpdate None operator (bare_unplaced_expr operand i)
  bare_unplaced_expr (Unary _ operator operand) = λ i. Unary None operator (bare_unplaced_expr operand i)
  bare_unplaced_expr (Binary _ operator left right) = λ i. Binary None operator (bare_unplaced_expr left i) (bare_unplaced_expr right i)
  bare_unplaced_expr (Logical _ operator left right) = λ i. Logical None operator (bare_unplaced_expr left i) (bare_unplaced_expr right i)
  bare_unplaced_expr (Conditional _ test then otherwise) = λ i. Conditional None (bare_unplaced_expr test i) (bare_unplaced_expr then i) (bare_unplaced_expr otherwise i)
  bare_unplaced_expr (Assignment _ operator target value) = λ i. Assignment None operator (bare_unplaced_expr target i) (bare_unplaced_expr value i)
  bare_unplaced_expr (Comma _ left right) = λ i. Comma None (bare_unplaced_expr left i) (bare_unplaced_expr right i)
  bare_unplaced_expr (Entered mark inner) = λ i. Entered mark (bare_unplaced_expr inner i)

  pub bare_unplaced_stmt : (x : Stmt) → bare_stmt (unplaced_stmt x) ≡ bare_stmt x
  bare_unplaced_stmt (Directive _ string) = refl
  bare_unplaced_stmt (Block _ statements) = λ i. Block None (bare_unplaced_stmts statements i)
  bare_unplaced_stmt (VariableDeclaration _ kind declarators) = λ i. VariableDeclaration None kind (bare_unplaced_declarators declarators i)
  bare_unplaced_stmt (Empty _) = refl
  bare_unplaced_stmt (Expression _ expression) = λ i. Expression None (bare_unplaced_expr expression i)
  bare_unplaced_stmt (If _ test then otherwise) = λ i. If None (bare_unplaced_expr test i) (bare_unplaced_stmt then i) (bare_unplaced_stmt_if otherwise i)
  bare_unplaced_stmt (DoWhile _ body test) = λ i. DoWhile None (bare_unplaced_stmt body i) (bare_unplaced_expr test i)
  bare_unplaced_stmt (While _ test body) = λ i. While None (bare_unplaced_expr test i) (bare_unplaced_stmt body i)
  bare_unplaced_stmt (For _ init test update body) = λ i. For None (bare_unplaced_for_init init i) (bare_unplaced_expr_if test i) (bare_unplaced_expr_if update i) (bare_unplaced_stmt body i)
  bare_unplaced_stmt (ForIn _ target object body) = λ i. ForIn None (bare_unplaced_for_target target i) (bare_unplaced_expr object i) (bare_unplaced_stmt body i)
  bare_unplaced_stmt (ForOf _ target iterable body) = λ i. ForOf None (bare_unplaced_for_target target i) (bare_unplaced_expr iterable i) (bare_unplaced_stmt body i)
  bare_unplaced_stmt (Continue _ label) = λ i. Continue None (bare_unplaced_identifier_if label i)
  bare_unplaced_stmt (Break _ label) = λ i. Break None (bare_unplaced_identifier_if label i)
  bare_unplaced_stmt (Return _ value) = λ i. Return None (bare_unplaced_expr_if value i)
  bare_unplaced_stmt (Switch _ value cases) = λ i. Switch None (bare_unplaced_expr value i) (bare_unplaced_cases cases i)
  bare_unplaced_stmt (Labelled _ label body) = λ i. Labelled None (bare_identifier label) (bare_unplaced_stmt body i)
  bare_unplaced_stmt (Throw _ value) = λ i. Throw None (bare_unplaced_expr value i)
  bare_unplaced_stmt (TryCatch _ block catch) = λ i. TryCatch None (bare_unplaced_stmts block i) (bare_unplaced_catch catch i)
  bare_unplaced_stmt (TryFinally _ block finally) = λ i. TryFinally None (bare_unplaced_stmts block i) (bare_unplaced_stmts finally i)
  bare_unplaced_stmt (TryCatchFinally _ block catch finally) = λ i. TryCatchFinally None (bare_unplaced_stmts block i) (bare_unplaced_catch catch i) (bare_unplaced_stmts finally i)
  bare_unplaced_stmt (Debugger _) = refl
  bare_unplaced_stmt (FunctionDeclaration _ name function) = λ i. FunctionDeclaration None (bare_identifier name) (bare_unplaced_function function i)
  bare_unplaced_stmt (EnteredStmt mark inner) = λ i. EnteredStmt mark (bare_unplaced_stmt inner i)

  pub bare_unplaced_property : (x : Property) → bare_property (unplaced_property x) ≡ bare_property x
  bare_unplaced_property (Shorthand _ name) = refl
  bare_unplaced_property (KeyValue _ key value) = λ i. KeyValue None (bare_unplaced_property_key key i) (bare_unplaced_expr value i)
  bare_unplaced_property (Method _ key function) = λ i. Method None (bare_unplaced_property_key key i) (bare_unplaced_function function i)

  pub bare_unplaced_property_key : (x : PropertyKey) → bare_property_key (unplaced_property_key x) ≡ bare_property_key x
  bare_unplaced_property_key (NameKey name) = refl
  bare_unplaced_property_key (StringKey string) = refl
  bare_unplaced_property_key (NumberKey spelling) = refl
  bare_unplaced_property_key (ComputedKey key) = λ i. ComputedKey (bare_unplaced_expr key i)

  pub bare_unplaced_concise_body : (x : ConciseBody) → bare_concise_body (unplaced_concise_body x) ≡ bare_concise_body x
  bare_unplaced_concise_body (ExpressionBody value) = λ i. ExpressionBody (bare_unplaced_expr value i)
  bare_unplaced_concise_body (BlockBody body) = λ i. BlockBody (bare_unplaced_function_body body i)

  pub bare_unplaced_for_init : (x : ForInit) → bare_for_init (unplaced_for_init x) ≡ bare_for_init x
  bare_unplaced_for_init NoInit = refl
  bare_unplaced_for_init (InitDeclaration kind declarators) = λ i. InitDeclaration kind (bare_unplaced_declarators declarators i)
  bare_unplaced_for_init (InitExpression expression) = λ i. InitExpression (bare_unplaced_expr expression i)

  pub bare_unplaced_for_target : (x : ForTarget) → bare_for_target (unplaced_for_target x) ≡ bare_for_target x
  bare_unplaced_for_target (TargetDeclaration kind pattern) = λ i. TargetDeclaration kind (bare_unplaced_pattern pattern i)
  bare_unplaced_for_target (TargetExpression target) = λ i. TargetExpression (bare_unplaced_expr target i)

  pub bare_unplaced_template_part : (x : TemplatePart) → bare_template_part (unplaced_template_part x) ≡ bare_template_part x
  bare_unplaced_template_part (MakeTemplatePart value text) = λ i. MakeTemplatePart (bare_unplaced_expr value i) text

  pub bare_unplaced_function : (x : Function) → bare_function (unplaced_function x) ≡ bare_function x
  bare_unplaced_function (MakeFunction number params body) = λ i. MakeFunction number (bare_unplaced_params params i) (bare_unplaced_function_body body i)

  pub bare_unplaced_function_body : (x : FunctionBody) → bare_function_body (unplaced_function_body x) ≡ bare_function_body x
  bare_unplaced_function_body (MakeFunctionBody _ statements) = λ i. MakeFunctionBody None (bare_unplaced_stmts statements i)
  bare_unplaced_function_body (EnteredBody mark body) = λ i. EnteredBody mark (bare_unplaced_function_body body i)

  pub bare_unplaced_param : (x : Param) → bare_param (unplaced_param x) ≡ bare_param x
  bare_unplaced_param (MakeParam _ pattern default) = λ i. MakeParam None (bare_unplaced_pattern pattern i) (bare_unplaced_expr_if default i)

  pub bare_unplaced_declarator : (x : Declarator) → bare_declarator (unplaced_declarator x) ≡ bare_declarator x
  bare_unplaced_declarator (MakeDeclarator _ pattern initializer) = λ i. MakeDeclarator None (bare_unplaced_pattern pattern i) (bare_unplaced_expr_if initializer i)

  pub bare_unplaced_case : (x : Case) → bare_case (unplaced_case x) ≡ bare_case x
  bare_unplaced_case (MakeCase _ test statements) = λ i. MakeCase None (bare_unplaced_expr_if test i) (bare_unplaced_stmts statements i)
  bare_unplaced_case (EnteredCase mark case) = λ i. EnteredCase mark (bare_unplaced_case case i)

  pub bare_unplaced_catch : (x : Catch) → bare_catch (unplaced_catch x) ≡ bare_catch x
  bare_unplaced_catch (MakeCatch parameter statements) = λ i. MakeCatch (bare_unplaced_pattern_if parameter i) (bare_unplaced_stmts statements i)

  pub bare_unplaced_pattern : (x : Pattern) → bare_pattern (unplaced_pattern x) ≡ bare_pattern x
  bare_unplaced_pattern (BindingIdentifier _ name) = refl

  pub bare_unplaced_pattern_if : (x : MaybePattern) → bare_pattern_if (unplaced_pattern_if x) ≡ bare_pattern_if x
  bare_unplaced_pattern_if none_pattern = refl
  bare_unplaced_pattern_if (some_pattern x) = λ i. some_pattern (bare_unplaced_pattern x i)

  pub bare_unplaced_expr_if : (x : MaybeExpr) → bare_expr_if (unplaced_expr_if x) ≡ bare_expr_if x
  bare_unplaced_expr_if none_expr = refl
  bare_unplaced_expr_if (some_expr x) = λ i. some_expr (bare_unplaced_expr x i)

  pub bare_unplaced_stmt_if : (x : MaybeStmt) → bare_stmt_if (unplaced_stmt_if x) ≡ bare_stmt_if x
  bare_unplaced_stmt_if none_stmt = refl
  bare_unplaced_stmt_if (some_stmt x) = λ i. some_stmt (bare_unplaced_stmt x i)
  bare_unplaced_stmt_if (entered_none mark) = refl

  pub bare_unplaced_template_parts : (x : TemplateParts) → bare_template_parts (unplaced_template_parts x) ≡ bare_template_parts x
  bare_unplaced_template_parts no_template_part = refl
  bare_unplaced_template_parts (more_template_part x xs) = λ i. more_template_part (bare_unplaced_template_part x i) (bare_unplaced_template_parts xs i)

  pub bare_unplaced_properties : (x : Properties) → bare_properties (unplaced_properties x) ≡ bare_properties x
  bare_unplaced_properties no_property = refl
  bare_unplaced_properties (more_property x xs) = λ i. more_property (bare_unplaced_property x i) (bare_unplaced_properties xs i)

  pub bare_unplaced_params : (x : Params) → bare_params (unplaced_params x) ≡ bare_params x
  bare_unplaced_params no_param = refl
  bare_unplaced_params (more_param x xs) = λ i. more_param (bare_unplaced_param x i) (bare_unplaced_params xs i)

  pub bare_unplaced_exprs : (x : Exprs) → bare_exprs (unplaced_exprs x) ≡ bare_exprs x
  bare_unplaced_exprs no_expr = refl
  bare_unplaced_exprs (more_expr x xs) = λ i. more_expr (bare_unplaced_expr x i) (bare_unplaced_exprs xs i)

  pub bare_unplaced_stmts : (x : Stmts) → bare_stmts (unplaced_stmts x) ≡ bare_stmts x
  bare_unplaced_stmts no_stmt = refl
  bare_unplaced_stmts (more_stmt x xs) = λ i. more_stmt (bare_unplaced_stmt x i) (bare_unplaced_stmts xs i)

  pub bare_unplaced_declarators : (x : Declarators) → bare_declarators (unplaced_declarators x) ≡ bare_declarators x
  bare_unplaced_declarators no_declarator = refl
  bare_unplaced_declarators (more_declarator x xs) = λ i. more_declarator (bare_unplaced_declarator x i) (bare_unplaced_declarators xs i)

  pub bare_unplaced_cases : (x : Cases) → bare_cases (unplaced_cases x) ≡ bare_cases x
  bare_unplaced_cases no_case = refl
  bare_unplaced_cases (more_case x xs) = λ i. more_case (bare_unplaced_case x i) (bare_unplaced_cases xs i)

pub bare_unplaced_file : (file : File) → bare_file (unplaced_file file) ≡ bare_file file
bare_unplaced_file (MakeFile body comments) = λ i. MakeFile (bare_unplaced_stmts body i) []

-- what is alike but for places is the same
pub same_alike : (xs ys : Stmts) → unplaced_stmts xs ≡ unplaced_stmts ys → bare_stmts xs ≡ bare_stmts ys
same_alike xs ys h = sym (bare_unplaced_stmts xs) ∙ ap bare_stmts h ∙ bare_unplaced_stmts ys

pub same_alike_file : (a b : File) → unplaced_file a ≡ unplaced_file b → bare_file a ≡ bare_file b
same_alike_file a b h = sym (bare_unplaced_file a) ∙ ap bare_file h ∙ bare_unplaced_file b
