-- What a tree is charged for its text: for each token its spelling and one byte more, for each expression a pair of parentheses,
-- and for each item of a list a comma and a pair.
use Rattle.std.proofs.Common.{ℕ, ◌+◌, length, Option, Some, None}
use Rattle.js_terms.specs.declared.words.Identifier.{Identifier}
use Rattle.js_tree.specs.Plain.{Expr, IdentifierReference, This, NullLiteral, BooleanLiteral, NumericLiteral, StringLiteral, ArrayLiteral, ObjectLiteral, FunctionExpression, ArrowFunction, RegularExpressionLiteral, TemplateLiteral, Parenthesized, NamedMember, ComputedMember, New, Call, PostfixUpdate, PrefixUpdate, Unary, Binary, Logical, Conditional, Assignment, Comma, Entered}
use Rattle.js_tree.specs.Plain.{Stmt, Directive, Block, VariableDeclaration, Empty, Expression, If, DoWhile, While, For, ForIn, ForOf, Continue, Break, Return, Switch, Labelled, Throw, TryCatch, TryFinally, TryCatchFinally, Debugger, FunctionDeclaration, EnteredStmt}
use Rattle.js_tree.specs.Plain.{Property, Shorthand, KeyValue, Method, PropertyKey, NameKey, StringKey, NumberKey, ComputedKey, ConciseBody, ExpressionBody, BlockBody, ForInit, NoInit, InitDeclaration, InitExpression, ForTarget, TargetDeclaration, TargetExpression}
use Rattle.js_tree.specs.Plain.{MakeTemplatePart, Function, MakeFunction, FunctionBody, MakeFunctionBody, EnteredBody, Param, MakeParam, Declarator, MakeDeclarator, Case, MakeCase, EnteredCase, Catch, MakeCatch, Pattern, BindingIdentifier}
use Rattle.js_tree.specs.Plain.{none_pattern, some_pattern, MaybeExpr, none_expr, some_expr, MaybeStmt, none_stmt, some_stmt, entered_none}
use Rattle.js_tree.specs.Plain.{TemplateParts, no_template_part, more_template_part, Properties, no_property, more_property, Params, no_param, more_param, Exprs, no_expr, more_expr, Stmts, no_stmt, more_stmt, Declarators, no_declarator, more_declarator, Cases, no_case, more_case}
use Rattle.js_text.specs.Token.{Kind, spelling}
use Rattle.js_text.specs.Token as T
use Rattle.js_reading.specs.Productions.{sign_of, logical_sign, assignment_sign, prefix_of, update_of, variable_word}
use Rattle.js_layout.specs.Tokens.{truth}

-- ---- words and signs

-- a token of this kind, and what may stand after it
abbrev pub charge : Kind → ℕ
charge k = length (spelling k) + 1

abbrev pub size_label : Option Identifier → ℕ
size_label None = 0
size_label (Some x) = length x.name + 1

abbrev pub size_pattern : Pattern → ℕ
size_pattern (BindingIdentifier m w) = length w + 1

-- ---- the tree

abbrev mutual
  pub size_expr : Expr → ℕ
  size_expr (IdentifierReference l w) = length w + 5
  size_expr (This l) = 9
  size_expr (NullLiteral l) = 9
  size_expr (BooleanLiteral l b) = length (truth b) + 5
  size_expr (NumericLiteral l w) = length w + 5
  size_expr (StringLiteral l s) = length s.spelling + 5
  size_expr (ArrayLiteral l xs) = sizes xs + 8
  size_expr (ObjectLiteral l ps) = size_properties ps + 8
  size_expr (FunctionExpression l n f) = size_label n + (size_function f + 13)
  size_expr (ArrowFunction l n ps body) = size_params ps + (size_concise body + 11)
  size_expr (RegularExpressionLiteral l body flags) = length body + (length flags + 7)
  size_expr (TemplateLiteral l s parts) = length s.spelling + (size_parts parts + 5)
  size_expr (Parenthesized l e) = size_expr e
  size_expr (NamedMember l o w) = size_expr o + (length w + 7)
  size_expr (ComputedMember l o k) = size_expr o + (size_expr k + 8)
  size_expr (New l c xs) = size_expr c + (sizes xs + 12)
  size_expr (Call l f xs) = size_expr f + (sizes xs + 8)
  size_expr (PostfixUpdate l o e) = size_expr e + (charge (T.Punctuator (update_of o)) + 4)
  size_expr (PrefixUpdate l o e) = size_expr e + (charge (T.Punctuator (update_of o)) + 4)
  size_expr (Unary l o e) = size_expr e + (charge (prefix_of o) + 4)
  size_expr (Binary l o x y) = size_expr x + (size_expr y + (charge (sign_of o) + 4))
  size_expr (Logical l o x y) = size_expr x + (size_expr y + (charge (T.Punctuator (logical_sign o)) + 4))
  size_expr (Conditional l c x y) = size_expr c + (size_expr x + (size_expr y + 8))
  size_expr (Assignment l o x y) = size_expr x + (size_expr y + (charge (T.Punctuator (assignment_sign o)) + 4))
  size_expr (Comma l x y) = size_expr x + (size_expr y + 6)
  size_expr (Entered m e) = size_expr e

  pub sizes : Exprs → ℕ
  sizes no_expr = 0
  sizes (more_expr e es) = size_expr e + (sizes es + 6)

  pub size_parts : TemplateParts → ℕ
  size_parts no_template_part = 0
  size_parts (more_template_part (MakeTemplatePart e s) ps) = size_expr e + (length s.spelling + (size_parts ps + 1))

  pub size_properties : Properties → ℕ
  size_properties no_property = 0
  size_properties (more_property p ps) = size_property p + (size_properties ps + 2)

  pub size_property : Property → ℕ
  size_property (Shorthand l w) = length w + 1
  size_property (KeyValue l k e) = size_key k + (size_expr e + 2)
  size_property (Method l k f) = size_key k + size_function f

  pub size_key : PropertyKey → ℕ
  size_key (NameKey w) = length w + 1
  size_key (StringKey s) = length s.spelling + 1
  size_key (NumberKey w) = length w + 1
  size_key (ComputedKey e) = size_expr e + 4

  -- ---- functions

  pub size_function : Function → ℕ
  size_function (MakeFunction n ps body) = size_params ps + (size_body body + 4)

  pub size_body : FunctionBody → ℕ
  size_body (MakeFunctionBody l ss) = size_stmts ss + 4
  size_body (EnteredBody m body) = size_body body

  pub size_concise : ConciseBody → ℕ
  size_concise (ExpressionBody e) = size_expr e
  size_concise (BlockBody body) = size_body body

  pub size_params : Params → ℕ
  size_params no_param = 0
  size_params (more_param p ps) = size_param p + (size_params ps + 2)

  pub size_param : Param → ℕ
  size_param (MakeParam l x e) = size_pattern x + size_initializer e

  pub size_initializer : MaybeExpr → ℕ
  size_initializer none_expr = 0
  size_initializer (some_expr e) = size_expr e + 2

  -- ---- statements

  pub size_stmt : Stmt → ℕ
  size_stmt (Directive l s) = length s.spelling + 3
  size_stmt (Block l ss) = size_stmts ss + 4
  size_stmt (VariableDeclaration l k ds) = length (variable_word k) + (size_declarators ds + 3)
  size_stmt (Empty l) = 2
  size_stmt (Expression l e) = size_expr e + 2
  size_stmt (If l c s r) = size_expr c + (size_stmt s + (size_else r + 7))
  size_stmt (DoWhile l s c) = size_stmt s + (size_expr c + 15)
  size_stmt (While l c s) = size_expr c + (size_stmt s + 10)
  size_stmt (For l x y z s) = size_init x + (size_maybe y + (size_maybe z + (size_stmt s + 12)))
  size_stmt (ForIn l x e s) = size_target x + (size_expr e + (size_stmt s + 11))
  size_stmt (ForOf l x e s) = size_target x + (size_expr e + (size_stmt s + 11))
  size_stmt (Continue l x) = size_label x + 11
  size_stmt (Break l x) = size_label x + 8
  size_stmt (Return l e) = size_maybe e + 9
  size_stmt (Switch l e cs) = size_expr e + (size_cases cs + 15)
  size_stmt (Labelled l x s) = length x.name + (size_stmt s + 3)
  size_stmt (Throw l e) = size_expr e + 8
  size_stmt (TryCatch l b c) = size_stmts b + (size_catch c + 8)
  size_stmt (TryFinally l b f) = size_stmts b + (size_stmts f + 20)
  size_stmt (TryCatchFinally l b c f) = size_stmts b + (size_catch c + (size_stmts f + 20))
  size_stmt (Debugger l) = 11
  size_stmt (FunctionDeclaration l x f) = length x.name + (size_function f + 10)
  size_stmt (EnteredStmt m s) = size_stmt s

  pub size_stmts : Stmts → ℕ
  size_stmts no_stmt = 0
  size_stmts (more_stmt s ss) = size_stmt s + size_stmts ss

  pub size_maybe : MaybeExpr → ℕ
  size_maybe none_expr = 0
  size_maybe (some_expr e) = size_expr e

  pub size_else : MaybeStmt → ℕ
  size_else none_stmt = 0
  size_else (some_stmt s) = size_stmt s + 5
  size_else (entered_none m) = 0

  pub size_declarators : Declarators → ℕ
  size_declarators no_declarator = 0
  size_declarators (more_declarator d ds) = size_declarator d + (size_declarators ds + 2)

  pub size_declarator : Declarator → ℕ
  size_declarator (MakeDeclarator l x e) = size_pattern x + size_initializer e

  pub size_init : ForInit → ℕ
  size_init NoInit = 0
  size_init (InitDeclaration k ds) = length (variable_word k) + (size_declarators ds + 1)
  size_init (InitExpression e) = size_expr e

  pub size_target : ForTarget → ℕ
  size_target (TargetDeclaration k x) = length (variable_word k) + (size_pattern x + 1)
  size_target (TargetExpression e) = size_expr e

  pub size_cases : Cases → ℕ
  size_cases no_case = 0
  size_cases (more_case c cs) = size_case c + size_cases cs

  pub size_case : Case → ℕ
  size_case (MakeCase l none_expr ss) = size_stmts ss + 10
  size_case (MakeCase l (some_expr e) ss) = size_expr e + (size_stmts ss + 7)
  size_case (EnteredCase m c) = size_case c

  pub size_catch : Catch → ℕ
  size_catch (MakeCatch none_pattern ss) = size_stmts ss + 10
  size_catch (MakeCatch (some_pattern x) ss) = size_pattern x + (size_stmts ss + 14)
