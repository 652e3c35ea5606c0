-- `this` stands outside functions of a tree where it does of one that is the same, but for places and pairs of parentheses.
use Rattle.std.proofs.Common.{◌≡◌, List, [], ◌∷◌, ◌++◌, Option, refl, sym, ap, ◌∙◌}
use Rattle.std.specs.Prelude.{◌||◌}
use Rattle.js_terms.specs.declared.place.Loc.{Loc}
use Rattle.js_tree.specs.Plain.{Expr, IdentifierReference, This, NullLiteral, BooleanLiteral, NumericLiteral, StringLiteral, ArrayLiteral, ObjectLiteral, FunctionExpression, ArrowFunction, RegularExpressionLiteral, TemplateLiteral, Parenthesized, NamedMember, ComputedMember, New, Call, PostfixUpdate, PrefixUpdate, Unary, Binary, Logical, Conditional, Assignment, Comma, Entered}
use Rattle.js_tree.specs.Plain.{Stmt, Directive, Block, VariableDeclaration, Empty, Expression, If, DoWhile, While, For, ForIn, ForOf, Continue, Break, Return, Switch, Labelled, Throw, TryCatch, TryFinally, TryCatchFinally, Debugger, FunctionDeclaration, EnteredStmt}
use Rattle.js_tree.specs.Plain.{Property, Shorthand, KeyValue, Method}
use Rattle.js_tree.specs.Plain.{PropertyKey, NameKey, StringKey, NumberKey, ComputedKey}
use Rattle.js_tree.specs.Plain.{ConciseBody, ExpressionBody, BlockBody}
use Rattle.js_tree.specs.Plain.{ForInit, NoInit, InitDeclaration, InitExpression}
use Rattle.js_tree.specs.Plain.{ForTarget, TargetDeclaration, TargetExpression}
use Rattle.js_tree.specs.Plain.{TemplatePart, MakeTemplatePart}
use Rattle.js_tree.specs.Plain.{FunctionBody, MakeFunctionBody, EnteredBody}
use Rattle.js_tree.specs.Plain.{Param, MakeParam}
use Rattle.js_tree.specs.Plain.{Declarator, MakeDeclarator}
use Rattle.js_tree.specs.Plain.{Case, MakeCase, EnteredCase}
use Rattle.js_tree.specs.Plain.{Catch, MakeCatch}
use Rattle.js_tree.specs.Plain.{MaybePattern, none_pattern, some_pattern}
use Rattle.js_tree.specs.Plain.{MaybeExpr, none_expr, some_expr}
use Rattle.js_tree.specs.Plain.{MaybeStmt, none_stmt, some_stmt, entered_none}
use Rattle.js_tree.specs.Plain.{TemplateParts, no_template_part, more_template_part}
use Rattle.js_tree.specs.Plain.{Properties, no_property, more_property}
use Rattle.js_tree.specs.Plain.{Params, no_param, more_param}
use Rattle.js_tree.specs.Plain.{Exprs, no_expr, more_expr}
use Rattle.js_tree.specs.Plain.{Stmts, no_stmt, more_stmt}
use Rattle.js_tree.specs.Plain.{Declarators, no_declarator, more_declarator}
use Rattle.js_tree.specs.Plain.{Cases, no_case, more_case}
use Rattle.js_tree.specs.Same.{bare_expr, bare_stmt, bare_property, bare_property_key, bare_concise_body, bare_for_init, bare_for_target, bare_template_part, bare_function_body, bare_param, bare_declarator, bare_case, bare_catch, bare_pattern_if, bare_expr_if, bare_stmt_if, bare_template_parts, bare_properties, bare_params, bare_exprs, bare_stmts, bare_declarators, bare_cases}
use Rattle.js_walk.specs.Part.{AnExpr}
use Rattle.js_walk.specs.Walk.{visit, within_expr, within_stmt, within_property, within_property_key, within_concise_body, within_for_init, within_for_target, within_template_part, within_function_body, within_param, within_declarator, within_case, within_catch, within_pattern_if, within_expr_if, within_stmt_if, within_template_parts, within_properties, within_params, within_exprs, within_stmts, within_declarators, within_cases}
use Rattle.js_reading.specs.Outside.{own_this, outside_functions, is_there, this_stmts}
use Rattle.js_reading.specs.Makes.{with_directives}

-- ---- where it stands in one part or another

there_append : (xs ys : List (Option Loc)) → is_there (xs ++ ys) ≡ (is_there xs || is_there ys)
there_append [] ys = refl
there_append (x ∷ xs) ys = refl

both : (xs ys us vs : List (Option Loc)) → is_there xs ≡ is_there ys → is_there us ≡ is_there vs → is_there (xs ++ us) ≡ is_there (ys ++ vs)
both xs ys us vs h k = there_append xs us ∙ ap (λ b. b || is_there us) h ∙ ap (λ b. is_there ys || b) k ∙ sym (there_append ys vs)

-- ---- in each kind of part

abbrev there_expr : Expr → List (Option Loc)
there_expr x = visit own_this outside_functions tt (AnExpr x) (within_expr own_this outside_functions x)

abbrev there_stmt : Stmt → List (Option Loc)
there_stmt x = within_stmt own_this outside_functions x tt

abbrev there_property : Property → List (Option Loc)
there_property x = within_property own_this outside_functions x tt

abbrev there_property_key : PropertyKey → List (Option Loc)
there_property_key x = within_property_key own_this outside_functions x tt

abbrev there_concise_body : ConciseBody → List (Option Loc)
there_concise_body x = within_concise_body own_this outside_functions x tt

abbrev there_for_init : ForInit → List (Option Loc)
there_for_init x = within_for_init own_this outside_functions x tt

abbrev there_for_target : ForTarget → List (Option Loc)
there_for_target x = within_for_target own_this outside_functions x tt

abbrev there_template_part : TemplatePart → List (Option Loc)
there_template_part x = within_template_part own_this outside_functions x tt

abbrev there_function_body : FunctionBody → List (Option Loc)
there_function_body x = within_function_body own_this outside_functions x tt

abbrev there_param : Param → List (Option Loc)
there_param x = within_param own_this outside_functions x tt

abbrev there_declarator : Declarator → List (Option Loc)
there_declarator x = within_declarator own_this outside_functions x tt

abbrev there_case : Case → List (Option Loc)
there_case x = within_case own_this outside_functions x tt

abbrev there_catch : Catch → List (Option Loc)
there_catch x = within_catch own_this outside_functions x tt

abbrev there_pattern_if : MaybePattern → List (Option Loc)
there_pattern_if x = within_pattern_if own_this outside_functions x tt

abbrev there_expr_if : MaybeExpr → List (Option Loc)
there_expr_if x = within_expr_if own_this outside_functions x tt

abbrev there_stmt_if : MaybeStmt → List (Option Loc)
there_stmt_if x = within_stmt_if own_this outside_functions x tt

abbrev there_template_parts : TemplateParts → List (Option Loc)
there_template_parts x = within_template_parts own_this outside_functions x tt

abbrev there_properties : Properties → List (Option Loc)
there_properties x = within_properties own_this outside_functions x tt

abbrev there_params : Params → List (Option Loc)
there_params x = within_params own_this outside_functions x tt

abbrev there_exprs : Exprs → List (Option Loc)
there_exprs x = within_exprs own_this outside_functions x tt

abbrev there_stmts : Stmts → List (Option Loc)
there_stmts x = within_stmts own_this outside_functions x tt

abbrev there_declarators : Declarators → List (Option Loc)
there_declarators x = within_declarators own_this outside_functions x tt

abbrev there_cases : Cases → List (Option Loc)
there_cases x = within_cases own_this outside_functions x tt

mutual
  same_expr : (x : Expr) → is_there (there_expr (bare_expr x)) ≡ is_there (there_expr x)
  same_expr (IdentifierReference a1 a2) = refl
  same_expr (This a1) = refl
  same_expr (NullLiteral a1) = refl
  same_expr (BooleanLiteral a1 a2) = refl
  same_expr (NumericLiteral a1 a2) = refl
  same_expr (StringLiteral a1 a2) = refl
  same_expr (ArrayLiteral a1 items) = same_exprs items
  same_expr (ObjectLiteral a1 properties) = same_properties properties
  same_expr (FunctionExpression a1 a2 function) = refl
  same_expr (ArrowFunction a1 a2 params body) = both _ _ _ _ (same_params params) (same_concise_body body)
  same_expr (RegularExpressionLiteral a1 a2 a3) = refl
  same_expr (TemplateLiteral a1 a2 parts) = same_template_parts parts
  same_expr (Parenthesized a1 inner) = same_expr inner
  same_expr (NamedMember a1 object a3) = same_expr object
  same_expr (ComputedMember a1 object key) = both _ _ _ _ (same_expr object) (same_expr key)
  same_expr (New a1 constructor arguments) = both _ _ _ _ (same_expr constructor) (same_exprs arguments)
  same_expr (Call a1 callee arguments) = both _ _ _ _ (same_expr callee) (same_exprs arguments)
  same_expr (PostfixUpdate a1 a2 operand) = same_expr operand
  same_expr (PrefixUpdate a1 a2 operand) = same_expr operand
  same_expr (Unary a1 a2 operand) = same_expr operand
  same_expr (Binary a1 a2 left right) = both _ _ _ _ (same_expr left) (same_expr right)
  same_expr (Logical a1 a2 left right) = both _ _ _ _ (same_expr left) (same_expr right)
  same_expr (Conditional a1 test holds fails) = both _ _ _ _ (both _ _ _ _ (same_expr test) (same_expr holds)) (same_expr fails)
  same_expr (Assignment a1 a2 target value) = both _ _ _ _ (same_expr target) (same_expr value)
  same_expr (Comma a1 left right) = both _ _ _ _ (same_expr left) (same_expr right)
  same_expr (Entered a1 inner) = same_expr inner

  same_stmt : (x : Stmt) → is_there (there_stmt (bare_stmt x)) ≡ is_there (there_stmt x)
  same_stmt (Directive a1 a2) = refl
  same_stmt (Block a1 statements) = same_stmts statements
  same_stmt (VariableDeclaration a1 a2 declarators) = same_declarators declarators
  same_stmt (Empty a1) = refl
  same_stmt (Expression a1 expression) = same_expr expression
  same_stmt (If a1 test holds fails) = both _ _ _ _ (both _ _ _ _ (same_expr test) (same_stmt holds)) (same_stmt_if fails)
  same_stmt (DoWhile a1 body test) = both _ _ _ _ (same_stmt body) (same_expr test)
  same_stmt (While a1 test body) = both _ _ _ _ (same_expr test) (same_stmt body)
  same_stmt (For a1 init test update body) = both _ _ _ _ (both _ _ _ _ (both _ _ _ _ (same_for_init init) (same_expr_if test)) (same_expr_if update)) (same_stmt body)
  same_stmt (ForIn a1 target object body) = both _ _ _ _ (both _ _ _ _ (same_for_target target) (same_expr object)) (same_stmt body)
  same_stmt (ForOf a1 target iterable body) = both _ _ _ _ (both _ _ _ _ (same_for_target target) (same_expr iterable)) (same_stmt body)
  same_stmt (Continue a1 a2) = refl
  same_stmt (Break a1 a2) = refl
  same_stmt (Return a1 value) = same_expr_if value
  same_stmt (Switch a1 value cases) = both _ _ _ _ (same_expr value) (same_cases cases)
  same_stmt (Labelled a1 a2 body) = same_stmt body
  same_stmt (Throw a1 value) = same_expr value
  same_stmt (TryCatch a1 block catch) = both _ _ _ _ (same_stmts block) (same_catch catch)
  same_stmt (TryFinally a1 block finally) = both _ _ _ _ (same_stmts block) (same_stmts finally)
  same_stmt (TryCatchFinally a1 block catch finally) = both _ _ _ _ (both _ _ _ _ (same_stmts block) (same_catch catch)) (same_stmts finally)
  same_stmt (Debugger a1) = refl
  same_stmt (FunctionDeclaration a1 a2 function) = refl
  same_stmt (EnteredStmt a1 inner) = same_stmt inner

  same_property : (x : Property) → is_there (there_property (bare_property x)) ≡ is_there (there_property x)
  same_property (Shorthand a1 a2) = refl
  same_property (KeyValue a1 key value) = both _ _ _ _ (same_property_key key) (same_expr value)
  same_property (Method a1 key function) = both _ _ [] [] (same_property_key key) refl

  same_property_key : (x : PropertyKey) → is_there (there_property_key (bare_property_key x)) ≡ is_there (there_property_key x)
  same_property_key (NameKey a1) = refl
  same_property_key (StringKey a1) = refl
  same_property_key (NumberKey a1) = refl
  same_property_key (ComputedKey key) = same_expr key

  same_concise_body : (x : ConciseBody) → is_there (there_concise_body (bare_concise_body x)) ≡ is_there (there_concise_body x)
  same_concise_body (ExpressionBody value) = same_expr value
  same_concise_body (BlockBody body) = same_function_body body

  same_for_init : (x : ForInit) → is_there (there_for_init (bare_for_init x)) ≡ is_there (there_for_init x)
  same_for_init NoInit = refl
  same_for_init (InitDeclaration a1 declarators) = same_declarators declarators
  same_for_init (InitExpression expression) = same_expr expression

  same_for_target : (x : ForTarget) → is_there (there_for_target (bare_for_target x)) ≡ is_there (there_for_target x)
  same_for_target (TargetDeclaration a1 pattern) = refl
  same_for_target (TargetExpression target) = same_expr target

  same_template_part : (x : TemplatePart) → is_there (there_template_part (bare_template_part x)) ≡ is_there (there_template_part x)
  same_template_part (MakeTemplatePart value a2) = same_expr value

  same_function_body : (x : FunctionBody) → is_there (there_function_body (bare_function_body x)) ≡ is_there (there_function_body x)
  same_function_body (MakeFunctionBody a1 statements) = same_stmts statements
  same_function_body (EnteredBody a1 body) = same_function_body body

  same_param : (x : Param) → is_there (there_param (bare_param x)) ≡ is_there (there_param x)
  same_param (MakeParam a1 pattern default) = same_expr_if default

  same_declarator : (x : Declarator) → is_there (there_declarator (bare_declarator x)) ≡ is_there (there_declarator x)
  same_declarator (MakeDeclarator a1 pattern initializer) = same_expr_if initializer

  same_case : (x : Case) → is_there (there_case (bare_case x)) ≡ is_there (there_case x)
  same_case (MakeCase a1 test statements) = both _ _ _ _ (same_expr_if test) (same_stmts statements)
  same_case (EnteredCase a1 x) = same_case x

  same_catch : (x : Catch) → is_there (there_catch (bare_catch x)) ≡ is_there (there_catch x)
  same_catch (MakeCatch parameter statements) = both _ _ _ _ (same_pattern_if parameter) (same_stmts statements)

  same_pattern_if : (x : MaybePattern) → is_there (there_pattern_if (bare_pattern_if x)) ≡ is_there (there_pattern_if x)
  same_pattern_if none_pattern = refl
  same_pattern_if (some_pattern x) = refl

  same_expr_if : (x : MaybeExpr) → is_there (there_expr_if (bare_expr_if x)) ≡ is_there (there_expr_if x)
  same_expr_if none_expr = refl
  same_expr_if (some_expr x) = same_expr x

  same_stmt_if : (x : MaybeStmt) → is_there (there_stmt_if (bare_stmt_if x)) ≡ is_there (there_stmt_if x)
  same_stmt_if none_stmt = refl
  same_stmt_if (some_stmt x) = same_stmt x
  same_stmt_if (entered_none a1) = refl

  same_template_parts : (x : TemplateParts) → is_there (there_template_parts (bare_template_parts x)) ≡ is_there (there_template_parts x)
  same_template_parts no_template_part = refl
  same_template_parts (more_template_part x xs) = both _ _ _ _ (same_template_part x) (same_template_parts xs)

  same_properties : (x : Properties) → is_there (there_properties (bare_properties x)) ≡ is_there (there_properties x)
  same_properties no_property = refl
  same_properties (more_property x xs) = both _ _ _ _ (same_property x) (same_properties xs)

  same_params : (x : Params) → is_there (there_params (bare_params x)) ≡ is_there (there_params x)
  same_params no_param = refl
  same_params (more_param x xs) = both _ _ _ _ (same_param x) (same_params xs)

  same_exprs : (x : Exprs) → is_there (there_exprs (bare_exprs x)) ≡ is_there (there_exprs x)
  same_exprs no_expr = refl
  same_exprs (more_expr x xs) = both _ _ _ _ (same_expr x) (same_exprs xs)

  same_stmts : (x : Stmts) → is_there (there_stmts (bare_stmts x)) ≡ is_there (there_stmts x)
  same_stmts no_stmt = refl
  same_stmts (more_stmt x xs) = both _ _ _ _ (same_stmt x) (same_stmts xs)

  same_declarators : (x : Declarators) → is_there (there_declarators (bare_declarators x)) ≡ is_there (there_declarators x)
  same_declarators no_declarator = refl
  same_declarators (more_declarator x xs) = both _ _ _ _ (same_declarator x) (same_declarators xs)

  same_cases : (x : Cases) → is_there (there_cases (bare_cases x)) ≡ is_there (there_cases x)
  same_cases no_case = refl
  same_cases (more_case x xs) = both _ _ _ _ (same_case x) (same_cases xs)

-- ---- statements

pub this_bare : (ss : Stmts) → this_stmts (bare_stmts ss) ≡ this_stmts ss
this_bare ss = same_stmts ss

-- two lists of statements that are the same
pub this_same : (ss ts : Stmts) → bare_stmts ss ≡ bare_stmts ts → this_stmts ss ≡ this_stmts ts
this_same ss ts h = sym (this_bare ss) ∙ ap this_stmts h ∙ this_bare ts

-- a string that is a directive
this_string : (l : Option Loc) (e : Expr) (ss : Stmts) → this_stmts (with_directives ss) ≡ this_stmts ss → this_stmts (with_directives (more_stmt (Expression l e) ss)) ≡ this_stmts (more_stmt (Expression l e) ss)
this_string l (StringLiteral m s) ss h = h
this_string l e ss h = refl

this_first : (s : Stmt) (ss : Stmts) → this_stmts (with_directives ss) ≡ this_stmts ss → this_stmts (with_directives (more_stmt s ss)) ≡ this_stmts (more_stmt s ss)
this_first (Expression l e) ss h = this_string l e ss h
this_first s ss h = refl

pub this_directives : (ss : Stmts) → this_stmts (with_directives ss) ≡ this_stmts ss
this_directives no_stmt = refl
this_directives (more_stmt s ss) = this_first s ss (this_directives ss)
