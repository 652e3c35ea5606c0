-- A walk through a file: a part before what is in it, and from left to right. What a part gives (`own`) depends on what the
-- part that it is in tells it (`down`).
use Rattle.std.specs.Prelude.{List, [], ◌++◌, Option, Some, None}
use Rattle.js_tree.specs.Plain as tree
use Rattle.js_tree.specs.Plain.{Expr, Stmt, Property, PropertyKey, ConciseBody, ForInit, ForTarget, TemplatePart, Function, FunctionBody, Param, Declarator, Case, Catch, MaybePattern, MaybeExpr, MaybeStmt, TemplateParts, Properties, Params, Exprs, Stmts, Declarators, Cases, File}
use Rattle.js_walk.specs.Part.{Part, AnExpr, AStmt, AProperty, APropertyKey, AConciseBody, AForInit, AForTarget, ATemplatePart, AFunction, AFunctionBody, AParam, ADeclarator, ACase, ACatch, APattern, AThen, AnElse}

-- what is in a part gives, unless it is passed over
abbrev pub below : {C A : Type 0} → Option C → (C → List A) → List A
below None inside = []
below (Some c) inside = inside c

-- what a part gives, and then what is in it gives
abbrev pub visit : {C A : Type 0} → (C → Part → List A) → (C → Part → Option C) → C → Part → (C → List A) → List A
visit own down c part inside = own c part ++ below (down c part) inside

abbrev mutual
  pub within_expr : {C A : Type 0} → (C → Part → List A) → (C → Part → Option C) → Expr → C → List A
  within_expr own down (tree.IdentifierReference _ _) c = []
  within_expr own down (tree.This _) c = []
  within_expr own down (tree.NullLiteral _) c = []
  within_expr own down (tree.BooleanLiteral _ _) c = []
  within_expr own down (tree.NumericLiteral _ _) c = []
  within_expr own down (tree.StringLiteral _ _) c = []
  within_expr own down (tree.ArrayLiteral _ items) c = within_exprs own down items c
  within_expr own down (tree.ObjectLiteral _ properties) c = within_properties own down properties c
  within_expr own down (tree.FunctionExpression _ _ function) c = visit own down c (AFunction function) (within_function own down function)
  within_expr own down (tree.ArrowFunction _ _ params body) c = within_params own down params c ++ visit own down c (AConciseBody body) (within_concise_body own down body)
  within_expr own down (tree.RegularExpressionLiteral _ _ _) c = []
  within_expr own down (tree.TemplateLiteral _ _ parts) c = within_template_parts own down parts c
  within_expr own down (tree.Parenthesized _ inner) c = visit own down c (AnExpr inner) (within_expr own down inner)
  within_expr own down (tree.NamedMember _ object _) c = visit own down c (AnExpr object) (within_expr own down object)
  within_expr own down (tree.ComputedMember _ object key) c = visit own down c (AnExpr object) (within_expr own down object) ++ visit own down c (AnExpr key) (within_expr own down key)
  within_expr own down (tree.New _ constructor arguments) c = visit own down c (AnExpr constructor) (within_expr own down constructor) ++ within_exprs own down arguments c
  within_expr own down (tree.Call _ callee arguments) c = visit own down c (AnExpr callee) (within_expr own down callee) ++ within_exprs own down arguments c
  within_expr own down (tree.PostfixUpdate _ _ operand) c = visit own down c (AnExpr operand) (within_expr own down operand)
  within_expr own down (tree.PrefixUpdate _ _ operand) c = visit own down c (AnExpr operand) (within_expr own down operand)
  within_expr own down (tree.Unary _ _ operand) c = visit own down c (AnExpr operand) (within_expr own down operand)
  within_expr own down (tree.Binary _ _ left right) c = visit own down c (AnExpr left) (within_expr own down left) ++ visit own down c (AnExpr right) (within_expr own down right)
  within_expr own down (tree.Logical _ _ left right) c = visit own down c (AnExpr left) (within_expr own down left) ++ visit own down c (AnExpr right) (within_expr own down right)
  within_expr own down (tree.Conditional _ test holds fails) c = visit own down c (AnExpr test) (within_expr own down test) ++ visit own down c (AnExpr holds) (within_expr own down holds) ++ visit own down c (AnExpr fails) (within_expr own down fails)
  within_expr own down (tree.Assignment _ _ target value) c = visit own down c (AnExpr target) (within_expr own down target) ++ visit own down c (AnExpr value) (within_expr own down value)
  within_expr own down (tree.Comma _ left right) c = visit own down c (AnExpr left) (within_expr own down left) ++ visit own down c (AnExpr right) (within_expr own down right)
  within_expr own down (tree.Entered _ inner) c = visit own down c (AnExpr inner) (within_expr own down inner)

  pub within_stmt : {C A : Type 0} → (C → Part → List A) → (C → Part → Option C) → Stmt → C → List A
  within_stmt own down (tree.Directive _ _) c = []
  within_stmt own down (tree.Block _ statements) c = within_stmts own down statements c
  within_stmt own down (tree.VariableDeclaration _ _ declarators) c = within_declarators own down declarators c
  within_stmt own down (tree.Empty _) c = []
  within_stmt own down (tree.Expression _ expression) c = visit own down c (AnExpr expression) (within_expr own down expression)
  within_stmt own down (tree.If _ test holds fails) c = visit own down c (AnExpr test) (within_expr own down test) ++ visit own down c (AThen holds) (λ b. visit own down b (AStmt holds) (within_stmt own down holds)) ++ visit own down c (AnElse fails) (within_stmt_if own down fails)
  within_stmt own down (tree.DoWhile _ body test) c = visit own down c (AStmt body) (within_stmt own down body) ++ visit own down c (AnExpr test) (within_expr own down test)
  within_stmt own down (tree.While _ test body) c = visit own down c (AnExpr test) (within_expr own down test) ++ visit own down c (AStmt body) (within_stmt own down body)
  within_stmt own down (tree.For _ init test update body) c = visit own down c (AForInit init) (within_for_init own down init) ++ within_expr_if own down test c ++ within_expr_if own down update c ++ visit own down c (AStmt body) (within_stmt own down body)
  within_stmt own down (tree.ForIn _ target object body) c = visit own down c (AForTarget target) (within_for_target own down target) ++ visit own down c (AnExpr object) (within_expr own down object) ++ visit own down c (AStmt body) (within_stmt own down body)
  within_stmt own down (tree.ForOf _ target iterable body) c = visit own down c (AForTarget target) (within_for_target own down target) ++ visit own down c (AnExpr iterable) (within_expr own down iterable) ++ visit own down c (AStmt body) (within_stmt own down body)
  within_stmt own down (tree.Continue _ _) c = []
  within_stmt own down (tree.Break _ _) c = []
  within_stmt own down (tree.Return _ value) c = within_expr_if own down value c
  within_stmt own down (tree.Switch _ value cases) c = visit own down c (AnExpr value) (within_expr own down value) ++ within_cases own down cases c
  within_stmt own down (tree.Labelled _ _ body) c = visit own down c (AStmt body) (within_stmt own down body)
  within_stmt own down (tree.Throw _ value) c = visit own down c (AnExpr value) (within_expr own down value)
  within_stmt own down (tree.TryCatch _ block catch) c = within_stmts own down block c ++ visit own down c (ACatch catch) (within_catch own down catch)
  within_stmt own down (tree.TryFinally _ block finally) c = within_stmts own down block c ++ within_stmts own down finally c
  within_stmt own down (tree.TryCatchFinally _ block catch finally) c = within_stmts own down block c ++ visit own down c (ACatch catch) (within_catch own down catch) ++ within_stmts own down finally c
  within_stmt own down (tree.Debugger _) c = []
  within_stmt own down (tree.FunctionDeclaration _ _ function) c = visit own down c (AFunction function) (within_function own down function)
  within_stmt own down (tree.EnteredStmt _ inner) c = visit own down c (AStmt inner) (within_stmt own down inner)

  pub within_property : {C A : Type 0} → (C → Part → List A) → (C → Part → Option C) → Property → C → List A
  within_property own down (tree.Shorthand _ _) c = []
  within_property own down (tree.KeyValue _ key value) c = visit own down c (APropertyKey key) (within_property_key own down key) ++ visit own down c (AnExpr value) (within_expr own down value)
  within_property own down (tree.Method _ key function) c = visit own down c (APropertyKey key) (within_property_key own down key) ++ visit own down c (AFunction function) (within_function own down function)

  pub within_property_key : {C A : Type 0} → (C → Part → List A) → (C → Part → Option C) → PropertyKey → C → List A
  within_property_key own down (tree.NameKey _) c = []
  within_property_key own down (tree.StringKey _) c = []
  within_property_key own down (tree.NumberKey _) c = []
  within_property_key own down (tree.ComputedKey key) c = visit own down c (AnExpr key) (within_expr own down key)

  pub within_concise_body : {C A : Type 0} → (C → Part → List A) → (C → Part → Option C) → ConciseBody → C → List A
  within_concise_body own down (tree.ExpressionBody value) c = visit own down c (AnExpr value) (within_expr own down value)
  within_concise_body own down (tree.BlockBody body) c = visit own down c (AFunctionBody body) (within_function_body own down body)

  pub within_for_init : {C A : Type 0} → (C → Part → List A) → (C → Part → Option C) → ForInit → C → List A
  within_for_init own down tree.NoInit c = []
  within_for_init own down (tree.InitDeclaration _ declarators) c = within_declarators own down declarators c
  within_for_init own down (tree.InitExpression expression) c = visit own down c (AnExpr expression) (within_expr own down expression)

  pub within_for_target : {C A : Type 0} → (C → Part → List A) → (C → Part → Option C) → ForTarget → C → List A
  within_for_target own down (tree.TargetDeclaration _ pattern) c = own c (APattern pattern)
  within_for_target own down (tree.TargetExpression target) c = visit own down c (AnExpr target) (within_expr own down target)

  pub within_template_part : {C A : Type 0} → (C → Part → List A) → (C → Part → Option C) → TemplatePart → C → List A
  within_template_part own down (tree.MakeTemplatePart value _) c = visit own down c (AnExpr value) (within_expr own down value)

  pub within_function : {C A : Type 0} → (C → Part → List A) → (C → Part → Option C) → Function → C → List A
  within_function own down (tree.MakeFunction _ params body) c = within_params own down params c ++ visit own down c (AFunctionBody body) (within_function_body own down body)

  pub within_function_body : {C A : Type 0} → (C → Part → List A) → (C → Part → Option C) → FunctionBody → C → List A
  within_function_body own down (tree.MakeFunctionBody _ statements) c = within_stmts own down statements c
  within_function_body own down (tree.EnteredBody _ body) c = visit own down c (AFunctionBody body) (within_function_body own down body)

  pub within_param : {C A : Type 0} → (C → Part → List A) → (C → Part → Option C) → Param → C → List A
  within_param own down (tree.MakeParam _ pattern default) c = own c (APattern pattern) ++ within_expr_if own down default c

  pub within_declarator : {C A : Type 0} → (C → Part → List A) → (C → Part → Option C) → Declarator → C → List A
  within_declarator own down (tree.MakeDeclarator _ pattern initializer) c = own c (APattern pattern) ++ within_expr_if own down initializer c

  pub within_case : {C A : Type 0} → (C → Part → List A) → (C → Part → Option C) → Case → C → List A
  within_case own down (tree.MakeCase _ test statements) c = within_expr_if own down test c ++ within_stmts own down statements c
  within_case own down (tree.EnteredCase _ x) c = visit own down c (ACase x) (within_case own down x)

  pub within_catch : {C A : Type 0} → (C → Part → List A) → (C → Part → Option C) → Catch → C → List A
  within_catch own down (tree.MakeCatch parameter statements) c = within_pattern_if own down parameter c ++ within_stmts own down statements c

  pub within_pattern_if : {C A : Type 0} → (C → Part → List A) → (C → Part → Option C) → MaybePattern → C → List A
  within_pattern_if own down tree.none_pattern c = []
  within_pattern_if own down (tree.some_pattern x) c = own c (APattern x)

  pub within_expr_if : {C A : Type 0} → (C → Part → List A) → (C → Part → Option C) → MaybeExpr → C → List A
  within_expr_if own down tree.none_expr c = []
  within_expr_if own down (tree.some_expr x) c = visit own down c (AnExpr x) (within_expr own down x)

  pub within_stmt_if : {C A : Type 0} → (C → Part → List A) → (C → Part → Option C) → MaybeStmt → C → List A
  within_stmt_if own down tree.none_stmt c = []
  within_stmt_if own down (tree.some_stmt x) c = visit own down c (AStmt x) (within_stmt own down x)
  within_stmt_if own down (tree.entered_none _) c = []

  pub within_template_parts : {C A : Type 0} → (C → Part → List A) → (C → Part → Option C) → TemplateParts → C → List A
  within_template_parts own down tree.no_template_part c = []
  within_template_parts own down (tree.more_template_part x xs) c = visit own down c (ATemplatePart x) (within_template_part own down x) ++ within_template_parts own down xs c

  pub within_properties : {C A : Type 0} → (C → Part → List A) → (C → Part → Option C) → Properties → C → List A
  within_properties own down tree.no_property c = []
  within_properties own down (tree.more_property x xs) c = visit own down c (AProperty x) (within_property own down x) ++ within_properties own down xs c

  pub within_params : {C A : Type 0} → (C → Part → List A) → (C → Part → Option C) → Params → C → List A
  within_params own down tree.no_param c = []
  within_params own down (tree.more_param x xs) c = visit own down c (AParam x) (within_param own down x) ++ within_params own down xs c

  pub within_exprs : {C A : Type 0} → (C → Part → List A) → (C → Part → Option C) → Exprs → C → List A
  within_exprs own down tree.no_expr c = []
  within_exprs own down (tree.more_expr x xs) c = visit own down c (AnExpr x) (within_expr own down x) ++ within_exprs own down xs c

  pub within_stmts : {C A : Type 0} → (C → Part → List A) → (C → Part → Option C) → Stmts → C → List A
  within_stmts own down tree.no_stmt c = []
  within_stmts own down (tree.more_stmt x xs) c = visit own down c (AStmt x) (within_stmt own down x) ++ within_stmts own down xs c

  pub within_declarators : {C A : Type 0} → (C → Part → List A) → (C → Part → Option C) → Declarators → C → List A
  within_declarators own down tree.no_declarator c = []
  within_declarators own down (tree.more_declarator x xs) c = visit own down c (ADeclarator x) (within_declarator own down x) ++ within_declarators own down xs c

  pub within_cases : {C A : Type 0} → (C → Part → List A) → (C → Part → Option C) → Cases → C → List A
  within_cases own down tree.no_case c = []
  within_cases own down (tree.more_case x xs) c = visit own down c (ACase x) (within_case own down x) ++ within_cases own down xs c

-- of a file: that of its statements
abbrev pub walk_file : {C A : Type 0} → (C → Part → List A) → (C → Part → Option C) → File → C → List A
walk_file own down (tree.MakeFile body _) c = within_stmts own down body c
