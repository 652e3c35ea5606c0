-- The functions in a tree that suits a home suit it.
use Rattle.std.proofs.Common.{◌≡◌, ℕ, zero, suc, List, [], ◌∷◌, ◌++◌, Some, subst}
use Rattle.std.specs.Prelude.{slice_get}
use Rattle.js_tree.specs.Plain.{Expr, IdentifierReference, This, NullLiteral, BooleanLiteral, NumericLiteral, StringLiteral, ArrayLiteral, ObjectLiteral, FunctionExpression, ArrowFunction, RegularExpressionLiteral, TemplateLiteral, Parenthesized, NamedMember, ComputedMember, New, Call, PostfixUpdate, PrefixUpdate, Unary, Binary, Logical, Conditional, Assignment, Comma, Entered}
use Rattle.js_tree.specs.Plain.{Stmt, Directive, Block, VariableDeclaration, Empty, Expression, If, DoWhile, While, For, ForIn, ForOf, Continue, Break, Return, Switch, Labelled, Throw, TryCatch, TryFinally, TryCatchFinally, Debugger, FunctionDeclaration, EnteredStmt}
use Rattle.js_tree.specs.Plain.{Property, Shorthand, KeyValue, Method}
use Rattle.js_tree.specs.Plain.{PropertyKey, NameKey, StringKey, NumberKey, ComputedKey}
use Rattle.js_tree.specs.Plain.{ConciseBody, ExpressionBody, BlockBody}
use Rattle.js_tree.specs.Plain.{ForInit, NoInit, InitDeclaration, InitExpression}
use Rattle.js_tree.specs.Plain.{ForTarget, TargetDeclaration, TargetExpression}
use Rattle.js_tree.specs.Plain.{TemplatePart, MakeTemplatePart}
use Rattle.js_tree.specs.Plain.{Function, MakeFunction}
use Rattle.js_tree.specs.Plain.{FunctionBody, MakeFunctionBody, EnteredBody}
use Rattle.js_tree.specs.Plain.{Param, MakeParam}
use Rattle.js_tree.specs.Plain.{Declarator, MakeDeclarator}
use Rattle.js_tree.specs.Plain.{Case, MakeCase, EnteredCase}
use Rattle.js_tree.specs.Plain.{Catch, MakeCatch}
use Rattle.js_tree.specs.Plain.{BindingIdentifier}
use Rattle.js_tree.specs.Plain.{MaybeExpr, none_expr, some_expr}
use Rattle.js_tree.specs.Plain.{MaybeStmt, none_stmt, some_stmt, entered_none}
use Rattle.js_tree.specs.Plain.{Exprs, no_expr, more_expr}
use Rattle.js_tree.specs.Plain.{TemplateParts, no_template_part, more_template_part}
use Rattle.js_tree.specs.Plain.{Properties, no_property, more_property}
use Rattle.js_tree.specs.Plain.{Params, no_param, more_param}
use Rattle.js_tree.specs.Plain.{Stmts, no_stmt, more_stmt}
use Rattle.js_tree.specs.Plain.{Declarators, no_declarator, more_declarator}
use Rattle.js_tree.specs.Plain.{Cases, no_case, more_case}
use Rattle.js_tree.specs.Codes.{Code, functions_expr, functions_stmt, functions_property, functions_property_key, functions_concise_body, functions_for_init, functions_for_target, functions_template_part, functions_function, functions_function_body, functions_param, functions_declarator, functions_case, functions_catch, functions_expr_if, functions_stmt_if, functions_exprs, functions_template_parts, functions_properties, functions_params, functions_stmts, functions_declarators, functions_cases}
use Rattle.js_suits.specs.Suits as S
use Rattle.js_suits.specs.Settings.{Home, Setting}

module _ (c : Setting) (h : Home) where
  abbrev Each : List Code → Type 0
  Each [] = Unit {0}
  Each (x ∷ xs) = S.SuitsCode c h x × Each xs

  also : (xs ys : List Code) → Each xs → Each ys → Each (xs ++ ys)
  also [] ys a b = b
  also (x ∷ xs) ys a b = (a.0, also xs ys a.1 b)

  pub each_at : (xs : List Code) (i : ℕ) (x : Code) → Each xs → slice_get xs i ≡ Some x → S.SuitsCode c h x
  each_at [] i x a e = absurd (let z = e in cc)
  each_at (y ∷ ys) zero x a e = subst (S.SuitsCode c h) (let z : Some y ≡ Some x = e in let y : y ≡ x = cc in y) a.0
  each_at (y ∷ ys) (suc i) x a e = each_at ys i x a.1 e

  mutual
    expr_suits : (x : Expr) → S.SuitsExpr c h x → Each (functions_expr x)
    expr_suits (IdentifierReference loc text) su = tt
    expr_suits (This loc) su = tt
    expr_suits (NullLiteral loc) su = tt
    expr_suits (BooleanLiteral loc b) su = tt
    expr_suits (NumericLiteral loc text) su = tt
    expr_suits (StringLiteral loc spelled) su = tt
    expr_suits (ArrayLiteral loc es) su = (exprs_suits es su)
    expr_suits (ObjectLiteral loc ps) su = (properties_suits ps su)
    expr_suits (FunctionExpression loc name f) su = function_suits f su.1
    expr_suits (ArrowFunction loc number ps body) su = (su, also (functions_params ps) (functions_concise_body body) (params_suits ps su.1) (concise_suits body su.2))
    expr_suits (RegularExpressionLiteral loc text flags) su = tt
    expr_suits (TemplateLiteral loc spelled parts) su = (parts_suits parts su)
    expr_suits (Parenthesized loc e) su = (expr_suits e su)
    expr_suits (NamedMember loc e text) su = (expr_suits e su.0)
    expr_suits (ComputedMember loc e f) su = also (functions_expr e) (functions_expr f) (expr_suits e su.0.0) (expr_suits f su.1.0)
    expr_suits (New loc e es) su = also (functions_expr e) (functions_exprs es) (expr_suits e su.0.0) (exprs_suits es su.1)
    expr_suits (Call loc e es) su = also (functions_expr e) (functions_exprs es) (expr_suits e su.0.0) (exprs_suits es su.1)
    expr_suits (PostfixUpdate loc operator e) su = (expr_suits e su.0.0)
    expr_suits (PrefixUpdate loc operator e) su = (expr_suits e su.0.0)
    expr_suits (Unary loc operator e) su = (expr_suits e su.0.0)
    expr_suits (Binary loc operator e f) su = also (functions_expr e) (functions_expr f) (expr_suits e su.0.0) (expr_suits f su.1.0)
    expr_suits (Logical loc operator e f) su = also (functions_expr e) (functions_expr f) (expr_suits e su.0) (expr_suits f su.1)
    expr_suits (Assignment loc operator e f) su = also (functions_expr e) (functions_expr f) (expr_suits e su.0.0) (expr_suits f su.1.0)
    expr_suits (Conditional loc e f g) su = also (functions_expr e ++ functions_expr f) (functions_expr g) (also (functions_expr e) (functions_expr f) (expr_suits e su.0.0) (expr_suits f su.1)) (expr_suits g su.2)
    expr_suits (Comma loc e f) su = also (functions_expr e) (functions_expr f) (expr_suits e su.0.0) (expr_suits f su.1.0)
    expr_suits (Entered mark e) su = expr_suits e su.1

    stmt_suits : (x : Stmt) → S.SuitsStmt c h x → Each (functions_stmt x)
    stmt_suits (Directive loc spelled) su = tt
    stmt_suits (Block loc xs) su = (stmts_suits xs su)
    stmt_suits (VariableDeclaration loc kind ds) su = (declarators_suits ds su)
    stmt_suits (Empty loc) su = tt
    stmt_suits (Expression loc e) su = (expr_suits e su.0)
    stmt_suits (If loc e x y) su = also (functions_expr e ++ functions_stmt x) (functions_stmt_if y) (also (functions_expr e) (functions_stmt x) (expr_suits e su.0.0) (stmt_suits x su.1)) (stmt_if_suits y su.2)
    stmt_suits (DoWhile loc x e) su = also (functions_stmt x) (functions_expr e) (stmt_suits x su.0) (expr_suits e su.1.0)
    stmt_suits (While loc e x) su = also (functions_expr e) (functions_stmt x) (expr_suits e su.0.0) (stmt_suits x su.1)
    stmt_suits (For loc start e f x) su = also (functions_for_init start ++ functions_expr_if e ++ functions_expr_if f) (functions_stmt x) (also (functions_for_init start ++ functions_expr_if e) (functions_expr_if f) (also (functions_for_init start) (functions_expr_if e) (init_suits start su.0) (expr_if_suits e su.1)) (expr_if_suits f su.2)) (stmt_suits x su.3)
    stmt_suits (ForIn loc target e x) su = also (functions_for_target target ++ functions_expr e) (functions_stmt x) (also (functions_for_target target) (functions_expr e) (target_suits target su.0) (expr_suits e su.1.0)) (stmt_suits x su.2)
    stmt_suits (ForOf loc target e x) su = also (functions_for_target target ++ functions_expr e) (functions_stmt x) (also (functions_for_target target) (functions_expr e) (target_suits target su.0) (expr_suits e su.1.0)) (stmt_suits x su.2)
    stmt_suits (Continue loc name) su = tt
    stmt_suits (Break loc name) su = tt
    stmt_suits (Return loc e) su = (expr_if_suits e su)
    stmt_suits (Switch loc e cases) su = also (functions_expr e) (functions_cases cases) (expr_suits e su.0.0) (cases_suits cases su.1)
    stmt_suits (Labelled loc name x) su = stmt_suits x su.0
    stmt_suits (Throw loc e) su = (expr_suits e su.0)
    stmt_suits (TryCatch loc xs catch) su = also (functions_stmts xs) (functions_catch catch) (stmts_suits xs su.0) (catch_suits catch su.1)
    stmt_suits (TryFinally loc xs ys) su = also (functions_stmts xs) (functions_stmts ys) (stmts_suits xs su.0) (stmts_suits ys su.1)
    stmt_suits (TryCatchFinally loc xs catch ys) su = also (functions_stmts xs ++ functions_catch catch) (functions_stmts ys) (also (functions_stmts xs) (functions_catch catch) (stmts_suits xs su.0) (catch_suits catch su.1)) (stmts_suits ys su.2)
    stmt_suits (Debugger loc) su = tt
    stmt_suits (FunctionDeclaration loc name f) su = function_suits f su.1
    stmt_suits (EnteredStmt mark x) su = stmt_suits x su.1

    property_suits : (x : Property) → S.SuitsProperty c h x → Each (functions_property x)
    property_suits (Shorthand loc text) su = tt
    property_suits (KeyValue loc key e) su = also (functions_property_key key) (functions_expr e) (key_suits key su.0) (expr_suits e su.1.0)
    property_suits (Method loc key (MakeFunction number ps body)) su = (su.1, also (functions_property_key key ++ functions_params ps) (functions_function_body body) (also (functions_property_key key) (functions_params ps) (key_suits key su.0) (params_suits ps su.1.1)) (body_suits body su.1.2))

    key_suits : (x : PropertyKey) → S.SuitsKey c h x → Each (functions_property_key x)
    key_suits (NameKey text) su = tt
    key_suits (StringKey text) su = tt
    key_suits (NumberKey text) su = tt
    key_suits (ComputedKey e) su = (expr_suits e su.0)

    concise_suits : (x : ConciseBody) → S.SuitsConcise c h x → Each (functions_concise_body x)
    concise_suits (ExpressionBody e) su = (expr_suits e su)
    concise_suits (BlockBody body) su = (body_suits body su)

    init_suits : (x : ForInit) → S.SuitsForInit c h x → Each (functions_for_init x)
    init_suits NoInit su = tt
    init_suits (InitDeclaration kind no_declarator) su = absurd su
    init_suits (InitDeclaration kind (more_declarator d ds)) su = declarators_suits (more_declarator d ds) su
    init_suits (InitExpression e) su = (expr_suits e su.0)

    target_suits : (x : ForTarget) → S.SuitsForTarget c h x → Each (functions_for_target x)
    target_suits (TargetDeclaration kind pattern) su = tt
    target_suits (TargetExpression e) su = (expr_suits e su.0.0)

    part_suits : (x : TemplatePart) → S.SuitsPart c h x → Each (functions_template_part x)
    part_suits (MakeTemplatePart e spelled) su = (expr_suits e su.0)

    function_suits : (x : Function) → S.SuitsFunction c h x → Each (functions_function x)
    function_suits (MakeFunction number ps body) su = (su, also (functions_params ps) (functions_function_body body) (params_suits ps su.1) (body_suits body su.2))

    body_suits : (x : FunctionBody) → S.SuitsBody c h x → Each (functions_function_body x)
    body_suits (MakeFunctionBody loc xs) su = (stmts_suits xs su)
    body_suits (EnteredBody mark body) su = body_suits body su.1

    param_suits : (x : Param) → S.SuitsParam c h x → Each (functions_param x)
    param_suits (MakeParam loc (BindingIdentifier place x) none_expr) su = tt
    param_suits (MakeParam loc (BindingIdentifier place x) (some_expr e)) su = expr_suits e su.1.0

    declarator_suits : (x : Declarator) → S.SuitsDeclarator c h x → Each (functions_declarator x)
    declarator_suits (MakeDeclarator loc (BindingIdentifier place x) none_expr) su = tt
    declarator_suits (MakeDeclarator loc (BindingIdentifier place x) (some_expr e)) su = expr_suits e su.1.0

    case_suits : (x : Case) → S.SuitsCase c h x → Each (functions_case x)
    case_suits (MakeCase loc e xs) su = also (functions_expr_if e) (functions_stmts xs) (expr_if_suits e su.0) (stmts_suits xs su.1)
    case_suits (EnteredCase mark x) su = case_suits x su.1

    catch_suits : (x : Catch) → S.SuitsCatch c h x → Each (functions_catch x)
    catch_suits (MakeCatch pattern xs) su = stmts_suits xs su.1

    expr_if_suits : (x : MaybeExpr) → S.SuitsExprIf c h x → Each (functions_expr_if x)
    expr_if_suits none_expr su = tt
    expr_if_suits (some_expr e) su = (expr_suits e su.0)

    stmt_if_suits : (x : MaybeStmt) → S.SuitsStmtIf c h x → Each (functions_stmt_if x)
    stmt_if_suits none_stmt su = tt
    stmt_if_suits (some_stmt x) su = (stmt_suits x su)
    stmt_if_suits (entered_none mark) su = tt

    exprs_suits : (x : Exprs) → S.SuitsExprs c h x → Each (functions_exprs x)
    exprs_suits no_expr su = tt
    exprs_suits (more_expr y ys) su = also (functions_expr y) (functions_exprs ys) (expr_suits y su.0.0) (exprs_suits ys su.1)

    parts_suits : (x : TemplateParts) → S.SuitsParts c h x → Each (functions_template_parts x)
    parts_suits no_template_part su = tt
    parts_suits (more_template_part y ys) su = also (functions_template_part y) (functions_template_parts ys) (part_suits y su.0) (parts_suits ys su.1)

    properties_suits : (x : Properties) → S.SuitsProperties c h x → Each (functions_properties x)
    properties_suits no_property su = tt
    properties_suits (more_property y ys) su = also (functions_property y) (functions_properties ys) (property_suits y su.0) (properties_suits ys su.1)

    params_suits : (x : Params) → S.SuitsParams c h x → Each (functions_params x)
    params_suits no_param su = tt
    params_suits (more_param y ys) su = also (functions_param y) (functions_params ys) (param_suits y su.0) (params_suits ys su.1)

    pub stmts_suits : (x : Stmts) → S.SuitsStmts c h x → Each (functions_stmts x)
    stmts_suits no_stmt su = tt
    stmts_suits (more_stmt y ys) su = also (functions_stmt y) (functions_stmts ys) (stmt_suits y su.0.0) (stmts_suits ys su.1)

    declarators_suits : (x : Declarators) → S.SuitsDeclarators c h x → Each (functions_declarators x)
    declarators_suits no_declarator su = tt
    declarators_suits (more_declarator y ys) su = also (functions_declarator y) (functions_declarators ys) (declarator_suits y su.0) (declarators_suits ys su.1)

    cases_suits : (x : Cases) → S.SuitsCases c h x → Each (functions_cases x)
    cases_suits no_case su = tt
    cases_suits (more_case y ys) su = also (functions_case y) (functions_cases ys) (case_suits y su.0) (cases_suits ys su.1)
