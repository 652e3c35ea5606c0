-- A tree without marks has none.
use Rattle.std.proofs.Common.{List, [], ◌∷◌, ◌++◌, Option}
use Rattle.js_terms.specs.declared.place.Loc.{Loc}
use Rattle.js_tree.specs.Plain.{Expr, IdentifierReference, This, NullLiteral, BooleanLiteral, NumericLiteral, StringLiteral, ArrayLiteral, ObjectLiteral, FunctionExpression, ArrowFunction, RegularExpressionLiteral, TemplateLiteral, Parenthesized, NamedMember, ComputedMember, New, Call, PostfixUpdate, PrefixUpdate, Unary, Binary, Logical, Conditional, Assignment, Comma, Entered}
use Rattle.js_tree.specs.Plain.{Stmt, Directive, Block, VariableDeclaration, Empty, Expression, If, DoWhile, While, For, ForIn, ForOf, Continue, Break, Return, Switch, Labelled, Throw, TryCatch, TryFinally, TryCatchFinally, Debugger, FunctionDeclaration, EnteredStmt}
use Rattle.js_tree.specs.Plain.{Property, Shorthand, KeyValue, Method}
use Rattle.js_tree.specs.Plain.{PropertyKey, NameKey, StringKey, NumberKey, ComputedKey}
use Rattle.js_tree.specs.Plain.{ConciseBody, ExpressionBody, BlockBody}
use Rattle.js_tree.specs.Plain.{ForInit, NoInit, InitDeclaration, InitExpression}
use Rattle.js_tree.specs.Plain.{ForTarget, TargetDeclaration, TargetExpression}
use Rattle.js_tree.specs.Plain.{TemplatePart, MakeTemplatePart}
use Rattle.js_tree.specs.Plain.{Function, MakeFunction}
use Rattle.js_tree.specs.Plain.{FunctionBody, MakeFunctionBody, EnteredBody}
use Rattle.js_tree.specs.Plain.{Param, MakeParam}
use Rattle.js_tree.specs.Plain.{Declarator, MakeDeclarator}
use Rattle.js_tree.specs.Plain.{Case, MakeCase, EnteredCase}
use Rattle.js_tree.specs.Plain.{Catch, MakeCatch}
use Rattle.js_tree.specs.Plain.{MaybeExpr, none_expr, some_expr}
use Rattle.js_tree.specs.Plain.{MaybeStmt, none_stmt, some_stmt, entered_none}
use Rattle.js_tree.specs.Plain.{Exprs, no_expr, more_expr}
use Rattle.js_tree.specs.Plain.{TemplateParts, no_template_part, more_template_part}
use Rattle.js_tree.specs.Plain.{Properties, no_property, more_property}
use Rattle.js_tree.specs.Plain.{Params, no_param, more_param}
use Rattle.js_tree.specs.Plain.{Stmts, no_stmt, more_stmt}
use Rattle.js_tree.specs.Plain.{Declarators, no_declarator, more_declarator}
use Rattle.js_tree.specs.Plain.{Cases, no_case, more_case}
use Rattle.js_tree.specs.Entered.{PlacedMark, entered_expr, entered_stmt, entered_property, entered_property_key, entered_concise_body, entered_for_init, entered_for_target, entered_template_part, entered_function, entered_function_body, entered_param, entered_declarator, entered_case, entered_catch, entered_expr_if, entered_stmt_if, entered_exprs, entered_template_parts, entered_properties, entered_params, entered_stmts, entered_declarators, entered_cases}
use Rattle.js_tree.specs.Unmarked.{unmarked_expr, unmarked_stmt, unmarked_property, unmarked_property_key, unmarked_concise_body, unmarked_for_init, unmarked_for_target, unmarked_template_part, unmarked_function, unmarked_function_body, unmarked_param, unmarked_declarator, unmarked_case, unmarked_catch, unmarked_expr_if, unmarked_stmt_if, unmarked_exprs, unmarked_template_parts, unmarked_properties, unmarked_params, unmarked_stmts, unmarked_declarators, unmarked_cases}
use Rattle.js_suits.proofs.Suited.{Each, nil, cons}

pub both : {A : Type 0} {P : A → Type 0} (xs ys : List A) → Each P xs → Each P ys → Each P (xs ++ ys)
both [] ys nil b = b
both (x ∷ xs) ys (cons p a) b = cons p (both xs ys a b)

module _ (P : PlacedMark → Type 0) where
  mutual
    bare_expr : (t : Expr) → Each P (entered_expr (unmarked_expr t))
    bare_expr (IdentifierReference loc text) = nil
    bare_expr (This loc) = nil
    bare_expr (NullLiteral loc) = nil
    bare_expr (BooleanLiteral loc b) = nil
    bare_expr (NumericLiteral loc text) = nil
    bare_expr (StringLiteral loc spelled) = nil
    bare_expr (ArrayLiteral loc es) = bare_exprs es
    bare_expr (ObjectLiteral loc properties) = bare_properties properties
    bare_expr (FunctionExpression loc name function) = bare_function function
    bare_expr (ArrowFunction loc number params body) = both _ _ (bare_params params) (bare_concise_body body)
    bare_expr (RegularExpressionLiteral loc text flags) = nil
    bare_expr (TemplateLiteral loc spelled parts) = bare_template_parts parts
    bare_expr (Parenthesized loc e) = bare_expr e
    bare_expr (NamedMember loc e text) = bare_expr e
    bare_expr (ComputedMember loc e f) = both _ _ (bare_expr e) (bare_expr f)
    bare_expr (New loc e es) = both _ _ (bare_expr e) (bare_exprs es)
    bare_expr (Call loc e es) = both _ _ (bare_expr e) (bare_exprs es)
    bare_expr (PostfixUpdate loc operator e) = bare_expr e
    bare_expr (PrefixUpdate loc operator e) = bare_expr e
    bare_expr (Unary loc operator e) = bare_expr e
    bare_expr (Binary loc operator e f) = both _ _ (bare_expr e) (bare_expr f)
    bare_expr (Logical loc operator e f) = both _ _ (bare_expr e) (bare_expr f)
    bare_expr (Conditional loc e f g) = both _ _ (both _ _ (bare_expr e) (bare_expr f)) (bare_expr g)
    bare_expr (Assignment loc operator e f) = both _ _ (bare_expr e) (bare_expr f)
    bare_expr (Comma loc e f) = both _ _ (bare_expr e) (bare_expr f)
    bare_expr (Entered mark e) = bare_expr e

    bare_stmt : (t : Stmt) (a : Option Loc) (ls : List Loc) → Each P (entered_stmt a ls (unmarked_stmt t))
    bare_stmt (Directive loc spelled) a ls = nil
    bare_stmt (Block loc xs) a ls = bare_stmts xs
    bare_stmt (VariableDeclaration loc kind declarators) a ls = bare_declarators declarators
    bare_stmt (Empty loc) a ls = nil
    bare_stmt (Expression loc e) a ls = bare_expr e
    bare_stmt (If loc e x y) a ls = both _ _ (both _ _ (bare_expr e) (bare_stmt x _ _)) (bare_stmt_if y)
    bare_stmt (DoWhile loc x e) a ls = both _ _ (bare_stmt x _ _) (bare_expr e)
    bare_stmt (While loc e x) a ls = both _ _ (bare_expr e) (bare_stmt x _ _)
    bare_stmt (For loc init e f x) a ls = both _ _ (both _ _ (both _ _ (bare_for_init init) (bare_expr_if e)) (bare_expr_if f)) (bare_stmt x _ _)
    bare_stmt (ForIn loc target e x) a ls = both _ _ (both _ _ (bare_for_target target) (bare_expr e)) (bare_stmt x _ _)
    bare_stmt (ForOf loc target e x) a ls = both _ _ (both _ _ (bare_for_target target) (bare_expr e)) (bare_stmt x _ _)
    bare_stmt (Continue loc name) a ls = nil
    bare_stmt (Break loc name) a ls = nil
    bare_stmt (Return loc e) a ls = bare_expr_if e
    bare_stmt (Switch loc e cases) a ls = both _ _ (bare_expr e) (bare_cases cases)
    bare_stmt (Labelled loc name x) a ls = bare_stmt x _ _
    bare_stmt (Throw loc e) a ls = bare_expr e
    bare_stmt (TryCatch loc xs catch) a ls = both _ _ (bare_stmts xs) (bare_catch catch)
    bare_stmt (TryFinally loc xs ys) a ls = both _ _ (bare_stmts xs) (bare_stmts ys)
    bare_stmt (TryCatchFinally loc xs catch ys) a ls = both _ _ (both _ _ (bare_stmts xs) (bare_catch catch)) (bare_stmts ys)
    bare_stmt (Debugger loc) a ls = nil
    bare_stmt (FunctionDeclaration loc name function) a ls = bare_function function
    bare_stmt (EnteredStmt mark x) a ls = bare_stmt x a ls

    bare_property : (t : Property) → Each P (entered_property (unmarked_property t))
    bare_property (Shorthand loc text) = nil
    bare_property (KeyValue loc key e) = both _ _ (bare_property_key key) (bare_expr e)
    bare_property (Method loc key function) = both _ _ (bare_property_key key) (bare_function function)

    bare_property_key : (t : PropertyKey) → Each P (entered_property_key (unmarked_property_key t))
    bare_property_key (NameKey text) = nil
    bare_property_key (StringKey spelled) = nil
    bare_property_key (NumberKey text) = nil
    bare_property_key (ComputedKey e) = bare_expr e

    bare_concise_body : (t : ConciseBody) → Each P (entered_concise_body (unmarked_concise_body t))
    bare_concise_body (ExpressionBody e) = bare_expr e
    bare_concise_body (BlockBody body) = bare_function_body body

    bare_for_init : (t : ForInit) → Each P (entered_for_init (unmarked_for_init t))
    bare_for_init NoInit = nil
    bare_for_init (InitDeclaration kind declarators) = bare_declarators declarators
    bare_for_init (InitExpression e) = bare_expr e

    bare_for_target : (t : ForTarget) → Each P (entered_for_target (unmarked_for_target t))
    bare_for_target (TargetDeclaration kind pattern) = nil
    bare_for_target (TargetExpression e) = bare_expr e

    bare_template_part : (t : TemplatePart) → Each P (entered_template_part (unmarked_template_part t))
    bare_template_part (MakeTemplatePart e spelled) = bare_expr e

    bare_function : (t : Function) → Each P (entered_function (unmarked_function t))
    bare_function (MakeFunction number params body) = both _ _ (bare_params params) (bare_function_body body)

    bare_function_body : (t : FunctionBody) → Each P (entered_function_body (unmarked_function_body t))
    bare_function_body (MakeFunctionBody loc xs) = bare_stmts xs
    bare_function_body (EnteredBody mark body) = bare_function_body body

    bare_param : (t : Param) → Each P (entered_param (unmarked_param t))
    bare_param (MakeParam loc pattern e) = bare_expr_if e

    bare_declarator : (t : Declarator) → Each P (entered_declarator (unmarked_declarator t))
    bare_declarator (MakeDeclarator loc pattern e) = bare_expr_if e

    bare_case : (t : Case) → Each P (entered_case (unmarked_case t))
    bare_case (MakeCase loc e xs) = both _ _ (bare_expr_if e) (bare_stmts xs)
    bare_case (EnteredCase mark x) = bare_case x

    bare_catch : (t : Catch) → Each P (entered_catch (unmarked_catch t))
    bare_catch (MakeCatch pattern xs) = bare_stmts xs

    bare_expr_if : (t : MaybeExpr) → Each P (entered_expr_if (unmarked_expr_if t))
    bare_expr_if none_expr = nil
    bare_expr_if (some_expr e) = bare_expr e

    bare_stmt_if : (t : MaybeStmt) → Each P (entered_stmt_if (unmarked_stmt_if t))
    bare_stmt_if none_stmt = nil
    bare_stmt_if (some_stmt x) = bare_stmt x _ _
    bare_stmt_if (entered_none mark) = nil

    bare_exprs : (t : Exprs) → Each P (entered_exprs (unmarked_exprs t))
    bare_exprs no_expr = nil
    bare_exprs (more_expr x xs) = both _ _ (bare_expr x) (bare_exprs xs)

    bare_template_parts : (t : TemplateParts) → Each P (entered_template_parts (unmarked_template_parts t))
    bare_template_parts no_template_part = nil
    bare_template_parts (more_template_part x xs) = both _ _ (bare_template_part x) (bare_template_parts xs)

    bare_properties : (t : Properties) → Each P (entered_properties (unmarked_properties t))
    bare_properties no_property = nil
    bare_properties (more_property x xs) = both _ _ (bare_property x) (bare_properties xs)

    bare_params : (t : Params) → Each P (entered_params (unmarked_params t))
    bare_params no_param = nil
    bare_params (more_param x xs) = both _ _ (bare_param x) (bare_params xs)

    pub bare_stmts : (t : Stmts) → Each P (entered_stmts (unmarked_stmts t))
    bare_stmts no_stmt = nil
    bare_stmts (more_stmt x xs) = both _ _ (bare_stmt x _ _) (bare_stmts xs)

    bare_declarators : (t : Declarators) → Each P (entered_declarators (unmarked_declarators t))
    bare_declarators no_declarator = nil
    bare_declarators (more_declarator x xs) = both _ _ (bare_declarator x) (bare_declarators xs)

    bare_cases : (t : Cases) → Each P (entered_cases (unmarked_cases t))
    bare_cases no_case = nil
    bare_cases (more_case x xs) = both _ _ (bare_case x) (bare_cases xs)
