-- Which functions a rewritten tree has: those of the tree with its marks, in the same order, each rewritten; the counters have none.
use Rattle.std.proofs.Common.{◌≡◌, ◌++◌, ◌∷◌, [], ℕ, Bool, true, false, List, None, map, refl, sym, ap, ◌∙◌, append-nil}
use Rattle.js_terms.specs.Mark.{Mark}
use Rattle.js_tree.specs.Codes.{Code, Ordinary, OfMethod, Arrow, functions_expr, functions_stmt, functions_property, functions_property_key, functions_concise_body, functions_for_init, functions_for_target, functions_template_part, functions_function, functions_function_body, functions_param, functions_declarator, functions_case, functions_catch, functions_expr_if, functions_stmt_if, functions_exprs, functions_template_parts, functions_properties, functions_params, functions_stmts, functions_declarators, functions_cases}
use Rattle.js_tree.specs.Plain.{Expr, IdentifierReference, This, NullLiteral, BooleanLiteral, NumericLiteral, StringLiteral, ArrayLiteral, ObjectLiteral, FunctionExpression, ArrowFunction, RegularExpressionLiteral, TemplateLiteral, Parenthesized, NamedMember, ComputedMember, New, Call, PostfixUpdate, PrefixUpdate, Unary, Binary, Logical, Conditional, Assignment, Comma, Entered}
use Rattle.js_tree.specs.Plain.{Stmt, Directive, Block, VariableDeclaration, Empty, Expression, If, DoWhile, While, For, ForIn, ForOf, Continue, Break, Return, Switch, Labelled, Throw, TryCatch, TryFinally, TryCatchFinally, Debugger, FunctionDeclaration, EnteredStmt}
use Rattle.js_tree.specs.Plain.{Property, Shorthand, KeyValue, Method}
use Rattle.js_tree.specs.Plain.{PropertyKey, NameKey, StringKey, NumberKey, ComputedKey}
use Rattle.js_tree.specs.Plain.{ConciseBody, ExpressionBody, BlockBody}
use Rattle.js_tree.specs.Plain.{ForInit, NoInit, InitDeclaration, InitExpression}
use Rattle.js_tree.specs.Plain.{ForTarget, TargetDeclaration, TargetExpression}
use Rattle.js_tree.specs.Plain.{TemplatePart, MakeTemplatePart}
use Rattle.js_tree.specs.Plain.{Function, MakeFunction}
use Rattle.js_tree.specs.Plain.{FunctionBody, MakeFunctionBody, EnteredBody}
use Rattle.js_tree.specs.Plain.{Param, MakeParam}
use Rattle.js_tree.specs.Plain.{Declarator, MakeDeclarator}
use Rattle.js_tree.specs.Plain.{Case, MakeCase, EnteredCase}
use Rattle.js_tree.specs.Plain.{Catch, MakeCatch}
use Rattle.js_tree.specs.Plain.{MaybeExpr, none_expr, some_expr}
use Rattle.js_tree.specs.Plain.{MaybeStmt, none_stmt, some_stmt, entered_none}
use Rattle.js_tree.specs.Plain.{Exprs, no_expr, more_expr}
use Rattle.js_tree.specs.Plain.{TemplateParts, no_template_part, more_template_part}
use Rattle.js_tree.specs.Plain.{Properties, no_property, more_property}
use Rattle.js_tree.specs.Plain.{Params, no_param, more_param}
use Rattle.js_tree.specs.Plain.{Stmts, no_stmt, more_stmt}
use Rattle.js_tree.specs.Plain.{Declarators, no_declarator, more_declarator}
use Rattle.js_tree.specs.Plain.{Cases, no_case, more_case}
use Rattle.cov_rewritten.specs.Counters.{with_name}
use Rattle.cov_rewritten.specs.Rewritten.{expr_marks, stmt_marks, arm_marks, is_any, is_anonymous, bound_name, hoisted_marks, joined, after_directives, inside, counts, in_block, looped, arm, counted, held, initial, rewritten_expr, rewritten_stmt, rewritten_arm, rewritten_stmts, rewritten_property, rewritten_property_key, rewritten_concise_body, rewritten_for_init, rewritten_for_target, rewritten_template_part, rewritten_function, rewritten_function_body, rewritten_param, rewritten_declarator, rewritten_declarators, rewritten_case, rewritten_catch, rewritten_expr_if, rewritten_exprs, rewritten_template_parts, rewritten_properties, rewritten_params, rewritten_cases}
use Rattle.cov_rewritten.specs.Rewritten as r
use Rattle.cov_rewritten.specs.Rewritten.{begun_body, begun_case}
use Rattle.cov_rewritten.specs.Functions.{rewritten_code}

map_append : {A B : Type 0} (f : A → B) (xs ys : List A) → map f (xs ++ ys) ≡ map f xs ++ map f ys
map_append f [] ys = refl
map_append f (x ∷ xs) ys = ap (λ zs. f x ∷ zs) (map_append f xs ys)

module _ (counter : Mark → Expr) (none : (m : Mark) → functions_expr (counter m) ≡ []) (code : ℕ → ℕ) where
  abbrev made : List Code → List Code
  made cs = map (rewritten_code counter code) cs

  both : (xs ys : List Code) {us vs : List Code} → us ≡ made xs → vs ≡ made ys → us ++ vs ≡ made (xs ++ ys)
  both xs ys {vs = vs} p q = ap (λ zs. zs ++ vs) p ∙ ap (λ zs. made xs ++ zs) q ∙ sym (map_append (rewritten_code counter code) xs ys)

  -- ---- what is put in has none

  of_counts : (ms : List Mark) (xs : Stmts) → functions_stmts (joined (counts counter ms) xs) ≡ functions_stmts xs
  of_counts [] xs = refl
  of_counts (m ∷ ms) xs = ap (λ zs. zs ++ functions_stmts (joined (counts counter ms) xs)) (none m) ∙ of_counts ms xs

  of_inside : (x : Stmt) → functions_stmts (inside x) ≡ functions_stmt x
  of_inside (Block l xs) = refl
  of_inside x = append-nil (functions_stmt x)

  of_in_block : (ms : List Mark) (x : Stmt) → functions_stmt (in_block counter ms x) ≡ functions_stmt x
  of_in_block ms x = of_counts ms (inside x) ∙ of_inside x

  of_looped : (ms : List Mark) (x : Stmt) → functions_stmt (looped counter ms x) ≡ functions_stmt x
  of_looped [] x = refl
  of_looped (m ∷ ms) x = of_in_block (m ∷ ms) x

  of_arm : (b : Bool) (ms : List Mark) (x : Stmt) → functions_stmt (arm counter b ms x) ≡ functions_stmt x
  of_arm false ms x = refl
  of_arm true ms x = of_in_block ms x

  of_counted : (ms : List Mark) (e : Expr) → functions_expr (counted counter ms e) ≡ functions_expr e
  of_counted [] e = refl
  of_counted (m ∷ ms) e = ap (λ zs. zs ++ functions_expr (counted counter ms e)) (none m) ∙ of_counted ms e

  of_named : (f : List ℕ) (e : Expr) → functions_expr (with_name f e) ≡ functions_expr e
  of_named f e = append-nil (functions_expr e ++ []) ∙ append-nil (functions_expr e)

  of_held : (b : Bool) (f : List ℕ) (ms : List Mark) (e : Expr) → functions_expr (held counter b f ms e) ≡ functions_expr e
  of_held b f [] e = refl
  of_held false f (m ∷ ms) e = of_counted (m ∷ ms) e
  of_held true f (m ∷ ms) e = of_counted (m ∷ ms) (with_name f e) ∙ of_named f e

  of_initial : (i b : Bool) (f : List ℕ) (ms : List Mark) (e : Expr) → functions_expr (initial counter i b f ms e) ≡ functions_expr e
  of_initial false b f ms e = of_held b f ms e
  of_initial true false f ms e = of_held false f ms e
  of_initial true true f ms e = refl

  of_concise : (ms : List Mark) (e : Expr) → functions_concise_body (r.concise counter ms e) ≡ functions_expr e
  of_concise [] e = refl
  of_concise (m ∷ ms) e = of_counts (m ∷ ms) (more_stmt (Return None (some_expr e)) no_stmt) ∙ append-nil (functions_expr e)

  of_after : (ms : List Mark) (xs : Stmts) → functions_stmts (after_directives (counts counter ms) xs) ≡ functions_stmts xs
  of_after ms no_stmt = of_counts ms no_stmt
  of_after ms (more_stmt (Directive l s) xs) = of_after ms xs
  of_after ms (more_stmt x xs) = of_counts ms (more_stmt x xs)

  of_begun : (m : Mark) (b : FunctionBody) → functions_function_body (begun_body counter m b) ≡ functions_function_body b
  of_begun m (MakeFunctionBody l xs) = of_after (m ∷ []) xs
  of_begun m (EnteredBody k b) = of_begun m b

  of_clause : (m : Mark) (x : Case) → functions_case (begun_case counter m x) ≡ functions_case x
  of_clause m (MakeCase l e xs) = ap (λ zs. functions_expr_if e ++ zs) (of_counts (m ∷ []) xs)
  of_clause m (EnteredCase k x) = of_clause m x

  -- ---- the forms

  mutual
    on_expr : (e : Expr) → functions_expr (rewritten_expr counter code e) ≡ made (functions_expr e)
    on_expr (IdentifierReference l t) = refl
    on_expr (This l) = refl
    on_expr (NullLiteral l) = refl
    on_expr (BooleanLiteral l t) = refl
    on_expr (NumericLiteral l t) = refl
    on_expr (StringLiteral l t) = refl
    on_expr (RegularExpressionLiteral l t u) = refl
    on_expr (ArrayLiteral l es) = on_exprs es
    on_expr (ObjectLiteral l ps) = on_properties ps
    on_expr (FunctionExpression l n f) = on_function f
    on_expr (ArrowFunction l n ps b) = ap (λ zs. Arrow (code n) (rewritten_params counter code ps) (rewritten_concise_body counter code b) ∷ zs) (both (functions_params ps) (functions_concise_body b) (on_params ps) (on_concise_body b))
    on_expr (TemplateLiteral l s ps) = on_template_parts ps
    on_expr (Parenthesized l e) = (of_counted (expr_marks e) (rewritten_expr counter code e) ∙ on_expr e)
    on_expr (NamedMember l e t) = on_expr e
    on_expr (ComputedMember l e f) = both (functions_expr e) (functions_expr f) (on_expr e) (on_expr f)
    on_expr (New l e es) = both (functions_expr e) (functions_exprs es) (on_expr e) (on_exprs es)
    on_expr (Call l e es) = both (functions_expr e) (functions_exprs es) (on_expr e) (on_exprs es)
    on_expr (PostfixUpdate l o e) = on_expr e
    on_expr (PrefixUpdate l o e) = on_expr e
    on_expr (Unary l o e) = on_expr e
    on_expr (Entered m e) = on_expr e
    on_expr (Binary l o e f) = both (functions_expr e) (functions_expr f) (on_expr e) (on_expr f)
    on_expr (Logical l o e f) = both (functions_expr e) (functions_expr f) (of_counted (expr_marks e) (rewritten_expr counter code e) ∙ on_expr e) (of_counted (expr_marks f) (rewritten_expr counter code f) ∙ on_expr f)
    on_expr (Conditional l e f g) = both (functions_expr e ++ functions_expr f) (functions_expr g) (both (functions_expr e) (functions_expr f) (on_expr e) (of_counted (expr_marks f) (rewritten_expr counter code f) ∙ on_expr f)) (of_counted (expr_marks g) (rewritten_expr counter code g) ∙ on_expr g)
    on_expr (Assignment l o e f) = both (functions_expr e) (functions_expr f) (on_expr e) (on_expr f)
    on_expr (Comma l e f) = both (functions_expr e) (functions_expr f) (on_expr e) (on_expr f)

    on_stmt : (home : Bool) (x : Stmt) → functions_stmt (rewritten_stmt counter code home x) ≡ made (functions_stmt x)
    on_stmt home (Directive l s) = refl
    on_stmt home (Empty l) = refl
    on_stmt home (Continue l n) = refl
    on_stmt home (Break l n) = refl
    on_stmt home (Debugger l) = refl
    on_stmt home (Block l xs) = on_stmts true xs
    on_stmt home (VariableDeclaration l k ds) = on_declarators home ds
    on_stmt home (Expression l e) = on_expr e
    on_stmt home (If l e x y) =
        let b = is_any (stmt_marks x ++ arm_marks y) in
        both (functions_expr e ++ functions_stmt x) (functions_stmt_if y) (both (functions_expr e) (functions_stmt x) (on_expr e) (of_arm b (stmt_marks x) (rewritten_stmt counter code false x) ∙ on_stmt false x)) (on_arm b y)
    on_stmt home (DoWhile l x e) = both (functions_stmt x) (functions_expr e) (of_looped (stmt_marks x) (rewritten_stmt counter code false x) ∙ on_stmt false x) (on_expr e)
    on_stmt home (While l e x) = both (functions_expr e) (functions_stmt x) (on_expr e) (of_looped (stmt_marks x) (rewritten_stmt counter code false x) ∙ on_stmt false x)
    on_stmt home (For l i e f x) = both (functions_for_init i ++ functions_expr_if e ++ functions_expr_if f) (functions_stmt x) (both (functions_for_init i ++ functions_expr_if e) (functions_expr_if f) (both (functions_for_init i) (functions_expr_if e) (on_for_init i) (on_expr_if e)) (on_expr_if f)) (of_looped (stmt_marks x) (rewritten_stmt counter code false x) ∙ on_stmt false x)
    on_stmt home (ForIn l i e x) = both (functions_for_target i ++ functions_expr e) (functions_stmt x) (both (functions_for_target i) (functions_expr e) (on_for_target i) (on_expr e)) (of_looped (stmt_marks x) (rewritten_stmt counter code false x) ∙ on_stmt false x)
    on_stmt home (ForOf l i e x) = both (functions_for_target i ++ functions_expr e) (functions_stmt x) (both (functions_for_target i) (functions_expr e) (on_for_target i) (on_expr e)) (of_looped (stmt_marks x) (rewritten_stmt counter code false x) ∙ on_stmt false x)
    on_stmt home (Return l e) = on_expr_if e
    on_stmt home (Switch l e xs) = both (functions_expr e) (functions_cases xs) (on_expr e) (on_cases xs)
    on_stmt home (Labelled l n x) = on_stmt false x
    on_stmt home (Throw l e) = on_expr e
    on_stmt home (TryCatch l xs c) = both (functions_stmts xs) (functions_catch c) (on_stmts true xs) (on_catch c)
    on_stmt home (TryFinally l xs ys) = both (functions_stmts xs) (functions_stmts ys) (on_stmts true xs) (on_stmts true ys)
    on_stmt home (TryCatchFinally l xs c ys) = both (functions_stmts xs ++ functions_catch c) (functions_stmts ys) (both (functions_stmts xs) (functions_catch c) (on_stmts true xs) (on_catch c)) (on_stmts true ys)
    on_stmt home (FunctionDeclaration l n f) = on_function f
    on_stmt home (EnteredStmt m x) = on_stmt home x

    on_arm : (b : Bool) (x : MaybeStmt) → functions_stmt_if (rewritten_arm counter code b x) ≡ made (functions_stmt_if x)
    on_arm b none_stmt = refl
    on_arm b (some_stmt x) = of_arm b (stmt_marks x) (rewritten_stmt counter code false x) ∙ on_stmt false x
    on_arm b (entered_none m) = of_counts (m ∷ []) no_stmt

    pub on_stmts : (home : Bool) (xs : Stmts) → functions_stmts (rewritten_stmts counter code home xs) ≡ made (functions_stmts xs)
    on_stmts home no_stmt = refl
    on_stmts home (more_stmt x xs) =
        of_counts (stmt_marks x ++ hoisted_marks home x) (more_stmt (rewritten_stmt counter code home x) (rewritten_stmts counter code home xs))
        ∙ both (functions_stmt x) (functions_stmts xs) (on_stmt home x) (on_stmts home xs)

    on_property : (x : Property) → functions_property (rewritten_property counter code x) ≡ made (functions_property x)
    on_property (Shorthand l t) = refl
    on_property (KeyValue l k e) = both (functions_property_key k) (functions_expr e) (on_property_key k) (on_expr e)
    on_property (Method l k (MakeFunction n ps b)) = ap (λ zs. OfMethod (MakeFunction (code n) (rewritten_params counter code ps) (rewritten_function_body counter code b)) ∷ zs)
        (both (functions_property_key k ++ functions_params ps) (functions_function_body b) (both (functions_property_key k) (functions_params ps) (on_property_key k) (on_params ps)) (on_function_body b))

    on_property_key : (x : PropertyKey) → functions_property_key (rewritten_property_key counter code x) ≡ made (functions_property_key x)
    on_property_key (NameKey t) = refl
    on_property_key (StringKey t) = refl
    on_property_key (NumberKey t) = refl
    on_property_key (ComputedKey e) = on_expr e

    on_concise_body : (x : ConciseBody) → functions_concise_body (rewritten_concise_body counter code x) ≡ made (functions_concise_body x)
    on_concise_body (ExpressionBody e) = of_concise (expr_marks e) (rewritten_expr counter code e) ∙ on_expr e
    on_concise_body (BlockBody b) = on_function_body b

    on_for_init : (x : ForInit) → functions_for_init (rewritten_for_init counter code x) ≡ made (functions_for_init x)
    on_for_init NoInit = refl
    on_for_init (InitDeclaration k ds) = on_declarators false ds
    on_for_init (InitExpression e) = on_expr e

    on_for_target : (x : ForTarget) → functions_for_target (rewritten_for_target counter code x) ≡ made (functions_for_target x)
    on_for_target (TargetDeclaration k p) = refl
    on_for_target (TargetExpression e) = on_expr e

    on_template_part : (x : TemplatePart) → functions_template_part (rewritten_template_part counter code x) ≡ made (functions_template_part x)
    on_template_part (MakeTemplatePart e s) = on_expr e

    on_function : (x : Function) → functions_function (rewritten_function counter code x) ≡ made (functions_function x)
    on_function (MakeFunction n ps b) = ap (λ zs. Ordinary (MakeFunction (code n) (rewritten_params counter code ps) (rewritten_function_body counter code b)) ∷ zs) (both (functions_params ps) (functions_function_body b) (on_params ps) (on_function_body b))

    on_function_body : (x : FunctionBody) → functions_function_body (rewritten_function_body counter code x) ≡ made (functions_function_body x)
    on_function_body (MakeFunctionBody l xs) = on_stmts true xs
    on_function_body (EnteredBody m b) = of_begun m (rewritten_function_body counter code b) ∙ on_function_body b

    on_param : (x : Param) → functions_param (rewritten_param counter code x) ≡ made (functions_param x)
    on_param (MakeParam l p none_expr) = refl
    on_param (MakeParam l p (some_expr e)) = of_held (is_anonymous e) (bound_name p) (expr_marks e) (rewritten_expr counter code e) ∙ on_expr e

    on_declarator : (i : Bool) (x : Declarator) → functions_declarator (rewritten_declarator counter code i x) ≡ made (functions_declarator x)
    on_declarator i (MakeDeclarator l p none_expr) = refl
    on_declarator i (MakeDeclarator l p (some_expr e)) = of_initial i (is_anonymous e) (bound_name p) (expr_marks e) (rewritten_expr counter code e) ∙ on_expr e

    on_declarators : (i : Bool) (xs : Declarators) → functions_declarators (rewritten_declarators counter code i xs) ≡ made (functions_declarators xs)
    on_declarators i no_declarator = refl
    on_declarators i (more_declarator x xs) = both (functions_declarator x) (functions_declarators xs) (on_declarator i x) (on_declarators false xs)

    on_case : (x : Case) → functions_case (rewritten_case counter code x) ≡ made (functions_case x)
    on_case (MakeCase l e xs) = both (functions_expr_if e) (functions_stmts xs) (on_expr_if e) (on_stmts false xs)
    on_case (EnteredCase m x) = of_clause m (rewritten_case counter code x) ∙ on_case x

    on_catch : (x : Catch) → functions_catch (rewritten_catch counter code x) ≡ made (functions_catch x)
    on_catch (MakeCatch p xs) = on_stmts true xs

    on_expr_if : (x : MaybeExpr) → functions_expr_if (rewritten_expr_if counter code x) ≡ made (functions_expr_if x)
    on_expr_if none_expr = refl
    on_expr_if (some_expr e) = on_expr e

    on_exprs : (xs : Exprs) → functions_exprs (rewritten_exprs counter code xs) ≡ made (functions_exprs xs)
    on_exprs no_expr = refl
    on_exprs (more_expr x xs) = both (functions_expr x) (functions_exprs xs) (on_expr x) (on_exprs xs)

    on_template_parts : (xs : TemplateParts) → functions_template_parts (rewritten_template_parts counter code xs) ≡ made (functions_template_parts xs)
    on_template_parts no_template_part = refl
    on_template_parts (more_template_part x xs) = both (functions_template_part x) (functions_template_parts xs) (on_template_part x) (on_template_parts xs)

    on_properties : (xs : Properties) → functions_properties (rewritten_properties counter code xs) ≡ made (functions_properties xs)
    on_properties no_property = refl
    on_properties (more_property x xs) = both (functions_property x) (functions_properties xs) (on_property x) (on_properties xs)

    on_params : (xs : Params) → functions_params (rewritten_params counter code xs) ≡ made (functions_params xs)
    on_params no_param = refl
    on_params (more_param x xs) = both (functions_param x) (functions_params xs) (on_param x) (on_params xs)

    on_cases : (xs : Cases) → functions_cases (rewritten_cases counter code xs) ≡ made (functions_cases xs)
    on_cases no_case = refl
    on_cases (more_case x xs) = both (functions_case x) (functions_cases xs) (on_case x) (on_cases xs)
