-- Linking reads no numbers of functions and no marks, where nothing is counted.
use Rattle.std.proofs.Common.{◌≡◌, ℕ, Option, Some, refl, ap, ◌∙◌}
use Rattle.js_terms.specs.Mark.{Mark}
use Rattle.js_terms.specs.declared.place.Loc.{Loc}
use Rattle.js_terms.specs.declared.words.Identifier.{Identifier}
use Rattle.js_tree.specs.Plain.{Expr, IdentifierReference, This, NullLiteral, BooleanLiteral, NumericLiteral, StringLiteral, ArrayLiteral, ObjectLiteral, FunctionExpression, ArrowFunction, RegularExpressionLiteral, TemplateLiteral, Parenthesized, NamedMember, ComputedMember, New, Call, PostfixUpdate, PrefixUpdate, Unary, Binary, Logical, Conditional, Assignment, Comma, Entered}
use Rattle.js_tree.specs.Plain.{Stmt, Directive, Block, VariableDeclaration, Empty, Expression, If, DoWhile, While, For, ForIn, ForOf, Continue, Break, Return, Switch, Labelled, Throw, TryCatch, TryFinally, TryCatchFinally, Debugger, FunctionDeclaration, EnteredStmt}
use Rattle.js_tree.specs.Plain.{Property, Shorthand, KeyValue, Method}
use Rattle.js_tree.specs.Plain.{PropertyKey, NameKey, StringKey, NumberKey, ComputedKey}
use Rattle.js_tree.specs.Plain.{ConciseBody, ExpressionBody, BlockBody}
use Rattle.js_tree.specs.Plain.{ForInit, NoInit, InitDeclaration, InitExpression}
use Rattle.js_tree.specs.Plain.{ForTarget, TargetDeclaration, TargetExpression}
use Rattle.js_tree.specs.Plain.{TemplatePart, MakeTemplatePart}
use Rattle.js_tree.specs.Plain.{Function, MakeFunction}
use Rattle.js_tree.specs.Plain.{FunctionBody, MakeFunctionBody, EnteredBody}
use Rattle.js_tree.specs.Plain.{Param, MakeParam}
use Rattle.js_tree.specs.Plain.{Declarator, MakeDeclarator}
use Rattle.js_tree.specs.Plain.{Case, MakeCase, EnteredCase}
use Rattle.js_tree.specs.Plain.{Catch, MakeCatch}
use Rattle.js_tree.specs.Plain.{MaybeExpr, none_expr, some_expr}
use Rattle.js_tree.specs.Plain.{MaybeStmt, none_stmt, some_stmt, entered_none}
use Rattle.js_tree.specs.Plain.{Exprs, no_expr, more_expr}
use Rattle.js_tree.specs.Plain.{TemplateParts, no_template_part, more_template_part}
use Rattle.js_tree.specs.Plain.{Properties, no_property, more_property}
use Rattle.js_tree.specs.Plain.{Params, no_param, more_param}
use Rattle.js_tree.specs.Plain.{Stmts, no_stmt, more_stmt}
use Rattle.js_tree.specs.Plain.{Declarators, no_declarator, more_declarator}
use Rattle.js_tree.specs.Plain.{Cases, no_case, more_case}
use Rattle.js_tree.specs.Linked.{Unmarked, Numbers, Linked, Marks, Uncounted, made, two, three, four, after_code, operand, Chain, Alone, Operand, enter_concise_body, labelled, link_expr, link_stmt, link_property, link_property_key, link_concise_body, link_for_init, link_for_target, link_template_part, link_function, link_function_body, link_param, link_declarator, link_case, link_catch, link_expr_if, link_stmt_if, link_exprs, link_template_parts, link_properties, link_params, link_stmts, link_declarators, link_cases}
use Rattle.cov_linked.proofs.Renamed.{renamed_expr, renamed_stmt, renamed_property, renamed_property_key, renamed_concise_body, renamed_for_init, renamed_for_target, renamed_template_part, renamed_function, renamed_function_body, renamed_param, renamed_declarator, renamed_case, renamed_catch, renamed_expr_if, renamed_stmt_if, renamed_template_parts, renamed_properties, renamed_params, renamed_exprs, renamed_stmts, renamed_declarators, renamed_cases}

-- a form of equal parts

one : {A T : Type 0} (f : A → T) {a b : Linked A} → a ≡ b → made f a ≡ made f b
one f h = ap (made f) h

both : {A B T : Type 0} (f : A → B → T) {a a' : Linked A} {g g' : Numbers → Linked B} → a ≡ a' → ((k : Numbers) → g k ≡ g' k) → two f a g ≡ two f a' g'
both f {a' = a'} {g = g} h n = ap (λ x. two f x g) h ∙ ap (made (f a'.tree)) (n a'.next)

all_three : {A B C T : Type 0} (f : A → B → C → T) {a a' : Linked A} {g g' : Numbers → Linked B} {h h' : Numbers → Linked C} →
    a ≡ a' → ((k : Numbers) → g k ≡ g' k) → ((k : Numbers) → h k ≡ h' k) → three f a g h ≡ three f a' g' h'
all_three f {a' = a'} {g = g} {h = h} p q r = ap (λ x. three f x g h) p ∙ both (f a'.tree) (q a'.next) r

all_four : {A B C D T : Type 0} (f : A → B → C → D → T) {a a' : Linked A} {g g' : Numbers → Linked B} {h h' : Numbers → Linked C} {i i' : Numbers → Linked D} →
    a ≡ a' → ((k : Numbers) → g k ≡ g' k) → ((k : Numbers) → h k ≡ h' k) → ((k : Numbers) → i k ≡ i' k) → four f a g h i ≡ four f a' g' h' i'
all_four f {a' = a'} {g = g} {h = h} {i = i} p q r s = ap (λ x. four f x g h i) p ∙ all_three (f a'.tree) (q a'.next) r s

module _ (g : Mark → Mark) where
  mutual
    linked_expr : (t : Expr) (b : Chain) (k : Numbers) → link_expr Unmarked b (renamed_expr g t) k ≡ link_expr Unmarked b t k
    linked_expr (IdentifierReference loc text) b k = refl
    linked_expr (This loc) b k = refl
    linked_expr (NullLiteral loc) b k = refl
    linked_expr (BooleanLiteral loc value) b k = refl
    linked_expr (NumericLiteral loc text) b k = refl
    linked_expr (StringLiteral loc spelled) b k = refl
    linked_expr (ArrayLiteral loc es) b k = one (ArrayLiteral loc) (linked_exprs es k)
    linked_expr (ObjectLiteral loc properties) b k = one (ObjectLiteral loc) (linked_properties properties k)
    linked_expr (FunctionExpression loc name function) b k = one (FunctionExpression loc name) (linked_function function loc name k)
    linked_expr (ArrowFunction loc number params body) b k = both (λ ps y. ArrowFunction loc k.code ps (enter_concise_body Uncounted y)) (linked_params params (after_code k)) (linked_concise_body body)
    linked_expr (RegularExpressionLiteral loc text flags) b k = refl
    linked_expr (TemplateLiteral loc spelled parts) b k = one (TemplateLiteral loc spelled) (linked_template_parts parts k)
    linked_expr (Parenthesized loc e) b k = one (Parenthesized loc) (ap (operand Unmarked b) (linked_expr e b k))
    linked_expr (NamedMember loc e text) b k = one (λ x. NamedMember loc x text) (linked_expr e Alone k)
    linked_expr (ComputedMember loc e f) b k = both (ComputedMember loc) (linked_expr e Alone k) (linked_expr f Alone)
    linked_expr (New loc e es) b k = both (New loc) (linked_expr e Alone k) (linked_exprs es)
    linked_expr (Call loc e es) b k = both (Call loc) (linked_expr e Alone k) (linked_exprs es)
    linked_expr (PostfixUpdate loc operator e) b k = one (PostfixUpdate loc operator) (linked_expr e Alone k)
    linked_expr (PrefixUpdate loc operator e) b k = one (PrefixUpdate loc operator) (linked_expr e Alone k)
    linked_expr (Unary loc operator e) b k = one (Unary loc operator) (linked_expr e Alone k)
    linked_expr (Binary loc operator e f) b k = both (Binary loc operator) (linked_expr e Alone k) (linked_expr f Alone)
    linked_expr (Logical loc operator e f) (Operand b path) k = both (Logical loc operator) (ap (operand Unmarked (Operand b path)) (linked_expr e (Operand b path) k)) (λ j. ap (operand Unmarked (Operand b path)) (linked_expr f (Operand b path) j))
    linked_expr (Logical loc operator e f) Alone k = both (Logical loc operator) (ap (operand Unmarked (Operand Uncounted 0)) (linked_expr e (Operand Uncounted 0) k)) (λ j. ap (operand Unmarked (Operand Uncounted 0)) (linked_expr f (Operand Uncounted 0) j))
    linked_expr (Conditional loc e f h) b k = all_three (Conditional loc) (linked_expr e Alone k) (linked_expr f Alone) (linked_expr h Alone)
    linked_expr (Assignment loc operator e f) b k = both (Assignment loc operator) (linked_expr e Alone k) (linked_expr f Alone)
    linked_expr (Comma loc e f) b k = both (Comma loc) (linked_expr e Alone k) (linked_expr f Alone)
    linked_expr (Entered mark e) b k = linked_expr e b k

    linked_stmt : (t : Stmt) (k : Numbers) → link_stmt Unmarked (renamed_stmt g t) k ≡ link_stmt Unmarked t k
    linked_stmt (Directive loc spelled) k = refl
    linked_stmt (Block loc xs) k = one (Block loc) (linked_stmts xs k)
    linked_stmt (VariableDeclaration loc kind declarators) k = one (VariableDeclaration loc kind) (linked_declarators declarators k)
    linked_stmt (Empty loc) k = refl
    linked_stmt (Expression loc e) k = one (Expression loc) (linked_expr e Alone k)
    linked_stmt (If loc e x y) k = all_three (If loc) (linked_expr e Alone k) (linked_stmt x) (linked_stmt_if y)
    linked_stmt (DoWhile loc x e) k = both (DoWhile loc) (linked_stmt x k) (linked_expr e Alone)
    linked_stmt (While loc e x) k = both (While loc) (linked_expr e Alone k) (linked_stmt x)
    linked_stmt (For loc init e f x) k = all_four (For loc) (linked_for_init init k) (linked_expr_if e) (linked_expr_if f) (linked_stmt x)
    linked_stmt (ForIn loc target e x) k = all_three (ForIn loc) (linked_for_target target k) (linked_expr e Alone) (linked_stmt x)
    linked_stmt (ForOf loc target e x) k = all_three (ForOf loc) (linked_for_target target k) (linked_expr e Alone) (linked_stmt x)
    linked_stmt (Continue loc name) k = refl
    linked_stmt (Break loc name) k = refl
    linked_stmt (Return loc e) k = one (Return loc) (linked_expr_if e k)
    linked_stmt (Switch loc e cases) k = both (Switch loc) (linked_expr e Alone k) (linked_cases cases Uncounted 0)
    linked_stmt (Labelled loc name x) k = one (labelled loc name) (linked_stmt x k)
    linked_stmt (Throw loc e) k = one (Throw loc) (linked_expr e Alone k)
    linked_stmt (TryCatch loc xs catch) k = both (TryCatch loc) (linked_stmts xs k) (linked_catch catch)
    linked_stmt (TryFinally loc xs ys) k = both (TryFinally loc) (linked_stmts xs k) (linked_stmts ys)
    linked_stmt (TryCatchFinally loc xs catch ys) k = all_three (TryCatchFinally loc) (linked_stmts xs k) (linked_catch catch) (linked_stmts ys)
    linked_stmt (Debugger loc) k = refl
    linked_stmt (FunctionDeclaration loc name function) k = one (FunctionDeclaration loc name) (linked_function function loc (Some name) k)
    linked_stmt (EnteredStmt mark x) k = linked_stmt x k

    linked_property : (t : Property) (k : Numbers) → link_property Unmarked (renamed_property g t) k ≡ link_property Unmarked t k
    linked_property (Shorthand loc text) k = refl
    linked_property (KeyValue loc key e) k = both (KeyValue loc) (linked_property_key key k) (linked_expr e Alone)
    linked_property (Method loc key (MakeFunction number params body)) k = all_three (λ x ps y. Method loc x (MakeFunction k.code ps y)) (linked_property_key key (after_code k)) (linked_params params) (linked_function_body body)

    linked_property_key : (t : PropertyKey) (k : Numbers) → link_property_key Unmarked (renamed_property_key g t) k ≡ link_property_key Unmarked t k
    linked_property_key (NameKey text) k = refl
    linked_property_key (StringKey spelled) k = refl
    linked_property_key (NumberKey text) k = refl
    linked_property_key (ComputedKey e) k = one ComputedKey (linked_expr e Alone k)

    linked_concise_body : (t : ConciseBody) (k : Numbers) → link_concise_body Unmarked (renamed_concise_body g t) k ≡ link_concise_body Unmarked t k
    linked_concise_body (ExpressionBody e) k = one ExpressionBody (linked_expr e Alone k)
    linked_concise_body (BlockBody body) k = one BlockBody (linked_function_body body k)

    linked_for_init : (t : ForInit) (k : Numbers) → link_for_init Unmarked (renamed_for_init g t) k ≡ link_for_init Unmarked t k
    linked_for_init NoInit k = refl
    linked_for_init (InitDeclaration kind declarators) k = one (InitDeclaration kind) (linked_declarators declarators k)
    linked_for_init (InitExpression e) k = one InitExpression (linked_expr e Alone k)

    linked_for_target : (t : ForTarget) (k : Numbers) → link_for_target Unmarked (renamed_for_target g t) k ≡ link_for_target Unmarked t k
    linked_for_target (TargetDeclaration kind pattern) k = refl
    linked_for_target (TargetExpression e) k = one TargetExpression (linked_expr e Alone k)

    linked_template_part : (t : TemplatePart) (k : Numbers) → link_template_part Unmarked (renamed_template_part g t) k ≡ link_template_part Unmarked t k
    linked_template_part (MakeTemplatePart e spelled) k = one (λ x. MakeTemplatePart x spelled) (linked_expr e Alone k)

    linked_function : (t : Function) (loc : Option Loc) (name : Option Identifier) (k : Numbers) → link_function Unmarked loc name (renamed_function g t) k ≡ link_function Unmarked loc name t k
    linked_function (MakeFunction number params body) loc name k = both (MakeFunction k.code) (linked_params params (after_code k)) (linked_function_body body)

    linked_function_body : (t : FunctionBody) (k : Numbers) → link_function_body Unmarked (renamed_function_body g t) k ≡ link_function_body Unmarked t k
    linked_function_body (MakeFunctionBody loc xs) k = one (MakeFunctionBody loc) (linked_stmts xs k)
    linked_function_body (EnteredBody mark body) k = linked_function_body body k

    linked_param : (t : Param) (k : Numbers) → link_param Unmarked (renamed_param g t) k ≡ link_param Unmarked t k
    linked_param (MakeParam loc pattern none_expr) k = refl
    linked_param (MakeParam loc pattern (some_expr e)) k = one (λ x. MakeParam loc pattern (some_expr x)) (linked_expr e Alone k)

    linked_declarator : (t : Declarator) (k : Numbers) → link_declarator Unmarked (renamed_declarator g t) k ≡ link_declarator Unmarked t k
    linked_declarator (MakeDeclarator loc pattern none_expr) k = refl
    linked_declarator (MakeDeclarator loc pattern (some_expr e)) k = one (λ x. MakeDeclarator loc pattern (some_expr x)) (linked_expr e Alone k)

    linked_case : (t : Case) (k : Numbers) → link_case Unmarked (renamed_case g t) k ≡ link_case Unmarked t k
    linked_case (MakeCase loc e xs) k = both (MakeCase loc) (linked_expr_if e k) (linked_stmts xs)
    linked_case (EnteredCase mark x) k = linked_case x k

    linked_catch : (t : Catch) (k : Numbers) → link_catch Unmarked (renamed_catch g t) k ≡ link_catch Unmarked t k
    linked_catch (MakeCatch pattern xs) k = one (MakeCatch pattern) (linked_stmts xs k)

    linked_expr_if : (t : MaybeExpr) (k : Numbers) → link_expr_if Unmarked (renamed_expr_if g t) k ≡ link_expr_if Unmarked t k
    linked_expr_if none_expr k = refl
    linked_expr_if (some_expr e) k = one some_expr (linked_expr e Alone k)

    linked_stmt_if : (t : MaybeStmt) (k : Numbers) → link_stmt_if Unmarked (renamed_stmt_if g t) k ≡ link_stmt_if Unmarked t k
    linked_stmt_if none_stmt k = refl
    linked_stmt_if (some_stmt x) k = one some_stmt (linked_stmt x k)
    linked_stmt_if (entered_none mark) k = refl

    linked_exprs : (t : Exprs) (k : Numbers) → link_exprs Unmarked (renamed_exprs g t) k ≡ link_exprs Unmarked t k
    linked_exprs no_expr k = refl
    linked_exprs (more_expr x xs) k = both more_expr (linked_expr x Alone k) (linked_exprs xs)

    linked_template_parts : (t : TemplateParts) (k : Numbers) → link_template_parts Unmarked (renamed_template_parts g t) k ≡ link_template_parts Unmarked t k
    linked_template_parts no_template_part k = refl
    linked_template_parts (more_template_part x xs) k = both more_template_part (linked_template_part x k) (linked_template_parts xs)

    linked_properties : (t : Properties) (k : Numbers) → link_properties Unmarked (renamed_properties g t) k ≡ link_properties Unmarked t k
    linked_properties no_property k = refl
    linked_properties (more_property x xs) k = both more_property (linked_property x k) (linked_properties xs)

    linked_params : (t : Params) (k : Numbers) → link_params Unmarked (renamed_params g t) k ≡ link_params Unmarked t k
    linked_params no_param k = refl
    linked_params (more_param x xs) k = both more_param (linked_param x k) (linked_params xs)

    pub linked_stmts : (t : Stmts) (k : Numbers) → link_stmts Unmarked (renamed_stmts g t) k ≡ link_stmts Unmarked t k
    linked_stmts no_stmt k = refl
    linked_stmts (more_stmt x xs) k = both more_stmt (linked_stmt x k) (linked_stmts xs)

    linked_declarators : (t : Declarators) (k : Numbers) → link_declarators Unmarked (renamed_declarators g t) k ≡ link_declarators Unmarked t k
    linked_declarators no_declarator k = refl
    linked_declarators (more_declarator x xs) k = both more_declarator (linked_declarator x k) (linked_declarators xs)

    linked_cases : (t : Cases) (b : Marks) (i : ℕ) (k : Numbers) → link_cases Unmarked b i (renamed_cases g t) k ≡ link_cases Unmarked b i t k
    linked_cases no_case b i k = refl
    linked_cases (more_case x xs) b i k = both more_case (linked_case x k) (linked_cases xs b i)
