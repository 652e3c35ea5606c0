-- Linking reads no places and no parentheses where nothing is counted.
use Rattle.std.proofs.Common.{◌≡◌, ℕ, [], Option, Some, None, refl, ap, ◌∙◌, sym}
use Rattle.js_terms.specs.declared.place.Loc.{Loc}
use Rattle.js_terms.specs.declared.words.Identifier.{Identifier}
use Rattle.js_tree.specs.Plain.{Expr, IdentifierReference, This, NullLiteral, BooleanLiteral, NumericLiteral, StringLiteral, ArrayLiteral, ObjectLiteral, FunctionExpression, ArrowFunction, RegularExpressionLiteral, TemplateLiteral, Parenthesized, NamedMember, ComputedMember, New, Call, PostfixUpdate, PrefixUpdate, Unary, Binary, Logical, Conditional, Assignment, Comma, Entered}
use Rattle.js_tree.specs.Plain.{Stmt, Directive, Block, VariableDeclaration, Empty, Expression, If, DoWhile, While, For, ForIn, ForOf, Continue, Break, Return, Switch, Labelled, Throw, TryCatch, TryFinally, TryCatchFinally, Debugger, FunctionDeclaration, EnteredStmt}
use Rattle.js_tree.specs.Plain.{Property, Shorthand, KeyValue, Method}
use Rattle.js_tree.specs.Plain.{PropertyKey, NameKey, StringKey, NumberKey, ComputedKey}
use Rattle.js_tree.specs.Plain.{ConciseBody, ExpressionBody, BlockBody}
use Rattle.js_tree.specs.Plain.{ForInit, NoInit, InitDeclaration, InitExpression}
use Rattle.js_tree.specs.Plain.{ForTarget, TargetDeclaration, TargetExpression}
use Rattle.js_tree.specs.Plain.{TemplatePart, MakeTemplatePart}
use Rattle.js_tree.specs.Plain.{Function, MakeFunction}
use Rattle.js_tree.specs.Plain.{FunctionBody, MakeFunctionBody, EnteredBody}
use Rattle.js_tree.specs.Plain.{Param, MakeParam}
use Rattle.js_tree.specs.Plain.{Declarator, MakeDeclarator}
use Rattle.js_tree.specs.Plain.{Case, MakeCase, EnteredCase}
use Rattle.js_tree.specs.Plain.{Catch, MakeCatch}
use Rattle.js_tree.specs.Plain.{MaybeExpr, none_expr, some_expr}
use Rattle.js_tree.specs.Plain.{MaybeStmt, none_stmt, some_stmt, entered_none}
use Rattle.js_tree.specs.Plain.{Exprs, no_expr, more_expr}
use Rattle.js_tree.specs.Plain.{TemplateParts, no_template_part, more_template_part}
use Rattle.js_tree.specs.Plain.{Properties, no_property, more_property}
use Rattle.js_tree.specs.Plain.{Params, no_param, more_param}
use Rattle.js_tree.specs.Plain.{Stmts, no_stmt, more_stmt}
use Rattle.js_tree.specs.Plain.{Declarators, no_declarator, more_declarator}
use Rattle.js_tree.specs.Plain.{Cases, no_case, more_case}
use Rattle.js_tree.specs.Plain.{File, MakeFile}
use Rattle.js_tree.specs.Same.{bare_identifier, bare_identifier_if, bare_expr, bare_stmt, bare_property, bare_property_key, bare_concise_body, bare_for_init, bare_for_target, bare_template_part, bare_function, bare_function_body, bare_param, bare_declarator, bare_case, bare_catch, bare_pattern, bare_pattern_if, bare_expr_if, bare_stmt_if, bare_template_parts, bare_properties, bare_params, bare_exprs, bare_stmts, bare_declarators, bare_cases, bare_file}
use Rattle.js_tree.specs.Linked.{Unmarked, Numbers, Linked, Marks, Uncounted, made, two, three, four, after_code, enter_leaf, operand, Chain, Alone, Operand, enter_concise_body, labelled, link_expr, link_stmt, link_property, link_property_key, link_concise_body, link_for_init, link_for_target, link_template_part, link_function, link_function_body, link_param, link_declarator, link_case, link_catch, link_expr_if, link_stmt_if, link_exprs, link_template_parts, link_properties, link_params, link_stmts, link_declarators, link_cases, link_file}

-- a form of equal parts

one : {A T : Type 0} (f : A → T) {a b : Linked A} → a ≡ b → made f a ≡ made f b
one f h = ap (made f) h

both : {A B T : Type 0} (f : A → B → T) {a a' : Linked A} {g g' : Numbers → Linked B} → a ≡ a' → ((k : Numbers) → g k ≡ g' k) → two f a g ≡ two f a' g'
both f {a' = a'} {g = g} h n = ap (λ x. two f x g) h ∙ ap (made (f a'.tree)) (n a'.next)

all_three : {A B C T : Type 0} (f : A → B → C → T) {a a' : Linked A} {g g' : Numbers → Linked B} {h h' : Numbers → Linked C} →
    a ≡ a' → ((k : Numbers) → g k ≡ g' k) → ((k : Numbers) → h k ≡ h' k) → three f a g h ≡ three f a' g' h'
all_three f {a' = a'} {g = g} {h = h} p q r = ap (λ x. three f x g h) p ∙ both (f a'.tree) (q a'.next) r

all_four : {A B C D T : Type 0} (f : A → B → C → D → T) {a a' : Linked A} {g g' : Numbers → Linked B} {h h' : Numbers → Linked C} {i i' : Numbers → Linked D} →
    a ≡ a' → ((k : Numbers) → g k ≡ g' k) → ((k : Numbers) → h k ≡ h' k) → ((k : Numbers) → i k ≡ i' k) → four f a g h i ≡ four f a' g' h' i'
all_four f {a' = a'} {g = g} {h = h} {i = i} p q r s = ap (λ x. four f x g h i) p ∙ all_three (f a'.tree) (q a'.next) r s

-- what is no leaf, a label, and an arrow function's body, where nothing is counted

leaf_is : (path : ℕ) (e : Expr) → enter_leaf Uncounted path e ≡ e
leaf_is path (Logical loc operator e f) = refl
leaf_is path (Parenthesized loc e) = refl
leaf_is path _ = refl

operand_is : (chain : Chain) (a : Linked Expr) → operand Unmarked chain a ≡ a
operand_is Alone a = refl
operand_is (Operand b path) a = ap (λ (e : Expr). record { tree = e; next = a.next }) (leaf_is path a.tree)

operand_same : (b c : Chain) (a : Linked Expr) {a' : Linked Expr} → made bare_expr a ≡ a' → made bare_expr (operand Unmarked b a) ≡ operand Unmarked c a'
operand_same b c a {a' = a'} h = ap (made bare_expr) (operand_is b a) ∙ h ∙ sym (operand_is c a')

labelled_bare : (loc : Option Loc) (name : Identifier) (x : Stmt) → bare_stmt (labelled loc name x) ≡ labelled None (bare_identifier name) (bare_stmt x)
labelled_bare loc name (EnteredStmt mark x) = ap (EnteredStmt mark) (labelled_bare loc name x)
labelled_bare loc name _ = refl

concise_bare : (x : ConciseBody) → bare_concise_body (enter_concise_body Uncounted x) ≡ enter_concise_body Uncounted (bare_concise_body x)
concise_bare (ExpressionBody e) = refl
concise_bare (BlockBody body) = refl

mutual
  same_expr : (t : Expr) (b c : Chain) (k : Numbers) → made bare_expr (link_expr Unmarked b t k) ≡ link_expr Unmarked c (bare_expr t) k
  same_expr (IdentifierReference loc text) b c k = refl
  same_expr (This loc) b c k = refl
  same_expr (NullLiteral loc) b c k = refl
  same_expr (BooleanLiteral loc value) b c k = refl
  same_expr (NumericLiteral loc text) b c k = refl
  same_expr (StringLiteral loc spelled) b c k = refl
  same_expr (ArrayLiteral loc es) b c k = one (ArrayLiteral None) (same_exprs es k)
  same_expr (ObjectLiteral loc properties) b c k = one (ObjectLiteral None) (same_properties properties k)
  same_expr (FunctionExpression loc name function) b c k = one (FunctionExpression None (bare_identifier_if name)) (same_function function loc None name (bare_identifier_if name) k)
  same_expr (ArrowFunction loc number params body) b c k =
      let p = link_params Unmarked params (after_code k) in
      let x = link_concise_body Unmarked body p.next in
      ap (λ y. record { tree = ArrowFunction None k.code (bare_params p.tree) y; next = x.next }) (concise_bare x.tree)
      ∙ both (λ ps y. ArrowFunction None k.code ps (enter_concise_body Uncounted y)) (same_params params (after_code k)) (same_concise_body body)
  same_expr (RegularExpressionLiteral loc text flags) b c k = refl
  same_expr (TemplateLiteral loc spelled parts) b c k = one (TemplateLiteral None spelled) (same_template_parts parts k)
  same_expr (Parenthesized loc e) b c k = ap (made bare_expr) (operand_is b (link_expr Unmarked b e k)) ∙ same_expr e b c k
  same_expr (NamedMember loc e text) b c k = one (λ x. NamedMember None x text) (same_expr e Alone Alone k)
  same_expr (ComputedMember loc e f) b c k = both (ComputedMember None) (same_expr e Alone Alone k) (same_expr f Alone Alone)
  same_expr (New loc e es) b c k = both (New None) (same_expr e Alone Alone k) (same_exprs es)
  same_expr (Call loc e es) b c k = both (Call None) (same_expr e Alone Alone k) (same_exprs es)
  same_expr (PostfixUpdate loc operator e) b c k = one (PostfixUpdate None operator) (same_expr e Alone Alone k)
  same_expr (PrefixUpdate loc operator e) b c k = one (PrefixUpdate None operator) (same_expr e Alone Alone k)
  same_expr (Unary loc operator e) b c k = one (Unary None operator) (same_expr e Alone Alone k)
  same_expr (Binary loc operator e f) b c k = both (Binary None operator) (same_expr e Alone Alone k) (same_expr f Alone Alone)
  same_expr (Logical loc operator e f) (Operand b path) (Operand c way) k = both (Logical None operator) (operand_same (Operand b path) (Operand c way) (link_expr Unmarked (Operand b path) e k) (same_expr e (Operand b path) (Operand c way) k))
      (λ k. operand_same (Operand b path) (Operand c way) (link_expr Unmarked (Operand b path) f k) (same_expr f (Operand b path) (Operand c way) k))
  same_expr (Logical loc operator e f) (Operand b path) Alone k = both (Logical None operator) (operand_same (Operand b path) (Operand Uncounted 0) (link_expr Unmarked (Operand b path) e k) (same_expr e (Operand b path) (Operand Uncounted 0) k))
      (λ k. operand_same (Operand b path) (Operand Uncounted 0) (link_expr Unmarked (Operand b path) f k) (same_expr f (Operand b path) (Operand Uncounted 0) k))
  same_expr (Logical loc operator e f) Alone (Operand c way) k = both (Logical None operator) (operand_same (Operand Uncounted 0) (Operand c way) (link_expr Unmarked (Operand Uncounted 0) e k) (same_expr e (Operand Uncounted 0) (Operand c way) k))
      (λ k. operand_same (Operand Uncounted 0) (Operand c way) (link_expr Unmarked (Operand Uncounted 0) f k) (same_expr f (Operand Uncounted 0) (Operand c way) k))
  same_expr (Logical loc operator e f) Alone Alone k = both (Logical None operator) (operand_same (Operand Uncounted 0) (Operand Uncounted 0) (link_expr Unmarked (Operand Uncounted 0) e k) (same_expr e (Operand Uncounted 0) (Operand Uncounted 0) k))
      (λ k. operand_same (Operand Uncounted 0) (Operand Uncounted 0) (link_expr Unmarked (Operand Uncounted 0) f k) (same_expr f (Operand Uncounted 0) (Operand Uncounted 0) k))
  same_expr (Conditional loc e f g) b c k = all_three (Conditional None) (same_expr e Alone Alone k) (same_expr f Alone Alone) (same_expr g Alone Alone)
  same_expr (Assignment loc operator e f) b c k = both (Assignment None operator) (same_expr e Alone Alone k) (same_expr f Alone Alone)
  same_expr (Comma loc e f) b c k = both (Comma None) (same_expr e Alone Alone k) (same_expr f Alone Alone)
  same_expr (Entered mark e) b c k = same_expr e b c k

  same_stmt : (t : Stmt) (k : Numbers) → made bare_stmt (link_stmt Unmarked t k) ≡ link_stmt Unmarked (bare_stmt t) k
  same_stmt (Directive loc spelled) k = refl
  same_stmt (Block loc xs) k = one (Block None) (same_stmts xs k)
  same_stmt (VariableDeclaration loc kind declarators) k = one (VariableDeclaration None kind) (same_declarators declarators k)
  same_stmt (Empty loc) k = refl
  same_stmt (Expression loc e) k = one (Expression None) (same_expr e Alone Alone k)
  same_stmt (If loc e x y) k = all_three (If None) (same_expr e Alone Alone k) (same_stmt x) (same_stmt_if y)
  same_stmt (DoWhile loc x e) k = both (DoWhile None) (same_stmt x k) (same_expr e Alone Alone)
  same_stmt (While loc e x) k = both (While None) (same_expr e Alone Alone k) (same_stmt x)
  same_stmt (For loc init e f x) k = all_four (For None) (same_for_init init k) (same_expr_if e) (same_expr_if f) (same_stmt x)
  same_stmt (ForIn loc target e x) k = all_three (ForIn None) (same_for_target target k) (same_expr e Alone Alone) (same_stmt x)
  same_stmt (ForOf loc target e x) k = all_three (ForOf None) (same_for_target target k) (same_expr e Alone Alone) (same_stmt x)
  same_stmt (Continue loc name) k = refl
  same_stmt (Break loc name) k = refl
  same_stmt (Return loc e) k = one (Return None) (same_expr_if e k)
  same_stmt (Switch loc e cases) k = both (Switch None) (same_expr e Alone Alone k) (same_cases cases Uncounted Uncounted 0 0)
  same_stmt (Labelled loc name x) k =
      let a = link_stmt Unmarked x k in
      ap (λ y. record { tree = y; next = a.next }) (labelled_bare loc name a.tree) ∙ one (labelled None (bare_identifier name)) (same_stmt x k)
  same_stmt (Throw loc e) k = one (Throw None) (same_expr e Alone Alone k)
  same_stmt (TryCatch loc xs catch) k = both (TryCatch None) (same_stmts xs k) (same_catch catch)
  same_stmt (TryFinally loc xs ys) k = both (TryFinally None) (same_stmts xs k) (same_stmts ys)
  same_stmt (TryCatchFinally loc xs catch ys) k = all_three (TryCatchFinally None) (same_stmts xs k) (same_catch catch) (same_stmts ys)
  same_stmt (Debugger loc) k = refl
  same_stmt (FunctionDeclaration loc name function) k = one (FunctionDeclaration None (bare_identifier name)) (same_function function loc None (Some name) (Some (bare_identifier name)) k)
  same_stmt (EnteredStmt mark x) k = same_stmt x k

  same_property : (t : Property) (k : Numbers) → made bare_property (link_property Unmarked t k) ≡ link_property Unmarked (bare_property t) k
  same_property (Shorthand loc text) k = refl
  same_property (KeyValue loc key e) k = both (KeyValue None) (same_property_key key k) (same_expr e Alone Alone)
  same_property (Method loc key (MakeFunction number params body)) k = all_three (λ x ps y. Method None x (MakeFunction k.code ps y)) (same_property_key key (after_code k)) (same_params params) (same_function_body body)

  same_property_key : (t : PropertyKey) (k : Numbers) → made bare_property_key (link_property_key Unmarked t k) ≡ link_property_key Unmarked (bare_property_key t) k
  same_property_key (NameKey text) k = refl
  same_property_key (StringKey spelled) k = refl
  same_property_key (NumberKey text) k = refl
  same_property_key (ComputedKey e) k = one ComputedKey (same_expr e Alone Alone k)

  same_concise_body : (t : ConciseBody) (k : Numbers) → made bare_concise_body (link_concise_body Unmarked t k) ≡ link_concise_body Unmarked (bare_concise_body t) k
  same_concise_body (ExpressionBody e) k = one ExpressionBody (same_expr e Alone Alone k)
  same_concise_body (BlockBody body) k = one BlockBody (same_function_body body k)

  same_for_init : (t : ForInit) (k : Numbers) → made bare_for_init (link_for_init Unmarked t k) ≡ link_for_init Unmarked (bare_for_init t) k
  same_for_init NoInit k = refl
  same_for_init (InitDeclaration kind declarators) k = one (InitDeclaration kind) (same_declarators declarators k)
  same_for_init (InitExpression e) k = one InitExpression (same_expr e Alone Alone k)

  same_for_target : (t : ForTarget) (k : Numbers) → made bare_for_target (link_for_target Unmarked t k) ≡ link_for_target Unmarked (bare_for_target t) k
  same_for_target (TargetDeclaration kind pattern) k = refl
  same_for_target (TargetExpression e) k = one TargetExpression (same_expr e Alone Alone k)

  same_template_part : (t : TemplatePart) (k : Numbers) → made bare_template_part (link_template_part Unmarked t k) ≡ link_template_part Unmarked (bare_template_part t) k
  same_template_part (MakeTemplatePart e spelled) k = one (λ x. MakeTemplatePart x spelled) (same_expr e Alone Alone k)

  same_function : (t : Function) (loc place : Option Loc) (name other : Option Identifier) (k : Numbers) → made bare_function (link_function Unmarked loc name t k) ≡ link_function Unmarked place other (bare_function t) k
  same_function (MakeFunction number params body) loc place name other k = both (MakeFunction k.code) (same_params params (after_code k)) (same_function_body body)

  same_function_body : (t : FunctionBody) (k : Numbers) → made bare_function_body (link_function_body Unmarked t k) ≡ link_function_body Unmarked (bare_function_body t) k
  same_function_body (MakeFunctionBody loc xs) k = one (MakeFunctionBody None) (same_stmts xs k)
  same_function_body (EnteredBody mark body) k = same_function_body body k

  same_param : (t : Param) (k : Numbers) → made bare_param (link_param Unmarked t k) ≡ link_param Unmarked (bare_param t) k
  same_param (MakeParam loc pattern none_expr) k = refl
  same_param (MakeParam loc pattern (some_expr e)) k = one (λ x. MakeParam None (bare_pattern pattern) (some_expr x)) (same_expr e Alone Alone k)

  same_declarator : (t : Declarator) (k : Numbers) → made bare_declarator (link_declarator Unmarked t k) ≡ link_declarator Unmarked (bare_declarator t) k
  same_declarator (MakeDeclarator loc pattern none_expr) k = refl
  same_declarator (MakeDeclarator loc pattern (some_expr e)) k = one (λ x. MakeDeclarator None (bare_pattern pattern) (some_expr x)) (same_expr e Alone Alone k)

  same_case : (t : Case) (k : Numbers) → made bare_case (link_case Unmarked t k) ≡ link_case Unmarked (bare_case t) k
  same_case (MakeCase loc e xs) k = both (MakeCase None) (same_expr_if e k) (same_stmts xs)
  same_case (EnteredCase mark x) k = same_case x k

  same_catch : (t : Catch) (k : Numbers) → made bare_catch (link_catch Unmarked t k) ≡ link_catch Unmarked (bare_catch t) k
  same_catch (MakeCatch pattern xs) k = one (MakeCatch (bare_pattern_if pattern)) (same_stmts xs k)

  same_expr_if : (t : MaybeExpr) (k : Numbers) → made bare_expr_if (link_expr_if Unmarked t k) ≡ link_expr_if Unmarked (bare_expr_if t) k
  same_expr_if none_expr k = refl
  same_expr_if (some_expr e) k = one some_expr (same_expr e Alone Alone k)

  same_stmt_if : (t : MaybeStmt) (k : Numbers) → made bare_stmt_if (link_stmt_if Unmarked t k) ≡ link_stmt_if Unmarked (bare_stmt_if t) k
  same_stmt_if none_stmt k = refl
  same_stmt_if (some_stmt x) k = one some_stmt (same_stmt x k)
  same_stmt_if (entered_none mark) k = refl

  same_exprs : (t : Exprs) (k : Numbers) → made bare_exprs (link_exprs Unmarked t k) ≡ link_exprs Unmarked (bare_exprs t) k
  same_exprs no_expr k = refl
  same_exprs (more_expr x xs) k = both more_expr (same_expr x Alone Alone k) (same_exprs xs)

  same_template_parts : (t : TemplateParts) (k : Numbers) → made bare_template_parts (link_template_parts Unmarked t k) ≡ link_template_parts Unmarked (bare_template_parts t) k
  same_template_parts no_template_part k = refl
  same_template_parts (more_template_part x xs) k = both more_template_part (same_template_part x k) (same_template_parts xs)

  same_properties : (t : Properties) (k : Numbers) → made bare_properties (link_properties Unmarked t k) ≡ link_properties Unmarked (bare_properties t) k
  same_properties no_property k = refl
  same_properties (more_property x xs) k = both more_property (same_property x k) (same_properties xs)

  same_params : (t : Params) (k : Numbers) → made bare_params (link_params Unmarked t k) ≡ link_params Unmarked (bare_params t) k
  same_params no_param k = refl
  same_params (more_param x xs) k = both more_param (same_param x k) (same_params xs)

  same_stmts : (t : Stmts) (k : Numbers) → made bare_stmts (link_stmts Unmarked t k) ≡ link_stmts Unmarked (bare_stmts t) k
  same_stmts no_stmt k = refl
  same_stmts (more_stmt x xs) k = both more_stmt (same_stmt x k) (same_stmts xs)

  same_declarators : (t : Declarators) (k : Numbers) → made bare_declarators (link_declarators Unmarked t k) ≡ link_declarators Unmarked (bare_declarators t) k
  same_declarators no_declarator k = refl
  same_declarators (more_declarator x xs) k = both more_declarator (same_declarator x k) (same_declarators xs)

  same_cases : (t : Cases) (b c : Marks) (i j : ℕ) (k : Numbers) → made bare_cases (link_cases Unmarked b i t k) ≡ link_cases Unmarked c j (bare_cases t) k
  same_cases no_case b c i j k = refl
  same_cases (more_case x xs) b c i j k = both more_case (same_case x k) (same_cases xs b c i j)

-- a file, whose comments are no hints where it isn't counted
pub file_same : (t : File) (k : Numbers) → made bare_file (link_file Unmarked t k) ≡ link_file Unmarked (bare_file t) k
file_same (MakeFile body comments) k = one (λ xs. MakeFile xs []) (same_stmts body k)
