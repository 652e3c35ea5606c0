-- The functions of a tree without places and parentheses are those of the tree, without theirs.
use Rattle.std.proofs.Common.{◌≡◌, ℕ, Bool, false, List, [], ◌∷◌, ◌++◌, map, Option, Some, None, refl, sym, ap, ◌∙◌}
use Rattle.std.specs.Prelude.{slice_get, option_map, not, ◌+◌, length, nat_lt, if◌then◌else◌}
use Rattle.std.specs.List.{position_or_len}
use Rattle.std.proofs.lemmas.List.{length-map}
use Rattle.std.specs.Str.{bytes_eq}
use Rattle.std.proofs.lemmas.List.{map-append}
use Rattle.std.proofs.lemmas.Option.{slice_get-map}
use Rattle.js_tree.specs.Plain as P
use Rattle.js_tree.specs.Plain.{Expr, IdentifierReference, This, NullLiteral, BooleanLiteral, NumericLiteral, StringLiteral, ArrayLiteral, ObjectLiteral, FunctionExpression, ArrowFunction, RegularExpressionLiteral, TemplateLiteral, Parenthesized, NamedMember, ComputedMember, New, PostfixUpdate, PrefixUpdate, Unary, Binary, Logical, Conditional, Assignment, Comma, Entered, Exprs, no_expr, more_expr, MaybeExpr, none_expr, some_expr}
use Rattle.js_tree.specs.Plain.{TemplateParts, no_template_part, more_template_part, TemplatePart, MakeTemplatePart, Properties, no_property, more_property, Property, Shorthand, KeyValue, Method, PropertyKey, NameKey, StringKey, NumberKey, ComputedKey}
use Rattle.js_tree.specs.Plain.{Stmt, Directive, Block, VariableDeclaration, Empty, Expression, If, DoWhile, While, For, ForIn, ForOf, Switch, Labelled, TryCatch, TryFinally, TryCatchFinally, Debugger, FunctionDeclaration, EnteredStmt, Stmts, no_stmt, more_stmt, MaybeStmt, none_stmt, some_stmt, entered_none}
use Rattle.js_tree.specs.Plain.{Declarator, MakeDeclarator, Declarators, no_declarator, more_declarator, ForInit, NoInit, InitDeclaration, InitExpression, ForTarget, TargetDeclaration, TargetExpression, Cases, no_case, more_case, Case, MakeCase, EnteredCase, Catch, MakeCatch}
use Rattle.js_tree.specs.Plain.{FunctionBody, MakeFunctionBody, EnteredBody, ConciseBody, ExpressionBody, BlockBody, Function, MakeFunction, Params, no_param, more_param, Param, MakeParam, MakeFile}
use Rattle.js_tree.specs.Same.{bare_expr, bare_exprs, bare_expr_if, bare_property, bare_properties, bare_property_key, bare_template_part, bare_template_parts, bare_concise_body, bare_function, bare_function_body, bare_param, bare_params, bare_stmt, bare_stmts, bare_stmt_if, bare_declarator, bare_declarators, bare_for_init, bare_for_target, bare_case, bare_cases, bare_catch, bare_file}
use Rattle.js_tree.specs.Codes.{Code, Ordinary, OfMethod, Arrow, is_constructor, functions_file, functions_case, functions_cases, functions_catch, functions_concise_body, functions_declarator, functions_declarators, functions_expr, functions_expr_if, functions_exprs, functions_for_init, functions_for_target, functions_function, functions_function_body, functions_param, functions_params, functions_properties, functions_property, functions_property_key, functions_stmt, functions_stmt_if, functions_stmts, functions_template_part, functions_template_parts}
use Rattle.js_alike.specs.Alike.{bare_code, bare_source, bare}
use Rattle.js_meaning.specs.Program.{Source, Sources, functions_of, functions, function_at, constructs, file_at}

abbrev Same : List Code → List Code → Type 0
Same xs ys = xs ≡ map bare_code ys

both : {a c : List Code} (b d : List Code) → Same a b → Same c d → Same (a ++ c) (b ++ d)
both {c = c} b d p q = ap (λ x. x ++ c) p ∙ ap (λ x. map bare_code b ++ x) q ∙ sym (map-append bare_code b d)

one_more : (code : Code) {a : List Code} (b : List Code) → Same a b → Same (bare_code code ∷ a) (code ∷ b)
one_more code b p = ap (λ x. bare_code code ∷ x) p

mutual
  same_expr : (x : Expr) → Same (functions_expr (bare_expr x)) (functions_expr x)
  same_expr (IdentifierReference _ _) = refl
  same_expr (This _) = refl
  same_expr (NullLiteral _) = refl
  same_expr (BooleanLiteral _ _) = refl
  same_expr (NumericLiteral _ _) = refl
  same_expr (StringLiteral _ _) = refl
  same_expr (ArrayLiteral _ es) = same_exprs es
  same_expr (ObjectLiteral _ properties) = same_properties properties
  same_expr (FunctionExpression _ _ function) = same_function function
  same_expr (ArrowFunction _ number params body) = one_more (Arrow number params body) (functions_params params ++ functions_concise_body body) (both (functions_params params) (functions_concise_body body) (same_params params) (same_concise_body body))
  same_expr (RegularExpressionLiteral _ _ _) = refl
  same_expr (TemplateLiteral _ _ parts) = same_template_parts parts
  same_expr (Parenthesized _ e) = same_expr e
  same_expr (NamedMember _ e _) = same_expr e
  same_expr (ComputedMember _ e f) = both (functions_expr e) (functions_expr f) (same_expr e) (same_expr f)
  same_expr (New _ e es) = both (functions_expr e) (functions_exprs es) (same_expr e) (same_exprs es)
  same_expr (P.Call _ e es) = both (functions_expr e) (functions_exprs es) (same_expr e) (same_exprs es)
  same_expr (PostfixUpdate _ _ e) = same_expr e
  same_expr (PrefixUpdate _ _ e) = same_expr e
  same_expr (Unary _ _ e) = same_expr e
  same_expr (Binary _ _ e f) = both (functions_expr e) (functions_expr f) (same_expr e) (same_expr f)
  same_expr (Logical _ _ e f) = both (functions_expr e) (functions_expr f) (same_expr e) (same_expr f)
  same_expr (Conditional _ e f g) = both (functions_expr e ++ functions_expr f) (functions_expr g) (both (functions_expr e) (functions_expr f) (same_expr e) (same_expr f)) (same_expr g)
  same_expr (Assignment _ _ e f) = both (functions_expr e) (functions_expr f) (same_expr e) (same_expr f)
  same_expr (Comma _ e f) = both (functions_expr e) (functions_expr f) (same_expr e) (same_expr f)
  same_expr (Entered _ e) = same_expr e

  same_stmt : (x : Stmt) → Same (functions_stmt (bare_stmt x)) (functions_stmt x)
  same_stmt (Directive _ _) = refl
  same_stmt (Block _ xs) = same_stmts xs
  same_stmt (VariableDeclaration _ _ declarators) = same_declarators declarators
  same_stmt (Empty _) = refl
  same_stmt (Expression _ e) = same_expr e
  same_stmt (If _ e x y) = both (functions_expr e ++ functions_stmt x) (functions_stmt_if y) (both (functions_expr e) (functions_stmt x) (same_expr e) (same_stmt x)) (same_stmt_if y)
  same_stmt (DoWhile _ x e) = both (functions_stmt x) (functions_expr e) (same_stmt x) (same_expr e)
  same_stmt (While _ e x) = both (functions_expr e) (functions_stmt x) (same_expr e) (same_stmt x)
  same_stmt (For _ init e f x) = both (functions_for_init init ++ functions_expr_if e ++ functions_expr_if f) (functions_stmt x) (both (functions_for_init init ++ functions_expr_if e) (functions_expr_if f) (both (functions_for_init init) (functions_expr_if e) (same_for_init init) (same_expr_if e)) (same_expr_if f)) (same_stmt x)
  same_stmt (ForIn _ target e x) = both (functions_for_target target ++ functions_expr e) (functions_stmt x) (both (functions_for_target target) (functions_expr e) (same_for_target target) (same_expr e)) (same_stmt x)
  same_stmt (ForOf _ target e x) = both (functions_for_target target ++ functions_expr e) (functions_stmt x) (both (functions_for_target target) (functions_expr e) (same_for_target target) (same_expr e)) (same_stmt x)
  same_stmt (P.Continue _ _) = refl
  same_stmt (P.Break _ _) = refl
  same_stmt (P.Return _ e) = same_expr_if e
  same_stmt (Switch _ e cases) = both (functions_expr e) (functions_cases cases) (same_expr e) (same_cases cases)
  same_stmt (Labelled _ _ x) = same_stmt x
  same_stmt (P.Throw _ e) = same_expr e
  same_stmt (TryCatch _ xs catch) = both (functions_stmts xs) (functions_catch catch) (same_stmts xs) (same_catch catch)
  same_stmt (TryFinally _ xs ys) = both (functions_stmts xs) (functions_stmts ys) (same_stmts xs) (same_stmts ys)
  same_stmt (TryCatchFinally _ xs catch ys) = both (functions_stmts xs ++ functions_catch catch) (functions_stmts ys) (both (functions_stmts xs) (functions_catch catch) (same_stmts xs) (same_catch catch)) (same_stmts ys)
  same_stmt (Debugger _) = refl
  same_stmt (FunctionDeclaration _ _ function) = same_function function
  same_stmt (EnteredStmt _ x) = same_stmt x

  same_property : (x : Property) → Same (functions_property (bare_property x)) (functions_property x)
  same_property (Shorthand _ _) = refl
  same_property (KeyValue _ key e) = both (functions_property_key key) (functions_expr e) (same_property_key key) (same_expr e)
  same_property (Method _ key (MakeFunction number params body)) = one_more (OfMethod (MakeFunction number params body)) (functions_property_key key ++ functions_params params ++ functions_function_body body) (both (functions_property_key key ++ functions_params params) (functions_function_body body) (both (functions_property_key key) (functions_params params) (same_property_key key) (same_params params)) (same_function_body body))

  same_property_key : (x : PropertyKey) → Same (functions_property_key (bare_property_key x)) (functions_property_key x)
  same_property_key (NameKey _) = refl
  same_property_key (StringKey _) = refl
  same_property_key (NumberKey _) = refl
  same_property_key (ComputedKey e) = same_expr e

  same_concise_body : (x : ConciseBody) → Same (functions_concise_body (bare_concise_body x)) (functions_concise_body x)
  same_concise_body (ExpressionBody e) = same_expr e
  same_concise_body (BlockBody body) = same_function_body body

  same_for_init : (x : ForInit) → Same (functions_for_init (bare_for_init x)) (functions_for_init x)
  same_for_init NoInit = refl
  same_for_init (InitDeclaration _ declarators) = same_declarators declarators
  same_for_init (InitExpression e) = same_expr e

  same_for_target : (x : ForTarget) → Same (functions_for_target (bare_for_target x)) (functions_for_target x)
  same_for_target (TargetDeclaration _ _) = refl
  same_for_target (TargetExpression e) = same_expr e

  same_template_part : (x : TemplatePart) → Same (functions_template_part (bare_template_part x)) (functions_template_part x)
  same_template_part (MakeTemplatePart e _) = same_expr e

  same_function : (x : Function) → Same (functions_function (bare_function x)) (functions_function x)
  same_function (MakeFunction number params body) = one_more (Ordinary (MakeFunction number params body)) (functions_params params ++ functions_function_body body) (both (functions_params params) (functions_function_body body) (same_params params) (same_function_body body))

  same_function_body : (x : FunctionBody) → Same (functions_function_body (bare_function_body x)) (functions_function_body x)
  same_function_body (MakeFunctionBody _ xs) = same_stmts xs
  same_function_body (EnteredBody _ body) = same_function_body body

  same_param : (x : Param) → Same (functions_param (bare_param x)) (functions_param x)
  same_param (MakeParam _ _ e) = same_expr_if e

  same_declarator : (x : Declarator) → Same (functions_declarator (bare_declarator x)) (functions_declarator x)
  same_declarator (MakeDeclarator _ _ e) = same_expr_if e

  same_case : (x : Case) → Same (functions_case (bare_case x)) (functions_case x)
  same_case (MakeCase _ e xs) = both (functions_expr_if e) (functions_stmts xs) (same_expr_if e) (same_stmts xs)
  same_case (EnteredCase _ x) = same_case x

  same_catch : (x : Catch) → Same (functions_catch (bare_catch x)) (functions_catch x)
  same_catch (MakeCatch _ xs) = same_stmts xs

  same_expr_if : (x : MaybeExpr) → Same (functions_expr_if (bare_expr_if x)) (functions_expr_if x)
  same_expr_if none_expr = refl
  same_expr_if (some_expr e) = same_expr e

  same_stmt_if : (x : MaybeStmt) → Same (functions_stmt_if (bare_stmt_if x)) (functions_stmt_if x)
  same_stmt_if none_stmt = refl
  same_stmt_if (some_stmt x) = same_stmt x
  same_stmt_if (entered_none _) = refl

  same_exprs : (x : Exprs) → Same (functions_exprs (bare_exprs x)) (functions_exprs x)
  same_exprs no_expr = refl
  same_exprs (more_expr x xs) = both (functions_expr x) (functions_exprs xs) (same_expr x) (same_exprs xs)

  same_template_parts : (x : TemplateParts) → Same (functions_template_parts (bare_template_parts x)) (functions_template_parts x)
  same_template_parts no_template_part = refl
  same_template_parts (more_template_part x xs) = both (functions_template_part x) (functions_template_parts xs) (same_template_part x) (same_template_parts xs)

  same_properties : (x : Properties) → Same (functions_properties (bare_properties x)) (functions_properties x)
  same_properties no_property = refl
  same_properties (more_property x xs) = both (functions_property x) (functions_properties xs) (same_property x) (same_properties xs)

  same_params : (x : Params) → Same (functions_params (bare_params x)) (functions_params x)
  same_params no_param = refl
  same_params (more_param x xs) = both (functions_param x) (functions_params xs) (same_param x) (same_params xs)

  same_stmts : (x : Stmts) → Same (functions_stmts (bare_stmts x)) (functions_stmts x)
  same_stmts no_stmt = refl
  same_stmts (more_stmt x xs) = both (functions_stmt x) (functions_stmts xs) (same_stmt x) (same_stmts xs)

  same_declarators : (x : Declarators) → Same (functions_declarators (bare_declarators x)) (functions_declarators x)
  same_declarators no_declarator = refl
  same_declarators (more_declarator x xs) = both (functions_declarator x) (functions_declarators xs) (same_declarator x) (same_declarators xs)

  same_cases : (x : Cases) → Same (functions_cases (bare_cases x)) (functions_cases x)
  same_cases no_case = refl
  same_cases (more_case x xs) = both (functions_case x) (functions_cases xs) (same_case x) (same_cases xs)

file_same : (tree : P.File) → Same (functions_file (bare_file tree)) (functions_file tree)
file_same (MakeFile body comments) = same_stmts body

files_same : (sources : List Source) → Same (functions_of (map bare_source sources)) (functions_of sources)
files_same [] = refl
files_same (source ∷ sources) = both (functions_file source.tree) (functions_of sources) (file_same source.tree) (files_same sources)

module _ (p : Sources) where
  all_same : Same (functions (bare p)) (functions p)
  all_same = both (functions_file p.prelude) (functions_of p.files) (file_same p.prelude) (files_same p.files)

  pub code_same : (n : ℕ) → function_at (bare p) n ≡ option_map bare_code (function_at p n)
  code_same n = ap (λ codes. slice_get codes n) all_same ∙ slice_get-map bare_code (functions p) n

  is_constructor_same : (code : Code) → is_constructor (bare_code code) ≡ is_constructor code
  is_constructor_same (Ordinary function) = refl
  is_constructor_same (OfMethod function) = refl
  is_constructor_same (Arrow number params body) = refl

  abbrev by : Option Code → Bool
  by o = elim o [ None ↦ false | Some code ↦ is_constructor code ]

  constructs_by : (o : Option Code) → by (option_map bare_code o) ≡ by o
  constructs_by None = refl
  constructs_by (Some code) = is_constructor_same code

  pub constructs_same : (n : ℕ) → constructs (bare p) n ≡ constructs p n
  constructs_same n = ap by (code_same n) ∙ constructs_by (function_at p n)

  place_in : (path : List ℕ) (sources : List Source) →
      position_or_len (λ source. bytes_eq source.path path) (map bare_source sources) ≡ position_or_len (λ source. bytes_eq source.path path) sources
  place_in path [] = refl
  place_in path (source ∷ sources) = ap (λ n. if not (bytes_eq source.path path) then 1 + n else 0) (place_in path sources)

  pub path_same : (path : List ℕ) → file_at (bare p) path ≡ file_at p path
  path_same path =
      ap (λ n. if nat_lt n (length (map bare_source p.files)) then Some n else None) (place_in path p.files)
      ∙ ap (λ l. if nat_lt (position_or_len (λ (source : Source). bytes_eq source.path path) p.files) l
      then Some (position_or_len (λ (source : Source). bytes_eq source.path path) p.files) else None) (length-map p.files bare_source)
