-- What a scope declares, and how it is made, is the same without places and parentheses.
use Rattle.std.proofs.Common.{◌≡◌, ℕ, suc, true, false, List, [], ◌∷◌, ◌++◌, refl, sym, ap, ◌∙◌}
use Rattle.std.proofs.lemmas.List.{map-append}
use Rattle.js_tree.specs.Plain as P
use Rattle.js_tree.specs.Plain.{Expr, ObjectLiteral, Parenthesized, Entered, none_expr, some_expr}
use Rattle.js_tree.specs.Plain.{Properties, no_property, more_property, Property, Shorthand, KeyValue, Method, NameKey, StringKey, NumberKey, ComputedKey}
use Rattle.js_tree.specs.Plain.{Stmt, Block, VariableDeclaration, Expression, If, DoWhile, While, For, ForIn, ForOf, Switch, Labelled, TryCatch, TryFinally, TryCatchFinally, FunctionDeclaration, EnteredStmt, Stmts, no_stmt, more_stmt, MaybeStmt, none_stmt, some_stmt, entered_none}
use Rattle.js_tree.specs.Plain.{MakeDeclarator, Declarators, no_declarator, more_declarator, ForInit, NoInit, InitDeclaration, InitExpression, ForTarget, TargetDeclaration, TargetExpression, Cases, no_case, more_case, Case, MakeCase, EnteredCase, Catch, MakeCatch, BindingIdentifier, Pattern}
use Rattle.js_tree.specs.Plain.{FunctionBody, MakeFunctionBody, EnteredBody, ConciseBody, ExpressionBody, BlockBody, MakeFunction, Params, no_param, more_param, MakeParam, MakeFile}
use Rattle.js_tree.specs.Same.{bare_function_body, bare_concise_body, bare_params, bare_property, bare_properties, bare_expr, bare_stmt, bare_stmts, bare_stmt_if, bare_declarators, bare_for_init, bare_for_target, bare_pattern, bare_case, bare_cases, bare_catch, bare_file}
use Rattle.js_tree.specs.Codes.{Code, Ordinary, OfMethod, Arrow}
use Rattle.js_value.specs.State.{Binding, Heap}
use Rattle.js_value.specs.declared.built_in.Place.TheVariants.{ArrayPrototype}
use Rattle.js_value.specs.Objects.{next_object, define, freeze}
use Rattle.js_value.specs.Realm.{object, hidden, number_of, global_environment, realm}
use Rattle.js_meaning.specs.VarNames.{declared_names, var_stmts}
use Rattle.js_scopes.specs.declared.binding.Binding.{Binding as Binding'}
use Rattle.js_scopes.specs.declared.binding.Binding.TheVariants as binding
use Rattle.js_scopes.specs.Declarations as scopes
use Rattle.js_terms.specs.declared.operators.VariableKind.{VariableKind}
use Rattle.js_terms.specs.declared.operators.VariableKind.TheVariants as variable
use Rattle.js_value.specs.Functions.{name_units}
use Rattle.js_meaning.specs.Scopes.{Hoisted, Scope, lexical_names, lexical_stmt, lexical_stmts, function_stmt, function_stmts, names_of, block_scope, body_scope, lexical_scope, bound_names, init_scope, target_scope, is_fresh, append_stmts, case_stmts, cases_stmts, param_names, expected_arguments, has_defaults, body_stmts, concise_stmts, shape_of, closed}
use Rattle.js_meaning.specs.Prelude.{property_made, properties_made, literal_made, prelude_stmt, prelude_stmts, prelude_made, opening}
use Rattle.js_meaning.specs.Program.{Sources}
use Rattle.js_alike.specs.Alike.{bare_code, bare}

-- The names that `var` declares: where they stand is not told

abbrev Named : List scopes.Declared → List scopes.Declared → Type 0
Named a b = declared_names a ≡ declared_names b

named_both : (a b c d : List scopes.Declared) → Named a b → Named c d → Named (a ++ c) (b ++ d)
named_both a b c d p q = map-append (λ (x : scopes.Declared). x.name) a c ∙ ap (λ x. x ++ declared_names c) p ∙ ap (λ x. declared_names b ++ x) q ∙ sym (map-append (λ (x : scopes.Declared). x.name) b d)

bound_named : (how : Binding') (pattern : Pattern) → Named (scopes.bound how (bare_pattern pattern)) (scopes.bound how pattern)
bound_named how (BindingIdentifier loc name) = refl

declarators_named : (how : Binding') (ds : Declarators) → Named (scopes.declarators how (bare_declarators ds)) (scopes.declarators how ds)
declarators_named how no_declarator = refl
declarators_named how (more_declarator (MakeDeclarator loc pattern e) ds) =
    named_both (scopes.bound how (bare_pattern pattern)) (scopes.bound how pattern) (scopes.declarators how (bare_declarators ds)) (scopes.declarators how ds)
    (bound_named how pattern) (declarators_named how ds)

alone_named : (kind : VariableKind) (ds : Declarators) → Named (scopes.var_alone kind (bare_declarators ds)) (scopes.var_alone kind ds)
alone_named variable.Var ds = declarators_named binding.Var ds
alone_named variable.Let ds = refl
alone_named variable.Const ds = refl

init_named : (x : ForInit) → Named (scopes.var_of_init (bare_for_init x)) (scopes.var_of_init x)
init_named NoInit = refl
init_named (InitDeclaration kind ds) = alone_named kind ds
init_named (InitExpression e) = refl

target_named : (x : ForTarget) → Named (scopes.var_of_target (bare_for_target x)) (scopes.var_of_target x)
target_named (TargetDeclaration variable.Var pattern) = bound_named binding.Var pattern
target_named (TargetDeclaration variable.Let pattern) = refl
target_named (TargetDeclaration variable.Const pattern) = refl
target_named (TargetExpression e) = refl

mutual
  vars_named : (x : Stmt) → Named (scopes.var_stmt (bare_stmt x)) (scopes.var_stmt x)
  vars_named (Block loc xs) = each_named xs
  vars_named (VariableDeclaration loc kind ds) = alone_named kind ds
  vars_named (If loc test holds fails) = named_both (scopes.var_stmt (bare_stmt holds)) (scopes.var_stmt holds) (scopes.var_stmt_if (bare_stmt_if fails)) (scopes.var_stmt_if fails) (vars_named holds) (vars_named_if fails)
  vars_named (DoWhile loc body test) = vars_named body
  vars_named (While loc test body) = vars_named body
  vars_named (For loc init test update body) = named_both (scopes.var_of_init (bare_for_init init)) (scopes.var_of_init init) (scopes.var_stmt (bare_stmt body)) (scopes.var_stmt body) (init_named init) (vars_named body)
  vars_named (ForIn loc target e body) = named_both (scopes.var_of_target (bare_for_target target)) (scopes.var_of_target target) (scopes.var_stmt (bare_stmt body)) (scopes.var_stmt body) (target_named target) (vars_named body)
  vars_named (ForOf loc target e body) = named_both (scopes.var_of_target (bare_for_target target)) (scopes.var_of_target target) (scopes.var_stmt (bare_stmt body)) (scopes.var_stmt body) (target_named target) (vars_named body)
  vars_named (Switch loc e cases) = cases_named cases
  vars_named (Labelled loc label body) = vars_named body
  vars_named (TryCatch loc block catch) = named_both (scopes.var_stmts (bare_stmts block)) (scopes.var_stmts block) (scopes.var_catch (bare_catch catch)) (scopes.var_catch catch) (each_named block) (catch_named catch)
  vars_named (TryFinally loc block finally) = named_both (scopes.var_stmts (bare_stmts block)) (scopes.var_stmts block) (scopes.var_stmts (bare_stmts finally)) (scopes.var_stmts finally) (each_named block) (each_named finally)
  vars_named (TryCatchFinally loc block catch finally) =
      named_both (scopes.var_stmts (bare_stmts block) ++ scopes.var_catch (bare_catch catch)) (scopes.var_stmts block ++ scopes.var_catch catch) (scopes.var_stmts (bare_stmts finally)) (scopes.var_stmts finally)
      (named_both (scopes.var_stmts (bare_stmts block)) (scopes.var_stmts block) (scopes.var_catch (bare_catch catch)) (scopes.var_catch catch) (each_named block) (catch_named catch)) (each_named finally)
  vars_named (EnteredStmt mark x) = vars_named x
  vars_named _ = refl

  each_named : (xs : Stmts) → Named (scopes.var_stmts (bare_stmts xs)) (scopes.var_stmts xs)
  each_named no_stmt = refl
  each_named (more_stmt x xs) = named_both (scopes.var_stmt (bare_stmt x)) (scopes.var_stmt x) (scopes.var_stmts (bare_stmts xs)) (scopes.var_stmts xs) (vars_named x) (each_named xs)

  vars_named_if : (x : MaybeStmt) → Named (scopes.var_stmt_if (bare_stmt_if x)) (scopes.var_stmt_if x)
  vars_named_if none_stmt = refl
  vars_named_if (some_stmt x) = vars_named x
  vars_named_if (entered_none mark) = refl

  case_named : (x : Case) → Named (scopes.var_case (bare_case x)) (scopes.var_case x)
  case_named (MakeCase loc test xs) = each_named xs
  case_named (EnteredCase mark x) = case_named x

  cases_named : (xs : Cases) → Named (scopes.var_cases (bare_cases xs)) (scopes.var_cases xs)
  cases_named no_case = refl
  cases_named (more_case x xs) = named_both (scopes.var_case (bare_case x)) (scopes.var_case x) (scopes.var_cases (bare_cases xs)) (scopes.var_cases xs) (case_named x) (cases_named xs)

  catch_named : (x : Catch) → Named (scopes.var_catch (bare_catch x)) (scopes.var_catch x)
  catch_named (MakeCatch pattern xs) = each_named xs

all_vars_same : (xs : Stmts) → var_stmts (bare_stmts xs) ≡ var_stmts xs
all_vars_same xs = each_named xs

-- The names of `let` and `const`

bound_same : (ds : Declarators) → bound_names (bare_declarators ds) ≡ bound_names ds
bound_same no_declarator = refl
bound_same (more_declarator (MakeDeclarator loc (BindingIdentifier place name) e) ds) = ap (λ names. name ∷ names) (bound_same ds)

lexical_one : (x : Stmt) → lexical_stmt (bare_stmt x) ≡ lexical_stmt x
lexical_one (VariableDeclaration loc kind ds) = ap (lexical_names kind) (bound_same ds)
lexical_one (EnteredStmt mark x) = lexical_one x
lexical_one _ = refl

joined : {A : Type 0} {a b c d : List A} → a ≡ b → c ≡ d → a ++ c ≡ b ++ d
joined {b = b} {c = c} p q = ap (λ x. x ++ c) p ∙ ap (λ x. b ++ x) q

lexical_same : (xs : Stmts) → lexical_stmts (bare_stmts xs) ≡ lexical_stmts xs
lexical_same no_stmt = refl
lexical_same (more_stmt x xs) = joined (lexical_one x) (lexical_same xs)

-- Functions

pub params_same : (ps : Params) → param_names (bare_params ps) ≡ param_names ps
params_same no_param = refl
params_same (more_param (MakeParam loc (BindingIdentifier place name) e) ps) = ap (λ names. name ∷ names) (params_same ps)

expected_same : (ps : Params) → expected_arguments (bare_params ps) ≡ expected_arguments ps
expected_same no_param = refl
expected_same (more_param (MakeParam loc pattern none_expr) ps) = ap suc (expected_same ps)
expected_same (more_param (MakeParam loc pattern (some_expr e)) ps) = refl

pub defaults_same : (ps : Params) → has_defaults (bare_params ps) ≡ has_defaults ps
defaults_same no_param = refl
defaults_same (more_param (MakeParam loc pattern none_expr) ps) = defaults_same ps
defaults_same (more_param (MakeParam loc pattern (some_expr e)) ps) = refl

pub shape_same : (code : Code) → shape_of (bare_code code) ≡ shape_of code
shape_same (Ordinary (MakeFunction number params body)) = ap (λ n. record { number = number; length = n; constructs = true }) (expected_same params)
shape_same (OfMethod (MakeFunction number params body)) = ap (λ n. record { number = number; length = n; constructs = false }) (expected_same params)
shape_same (Arrow number params body) = ap (λ n. record { number = number; length = n; constructs = false }) (expected_same params)

body_stmts_same : (body : FunctionBody) → body_stmts (bare_function_body body) ≡ bare_stmts (body_stmts body)
body_stmts_same (MakeFunctionBody loc xs) = refl
body_stmts_same (EnteredBody mark body) = body_stmts_same body

concise_stmts_same : (body : ConciseBody) → concise_stmts (bare_concise_body body) ≡ bare_stmts (concise_stmts body)
concise_stmts_same (ExpressionBody e) = refl
concise_stmts_same (BlockBody body) = body_stmts_same body

-- What is declared

function_one : (x : Stmt) → function_stmt (bare_stmt x) ≡ function_stmt x
function_one (FunctionDeclaration loc name function) = ap (λ shape. record { name = name.name; shape = shape } ∷ []) (shape_same (Ordinary function))
function_one (EnteredStmt mark x) = function_one x
function_one _ = refl

functions_same : (xs : Stmts) → function_stmts (bare_stmts xs) ≡ function_stmts xs
functions_same no_stmt = refl
functions_same (more_stmt x xs) = joined (function_one x) (functions_same xs)

pub block_scope_same : (xs : Stmts) → block_scope (bare_stmts xs) ≡ block_scope xs
block_scope_same xs =
    ap (λ (functions : List Hoisted). record { variables = names_of functions; lexical = lexical_stmts (bare_stmts xs); functions = functions }) (functions_same xs)
    ∙ ap (λ (lexical : List Binding). record { variables = names_of (function_stmts xs); lexical = lexical; functions = function_stmts xs }) (lexical_same xs)

pub body_scope_same : (xs : Stmts) → body_scope (bare_stmts xs) ≡ body_scope xs
body_scope_same xs =
    ap (λ (scope : Scope). record scope { variables = var_stmts (bare_stmts xs) ++ scope.variables }) (block_scope_same xs)
    ∙ ap (λ (names : List (List ℕ)). record (block_scope xs) { variables = names ++ names_of (function_stmts xs) }) (all_vars_same xs)

pub braced_scope_same : (body : FunctionBody) → body_scope (body_stmts (bare_function_body body)) ≡ body_scope (body_stmts body)
braced_scope_same body = ap body_scope (body_stmts_same body) ∙ body_scope_same (body_stmts body)

pub concise_scope_same : (body : ConciseBody) → body_scope (concise_stmts (bare_concise_body body)) ≡ body_scope (concise_stmts body)
concise_scope_same body = ap body_scope (concise_stmts_same body) ∙ body_scope_same (concise_stmts body)

pub init_scope_same : (start : ForInit) → init_scope (bare_for_init start) ≡ init_scope start
init_scope_same NoInit = refl
init_scope_same (InitDeclaration kind ds) = ap (λ names. lexical_scope (lexical_names kind names)) (bound_same ds)
init_scope_same (InitExpression e) = refl

pub fresh_same : (start : ForInit) → is_fresh (bare_for_init start) ≡ is_fresh start
fresh_same NoInit = refl
fresh_same (InitDeclaration kind no_declarator) = refl
fresh_same (InitDeclaration kind (more_declarator d ds)) = refl
fresh_same (InitExpression e) = refl

pub target_scope_same : (target : ForTarget) → target_scope (bare_for_target target) ≡ target_scope target
target_scope_same (TargetDeclaration kind (BindingIdentifier loc name)) = refl
target_scope_same (TargetExpression e) = refl

append_same : (xs ys : Stmts) → bare_stmts (append_stmts xs ys) ≡ append_stmts (bare_stmts xs) (bare_stmts ys)
append_same no_stmt ys = refl
append_same (more_stmt x xs) ys = ap (more_stmt (bare_stmt x)) (append_same xs ys)

case_stmts_same : (x : Case) → case_stmts (bare_case x) ≡ bare_stmts (case_stmts x)
case_stmts_same (MakeCase loc e xs) = refl
case_stmts_same (EnteredCase mark x) = case_stmts_same x

cases_stmts_same : (xs : Cases) → cases_stmts (bare_cases xs) ≡ bare_stmts (cases_stmts xs)
cases_stmts_same no_case = refl
cases_stmts_same (more_case x xs) =
    ap (λ ys. append_stmts ys (cases_stmts (bare_cases xs))) (case_stmts_same x)
    ∙ ap (append_stmts (bare_stmts (case_stmts x))) (cases_stmts_same xs)
    ∙ sym (append_same (case_stmts x) (cases_stmts xs))

pub cases_scope_same : (xs : Cases) → block_scope (cases_stmts (bare_cases xs)) ≡ block_scope (cases_stmts xs)
cases_scope_same xs = ap block_scope (cases_stmts_same xs) ∙ block_scope_same (cases_stmts xs)

-- The prelude

property_same : (x : Property) (h : Heap) → property_made (bare_property x) h ≡ property_made x h
property_same (Shorthand loc name) h = refl
property_same (KeyValue loc key e) h = refl
property_same (Method loc (NameKey name) function) h =
    ap (λ shape. define (number_of ArrayPrototype) (hidden (name_units name) (object (next_object h))) (freeze (next_object h) (closed shape (name_units name) global_environment h)))
    (shape_same (OfMethod function))
property_same (Method loc (StringKey spelled) function) h = refl
property_same (Method loc (NumberKey spelling) function) h = refl
property_same (Method loc (ComputedKey e) function) h = refl

properties_same : (xs : Properties) (h : Heap) → properties_made (bare_properties xs) h ≡ properties_made xs h
properties_same no_property h = refl
properties_same (more_property x xs) h = ap (λ i. properties_made (bare_properties xs) i) (property_same x h) ∙ properties_same xs (property_made x h)

literal_same : (e : Expr) (h : Heap) → literal_made (bare_expr e) h ≡ literal_made e h
literal_same (ObjectLiteral loc properties) h = properties_same properties h
literal_same (Parenthesized loc e) h = literal_same e h
literal_same (Entered mark e) h = literal_same e h
literal_same _ h = refl

stmt_same : (x : Stmt) (h : Heap) → prelude_stmt (bare_stmt x) h ≡ prelude_stmt x h
stmt_same (Expression loc e) h = literal_same e h
stmt_same (EnteredStmt mark x) h = stmt_same x h
stmt_same _ h = refl

stmts_same : (xs : Stmts) (h : Heap) → prelude_stmts (bare_stmts xs) h ≡ prelude_stmts xs h
stmts_same no_stmt h = refl
stmts_same (more_stmt x xs) h = ap (λ i. prelude_stmts (bare_stmts xs) i) (stmt_same x h) ∙ stmts_same xs (prelude_stmt x h)

prelude_same : (tree : P.File) (h : Heap) → prelude_made (bare_file tree) h ≡ prelude_made tree h
prelude_same (MakeFile xs comments) h = stmts_same xs h

pub opening_same : (p : Sources) → opening (bare p) ≡ opening p
opening_same p = ap (λ h. record realm { heap = h }) (prelude_same p.prelude realm.heap)
