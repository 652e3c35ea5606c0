-- What a scope declares, and how it is made, is the same without marks.
use Rattle.std.proofs.Common.{◌≡◌, ℕ, suc, true, false, List, [], ◌∷◌, ◌++◌, refl, sym, ap, ◌∙◌}
use Rattle.js_tree.specs.Plain as P
use Rattle.js_tree.specs.Plain.{Expr, ObjectLiteral, Parenthesized, Entered, none_expr, some_expr}
use Rattle.js_tree.specs.Plain.{Properties, no_property, more_property, Property, Shorthand, KeyValue, Method, NameKey, StringKey, NumberKey, ComputedKey}
use Rattle.js_tree.specs.Plain.{Stmt, Block, VariableDeclaration, Expression, If, DoWhile, While, For, ForIn, ForOf, Switch, Labelled, TryCatch, TryFinally, TryCatchFinally, FunctionDeclaration, EnteredStmt, Stmts, no_stmt, more_stmt, MaybeStmt, none_stmt, some_stmt, entered_none}
use Rattle.js_tree.specs.Plain.{MakeDeclarator, Declarators, no_declarator, more_declarator, ForInit, NoInit, InitDeclaration, InitExpression, ForTarget, TargetDeclaration, TargetExpression, Cases, no_case, more_case, Case, MakeCase, EnteredCase, Catch, MakeCatch, BindingIdentifier}
use Rattle.js_tree.specs.Plain.{FunctionBody, MakeFunctionBody, EnteredBody, ConciseBody, ExpressionBody, BlockBody, MakeFunction, Params, no_param, more_param, MakeParam, MakeFile}
use Rattle.js_tree.specs.Unmarked.{unmarked_function_body, unmarked_concise_body, unmarked_params, unmarked_property, unmarked_properties, unmarked_expr, unmarked_stmt, unmarked_stmts, unmarked_stmt_if, unmarked_declarators, unmarked_for_init, unmarked_for_target, unmarked_case, unmarked_cases, unmarked_catch, unmarked_file}
use Rattle.js_tree.specs.Codes.{Code, Ordinary, OfMethod, Arrow}
use Rattle.js_value.specs.State.{Binding, Heap}
use Rattle.js_value.specs.declared.built_in.Place.TheVariants.{ArrayPrototype}
use Rattle.js_value.specs.Objects.{next_object, define, freeze}
use Rattle.js_value.specs.Realm.{object, hidden, number_of, global_environment, realm}
use Rattle.js_meaning.specs.VarNames.{declared_names, var_stmts}
use Rattle.js_scopes.specs.declared.binding.Binding.{Binding as Binding'}
use Rattle.js_scopes.specs.declared.binding.Binding.TheVariants as binding
use Rattle.js_scopes.specs.Declarations as scopes
use Rattle.js_terms.specs.declared.operators.VariableKind.{VariableKind}
use Rattle.js_terms.specs.declared.operators.VariableKind.TheVariants as variable
use Rattle.js_value.specs.Functions.{name_units}
use Rattle.js_meaning.specs.Scopes.{Hoisted, Scope, lexical_names, lexical_stmt, lexical_stmts, function_stmt, function_stmts, names_of, block_scope, body_scope, lexical_scope, bound_names, init_scope, target_scope, is_fresh, append_stmts, case_stmts, cases_stmts, param_names, expected_arguments, has_defaults, body_stmts, concise_stmts, shape_of, closed}
use Rattle.js_meaning.specs.Prelude.{property_made, properties_made, literal_made, prelude_stmt, prelude_stmts, prelude_made, opening}
use Rattle.js_meaning.specs.Program.{Sources, unmarked}
use Rattle.js_meaning.proofs.SameCodes.{unmarked_code}

-- The names that `var` declares: marks declare none

both_same : {a b c d : List scopes.Declared} → a ≡ b → c ≡ d → a ++ c ≡ b ++ d
both_same {b = b} {c = c} p q = ap (λ x. x ++ c) p ∙ ap (λ x. b ++ x) q

declarators_same : (how : Binding') (ds : Declarators) → scopes.declarators how (unmarked_declarators ds) ≡ scopes.declarators how ds
declarators_same how no_declarator = refl
declarators_same how (more_declarator (MakeDeclarator loc pattern e) ds) = both_same refl (declarators_same how ds)

alone_same : (kind : VariableKind) (ds : Declarators) → scopes.var_alone kind (unmarked_declarators ds) ≡ scopes.var_alone kind ds
alone_same variable.Var ds = declarators_same binding.Var ds
alone_same variable.Let ds = refl
alone_same variable.Const ds = refl

init_same : (x : ForInit) → scopes.var_of_init (unmarked_for_init x) ≡ scopes.var_of_init x
init_same NoInit = refl
init_same (InitDeclaration kind ds) = alone_same kind ds
init_same (InitExpression e) = refl

target_same : (x : ForTarget) → scopes.var_of_target (unmarked_for_target x) ≡ scopes.var_of_target x
target_same (TargetDeclaration kind pattern) = refl
target_same (TargetExpression e) = refl

mutual
  vars_same : (x : Stmt) → scopes.var_stmt (unmarked_stmt x) ≡ scopes.var_stmt x
  vars_same (Block loc xs) = each_var_same xs
  vars_same (VariableDeclaration loc kind ds) = alone_same kind ds
  vars_same (If loc test holds fails) = both_same (vars_same holds) (vars_same_if fails)
  vars_same (DoWhile loc body test) = vars_same body
  vars_same (While loc test body) = vars_same body
  vars_same (For loc init test update body) = both_same (init_same init) (vars_same body)
  vars_same (ForIn loc target e body) = both_same (target_same target) (vars_same body)
  vars_same (ForOf loc target e body) = both_same (target_same target) (vars_same body)
  vars_same (Switch loc e cases) = vars_same_cases cases
  vars_same (Labelled loc label body) = vars_same body
  vars_same (TryCatch loc block catch) = both_same (each_var_same block) (vars_same_catch catch)
  vars_same (TryFinally loc block finally) = both_same (each_var_same block) (each_var_same finally)
  vars_same (TryCatchFinally loc block catch finally) = both_same (both_same (each_var_same block) (vars_same_catch catch)) (each_var_same finally)
  vars_same (EnteredStmt mark x) = vars_same x
  vars_same _ = refl

  each_var_same : (xs : Stmts) → scopes.var_stmts (unmarked_stmts xs) ≡ scopes.var_stmts xs
  each_var_same no_stmt = refl
  each_var_same (more_stmt x xs) = both_same (vars_same x) (each_var_same xs)

  vars_same_if : (x : MaybeStmt) → scopes.var_stmt_if (unmarked_stmt_if x) ≡ scopes.var_stmt_if x
  vars_same_if none_stmt = refl
  vars_same_if (some_stmt x) = vars_same x
  vars_same_if (entered_none mark) = refl

  vars_same_case : (x : Case) → scopes.var_case (unmarked_case x) ≡ scopes.var_case x
  vars_same_case (MakeCase loc test xs) = each_var_same xs
  vars_same_case (EnteredCase mark x) = vars_same_case x

  vars_same_cases : (xs : Cases) → scopes.var_cases (unmarked_cases xs) ≡ scopes.var_cases xs
  vars_same_cases no_case = refl
  vars_same_cases (more_case x xs) = both_same (vars_same_case x) (vars_same_cases xs)

  vars_same_catch : (x : Catch) → scopes.var_catch (unmarked_catch x) ≡ scopes.var_catch x
  vars_same_catch (MakeCatch pattern xs) = each_var_same xs

all_vars_same : (xs : Stmts) → var_stmts (unmarked_stmts xs) ≡ var_stmts xs
all_vars_same xs = ap declared_names (each_var_same xs)

-- The names of `let` and `const`

bound_same : (ds : Declarators) → bound_names (unmarked_declarators ds) ≡ bound_names ds
bound_same no_declarator = refl
bound_same (more_declarator (MakeDeclarator loc (BindingIdentifier place name) e) ds) = ap (λ names. name ∷ names) (bound_same ds)

lexical_one : (x : Stmt) → lexical_stmt (unmarked_stmt x) ≡ lexical_stmt x
lexical_one (VariableDeclaration loc kind ds) = ap (lexical_names kind) (bound_same ds)
lexical_one (EnteredStmt mark x) = lexical_one x
lexical_one _ = refl

joined : {A : Type 0} {a b c d : List A} → a ≡ b → c ≡ d → a ++ c ≡ b ++ d
joined {b = b} {c = c} p q = ap (λ x. x ++ c) p ∙ ap (λ x. b ++ x) q

lexical_same : (xs : Stmts) → lexical_stmts (unmarked_stmts xs) ≡ lexical_stmts xs
lexical_same no_stmt = refl
lexical_same (more_stmt x xs) = joined (lexical_one x) (lexical_same xs)

-- Functions

pub params_same : (ps : Params) → param_names (unmarked_params ps) ≡ param_names ps
params_same no_param = refl
params_same (more_param (MakeParam loc (BindingIdentifier place name) e) ps) = ap (λ names. name ∷ names) (params_same ps)

expected_same : (ps : Params) → expected_arguments (unmarked_params ps) ≡ expected_arguments ps
expected_same no_param = refl
expected_same (more_param (MakeParam loc pattern none_expr) ps) = ap suc (expected_same ps)
expected_same (more_param (MakeParam loc pattern (some_expr e)) ps) = refl

pub defaults_same : (ps : Params) → has_defaults (unmarked_params ps) ≡ has_defaults ps
defaults_same no_param = refl
defaults_same (more_param (MakeParam loc pattern none_expr) ps) = defaults_same ps
defaults_same (more_param (MakeParam loc pattern (some_expr e)) ps) = refl

pub shape_same : (code : Code) → shape_of (unmarked_code code) ≡ shape_of code
shape_same (Ordinary (MakeFunction number params body)) = ap (λ n. record { number = number; length = n; constructs = true }) (expected_same params)
shape_same (OfMethod (MakeFunction number params body)) = ap (λ n. record { number = number; length = n; constructs = false }) (expected_same params)
shape_same (Arrow number params body) = ap (λ n. record { number = number; length = n; constructs = false }) (expected_same params)

body_stmts_same : (body : FunctionBody) → body_stmts (unmarked_function_body body) ≡ unmarked_stmts (body_stmts body)
body_stmts_same (MakeFunctionBody loc xs) = refl
body_stmts_same (EnteredBody mark body) = body_stmts_same body

concise_stmts_same : (body : ConciseBody) → concise_stmts (unmarked_concise_body body) ≡ unmarked_stmts (concise_stmts body)
concise_stmts_same (ExpressionBody e) = refl
concise_stmts_same (BlockBody body) = body_stmts_same body

-- What is declared

function_one : (x : Stmt) → function_stmt (unmarked_stmt x) ≡ function_stmt x
function_one (FunctionDeclaration loc name function) = ap (λ shape. record { name = name.name; shape = shape } ∷ []) (shape_same (Ordinary function))
function_one (EnteredStmt mark x) = function_one x
function_one _ = refl

functions_same : (xs : Stmts) → function_stmts (unmarked_stmts xs) ≡ function_stmts xs
functions_same no_stmt = refl
functions_same (more_stmt x xs) = joined (function_one x) (functions_same xs)

pub block_scope_same : (xs : Stmts) → block_scope (unmarked_stmts xs) ≡ block_scope xs
block_scope_same xs =
    ap (λ (functions : List Hoisted). record { variables = names_of functions; lexical = lexical_stmts (unmarked_stmts xs); functions = functions }) (functions_same xs)
    ∙ ap (λ (lexical : List Binding). record { variables = names_of (function_stmts xs); lexical = lexical; functions = function_stmts xs }) (lexical_same xs)

pub body_scope_same : (xs : Stmts) → body_scope (unmarked_stmts xs) ≡ body_scope xs
body_scope_same xs =
    ap (λ (scope : Scope). record scope { variables = var_stmts (unmarked_stmts xs) ++ scope.variables }) (block_scope_same xs)
    ∙ ap (λ (names : List (List ℕ)). record (block_scope xs) { variables = names ++ names_of (function_stmts xs) }) (all_vars_same xs)

pub braced_scope_same : (body : FunctionBody) → body_scope (body_stmts (unmarked_function_body body)) ≡ body_scope (body_stmts body)
braced_scope_same body = ap body_scope (body_stmts_same body) ∙ body_scope_same (body_stmts body)

pub concise_scope_same : (body : ConciseBody) → body_scope (concise_stmts (unmarked_concise_body body)) ≡ body_scope (concise_stmts body)
concise_scope_same body = ap body_scope (concise_stmts_same body) ∙ body_scope_same (concise_stmts body)

pub init_scope_same : (start : ForInit) → init_scope (unmarked_for_init start) ≡ init_scope start
init_scope_same NoInit = refl
init_scope_same (InitDeclaration kind ds) = ap (λ names. lexical_scope (lexical_names kind names)) (bound_same ds)
init_scope_same (InitExpression e) = refl

pub fresh_same : (start : ForInit) → is_fresh (unmarked_for_init start) ≡ is_fresh start
fresh_same NoInit = refl
fresh_same (InitDeclaration kind no_declarator) = refl
fresh_same (InitDeclaration kind (more_declarator d ds)) = refl
fresh_same (InitExpression e) = refl

pub target_scope_same : (target : ForTarget) → target_scope (unmarked_for_target target) ≡ target_scope target
target_scope_same (TargetDeclaration kind pattern) = refl
target_scope_same (TargetExpression e) = refl

append_same : (xs ys : Stmts) → unmarked_stmts (append_stmts xs ys) ≡ append_stmts (unmarked_stmts xs) (unmarked_stmts ys)
append_same no_stmt ys = refl
append_same (more_stmt x xs) ys = ap (more_stmt (unmarked_stmt x)) (append_same xs ys)

case_stmts_same : (x : Case) → case_stmts (unmarked_case x) ≡ unmarked_stmts (case_stmts x)
case_stmts_same (MakeCase loc e xs) = refl
case_stmts_same (EnteredCase mark x) = case_stmts_same x

cases_stmts_same : (xs : Cases) → cases_stmts (unmarked_cases xs) ≡ unmarked_stmts (cases_stmts xs)
cases_stmts_same no_case = refl
cases_stmts_same (more_case x xs) =
    ap (λ ys. append_stmts ys (cases_stmts (unmarked_cases xs))) (case_stmts_same x)
    ∙ ap (append_stmts (unmarked_stmts (case_stmts x))) (cases_stmts_same xs)
    ∙ sym (append_same (case_stmts x) (cases_stmts xs))

pub cases_scope_same : (xs : Cases) → block_scope (cases_stmts (unmarked_cases xs)) ≡ block_scope (cases_stmts xs)
cases_scope_same xs = ap block_scope (cases_stmts_same xs) ∙ block_scope_same (cases_stmts xs)

-- The prelude

property_same : (x : Property) (h : Heap) → property_made (unmarked_property x) h ≡ property_made x h
property_same (Shorthand loc name) h = refl
property_same (KeyValue loc key e) h = refl
property_same (Method loc (NameKey name) function) h =
    ap (λ shape. define (number_of ArrayPrototype) (hidden (name_units name) (object (next_object h))) (freeze (next_object h) (closed shape (name_units name) global_environment h)))
    (shape_same (OfMethod function))
property_same (Method loc (StringKey spelled) function) h = refl
property_same (Method loc (NumberKey spelling) function) h = refl
property_same (Method loc (ComputedKey e) function) h = refl

properties_same : (xs : Properties) (h : Heap) → properties_made (unmarked_properties xs) h ≡ properties_made xs h
properties_same no_property h = refl
properties_same (more_property x xs) h = ap (λ i. properties_made (unmarked_properties xs) i) (property_same x h) ∙ properties_same xs (property_made x h)

literal_same : (e : Expr) (h : Heap) → literal_made (unmarked_expr e) h ≡ literal_made e h
literal_same (ObjectLiteral loc properties) h = properties_same properties h
literal_same (Parenthesized loc e) h = literal_same e h
literal_same (Entered mark e) h = literal_same e h
literal_same _ h = refl

stmt_same : (x : Stmt) (h : Heap) → prelude_stmt (unmarked_stmt x) h ≡ prelude_stmt x h
stmt_same (Expression loc e) h = literal_same e h
stmt_same (EnteredStmt mark x) h = stmt_same x h
stmt_same _ h = refl

stmts_same : (xs : Stmts) (h : Heap) → prelude_stmts (unmarked_stmts xs) h ≡ prelude_stmts xs h
stmts_same no_stmt h = refl
stmts_same (more_stmt x xs) h = ap (λ i. prelude_stmts (unmarked_stmts xs) i) (stmt_same x h) ∙ stmts_same xs (prelude_stmt x h)

prelude_same : (tree : P.File) (h : Heap) → prelude_made (unmarked_file tree) h ≡ prelude_made tree h
prelude_same (MakeFile xs comments) h = stmts_same xs h

pub opening_same : (p : Sources) → opening (unmarked p) ≡ opening p
opening_same p = ap (λ h. record realm { heap = h }) (prelude_same p.prelude realm.heap)
