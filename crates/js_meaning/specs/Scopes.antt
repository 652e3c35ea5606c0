-- What a scope declares (ECMA-262, 8.2), and how it is made (9.2.11, 10.2.11, 14.2.3, 14.7.4.2).
use Rattle.std.specs.Prelude.{ℕ, suc, Bool, true, false, ◌||◌, List, [], ◌∷◌, ◌++◌, map, Option, Some, None, option_and_then, if◌then◌else◌}
use Rattle.std.specs.Str.{bytes_eq}
use Rattle.js_terms.specs.declared.operators.VariableKind.{VariableKind}
use Rattle.js_terms.specs.declared.operators.VariableKind.TheVariants as variable
use Rattle.js_tree.specs.Plain.{Stmt, VariableDeclaration, FunctionDeclaration, EnteredStmt, Stmts, no_stmt, more_stmt, Declarators, no_declarator, more_declarator, MakeDeclarator, Pattern, BindingIdentifier}
use Rattle.js_tree.specs.Plain.{ForInit, NoInit, InitDeclaration, InitExpression, ForTarget, TargetDeclaration, TargetExpression, Cases, no_case, more_case, Case, MakeCase, EnteredCase, Params, no_param, more_param, MakeParam, none_expr, some_expr, FunctionBody, MakeFunctionBody, EnteredBody, ConciseBody, ExpressionBody, BlockBody, MakeFunction}
use Rattle.js_tree.specs.Codes.{Code, Ordinary, OfMethod, Arrow, number_of, is_constructor}
use Rattle.js_value.specs.declared.value.Value.{Value}
use Rattle.js_value.specs.State.{Binding, Heap}
use Rattle.js_value.specs.Objects.{next_object}
use Rattle.js_value.specs.Environments.{next_environment, new_environment, lookup, value_of, declare_all, assign_name}
use Rattle.js_value.specs.Realm.{object, undefined}
use Rattle.js_value.specs.Functions.{name_units}
pub use Rattle.js_value.specs.Functions.{Shape, with_constructor, closed}
use Rattle.js_meaning.specs.VarNames.{var_stmts}

-- Names

abbrev pub stands_in : List ℕ → List (List ℕ) → Bool
stands_in name [] = false
stands_in name (x ∷ xs) = bytes_eq name x || stands_in name xs

-- each name once, where it is not there before
abbrev pub once : List (List ℕ) → List (List ℕ) → List (List ℕ)
once before [] = []
once before (name ∷ names) = if stands_in name before then once before names else name ∷ once (name ∷ before) names

-- 8.2.1
abbrev pub bound : Pattern → List ℕ
bound (BindingIdentifier loc name) = name

abbrev pub bound_names : Declarators → List (List ℕ)
bound_names no_declarator = []
bound_names (more_declarator (MakeDeclarator loc pattern e) ds) = bound pattern ∷ bound_names ds

-- a name that may be assigned to, and one that is not initialized yet
abbrev pub variable_of : Value → List ℕ → Binding
variable_of v name = record { name = name; value = Some v; constant = false }

abbrev pub uninitialized : Bool → List ℕ → Binding
uninitialized constant name = record { name = name; value = None; constant = constant }

-- what a declaration declares in its scope
abbrev pub lexical_names : VariableKind → List (List ℕ) → List Binding
lexical_names variable.Var names = []
lexical_names variable.Let names = map (uninitialized false) names
lexical_names variable.Const names = map (uninitialized true) names

-- Functions

abbrev pub param_names : Params → List (List ℕ)
param_names no_param = []
param_names (more_param (MakeParam loc pattern e) ps) = bound pattern ∷ param_names ps

-- 15.1.5: how many parameters stand before the first with a default
abbrev pub expected_arguments : Params → ℕ
expected_arguments no_param = 0
expected_arguments (more_param (MakeParam loc pattern none_expr) ps) = suc (expected_arguments ps)
expected_arguments (more_param (MakeParam loc pattern (some_expr e)) ps) = 0

-- 15.1.2
abbrev pub has_defaults : Params → Bool
has_defaults no_param = false
has_defaults (more_param (MakeParam loc pattern none_expr) ps) = has_defaults ps
has_defaults (more_param (MakeParam loc pattern (some_expr e)) ps) = true

abbrev pub params_of : Code → Params
params_of (Ordinary (MakeFunction number params body)) = params
params_of (OfMethod (MakeFunction number params body)) = params
params_of (Arrow number params body) = params

abbrev pub shape_of : Code → Shape
shape_of code = record { number = number_of code; length = expected_arguments (params_of code); constructs = is_constructor code }

abbrev pub body_stmts : FunctionBody → Stmts
body_stmts (MakeFunctionBody loc xs) = xs
body_stmts (EnteredBody mark body) = body_stmts body

abbrev pub concise_stmts : ConciseBody → Stmts
concise_stmts (ExpressionBody e) = no_stmt
concise_stmts (BlockBody body) = body_stmts body

-- What is declared

-- a function that stands in a list of statements, and its name
pub record Hoisted : Type 0 where
  pub name : List ℕ
  pub shape : Shape

-- the names that are variables from the start on; those of `let` and `const` (8.2.4), not initialized yet; and the functions, whose
-- names are variables
pub record Scope : Type 0 where
  pub variables : List (List ℕ)
  pub lexical : List Binding
  pub functions : List Hoisted

abbrev pub lexical_stmt : Stmt → List Binding
lexical_stmt (VariableDeclaration loc kind ds) = lexical_names kind (bound_names ds)
lexical_stmt (EnteredStmt mark x) = lexical_stmt x
lexical_stmt _ = []

abbrev pub lexical_stmts : Stmts → List Binding
lexical_stmts no_stmt = []
lexical_stmts (more_stmt x xs) = lexical_stmt x ++ lexical_stmts xs

abbrev pub function_stmt : Stmt → List Hoisted
function_stmt (FunctionDeclaration loc name function) = record { name = name.name; shape = shape_of (Ordinary function) } ∷ []
function_stmt (EnteredStmt mark x) = function_stmt x
function_stmt _ = []

abbrev pub function_stmts : Stmts → List Hoisted
function_stmts no_stmt = []
function_stmts (more_stmt x xs) = function_stmt x ++ function_stmts xs

abbrev pub names_of : List Hoisted → List (List ℕ)
names_of functions = map (λ f. f.name) functions

-- a block (14.2.3)
abbrev pub block_scope : Stmts → Scope
block_scope xs = record { variables = names_of (function_stmts xs); lexical = lexical_stmts xs; functions = function_stmts xs }

-- the body of a function, or a file (10.2.11, 9 to 15, and 34)
abbrev pub body_scope : Stmts → Scope
body_scope xs = record (block_scope xs) { variables = var_stmts xs ++ names_of (function_stmts xs) }

abbrev pub lexical_scope : List Binding → Scope
lexical_scope names = record { variables = []; lexical = names; functions = [] }

-- the first part of a `for` (14.7.4.2)
abbrev pub init_scope : ForInit → Scope
init_scope NoInit = lexical_scope []
init_scope (InitDeclaration kind ds) = lexical_scope (lexical_names kind (bound_names ds))
init_scope (InitExpression e) = lexical_scope []

-- whether its names are fresh in each turn (14.7.4.2)
abbrev pub is_let : VariableKind → Bool
is_let variable.Let = true
is_let _ = false

abbrev pub is_fresh : ForInit → Bool
is_fresh NoInit = false
is_fresh (InitDeclaration kind no_declarator) = false
is_fresh (InitDeclaration kind (more_declarator d ds)) = is_let kind
is_fresh (InitExpression e) = false

-- the target of a `for` with `in` or `of` (14.7.5.6)
abbrev pub target_scope : ForTarget → Scope
target_scope (TargetDeclaration kind pattern) = lexical_scope (lexical_names kind (bound pattern ∷ []))
target_scope (TargetExpression e) = lexical_scope []

-- the statements of the clauses of a `switch`, which are one scope (14.12)
abbrev pub case_stmts : Case → Stmts
case_stmts (MakeCase loc e xs) = xs
case_stmts (EnteredCase mark x) = case_stmts x

abbrev pub append_stmts : Stmts → Stmts → Stmts
append_stmts no_stmt ys = ys
append_stmts (more_stmt x xs) ys = more_stmt x (append_stmts xs ys)

abbrev pub cases_stmts : Cases → Stmts
cases_stmts no_case = no_stmt
cases_stmts (more_case x xs) = append_stmts (case_stmts x) (cases_stmts xs)

-- Scopes

-- functions are made in the order of the text, and their names take them
abbrev pub hoisted : List Hoisted → ℕ → Heap → Heap
hoisted [] e h = h
hoisted (f ∷ fs) e h = hoisted fs e (assign_name e f.name (object (next_object h)) (closed f.shape (name_units f.name) e h))

-- an environment of these names
abbrev pub scope_made : List Binding → ℕ → Heap → Heap
scope_made names env h = declare_all (next_environment h) names (new_environment (Some env) h)

-- and of functions (14.2.3)
abbrev pub block_made : List Binding → List Hoisted → ℕ → Heap → Heap
block_made names functions env h = hoisted functions (next_environment h) (scope_made names env h)

-- that of a call: `this`, but in an arrow function, and the parameters, not initialized yet (10.2.11, 21)
abbrev pub call_made : List Binding → List (List ℕ) → ℕ → Heap → Heap
call_made this params env h = scope_made (this ++ map (uninitialized false) params) env h

-- 10.2.11, 27 to 36: where no parameter has a default, the names of the body stand beside the parameters
abbrev pub body_made : List (List ℕ) → Scope → ℕ → Heap → Heap
body_made params scope e h =
    hoisted scope.functions e (declare_all e (map (variable_of undefined) (once params scope.variables) ++ scope.lexical) h)

-- where they stand apart, one that is a parameter's begins with its value (10.2.11, 28.f)
abbrev pub value_or : Value → Option Value → Value
value_or v None = v
value_or v (Some w) = w

abbrev pub first_value : List (List ℕ) → ℕ → Heap → List ℕ → Value
first_value params e h name =
    if stands_in name params then value_or undefined (option_and_then (value_of h) (lookup h e name)) else undefined

-- 10.2.11, 28 to 36: else they stand in an environment of their own
abbrev pub apart_made : List (List ℕ) → Scope → ℕ → Heap → Heap
apart_made params scope e h = block_made
    (map (λ name. variable_of (first_value params e h name) name) (once [] scope.variables) ++ scope.lexical) scope.functions e h
