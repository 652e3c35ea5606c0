-- The numbers of functions change no name that is declared.
use Rattle.std.proofs.Common.{◌≡◌, ℕ, suc, List, ◌∷◌, ◌++◌, Option, refl, sym, ap, ◌∙◌, append_assoc}
use Rattle.js_terms.specs.declared.place.Loc.{Loc}
use Rattle.js_terms.specs.declared.words.Identifier.{Identifier}
use Rattle.js_terms.specs.declared.operators.VariableKind.{VariableKind}
use Rattle.js_terms.specs.declared.operators.VariableKind.TheVariants as variable
use Rattle.js_tree.specs.Plain.{Stmt, Block, VariableDeclaration, If, DoWhile, While, For, ForIn, ForOf, Switch, Labelled, TryCatch, TryFinally, TryCatchFinally, EnteredStmt, Stmts, no_stmt, more_stmt, MaybeStmt, none_stmt, some_stmt, entered_none}
use Rattle.js_tree.specs.Plain.{MakeDeclarator, Declarators, no_declarator, more_declarator, none_expr, some_expr, ForInit, NoInit, InitDeclaration, InitExpression, ForTarget, TargetDeclaration, TargetExpression, Case, MakeCase, EnteredCase, Cases, no_case, more_case, Catch, MakeCatch, BindingIdentifier, Params, no_param, more_param, MakeParam}
use Rattle.js_tree.specs.Linked.{Numbers, Unmarked, Uncounted, Alone, labelled, link_expr, link_expr_if, link_stmt, link_stmts, link_stmt_if, link_params, link_declarators, link_for_init, link_for_target, link_case, link_cases, link_catch}
use Rattle.js_scopes.specs.declared.binding.Binding.{Binding}
use Rattle.js_scopes.specs.declared.binding.Binding.TheVariants as binding
use Rattle.js_scopes.specs.Declarations as scopes
use Rattle.js_meaning.specs.VarNames.{declared_names, var_stmts}
use Rattle.js_meaning.specs.Scopes.{append_stmts, bound_names, case_stmts, cases_stmts, expected_arguments, function_stmt, function_stmts, has_defaults, is_fresh, lexical_names, lexical_stmt, lexical_stmts, param_names}

joined : {A : Type 0} {a b c d : List A} → a ≡ b → c ≡ d → a ++ c ≡ b ++ d
joined {b = b} {c = c} p q = ap (λ x. x ++ c) p ∙ ap (λ x. b ++ x) q

-- Declarators

declarators_same : (how : Binding) (ds : Declarators) (k : Numbers) → scopes.declarators how (link_declarators Unmarked ds k).tree ≡ scopes.declarators how ds
declarators_same how no_declarator k = refl
declarators_same how (more_declarator (MakeDeclarator loc pattern none_expr) ds) k = joined refl (declarators_same how ds k)
declarators_same how (more_declarator (MakeDeclarator loc pattern (some_expr e)) ds) k = joined refl (declarators_same how ds (link_expr Unmarked Alone e k).next)

alone_same : (kind : VariableKind) (ds : Declarators) (k : Numbers) → scopes.var_alone kind (link_declarators Unmarked ds k).tree ≡ scopes.var_alone kind ds
alone_same variable.Var ds k = declarators_same binding.Var ds k
alone_same variable.Let ds k = refl
alone_same variable.Const ds k = refl

pub bound_same : (ds : Declarators) (k : Numbers) → bound_names (link_declarators Unmarked ds k).tree ≡ bound_names ds
bound_same no_declarator k = refl
bound_same (more_declarator (MakeDeclarator loc (BindingIdentifier place name) none_expr) ds) k = ap (λ xs. name ∷ xs) (bound_same ds k)
bound_same (more_declarator (MakeDeclarator loc (BindingIdentifier place name) (some_expr e)) ds) k = ap (λ xs. name ∷ xs) (bound_same ds (link_expr Unmarked Alone e k).next)

pub fresh_same : (kind : VariableKind) (ds : Declarators) (k : Numbers) → is_fresh (InitDeclaration kind (link_declarators Unmarked ds k).tree) ≡ is_fresh (InitDeclaration kind ds)
fresh_same kind no_declarator k = refl
fresh_same kind (more_declarator d ds) k = refl

-- Parameters

pub params_same : (ps : Params) (k : Numbers) → param_names (link_params Unmarked ps k).tree ≡ param_names ps
params_same no_param k = refl
params_same (more_param (MakeParam loc (BindingIdentifier place name) none_expr) ps) k = ap (λ xs. name ∷ xs) (params_same ps k)
params_same (more_param (MakeParam loc (BindingIdentifier place name) (some_expr e)) ps) k = ap (λ xs. name ∷ xs) (params_same ps (link_expr Unmarked Alone e k).next)

pub defaults_same : (ps : Params) (k : Numbers) → has_defaults (link_params Unmarked ps k).tree ≡ has_defaults ps
defaults_same no_param k = refl
defaults_same (more_param (MakeParam loc pattern none_expr) ps) k = defaults_same ps k
defaults_same (more_param (MakeParam loc pattern (some_expr e)) ps) k = refl

pub expected_same : (ps : Params) (k : Numbers) → expected_arguments (link_params Unmarked ps k).tree ≡ expected_arguments ps
expected_same no_param k = refl
expected_same (more_param (MakeParam loc pattern none_expr) ps) k = ap suc (expected_same ps k)
expected_same (more_param (MakeParam loc pattern (some_expr e)) ps) k = refl

-- The names that `var` declares

init_same : (x : ForInit) (k : Numbers) → scopes.var_of_init (link_for_init Unmarked x k).tree ≡ scopes.var_of_init x
init_same NoInit k = refl
init_same (InitDeclaration kind ds) k = alone_same kind ds k
init_same (InitExpression e) k = refl

target_same : (x : ForTarget) (k : Numbers) → scopes.var_of_target (link_for_target Unmarked x k).tree ≡ scopes.var_of_target x
target_same (TargetDeclaration kind pattern) k = refl
target_same (TargetExpression e) k = refl

-- a label declares none
labelled_same : (loc : Option Loc) (name : Identifier) (x : Stmt) → scopes.var_stmt (labelled loc name x) ≡ scopes.var_stmt x
labelled_same loc name (EnteredStmt mark x) = labelled_same loc name x
labelled_same loc name _ = refl

mutual
  vars_same : (x : Stmt) (k : Numbers) → scopes.var_stmt (link_stmt Unmarked x k).tree ≡ scopes.var_stmt x
  vars_same (Block loc xs) k = each_var_same xs k
  vars_same (VariableDeclaration loc kind ds) k = alone_same kind ds k
  vars_same (If loc e x y) k =
      let after = (link_expr Unmarked Alone e k).next in
      joined (vars_same x after) (vars_same_if y (link_stmt Unmarked x after).next)
  vars_same (DoWhile loc x e) k = vars_same x k
  vars_same (While loc e x) k = vars_same x (link_expr Unmarked Alone e k).next
  vars_same (For loc init e f x) k =
      joined (init_same init k) (vars_same x (link_expr_if Unmarked f (link_expr_if Unmarked e (link_for_init Unmarked init k).next).next).next)
  vars_same (ForIn loc target e x) k = joined (target_same target k) (vars_same x (link_expr Unmarked Alone e (link_for_target Unmarked target k).next).next)
  vars_same (ForOf loc target e x) k = joined (target_same target k) (vars_same x (link_expr Unmarked Alone e (link_for_target Unmarked target k).next).next)
  vars_same (Switch loc e cases) k = vars_same_cases cases 0 (link_expr Unmarked Alone e k).next
  vars_same (Labelled loc name x) k = labelled_same loc name (link_stmt Unmarked x k).tree ∙ vars_same x k
  vars_same (TryCatch loc xs catch) k = joined (each_var_same xs k) (vars_same_catch catch (link_stmts Unmarked xs k).next)
  vars_same (TryFinally loc xs ys) k = joined (each_var_same xs k) (each_var_same ys (link_stmts Unmarked xs k).next)
  vars_same (TryCatchFinally loc xs catch ys) k =
      let after = (link_stmts Unmarked xs k).next in
      joined (joined (each_var_same xs k) (vars_same_catch catch after)) (each_var_same ys (link_catch Unmarked catch after).next)
  vars_same (EnteredStmt mark x) k = vars_same x k
  vars_same _ k = refl

  each_var_same : (xs : Stmts) (k : Numbers) → scopes.var_stmts (link_stmts Unmarked xs k).tree ≡ scopes.var_stmts xs
  each_var_same no_stmt k = refl
  each_var_same (more_stmt x xs) k = joined (vars_same x k) (each_var_same xs (link_stmt Unmarked x k).next)

  vars_same_if : (x : MaybeStmt) (k : Numbers) → scopes.var_stmt_if (link_stmt_if Unmarked x k).tree ≡ scopes.var_stmt_if x
  vars_same_if none_stmt k = refl
  vars_same_if (some_stmt x) k = vars_same x k
  vars_same_if (entered_none mark) k = refl

  vars_same_case : (x : Case) (k : Numbers) → scopes.var_case (link_case Unmarked x k).tree ≡ scopes.var_case x
  vars_same_case (MakeCase loc e xs) k = each_var_same xs (link_expr_if Unmarked e k).next
  vars_same_case (EnteredCase mark x) k = vars_same_case x k

  vars_same_cases : (xs : Cases) (path : ℕ) (k : Numbers) → scopes.var_cases (link_cases Unmarked Uncounted path xs k).tree ≡ scopes.var_cases xs
  vars_same_cases no_case path k = refl
  vars_same_cases (more_case x xs) path k = joined (vars_same_case x k) (vars_same_cases xs path (link_case Unmarked x k).next)

  vars_same_catch : (x : Catch) (k : Numbers) → scopes.var_catch (link_catch Unmarked x k).tree ≡ scopes.var_catch x
  vars_same_catch (MakeCatch pattern xs) k = each_var_same xs k

pub var_names_same : (xs : Stmts) (k : Numbers) → var_stmts (link_stmts Unmarked xs k).tree ≡ var_stmts xs
var_names_same xs k = ap declared_names (each_var_same xs k)

-- The names of `let` and `const`

pub labelled_is : (loc : Option Loc) (name : Identifier) (x : Stmt) (k : Numbers) → labelled loc name (link_stmt Unmarked x k).tree ≡ Labelled loc name (link_stmt Unmarked x k).tree
labelled_is loc name (Labelled loc' name' x) k = ap (labelled loc name) (labelled_is loc' name' x k) ∙ sym (ap (Labelled loc name) (labelled_is loc' name' x k))
labelled_is loc name (EnteredStmt mark x) k = labelled_is loc name x k
labelled_is loc name _ k = refl

lexical_one : (x : Stmt) (k : Numbers) → lexical_stmt (link_stmt Unmarked x k).tree ≡ lexical_stmt x
lexical_one (VariableDeclaration loc kind ds) k = ap (lexical_names kind) (bound_same ds k)
lexical_one (Labelled loc name x) k = ap lexical_stmt (labelled_is loc name x k)
lexical_one (EnteredStmt mark x) k = lexical_one x k
lexical_one _ k = refl

pub lexical_same : (xs : Stmts) (k : Numbers) → lexical_stmts (link_stmts Unmarked xs k).tree ≡ lexical_stmts xs
lexical_same no_stmt k = refl
lexical_same (more_stmt x xs) k = joined (lexical_one x k) (lexical_same xs (link_stmt Unmarked x k).next)

pub lexical_append : (xs ys : Stmts) → lexical_stmts (append_stmts xs ys) ≡ lexical_stmts xs ++ lexical_stmts ys
lexical_append no_stmt ys = refl
lexical_append (more_stmt x xs) ys = ap (λ names. lexical_stmt x ++ names) (lexical_append xs ys) ∙ sym (append_assoc (lexical_stmt x) (lexical_stmts xs) (lexical_stmts ys))

pub function_append : (xs ys : Stmts) → function_stmts (append_stmts xs ys) ≡ function_stmts xs ++ function_stmts ys
function_append no_stmt ys = refl
function_append (more_stmt x xs) ys = ap (λ fs. function_stmt x ++ fs) (function_append xs ys) ∙ sym (append_assoc (function_stmt x) (function_stmts xs) (function_stmts ys))

lexical_case_same : (x : Case) (k : Numbers) → lexical_stmts (case_stmts (link_case Unmarked x k).tree) ≡ lexical_stmts (case_stmts x)
lexical_case_same (MakeCase loc e xs) k = lexical_same xs (link_expr_if Unmarked e k).next
lexical_case_same (EnteredCase mark x) k = lexical_case_same x k

pub lexical_cases_same : (xs : Cases) (path : ℕ) (k : Numbers) → lexical_stmts (cases_stmts (link_cases Unmarked Uncounted path xs k).tree) ≡ lexical_stmts (cases_stmts xs)
lexical_cases_same no_case path k = refl
lexical_cases_same (more_case x xs) path k =
    lexical_append (case_stmts (link_case Unmarked x k).tree) _
    ∙ joined (lexical_case_same x k) (lexical_cases_same xs path (link_case Unmarked x k).next)
    ∙ sym (lexical_append (case_stmts x) (cases_stmts xs))
