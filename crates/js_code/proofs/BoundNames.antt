-- Names that a parameter, a declarator or a clause declares, and its functions, go from what is left to the end of what is kept.
use Rattle.std.proofs.Common.{◌≡◌, ℕ, ◌+◌, ◌<◌, Bool, List, [], ◌∷◌, ◌++◌, length, map, drop, get_or, sym, ap, ◌∙◌, append_assoc}
use Rattle.js_tree.specs.Plain.{BindingIdentifier, Case as PlainCase, Cases, MakeDeclarator, MakeParam, more_case, more_declarator, more_param}
use Rattle.js_tree.specs.Tree.{plain_cases, plain_declarators, plain_expr_if, plain_params, plain_pattern, plain_stmts}
use Rattle.js_tree.specs.declared.tree.ConciseBody.TheViews.{out-Case, out-Declarator, out-Param}
use Rattle.js_tree.specs.declared.tree.Case.{Case}
use Rattle.js_tree.specs.declared.tree.Declarator.{Declarator}
use Rattle.js_tree.specs.declared.tree.Param.{Param}
use Rattle.js_tree.specs.declared.tree.Stmt.{Stmt}
use Rattle.js_tree.proofs.Equations.{case_made, declarator_made, param_made}
use Rattle.js_value.specs.State.{Binding}
use Rattle.js_meaning.specs.Scopes.{Hoisted, bound_names, case_stmts, cases_stmts, function_stmts, lexical_stmts, param_names, uninitialized}
use Rattle.js_code.proofs.KindsOfLists.{from_at}
use Rattle.js_code.proofs.SameNames.{function_append, lexical_append}

moved : {A : Type 0} (kept new rest left whole : List A) (x : A) → new ≡ kept ++ x ∷ [] → left ≡ x ∷ rest → kept ++ left ≡ whole → new ++ rest ≡ whole
moved kept new rest left whole x n l h = ap (λ xs. xs ++ rest) n ∙ append_assoc kept (x ∷ []) rest ∙ ap (λ xs. kept ++ xs) (sym l) ∙ h

params_left : (xs : List Param) (i : ℕ) (x : Param) (name : List ℕ) → i < length xs → x ≡ get_or xs i x → plain_pattern (out-Param x).pattern ≡ BindingIdentifier (out-Param x).pattern.loc name →
    param_names (plain_params (drop i xs)) ≡ name ∷ param_names (plain_params (drop (i + 1) xs))
params_left xs i x name l e is =
    ap (λ ys. param_names (plain_params ys)) (from_at xs i x l e)
    ∙ ap (λ p. param_names (more_param p (plain_params (drop (i + 1) xs)))) (param_made x)
    ∙ ap (λ p. param_names (more_param (MakeParam (out-Param x).loc p (plain_expr_if (out-Param x).default)) (plain_params (drop (i + 1) xs)))) is

pub param_goes_on : (names : List (List ℕ)) (xs : List Param) {new whole : List (List ℕ)} {i : ℕ} {x : Param} {name : List ℕ} → i < length xs → x ≡ get_or xs i x →
    plain_pattern (out-Param x).pattern ≡ BindingIdentifier (out-Param x).pattern.loc name → new ≡ names ++ name ∷ [] →
    names ++ param_names (plain_params (drop i xs)) ≡ whole → new ++ param_names (plain_params (drop (i + 1) xs)) ≡ whole
param_goes_on names xs {new = new} {whole = whole} {i = i} {x = x} {name = name} l e is n h = moved names new _ _ whole name n (params_left xs i x name l e is) h

declarators_left : (xs : List Declarator) (i : ℕ) (x : Declarator) (name : List ℕ) → i < length xs → x ≡ get_or xs i x →
    plain_pattern (out-Declarator x).pattern ≡ BindingIdentifier (out-Declarator x).pattern.loc name →
    bound_names (plain_declarators (drop i xs)) ≡ name ∷ bound_names (plain_declarators (drop (i + 1) xs))
declarators_left xs i x name l e is =
    ap (λ ys. bound_names (plain_declarators ys)) (from_at xs i x l e)
    ∙ ap (λ d. bound_names (more_declarator d (plain_declarators (drop (i + 1) xs)))) (declarator_made x)
    ∙ ap (λ p. bound_names (more_declarator (MakeDeclarator (out-Declarator x).loc p (plain_expr_if (out-Declarator x).initializer)) (plain_declarators (drop (i + 1) xs)))) is

pub declarator_goes_on : (names : List Binding) (constant : Bool) (xs : List Declarator) {new whole : List Binding} {i : ℕ} {x : Declarator} {name : List ℕ} → i < length xs → x ≡ get_or xs i x →
    plain_pattern (out-Declarator x).pattern ≡ BindingIdentifier (out-Declarator x).pattern.loc name → new ≡ names ++ uninitialized constant name ∷ [] →
    names ++ map (uninitialized constant) (bound_names (plain_declarators (drop i xs))) ≡ whole → new ++ map (uninitialized constant) (bound_names (plain_declarators (drop (i + 1) xs))) ≡ whole
declarator_goes_on names constant xs {new = new} {whole = whole} {i = i} {x = x} {name = name} l e is n h =
    moved names new _ _ whole (uninitialized constant name) n (ap (map (uninitialized constant)) (declarators_left xs i x name l e is)) h

cases_left : (xs : List Case) (i : ℕ) (x : Case) → i < length xs → x ≡ get_or xs i x →
    lexical_stmts (cases_stmts (plain_cases (drop i xs))) ≡ lexical_stmts (plain_stmts (out-Case x).statements) ++ lexical_stmts (cases_stmts (plain_cases (drop (i + 1) xs)))
cases_left xs i x l e =
    ap (λ ys. lexical_stmts (cases_stmts (plain_cases ys))) (from_at xs i x l e)
    ∙ ap (λ c. lexical_stmts (cases_stmts (more_case c (plain_cases (drop (i + 1) xs))))) (case_made x)
    ∙ lexical_append (plain_stmts (out-Case x).statements) (cases_stmts (plain_cases (drop (i + 1) xs)))

pub case_goes_on : (names : List Binding) (xs : List Case) {new whole : List Binding} {i : ℕ} {x : Case} {stmts : List Stmt} → i < length xs → x ≡ get_or xs i x → stmts ≡ (out-Case x).statements →
    new ≡ names ++ lexical_stmts (plain_stmts stmts) → names ++ lexical_stmts (cases_stmts (plain_cases (drop i xs))) ≡ whole →
    new ++ lexical_stmts (cases_stmts (plain_cases (drop (i + 1) xs))) ≡ whole
case_goes_on names xs {i = i} {x = x} l e s n h =
    let rest = lexical_stmts (cases_stmts (plain_cases (drop (i + 1) xs))) in
    ap (λ ns. ns ++ rest) (n ∙ ap (λ ss. names ++ lexical_stmts (plain_stmts ss)) s)
    ∙ append_assoc names (lexical_stmts (plain_stmts (out-Case x).statements)) rest
    ∙ ap (λ ns. names ++ ns) (sym (cases_left xs i x l e)) ∙ h

pub hoisted_go_on : (kept : List Hoisted) {new whole : List Hoisted} {cases rest : Cases} {first : PlainCase} → new ≡ kept ++ function_stmts (case_stmts first) → cases ≡ more_case first rest →
    kept ++ function_stmts (cases_stmts cases) ≡ whole → new ++ function_stmts (cases_stmts rest) ≡ whole
hoisted_go_on kept {rest = rest} {first = first} n e h =
    ap (λ fs. fs ++ function_stmts (cases_stmts rest)) n
    ∙ append_assoc kept (function_stmts (case_stmts first)) (function_stmts (cases_stmts rest))
    ∙ ap (λ fs. kept ++ fs) (sym (function_append (case_stmts first) (cases_stmts rest)))
    ∙ sym (ap (λ cs. kept ++ function_stmts (cases_stmts cs)) e)
    ∙ h
