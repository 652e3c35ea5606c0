-- What is told of a scope, by the tree and by the functions that are found, is what its node has to tell.
use Rattle.std.proofs.lemmas.Bool.{ne_eqb}
use Rattle.std.proofs.Common.{arith, ◌≡◌, ◌==◌, ◌+◌, ◌<◌, ◌≤◌, ℕ, suc, Bool, true, false, not, cond, ◌||◌, List, [], ◌∷◌, ◌++◌, drop, length, map, get_or, refl, sym, ap, ◌∙◌}
use Rattle.js_tree.specs.Plain as P
use Rattle.js_tree.specs.Linked.{Unmarked, Numbers, link_params, link_stmts}
use Rattle.js_terms.specs.declared.operators.VariableKind.{VariableKind}
use Rattle.js_terms.specs.declared.operators.VariableKind.TheVariants as variable
use Rattle.js_tree.specs.declared.tree.Declarator.{Declarator}
use Rattle.js_tree.specs.declared.tree.Param.{Param}
use Rattle.js_tree.specs.Tree.{plain_declarators, plain_param, plain_params}
use Rattle.js_value.specs.State.{Binding}
use Rattle.js_value.specs.Realm.{undefined}
use Rattle.js_meaning.specs.Scopes.{Hoisted, bound_names, cases_stmts, expected_arguments, function_stmts, has_defaults, is_fresh, lexical_names, lexical_stmts, names_of, once, param_names, variable_of}
use Rattle.js_meaning.specs.VarNames.{var_stmts}
use Rattle.js_code.specs.declared.node.Node.{Node}
use Rattle.js_code.specs.declared.scopes.BlockScope.{BlockScope}
use Rattle.js_code.specs.declared.scopes.BodyScope.{BodyScope}
use Rattle.js_code.specs.Part.{as_cases, as_declarators, as_params, as_stmts}
use Rattle.js_code.specs.Scopes.{block_names, body_names, code_names, told_before}
use Rattle.js_code.specs.Code.{reader}
use Rattle.js_code.specs.private.Compiled.{ReadsCases, ReadsDeclarators, ReadsParams, ReadsStmts}
use Rattle.js_code.specs.private.Seen.{defaulted}
use Rattle.js_code.proofs.KindsOfLists.{from_at, past_end}
use Rattle.js_code.proofs.SameNames.{bound_same, defaults_same, expected_same, fresh_same, lexical_cases_same, lexical_same, params_same, var_names_same}

-- Blocks

abbrev block_of : List Hoisted → List Binding → BlockScope
block_of functions lexical = record { names = map (variable_of undefined) (names_of functions) ++ lexical; functions = functions }

pub scope_told : (xs : P.Stmts) {nodes : List Node} {list : ℕ} {scope : BlockScope} {functions : List Hoisted} → ReadsStmts nodes list xs → functions ≡ function_stmts (as_stmts (reader nodes list)) →
    scope ≡ record { names = map (variable_of undefined) (names_of functions) ++ lexical_stmts xs; functions = functions } → scope ≡ block_names (as_stmts (reader nodes list))
scope_told xs {nodes = nodes} {list = list} r f is =
    is ∙ ap (λ fs. block_of fs (lexical_stmts xs)) f
    ∙ ap (block_of (function_stmts (as_stmts (reader nodes list)))) (sym (lexical_same xs r.numbers) ∙ sym (ap (λ p. lexical_stmts (as_stmts p)) r.read))

pub case_scope_told : (xs : P.Cases) {nodes : List Node} {list : ℕ} {scope : BlockScope} {functions : List Hoisted} → ReadsCases nodes list xs →
    functions ≡ function_stmts (cases_stmts (as_cases (reader nodes list))) →
    scope ≡ record { names = map (variable_of undefined) (names_of functions) ++ lexical_stmts (cases_stmts xs); functions = functions } → scope ≡ block_names (cases_stmts (as_cases (reader nodes list)))
case_scope_told xs {nodes = nodes} {list = list} r f is =
    is ∙ ap (λ fs. block_of fs (lexical_stmts (cases_stmts xs))) f
    ∙ ap (block_of (function_stmts (cases_stmts (as_cases (reader nodes list)))))
    (sym (lexical_cases_same xs 0 r.numbers) ∙ sym (ap (λ p. lexical_stmts (cases_stmts (as_cases p))) r.read))

-- The first part of a `for`

pub init_told : (ds : P.Declarators) (kind : VariableKind) {nodes : List Node} {list : ℕ} {before names : List Binding} {fresh : Bool} → ReadsDeclarators nodes list ds →
    before ≡ [] → names ≡ before ++ lexical_names kind (bound_names ds) → fresh ≡ is_fresh (P.InitDeclaration kind ds) →
    (names ≡ lexical_names kind (bound_names (as_declarators (reader nodes list)))) × (fresh ≡ is_fresh (P.InitDeclaration kind (as_declarators (reader nodes list))))
init_told ds kind r none is fresh = (
  is ∙ ap (λ names. names ++ lexical_names kind (bound_names ds)) none ∙ ap (lexical_names kind) (sym (bound_same ds r.numbers)) ∙ sym (ap (λ p. lexical_names kind (bound_names (as_declarators p))) r.read),
  fresh ∙ sym (fresh_same kind ds r.numbers) ∙ sym (ap (λ p. is_fresh (P.InitDeclaration kind (as_declarators p))) r.read),
)

-- Bodies

pub length_told : (ps : P.Params) {nodes : List Node} {list : ℕ} {n : ℕ} → ReadsParams nodes list ps → n ≡ expected_arguments ps → n ≡ expected_arguments (as_params (reader nodes list))
length_told ps r is = is ∙ sym (expected_same ps r.numbers) ∙ sym (ap (λ p. expected_arguments (as_params p)) r.read)

abbrev pub body_of : List (List ℕ) → Bool → List (List ℕ) → List Binding → List Hoisted → BodyScope
body_of params apart vars lexical functions = record {
  params = params;
  apart = apart;
  variables = once (told_before apart params) (vars ++ names_of functions);
  lexical = lexical;
  functions = functions;
}

-- with other parameters that have the same names
same_params : (ps : P.Params) (k : Numbers) (vars : List (List ℕ)) (lexical : List Binding) (functions : List Hoisted) →
    body_of (param_names ps) (has_defaults ps) vars lexical functions ≡ body_of (param_names (link_params Unmarked ps k).tree) (has_defaults (link_params Unmarked ps k).tree) vars lexical functions
same_params ps k vars lexical functions =
    ap (λ names. body_of names (has_defaults ps) vars lexical functions) (sym (params_same ps k))
    ∙ ap (λ apart. body_of (param_names (link_params Unmarked ps k).tree) apart vars lexical functions) (sym (defaults_same ps k))

pub code_told : (ps : P.Params) (xs : P.Stmts) {nodes : List Node} {params list : ℕ} {scope : BodyScope} {functions : List Hoisted} → ReadsParams nodes params ps → ReadsStmts nodes list xs →
    functions ≡ function_stmts (as_stmts (reader nodes list)) →
    scope ≡ body_of (param_names ps) (has_defaults ps) (var_stmts xs) (lexical_stmts xs) functions →
    scope ≡ code_names (as_params (reader nodes params)) (as_stmts (reader nodes list))
code_told ps xs {nodes = nodes} {params = params} {list = list} {functions = functions} p r f is =
    is ∙ same_params ps p.numbers (var_stmts xs) (lexical_stmts xs) functions
    ∙ sym (ap (λ q. body_of (param_names (as_params q)) (has_defaults (as_params q)) (var_stmts xs) (lexical_stmts xs) functions) p.read)
    ∙ ap (λ vars. body_of (param_names (as_params (reader nodes params))) (has_defaults (as_params (reader nodes params))) vars (lexical_stmts xs) functions)
    (sym (var_names_same xs r.numbers) ∙ sym (ap (λ q. var_stmts (as_stmts q)) r.read))
    ∙ ap (λ lexical. body_of (param_names (as_params (reader nodes params))) (has_defaults (as_params (reader nodes params))) (var_stmts (as_stmts (reader nodes list))) lexical functions)
    (sym (lexical_same xs r.numbers) ∙ sym (ap (λ q. lexical_stmts (as_stmts q)) r.read))
    ∙ ap (body_of (param_names (as_params (reader nodes params))) (has_defaults (as_params (reader nodes params))) (var_stmts (as_stmts (reader nodes list))) (lexical_stmts (as_stmts (reader nodes list)))) f

pub arrow_told : (ps : P.Params) {nodes : List Node} {params : ℕ} {scope : BodyScope} {functions : List Hoisted} → ReadsParams nodes params ps → functions ≡ [] →
    scope ≡ body_of (param_names ps) (has_defaults ps) [] [] functions → scope ≡ code_names (as_params (reader nodes params)) P.no_stmt
arrow_told ps p none is =
    is ∙ ap (body_of (param_names ps) (has_defaults ps) [] []) none ∙ same_params ps p.numbers [] [] [] ∙ sym (ap (λ q. body_of (param_names (as_params q)) (has_defaults (as_params q)) [] [] []) p.read)

-- the statements of a file, whose parameters are its objects' names
pub file_told : (nodes : List Node) (list : ℕ) (xs : P.Stmts) (k : Numbers) {params : List (List ℕ)} {scope : BodyScope} {functions : List Hoisted} → as_stmts (reader nodes list) ≡ (link_stmts Unmarked xs k).tree →
    functions ≡ function_stmts (as_stmts (reader nodes list)) → (apart : Bool) → scope ≡ body_of params apart (var_stmts xs) (lexical_stmts xs) functions → scope ≡ body_names apart params (link_stmts Unmarked xs k).tree
file_told nodes list xs k {params = params} {functions = functions} e f apart is =
    is ∙ ap (λ vars. body_of params apart vars (lexical_stmts xs) functions) (sym (var_names_same xs k))
    ∙ ap (λ lexical. body_of params apart (var_stmts (link_stmts Unmarked xs k).tree) lexical functions) (sym (lexical_same xs k))
    ∙ ap (body_of params apart (var_stmts (link_stmts Unmarked xs k).tree) (lexical_stmts (link_stmts Unmarked xs k).tree)) (f ∙ ap function_stmts e)

-- of the source's trees

pub fresh_let : (ds : List Declarator) → not (length ds == 0) ≡ is_fresh (P.InitDeclaration variable.Let (plain_declarators ds))
fresh_let [] = refl
fresh_let (d ∷ ds) = ap not (ne_eqb _ _ (λ zero. omega arith))

pub defaults_more : (x : P.Param) (xs : P.Params) → has_defaults (P.more_param x xs) ≡ (defaulted x || has_defaults xs)
defaults_more (P.MakeParam loc pattern P.none_expr) xs = refl
defaults_more (P.MakeParam loc pattern (P.some_expr e)) xs = refl

pub expected_more : (x : P.Param) (xs : P.Params) → expected_arguments (P.more_param x xs) ≡ cond (defaulted x) 0 (suc (expected_arguments xs))
expected_more (P.MakeParam loc pattern P.none_expr) xs = refl
expected_more (P.MakeParam loc pattern (P.some_expr e)) xs = refl

-- the parameters from one on
defaults_from : (ps : List Param) (i : ℕ) (x : Param) → i < length ps → x ≡ get_or ps i x → has_defaults (plain_params (drop i ps)) ≡ (defaulted (plain_param x) || has_defaults (plain_params (drop (i + 1) ps)))
defaults_from ps i x l e = ap (λ xs. has_defaults (plain_params xs)) (from_at ps i x l e) ∙ defaults_more (plain_param x) (plain_params (drop (i + 1) ps))

pub defaults_on : (ps : List Param) {i : ℕ} {x : Param} → i < length ps → x ≡ get_or ps i x → false ≡ defaulted (plain_param x) → has_defaults (plain_params (drop i ps)) ≡ has_defaults (plain_params ps) →
    has_defaults (plain_params (drop (i + 1) ps)) ≡ has_defaults (plain_params ps)
defaults_on ps {i = i} {x = x} l e none h = ap (λ b. b || has_defaults (plain_params (drop (i + 1) ps))) none ∙ sym (defaults_from ps i x l e) ∙ h

pub defaults_at : (ps : List Param) {i : ℕ} {x : Param} → i < length ps → x ≡ get_or ps i x → true ≡ defaulted (plain_param x) → has_defaults (plain_params (drop i ps)) ≡ has_defaults (plain_params ps) →
    true ≡ has_defaults (plain_params ps)
defaults_at ps {i = i} {x = x} l e some h = ap (λ b. b || has_defaults (plain_params (drop (i + 1) ps))) some ∙ sym (defaults_from ps i x l e) ∙ h

pub defaults_end : (ps : List Param) {i : ℕ} → length ps ≤ i → has_defaults (plain_params (drop i ps)) ≡ has_defaults (plain_params ps) → false ≡ has_defaults (plain_params ps)
defaults_end ps {i = i} l h = sym (ap (λ xs. has_defaults (plain_params xs)) (past_end ps i l)) ∙ h

expected_from : (ps : List Param) (i : ℕ) (x : Param) → i < length ps → x ≡ get_or ps i x → expected_arguments (plain_params (drop i ps)) ≡ cond (defaulted (plain_param x)) 0 (suc (expected_arguments (plain_params (drop (i + 1) ps))))
expected_from ps i x l e = ap (λ xs. expected_arguments (plain_params xs)) (from_at ps i x l e) ∙ expected_more (plain_param x) (plain_params (drop (i + 1) ps))

pub expected_on : (ps : List Param) {i : ℕ} {x : Param} → i < length ps → x ≡ get_or ps i x → false ≡ defaulted (plain_param x) →
    i + expected_arguments (plain_params (drop i ps)) ≡ expected_arguments (plain_params ps) → i + 1 + expected_arguments (plain_params (drop (i + 1) ps)) ≡ expected_arguments (plain_params ps)
expected_on ps {i = i} {x = x} l e none h =
    let q : suc (expected_arguments (plain_params (drop (i + 1) ps))) ≡ expected_arguments (plain_params (drop i ps)) =
    ap (λ b. cond b 0 (suc (expected_arguments (plain_params (drop (i + 1) ps))))) none ∙ sym (expected_from ps i x l e)
    in
    omega (arith, q, h)

pub expected_at : (ps : List Param) {i : ℕ} {x : Param} → i < length ps → x ≡ get_or ps i x → true ≡ defaulted (plain_param x) →
    i + expected_arguments (plain_params (drop i ps)) ≡ expected_arguments (plain_params ps) → i ≡ expected_arguments (plain_params ps)
expected_at ps {i = i} {x = x} l e some h =
    let q : 0 ≡ expected_arguments (plain_params (drop i ps)) =
    ap (λ b. cond b 0 (suc (expected_arguments (plain_params (drop (i + 1) ps))))) some ∙ sym (expected_from ps i x l e)
    in
    omega (arith, q, h)

-- no parameter has a default
pub expected_end : (ps : List Param) (i : ℕ) → length ps ≤ i → i ≤ length ps → i + expected_arguments (plain_params (drop i ps)) ≡ expected_arguments (plain_params ps) →
    length ps ≡ expected_arguments (plain_params ps)
expected_end ps i l g h =
    let none : i + expected_arguments (plain_params (drop i ps)) ≡ i + 0 = ap (λ xs. i + expected_arguments (plain_params xs)) (past_end ps i l) in
    omega (arith, l, g, h, none)
