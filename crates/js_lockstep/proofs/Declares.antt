-- The rewriting declares the names that the source declares, and these are free.
use Rattle.std.proofs.Common.{◌≡◌, ℕ, Bool, true, false, List, [], ◌∷◌, ◌++◌, refl, sym, ap, ap₂, ◌∙◌, subst, None}
use Rattle.std.proofs.lemmas.List.{append-nil}
use Rattle.std.specs.List.{AllZip}
use Rattle.js_terms.specs.declared.operators.VariableKind.TheVariants as variable
use Rattle.js_terms.specs.Mark.{Mark}
use Rattle.js_tree.specs.Plain as P
use Rattle.js_tree.specs.Plain.{Stmt, Block, VariableDeclaration, If, DoWhile, While, For, ForIn, ForOf, Switch, Labelled, TryCatch, TryFinally, TryCatchFinally, FunctionDeclaration, EnteredStmt, Stmts, no_stmt, more_stmt, MaybeStmt, none_stmt, some_stmt, entered_none}
use Rattle.js_tree.specs.Plain.{Declarator, MakeDeclarator, Declarators, no_declarator, more_declarator, MaybeExpr, none_expr, some_expr, BindingIdentifier, none_pattern, some_pattern}
use Rattle.js_tree.specs.Plain.{ForInit, NoInit, InitDeclaration, InitExpression, ForTarget, TargetDeclaration, TargetExpression, Case, MakeCase, EnteredCase, Cases, no_case, more_case, Catch, MakeCatch}
use Rattle.js_tree.specs.Plain.{MakeFunction}
use Rattle.js_tree.specs.Codes.{Ordinary}
use Rattle.js_walk.specs.Part.{AStmt, AForInit, AForTarget, ADeclarator, ACase, ACatch}
use Rattle.js_walk.specs.Walk.{visit, within_stmt, within_stmt_if, within_expr_if, within_for_init, within_for_target, within_declarator, within_declarators, within_case, within_cases, within_catch, within_stmts}
use Rattle.js_meaning.specs.VarNames.{is_var, own_var, declares, var_stmts}
use Rattle.js_meaning.proofs.MetNames.{met_all}
use Rattle.js_meaning.specs.Scopes.{bound, bound_names, lexical_names as lexical, lexical_stmt, lexical_stmts, function_stmt, function_stmts, names_of, Hoisted, block_scope, body_scope}
use Rattle.cov_rewritten.specs.Rewritten.{stmt_marks, arm_marks, hoisted_marks, is_any, joined, inside}
use Rattle.js_suits.specs.Rewritten.{counts, in_block, looped, arm, begun_case, rewritten_declarator, rewritten_declarators, rewritten_stmt, rewritten_stmts, rewritten_arm, rewritten_for_init, rewritten_for_target, rewritten_case, rewritten_cases, rewritten_catch, rewritten_expr_if}
use Rattle.js_suits.specs.Suits.{SuitsStmt, SuitsStmts, SuitsStmtIf, SuitsDeclarator, SuitsDeclarators, SuitsForInit, SuitsForTarget, SuitsCase, SuitsCases, SuitsCatch}
use Rattle.js_suits.specs.Settings.{Home, World, Setting}
use Rattle.js_lockstep.specs.Worlds.{AlikeNames, no_names}
use Rattle.js_lockstep.proofs.Scopes.{FreeNames, free_joined, names_joined, lexical_names, AlikeHoisted, AlikeScopes, shape_alike}

-- the names of `var` as a walk meets them
abbrev met : Stmts → List (List ℕ)
met xs = within_stmts own_var declares xs false

abbrev vars : Stmt → List (List ℕ)
vars x = visit own_var declares false (AStmt x) (within_stmt own_var declares x)

abbrev case_vars : Case → List (List ℕ)
case_vars x = visit own_var declares false (ACase x) (within_case own_var declares x)

both_same : {A : Type 0} {a b c d : List A} → a ≡ b → c ≡ d → a ++ c ≡ b ++ d
both_same p q = ap₂ (λ x y. x ++ y) p q

module _ (c : Setting) (h : Home) where
  declarator_same : (hoists b : Bool) (d : Declarator) →
      visit own_var declares b (ADeclarator (rewritten_declarator c (c.shift h) hoists d)) (within_declarator own_var declares (rewritten_declarator c (c.shift h) hoists d))
      ≡ visit own_var declares b (ADeclarator d) (within_declarator own_var declares d)
  declarator_same hoists true (MakeDeclarator loc pattern none_expr) = refl
  declarator_same hoists true (MakeDeclarator loc pattern (some_expr e)) = refl
  declarator_same hoists false (MakeDeclarator loc pattern none_expr) = refl
  declarator_same hoists false (MakeDeclarator loc pattern (some_expr e)) = refl

  declarators_same : (hoists b : Bool) (ds : Declarators) → within_declarators own_var declares (rewritten_declarators c (c.shift h) hoists ds) b ≡ within_declarators own_var declares ds b
  declarators_same hoists b no_declarator = refl
  declarators_same hoists b (more_declarator d ds) = both_same (declarator_same hoists b d) (declarators_same false b ds)

  pub bound_same : (hoists : Bool) (ds : Declarators) → bound_names (rewritten_declarators c (c.shift h) hoists ds) ≡ bound_names ds
  bound_same hoists no_declarator = refl
  bound_same hoists (more_declarator (MakeDeclarator loc pattern none_expr) ds) = ap (λ xs. bound pattern ∷ xs) (bound_same false ds)
  bound_same hoists (more_declarator (MakeDeclarator loc pattern (some_expr e)) ds) = ap (λ xs. bound pattern ∷ xs) (bound_same false ds)

  pub bound_free : (ds : Declarators) → SuitsDeclarators c h ds → FreeNames c h (bound_names ds)
  bound_free no_declarator su = tt
  bound_free (more_declarator (MakeDeclarator loc (BindingIdentifier place x) e) ds) su = ((su.0).0, bound_free ds su.1)

  declarator_free : (b : Bool) (d : Declarator) → SuitsDeclarator c h d → FreeNames c h (visit own_var declares b (ADeclarator d) (within_declarator own_var declares d))
  declarator_free true (MakeDeclarator loc (BindingIdentifier place x) none_expr) su = (su.0, tt)
  declarator_free true (MakeDeclarator loc (BindingIdentifier place x) (some_expr e)) su = (su.0, tt)
  declarator_free false (MakeDeclarator loc (BindingIdentifier place x) none_expr) su = tt
  declarator_free false (MakeDeclarator loc (BindingIdentifier place x) (some_expr e)) su = tt

  declarators_free : (b : Bool) (ds : Declarators) → SuitsDeclarators c h ds → FreeNames c h (within_declarators own_var declares ds b)
  declarators_free b no_declarator su = tt
  declarators_free b (more_declarator d ds) su = free_joined c h _ _ (declarator_free b d su.0) (declarators_free b ds su.1)

  init_same : (x : ForInit) →
      visit own_var declares false (AForInit (rewritten_for_init c (c.shift h) x)) (within_for_init own_var declares (rewritten_for_init c (c.shift h) x))
      ≡ visit own_var declares false (AForInit x) (within_for_init own_var declares x)
  init_same NoInit = refl
  init_same (InitDeclaration kind declarators) = declarators_same false (is_var kind) declarators
  init_same (InitExpression e) = refl

  init_free : (x : ForInit) → SuitsForInit c h x → FreeNames c h (visit own_var declares false (AForInit x) (within_for_init own_var declares x))
  init_free NoInit su = tt
  init_free (InitDeclaration kind no_declarator) su = absurd su
  init_free (InitDeclaration kind (more_declarator d ds)) su = declarators_free (is_var kind) (more_declarator d ds) su
  init_free (InitExpression e) su = tt

  target_same : (x : ForTarget) →
      visit own_var declares false (AForTarget (rewritten_for_target c (c.shift h) x)) (within_for_target own_var declares (rewritten_for_target c (c.shift h) x))
      ≡ visit own_var declares false (AForTarget x) (within_for_target own_var declares x)
  target_same (TargetDeclaration kind pattern) = refl
  target_same (TargetExpression e) = refl

  target_free : (x : ForTarget) → SuitsForTarget c h x → FreeNames c h (visit own_var declares false (AForTarget x) (within_for_target own_var declares x))
  target_free (TargetDeclaration variable.Var (BindingIdentifier place x)) su = (su, tt)
  target_free (TargetDeclaration variable.Let (BindingIdentifier place x)) su = tt
  target_free (TargetDeclaration variable.Const (BindingIdentifier place x)) su = tt
  target_free (TargetExpression e) su = tt

  expr_if_same : (e : MaybeExpr) → within_expr_if own_var declares (rewritten_expr_if c (c.shift h) e) false ≡ within_expr_if own_var declares e false
  expr_if_same none_expr = refl
  expr_if_same (some_expr e) = refl

  expr_if_free : (e : MaybeExpr) → FreeNames c h (within_expr_if own_var declares e false)
  expr_if_free none_expr = tt
  expr_if_free (some_expr e) = tt

  none_free : FreeNames c h []
  none_free = tt

  -- names of `var`, counters notwithstanding
  joined_met : (ms : List Mark) (xs : Stmts) → met (joined (counts c ms) xs) ≡ met xs
  joined_met [] xs = refl
  joined_met (m ∷ ms) xs = joined_met ms xs

  inside_vars : (x : Stmt) → met (inside x) ≡ vars x
  inside_vars (Block loc xs) = refl
  inside_vars x = append-nil (vars x)

  block_vars : (ms : List Mark) (x : Stmt) → vars (in_block c ms x) ≡ vars x
  block_vars ms x = joined_met ms (inside x) ∙ inside_vars x

  looped_vars : (ms : List Mark) (x : Stmt) → vars (looped c ms x) ≡ vars x
  looped_vars [] x = refl
  looped_vars (m ∷ ms) x = block_vars (m ∷ ms) x

  arm_vars : (b : Bool) (ms : List Mark) (x : Stmt) → vars (arm c b ms x) ≡ vars x
  arm_vars false ms x = refl
  arm_vars true ms x = block_vars ms x

  counted_same : (mark : Mark) (x : Case) → case_vars (begun_case c mark x) ≡ case_vars x
  counted_same mark (MakeCase loc e xs) = refl
  counted_same mark (EnteredCase other x) = counted_same mark x

  mutual
    same : (home : Bool) (x : Stmt) → vars (rewritten_stmt c (c.shift h) home x) ≡ vars x
    same home (Block loc xs) = all true xs
    same home (VariableDeclaration loc kind declarators) = declarators_same home (is_var kind) declarators
    same home (If loc test holds fails) = let b = is_any (stmt_marks holds ++ arm_marks fails) in
        both_same (arm_vars b (stmt_marks holds) (rewritten_stmt c (c.shift h) false holds) ∙ same false holds) (same_if b fails)
    same home (DoWhile loc body test) = both_same (looped_vars (stmt_marks body) (rewritten_stmt c (c.shift h) false body) ∙ same false body) refl
    same home (While loc test body) = looped_vars (stmt_marks body) (rewritten_stmt c (c.shift h) false body) ∙ same false body
    same home (For loc init test update body) = both_same (both_same (both_same (init_same init) (expr_if_same test)) (expr_if_same update)) (looped_vars (stmt_marks body) (rewritten_stmt c (c.shift h) false body) ∙ same false body)
    same home (ForIn loc target e body) = both_same (both_same (target_same target) refl) (looped_vars (stmt_marks body) (rewritten_stmt c (c.shift h) false body) ∙ same false body)
    same home (ForOf loc target e body) = both_same (both_same (target_same target) refl) (looped_vars (stmt_marks body) (rewritten_stmt c (c.shift h) false body) ∙ same false body)
    same home (P.Return loc e) = expr_if_same e
    same home (Switch loc e cases) = same_cases cases
    same home (Labelled loc label body) = same false body
    same home (TryCatch loc block catch) = both_same (all true block) (same_catch catch)
    same home (TryFinally loc block last) = both_same (all true block) (all true last)
    same home (TryCatchFinally loc block catch last) = both_same (both_same (all true block) (same_catch catch)) (all true last)
    same home (EnteredStmt mark x) = same home x
    same home x = refl

    all : (home : Bool) (xs : Stmts) → met (rewritten_stmts c (c.shift h) home xs) ≡ met xs
    all home no_stmt = refl
    all home (more_stmt x xs) = joined_met (stmt_marks x ++ hoisted_marks home x) (more_stmt (rewritten_stmt c (c.shift h) home x) (rewritten_stmts c (c.shift h) home xs)) ∙ both_same (same home x) (all home xs)

    same_if : (b : Bool) (x : MaybeStmt) → within_stmt_if own_var declares (rewritten_arm c (c.shift h) b x) false ≡ within_stmt_if own_var declares x false
    same_if b none_stmt = refl
    same_if b (some_stmt x) = arm_vars b (stmt_marks x) (rewritten_stmt c (c.shift h) false x) ∙ same false x
    same_if b (entered_none mark) = refl

    same_case : (x : Case) → case_vars (rewritten_case c (c.shift h) x) ≡ case_vars x
    same_case (MakeCase loc test statements) = both_same (expr_if_same test) (all false statements)
    same_case (EnteredCase mark x) = counted_same mark (rewritten_case c (c.shift h) x) ∙ same_case x

    same_cases : (xs : Cases) → within_cases own_var declares (rewritten_cases c (c.shift h) xs) false ≡ within_cases own_var declares xs false
    same_cases no_case = refl
    same_cases (more_case x xs) = both_same (same_case x) (same_cases xs)

    same_catch : (x : Catch) → visit own_var declares false (ACatch (rewritten_catch c (c.shift h) x)) (within_catch own_var declares (rewritten_catch c (c.shift h) x)) ≡ visit own_var declares false (ACatch x) (within_catch own_var declares x)
    same_catch (MakeCatch none_pattern statements) = all true statements
    same_catch (MakeCatch (some_pattern (BindingIdentifier place x)) statements) = all true statements

  -- which are free
  abbrev if_vars : MaybeStmt → List (List ℕ)
  if_vars x = within_stmt_if own_var declares x false

  abbrev expr_vars : MaybeExpr → List (List ℕ)
  expr_vars e = within_expr_if own_var declares e false

  abbrev init_vars : ForInit → List (List ℕ)
  init_vars x = visit own_var declares false (AForInit x) (within_for_init own_var declares x)

  abbrev target_vars : ForTarget → List (List ℕ)
  target_vars x = visit own_var declares false (AForTarget x) (within_for_target own_var declares x)

  abbrev catch_vars : Catch → List (List ℕ)
  catch_vars x = visit own_var declares false (ACatch x) (within_catch own_var declares x)

  mutual
    frees : (x : Stmt) → SuitsStmt c h x → FreeNames c h (vars x)
    frees (Block loc xs) su = all_free xs su
    frees (VariableDeclaration loc kind declarators) su = declarators_free (is_var kind) declarators su
    frees (If loc test holds fails) su = free_joined c h (vars holds) (if_vars fails) (frees holds su.1) (if_free fails su.2)
    frees (DoWhile loc body test) su = free_joined c h (vars body) [] (frees body su.0) none_free
    frees (While loc test body) su = frees body su.1
    frees (For loc init test update body) su = free_joined c h (init_vars init ++ expr_vars test ++ expr_vars update) (vars body)
        (free_joined c h (init_vars init ++ expr_vars test) (expr_vars update) (free_joined c h (init_vars init) (expr_vars test) (init_free init su.0) (expr_if_free test)) (expr_if_free update)) (frees body su.3)
    frees (ForIn loc target e body) su = free_joined c h (target_vars target ++ []) (vars body) (free_joined c h (target_vars target) [] (target_free target su.0) none_free) (frees body su.2)
    frees (ForOf loc target e body) su = free_joined c h (target_vars target ++ []) (vars body) (free_joined c h (target_vars target) [] (target_free target su.0) none_free) (frees body su.2)
    frees (P.Return loc e) su = expr_if_free e
    frees (Switch loc e cases) su = cases_free cases su.1
    frees (Labelled loc label body) su = frees body su.0
    frees (TryCatch loc block catch) su = free_joined c h (met block) (catch_vars catch) (all_free block su.0) (catch_free catch su.1)
    frees (TryFinally loc block last) su = free_joined c h (met block) (met last) (all_free block su.0) (all_free last su.1)
    frees (TryCatchFinally loc block catch last) su = free_joined c h (met block ++ catch_vars catch) (met last) (free_joined c h (met block) (catch_vars catch) (all_free block su.0) (catch_free catch su.1)) (all_free last su.2)
    frees (EnteredStmt mark x) su = frees x su.1
    frees _ su = none_free

    all_free : (xs : Stmts) → SuitsStmts c h xs → FreeNames c h (met xs)
    all_free no_stmt su = tt
    all_free (more_stmt x xs) su = free_joined c h (vars x) (met xs) (frees x su.0.0) (all_free xs su.1)

    if_free : (x : MaybeStmt) → SuitsStmtIf c h x → FreeNames c h (if_vars x)
    if_free none_stmt su = tt
    if_free (some_stmt x) su = frees x su
    if_free (entered_none mark) su = tt

    case_free : (x : Case) → SuitsCase c h x → FreeNames c h (case_vars x)
    case_free (MakeCase loc test statements) su = free_joined c h (expr_vars test) (met statements) (expr_if_free test) (all_free statements su.1)
    case_free (EnteredCase mark x) su = case_free x su.1

    cases_free : (xs : Cases) → SuitsCases c h xs → FreeNames c h (within_cases own_var declares xs false)
    cases_free no_case su = tt
    cases_free (more_case x xs) su = free_joined c h (case_vars x) (within_cases own_var declares xs false) (case_free x su.0) (cases_free xs su.1)

    catch_free : (x : Catch) → SuitsCatch c h x → FreeNames c h (catch_vars x)
    catch_free (MakeCatch none_pattern statements) su = all_free statements su.1
    catch_free (MakeCatch (some_pattern (BindingIdentifier place x)) statements) su = all_free statements su.1

  pub var_names : (home : Bool) (xs : Stmts) → var_stmts (rewritten_stmts c (c.shift h) home xs) ≡ var_stmts xs
  var_names home xs = sym (met_all (rewritten_stmts c (c.shift h) home xs)) ∙ all home xs ∙ met_all xs

  pub var_names_free : (xs : Stmts) → SuitsStmts c h xs → FreeNames c h (var_stmts xs)
  var_names_free xs su = subst (FreeNames c h) (met_all xs) (all_free xs su)

  pub joined_vars : (ms : List Mark) (xs : Stmts) → var_stmts (joined (counts c ms) xs) ≡ var_stmts xs
  joined_vars [] xs = refl
  joined_vars (m ∷ ms) xs = joined_vars ms xs

  -- The names of a scope

  pub joined_lexical : (ms : List Mark) (xs : Stmts) → lexical_stmts (joined (counts c ms) xs) ≡ lexical_stmts xs
  joined_lexical [] xs = refl
  joined_lexical (m ∷ ms) xs = joined_lexical ms xs

  pub joined_functions : (ms : List Mark) (xs : Stmts) → function_stmts (joined (counts c ms) xs) ≡ function_stmts xs
  joined_functions [] xs = refl
  joined_functions (m ∷ ms) xs = joined_functions ms xs

  pub lexical_one_same : (home : Bool) (x : Stmt) → lexical_stmt (rewritten_stmt c (c.shift h) home x) ≡ lexical_stmt x
  lexical_one_same home (VariableDeclaration loc kind ds) = ap (lexical kind) (bound_same home ds)
  lexical_one_same home (EnteredStmt mark x) = lexical_one_same home x
  lexical_one_same home _ = refl

  -- what stands for a statement that declares no function
  pub no_functions : (home : Bool) (x : Stmt) → function_stmt x ≡ [] → function_stmt (rewritten_stmt c (c.shift h) home x) ≡ []
  no_functions home (FunctionDeclaration loc name function) e = absurd (let z = e in cc)
  no_functions home (EnteredStmt mark x) e = no_functions home x e
  no_functions home _ e = refl

  function_one : (home : Bool) (x : Stmt) → SuitsStmt c h x → (gs fs : List Hoisted) → AllZip (AlikeHoisted c h) fs gs → AllZip (AlikeHoisted c h) (function_stmt x ++ fs) (function_stmt (rewritten_stmt c (c.shift h) home x) ++ gs)
  function_one home (FunctionDeclaration loc name (MakeFunction number ps body)) su gs fs rs = (record { names = refl; free = su.0; shapes = shape_alike c h (Ordinary (MakeFunction number ps body)) su.1 }, rs)
  function_one home (EnteredStmt mark x) su gs fs rs = function_one home x su.1 gs fs rs
  function_one home _ su gs fs rs = rs

  pub functions_alike : (home : Bool) (xs : Stmts) → SuitsStmts c h xs → AllZip (AlikeHoisted c h) (function_stmts xs) (function_stmts (rewritten_stmts c (c.shift h) home xs))
  functions_alike home no_stmt su = tt
  functions_alike home (more_stmt x xs) su =
      subst (AllZip (AlikeHoisted c h) (function_stmt x ++ function_stmts xs)) (sym (joined_functions (stmt_marks x ++ hoisted_marks home x) (more_stmt (rewritten_stmt c (c.shift h) home x) (rewritten_stmts c (c.shift h) home xs))))
      (function_one home x su.0.0 (function_stmts (rewritten_stmts c (c.shift h) home xs)) (function_stmts xs) (functions_alike home xs su.1))

  pub names_same : (fs gs : List Hoisted) → AllZip (AlikeHoisted c h) fs gs → names_of gs ≡ names_of fs
  names_same [] [] rs = refl
  names_same [] (g ∷ gs) rs = absurd rs
  names_same (f ∷ fs) [] rs = absurd rs
  names_same (f ∷ fs) (g ∷ gs) rs = ap₂ (λ (x : List ℕ) (xs : List (List ℕ)). x ∷ xs) (sym (rs.0).names) (names_same fs gs rs.1)

  pub names_free : (fs gs : List Hoisted) → AllZip (AlikeHoisted c h) fs gs → FreeNames c h (names_of fs)
  names_free [] [] rs = tt
  names_free [] (g ∷ gs) rs = absurd rs
  names_free (f ∷ fs) [] rs = absurd rs
  names_free (f ∷ fs) (g ∷ gs) rs = ((rs.0).free, names_free fs gs rs.1)

  pub lexical_same : (home : Bool) (xs : Stmts) → lexical_stmts (rewritten_stmts c (c.shift h) home xs) ≡ lexical_stmts xs
  lexical_same home no_stmt = refl
  lexical_same home (more_stmt x xs) = joined_lexical (stmt_marks x ++ hoisted_marks home x) (more_stmt (rewritten_stmt c (c.shift h) home x) (rewritten_stmts c (c.shift h) home xs)) ∙ both_same (lexical_one_same home x) (lexical_same home xs)

  lexical_one : (x : Stmt) → SuitsStmt c h x → (w : World) → AlikeNames c.name w h None (lexical_stmt x) (lexical_stmt x)
  lexical_one (VariableDeclaration loc kind ds) su w = lexical_names c h w kind (bound_names ds) (bound_free ds su)
  lexical_one (EnteredStmt mark x) su w = lexical_one x su.1 w
  lexical_one _ su w = no_names

  pub lexical_alike : (xs : Stmts) → SuitsStmts c h xs → (w : World) → AlikeNames c.name w h None (lexical_stmts xs) (lexical_stmts xs)
  lexical_alike no_stmt su w = no_names
  lexical_alike (more_stmt x xs) su w = names_joined c h w _ _ _ _ (lexical_one x su.0.0 w) (lexical_alike xs su.1 w)

  pub block_scope_alike : (home : Bool) (xs : Stmts) → SuitsStmts c h xs → AlikeScopes c h (block_scope xs) (block_scope (rewritten_stmts c (c.shift h) home xs))
  block_scope_alike home xs su = let fs = functions_alike home xs su in record {
    variables = names_same (function_stmts xs) (function_stmts (rewritten_stmts c (c.shift h) home xs)) fs;
    free = names_free (function_stmts xs) (function_stmts (rewritten_stmts c (c.shift h) home xs)) fs;
    lexicals = lexical_same home xs;
    lexicals_alike = λ w. lexical_alike xs su w;
    functions = fs;
  }

  pub body_scope_alike : (home : Bool) (xs : Stmts) → SuitsStmts c h xs → AlikeScopes c h (body_scope xs) (body_scope (rewritten_stmts c (c.shift h) home xs))
  body_scope_alike home xs su = let b = block_scope_alike home xs su in record {
    variables = ap₂ (λ (x y : List (List ℕ)). x ++ y) (var_names home xs) b.variables;
    free = free_joined c h (var_stmts xs) (names_of (function_stmts xs)) (var_names_free xs su) b.free;
    lexicals = b.lexicals;
    lexicals_alike = b.lexicals_alike;
    functions = b.functions;
  }
