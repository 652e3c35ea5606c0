-- A rewritten tree declares the names that the source declares, each as it does and where it does, and jumps where the source jumps.
use Rattle.std.proofs.Common.{◌≡◌, ◌++◌, ℕ, Bool, true, false, List, [], ◌∷◌, refl, sym, ap, ◌∙◌, append-nil, append_assoc}
use Rattle.js_terms.specs.declared.operators.VariableKind.{VariableKind}
use Rattle.js_terms.specs.declared.operators.VariableKind.TheVariants as variable
use Rattle.js_terms.specs.Mark.{Mark}
use Rattle.js_tree.specs.Plain.{Expr}
use Rattle.js_tree.specs.Plain.{Stmt, Directive, Block}
use Rattle.js_tree.specs.Plain.{ForInit}
use Rattle.js_tree.specs.Plain.{ForTarget}
use Rattle.js_tree.specs.Plain.{Case}
use Rattle.js_tree.specs.Plain.{Catch}
use Rattle.js_tree.specs.Plain.{BindingIdentifier}
use Rattle.js_tree.specs.Plain.{MaybeStmt}
use Rattle.js_tree.specs.Plain.{Params}
use Rattle.js_tree.specs.Plain.{Stmts, no_stmt, more_stmt}
use Rattle.js_tree.specs.Plain.{Declarators}
use Rattle.js_tree.specs.Plain.{Cases}
use Rattle.js_scopes.specs.declared.binding.Binding.{Binding}
use Rattle.js_scopes.specs.declared.binding.Binding.TheVariants as binding
use Rattle.js_scopes.specs.Declarations.{bound, declarators, parameters, var_alone, lexical_alone, var_of_init, var_of_target, var_stmt, var_stmts, var_stmt_if, var_catch, var_case, var_cases, own_of_stmt, declared_stmt, declared_stmts, declared_case, declared_cases, head_init, head_target}
use Rattle.js_scopes.specs.Labels.{in_a_loop, in_a_switch, in_a_label, is_loop, repeats, jumps_stmt, jumps_stmts, jumps_stmt_if, jumps_catch, jumps_case, jumps_cases}
use Rattle.js_scopes.specs.Labels as labels
use Rattle.cov_rewritten.specs.Rewritten.{stmt_marks, arm_marks, is_any, hoisted_marks, joined, after_directives, inside, counts, in_block, looped, arm, rewritten_stmt, rewritten_arm, rewritten_stmts, rewritten_for_init, rewritten_for_target, rewritten_declarators, rewritten_case, rewritten_catch, rewritten_params, rewritten_cases}
use Rattle.js_marked.specs.MarkedTree.{MarkedStmt, block, declaration, empty, expression, if_, do_, while, for_, for_in, for_of, continue, break, return, switch, labelled, throw, try_catch, try_finally, try_catch_finally, debugger, function_declaration, Around, bare, around, MarkedArm, none, missing, some, Branched, unbranched, branched, Listed, a_directive, a_stmt, MarkedStmts, no_stmts, more_stmts, MarkedInit, no_init, init_declaration, init_expression, MarkedTarget, target_declaration, target_expression, plain_param, defaulted, declarator, initialized, MarkedCase, clause, entered_clause, MarkedCatch, catching, MarkedParams, no_params, more_params, MarkedDeclarators, no_declarators, more_declarators, MarkedCases, no_cases, more_cases}

two : {A B C : Type 0} (f : A → B → C) {a a' : A} {b b' : B} → a ≡ a' → b ≡ b' → f a b ≡ f a' b'
two f {a' = a'} {b = b} h g = ap (λ x. f x b) h ∙ ap (f a') g

abbrev append : {A : Type 0} → List A → List A → List A
append xs ys = xs ++ ys

-- ---- what is put in declares nothing and jumps nowhere

var_inside : (x : Stmt) → var_stmts (inside x) ≡ var_stmt x
var_inside (Block l xs) = refl
var_inside x = append-nil (var_stmt x)

jumps_inside : (x : Stmt) (a : labels.Around) → jumps_stmts (inside x) a ≡ jumps_stmt x a
jumps_inside (Block l xs) a = refl
jumps_inside x a = append-nil (jumps_stmt x a)

module _ (counter : Mark → Expr) where
  pub var_counts : (ms : List Mark) (xs : Stmts) → var_stmts (joined (counts counter ms) xs) ≡ var_stmts xs
  var_counts [] xs = refl
  var_counts (m ∷ ms) xs = var_counts ms xs

  pub jumps_counts : (ms : List Mark) (xs : Stmts) (a : labels.Around) → jumps_stmts (joined (counts counter ms) xs) a ≡ jumps_stmts xs a
  jumps_counts [] xs a = refl
  jumps_counts (m ∷ ms) xs a = jumps_counts ms xs a

  pub declared_counts : (top : Bool) (ms : List Mark) (xs : Stmts) → declared_stmts top (joined (counts counter ms) xs) ≡ declared_stmts top xs
  declared_counts top [] xs = refl
  declared_counts top (m ∷ ms) xs = declared_counts top ms xs

  var_in_block : (ms : List Mark) (x : Stmt) → var_stmt (in_block counter ms x) ≡ var_stmt x
  var_in_block ms x = var_counts ms (inside x) ∙ var_inside x

  jumps_in_block : (ms : List Mark) (x : Stmt) (a : labels.Around) → jumps_stmt (in_block counter ms x) a ≡ jumps_stmt x a
  jumps_in_block ms x a = jumps_counts ms (inside x) a ∙ jumps_inside x a

  var_looped : (ms : List Mark) (x : Stmt) → var_stmt (looped counter ms x) ≡ var_stmt x
  var_looped [] x = refl
  var_looped (m ∷ ms) x = var_in_block (m ∷ ms) x

  jumps_looped : (ms : List Mark) (x : Stmt) (a : labels.Around) → jumps_stmt (looped counter ms x) a ≡ jumps_stmt x a
  jumps_looped [] x a = refl
  jumps_looped (m ∷ ms) x a = jumps_in_block (m ∷ ms) x a

  var_arm : (b : Bool) (ms : List Mark) (x : Stmt) → var_stmt (arm counter b ms x) ≡ var_stmt x
  var_arm false ms x = refl
  var_arm true ms x = var_in_block ms x

  jumps_arm : (b : Bool) (ms : List Mark) (x : Stmt) (a : labels.Around) → jumps_stmt (arm counter b ms x) a ≡ jumps_stmt x a
  jumps_arm false ms x a = refl
  jumps_arm true ms x a = jumps_in_block ms x a

  pub declared_joined : (top : Bool) (zs xs : Stmts) → declared_stmts top (joined zs xs) ≡ declared_stmts top zs ++ declared_stmts top xs
  declared_joined top no_stmt xs = refl
  declared_joined top (more_stmt z zs) xs = ap (append (declared_stmt top z)) (declared_joined top zs xs) ∙ sym (append_assoc (declared_stmt top z) (declared_stmts top zs) (declared_stmts top xs))

  -- directives declare nothing
  pub declared_after : (top : Bool) (zs xs : Stmts) → declared_stmts top (after_directives zs xs) ≡ declared_stmts top zs ++ declared_stmts top xs
  declared_after top zs no_stmt = declared_joined top zs no_stmt
  declared_after top zs (more_stmt (Directive l s) xs) = declared_after top zs xs
  declared_after top zs (more_stmt x xs) = declared_joined top zs (more_stmt x xs)

  module _ (code : ℕ → ℕ) where
    -- ---- bindings

    pub same_declarators : {x t : Declarators} (how : Binding) (h : Bool) → MarkedDeclarators x t → declarators how (rewritten_declarators counter code h t) ≡ declarators how x
    same_declarators how h no_declarators = refl
    same_declarators how h (more_declarators (declarator {p = p} {w = w}) d) = ap (append (bound how (BindingIdentifier p w))) (same_declarators how false d)
    same_declarators how h (more_declarators (initialized {p = p} {w = w} _ v) d) = ap (append (bound how (BindingIdentifier p w))) (same_declarators how false d)

    pub same_parameters : {x t : Params} → MarkedParams x t → parameters (rewritten_params counter code t) ≡ parameters x
    same_parameters no_params = refl
    same_parameters (more_params (plain_param {p = p} {w = w}) d) = ap (append (bound binding.Parameter (BindingIdentifier p w))) (same_parameters d)
    same_parameters (more_params (defaulted {p = p} {w = w} _ v) d) = ap (append (bound binding.Parameter (BindingIdentifier p w))) (same_parameters d)

    same_var_alone : {x t : Declarators} (kind : VariableKind) (h : Bool) → MarkedDeclarators x t → var_alone kind (rewritten_declarators counter code h t) ≡ var_alone kind x
    same_var_alone variable.Var h d = same_declarators binding.Var h d
    same_var_alone variable.Let h d = refl
    same_var_alone variable.Const h d = refl

    pub same_lexical_alone : {x t : Declarators} (kind : VariableKind) (h : Bool) → MarkedDeclarators x t → lexical_alone kind (rewritten_declarators counter code h t) ≡ lexical_alone kind x
    same_lexical_alone variable.Var h d = refl
    same_lexical_alone variable.Let h d = same_declarators binding.Lexical h d
    same_lexical_alone variable.Const h d = same_declarators binding.Lexical h d

    same_var_init : {x t : ForInit} → MarkedInit x t → var_of_init (rewritten_for_init counter code t) ≡ var_of_init x
    same_var_init no_init = refl
    same_var_init (init_declaration {k = k} d g) = same_var_alone k false (more_declarators d g)
    same_var_init (init_expression d) = refl

    same_var_target : {x t : ForTarget} → MarkedTarget x t → var_of_target (rewritten_for_target counter code t) ≡ var_of_target x
    same_var_target target_declaration = refl
    same_var_target (target_expression d) = refl

    -- ---- the names that `var` declares

    mutual
      pub same_var : {x t : Stmt} (home : Bool) → MarkedStmt x t → var_stmt (rewritten_stmt counter code home t) ≡ var_stmt x
      same_var home (block d) = same_vars true d
      same_var home (declaration {k = k} d) = same_var_alone k home d
      same_var home empty = refl
      same_var home (expression d) = refl
      same_var home (if_ {x' = x'} {y' = y'} d a r) =
          let b = is_any (stmt_marks x' ++ arm_marks y') in
          two append (var_arm b (stmt_marks x') (rewritten_stmt counter code false x') ∙ same_var_branch a) (same_var_arm b r)
      same_var home (do_ {x' = x'} n a d) = var_looped (stmt_marks x') (rewritten_stmt counter code false x') ∙ same_var_around false a
      same_var home (while {x' = x'} d n a) = var_looped (stmt_marks x') (rewritten_stmt counter code false x') ∙ same_var_around false a
      same_var home (for_ {x' = x'} i d g n a) = two append (same_var_init i) (var_looped (stmt_marks x') (rewritten_stmt counter code false x') ∙ same_var_around false a)
      same_var home (for_in {x' = x'} i d n a) = two append (same_var_target i) (var_looped (stmt_marks x') (rewritten_stmt counter code false x') ∙ same_var_around false a)
      same_var home (for_of {x' = x'} i d n a) = two append (same_var_target i) (var_looped (stmt_marks x') (rewritten_stmt counter code false x') ∙ same_var_around false a)
      same_var home continue = refl
      same_var home break = refl
      same_var home (return d) = refl
      same_var home (switch d g) = same_var_cases g
      same_var home (labelled d) = same_var false d
      same_var home (throw d) = refl
      same_var home (try_catch d c) = two append (same_vars true d) (same_var_catch c)
      same_var home (try_finally d g) = two append (same_vars true d) (same_vars true g)
      same_var home (try_catch_finally d c g) = two append (two append (same_vars true d) (same_var_catch c)) (same_vars true g)
      same_var home debugger = refl
      same_var home (function_declaration d) = refl

      pub same_var_around : {x t : Stmt} (home : Bool) → Around x t → var_stmt (rewritten_stmt counter code home t) ≡ var_stmt x
      same_var_around home (bare d) = same_var home d
      same_var_around home (around m _ _ a) = same_var_around home a

      same_var_branch : {x t : Stmt} → Branched x t → var_stmt (rewritten_stmt counter code false t) ≡ var_stmt x
      same_var_branch (unbranched _ a) = same_var_around false a
      same_var_branch (branched m _ a) = same_var_around false a

      same_var_listed : {x t : Stmt} (home : Bool) → Listed x t → var_stmt (rewritten_stmt counter code home t) ≡ var_stmt x
      same_var_listed home a_directive = refl
      same_var_listed home (a_stmt a) = same_var_around home a

      same_var_arm : {x t : MaybeStmt} (b : Bool) → MarkedArm x t → var_stmt_if (rewritten_arm counter code b t) ≡ var_stmt_if x
      same_var_arm b none = refl
      same_var_arm b (missing m) = refl
      same_var_arm b (some {x' = x'} a) = var_arm b (stmt_marks x') (rewritten_stmt counter code false x') ∙ same_var_branch a

      pub same_vars : {x t : Stmts} (home : Bool) → MarkedStmts x t → var_stmts (rewritten_stmts counter code home t) ≡ var_stmts x
      same_vars home no_stmts = refl
      same_vars home (more_stmts {x' = t} {y' = ts} a d) =
          var_counts (stmt_marks t ++ hoisted_marks home t) (more_stmt (rewritten_stmt counter code home t) (rewritten_stmts counter code home ts))
          ∙ two append (same_var_listed home a) (same_vars home d)

      same_var_catch : {x t : Catch} → MarkedCatch x t → var_catch (rewritten_catch counter code t) ≡ var_catch x
      same_var_catch (catching d) = same_vars true d

      same_var_case : {x t : Case} → MarkedCase x t → var_case (rewritten_case counter code t) ≡ var_case x
      same_var_case (clause e d) = same_vars false d
      same_var_case (entered_clause {x' = t} m e d) = same_vars false d

      same_var_cases : {x t : Cases} → MarkedCases x t → var_cases (rewritten_cases counter code t) ≡ var_cases x
      same_var_cases no_cases = refl
      same_var_cases (more_cases c d) = two append (same_var_case c) (same_var_cases d)

    -- ---- all names that a scope declares

    pub same_own : {x t : Stmt} (top home : Bool) → MarkedStmt x t → own_of_stmt top (rewritten_stmt counter code home t) ≡ own_of_stmt top x
    same_own top home (declaration {k = k} d) = same_lexical_alone k home d
    same_own top home empty = refl
    same_own top home _ = refl

    pub same_declared : {x t : Stmt} (top home : Bool) → Around x t → declared_stmt top (rewritten_stmt counter code home t) ≡ declared_stmt top x
    same_declared top home (bare d) = two append (same_own top home d) (same_var home d)
    same_declared top home (around m _ _ a) = same_declared top home a

    same_listed : {x t : Stmt} (top home : Bool) → Listed x t → declared_stmt top (rewritten_stmt counter code home t) ≡ declared_stmt top x
    same_listed top home a_directive = refl
    same_listed top home (a_stmt a) = same_declared top home a

    pub same_scope : {x t : Stmts} (top home : Bool) → MarkedStmts x t → declared_stmts top (rewritten_stmts counter code home t) ≡ declared_stmts top x
    same_scope top home no_stmts = refl
    same_scope top home (more_stmts {x' = t} {y' = ts} a d) =
        declared_counts top (stmt_marks t ++ hoisted_marks home t) (more_stmt (rewritten_stmt counter code home t) (rewritten_stmts counter code home ts))
        ∙ two append (same_listed top home a) (same_scope top home d)

    same_case : {x t : Case} → MarkedCase x t → declared_case (rewritten_case counter code t) ≡ declared_case x
    same_case (clause e d) = same_scope false false d
    same_case (entered_clause m e d) = same_scope false false d

    pub same_cases : {x t : Cases} → MarkedCases x t → declared_cases (rewritten_cases counter code t) ≡ declared_cases x
    same_cases no_cases = refl
    same_cases (more_cases c d) = two append (same_case c) (same_cases d)

    pub same_head_init : {i j : ForInit} {x t : Stmt} → MarkedInit i j → Around x t → head_init (rewritten_for_init counter code j) (looped counter (stmt_marks t) (rewritten_stmt counter code false t)) ≡ head_init i x
    same_head_init no_init a = refl
    same_head_init (init_declaration {k = variable.Var} d g) a = refl
    same_head_init {t = t} (init_declaration {k = variable.Let} d g) a =
        two append (same_declarators binding.Lexical false (more_declarators d g)) (var_looped (stmt_marks t) (rewritten_stmt counter code false t) ∙ same_var_around false a)
    same_head_init {t = t} (init_declaration {k = variable.Const} d g) a =
        two append (same_declarators binding.Lexical false (more_declarators d g)) (var_looped (stmt_marks t) (rewritten_stmt counter code false t) ∙ same_var_around false a)
    same_head_init (init_expression d) a = refl

    pub same_head_target : {i j : ForTarget} {x t : Stmt} → MarkedTarget i j → Around x t → head_target (rewritten_for_target counter code j) (looped counter (stmt_marks t) (rewritten_stmt counter code false t)) ≡ head_target i x
    same_head_target (target_declaration {k = variable.Var}) a = refl
    same_head_target {t = t} (target_declaration {k = variable.Let} {p = p}) a =
        ap (append (bound binding.Lexical p)) (var_looped (stmt_marks t) (rewritten_stmt counter code false t) ∙ same_var_around false a)
    same_head_target {t = t} (target_declaration {k = variable.Const} {p = p}) a =
        ap (append (bound binding.Lexical p)) (var_looped (stmt_marks t) (rewritten_stmt counter code false t) ∙ same_var_around false a)
    same_head_target (target_expression d) a = refl

    -- ---- jumps

    same_loop : {x t : Stmt} → MarkedStmt x t → is_loop (rewritten_stmt counter code false t) ≡ is_loop x
    same_loop (labelled d) = same_loop d
    same_loop empty = refl
    same_loop _ = refl

    mutual
      same_jumps_stmt : {x t : Stmt} (home : Bool) (o : labels.Around) → MarkedStmt x t → jumps_stmt (rewritten_stmt counter code home t) o ≡ jumps_stmt x o
      same_jumps_stmt home o (block d) = same_jumps true o d
      same_jumps_stmt home o (declaration d) = refl
      same_jumps_stmt home o empty = refl
      same_jumps_stmt home o (expression d) = refl
      same_jumps_stmt home o (if_ {x' = x'} {y' = y'} d a r) =
          let b = is_any (stmt_marks x' ++ arm_marks y') in
          two append (jumps_arm b (stmt_marks x') (rewritten_stmt counter code false x') o ∙ same_jumps_branch o a) (same_jumps_arm b o r)
      same_jumps_stmt home o (do_ {x' = x'} n a d) = jumps_looped (stmt_marks x') (rewritten_stmt counter code false x') (in_a_loop o) ∙ same_jumps_around false (in_a_loop o) a
      same_jumps_stmt home o (while {x' = x'} d n a) = jumps_looped (stmt_marks x') (rewritten_stmt counter code false x') (in_a_loop o) ∙ same_jumps_around false (in_a_loop o) a
      same_jumps_stmt home o (for_ {x' = x'} i d g n a) = jumps_looped (stmt_marks x') (rewritten_stmt counter code false x') (in_a_loop o) ∙ same_jumps_around false (in_a_loop o) a
      same_jumps_stmt home o (for_in {x' = x'} i d n a) = jumps_looped (stmt_marks x') (rewritten_stmt counter code false x') (in_a_loop o) ∙ same_jumps_around false (in_a_loop o) a
      same_jumps_stmt home o (for_of {x' = x'} i d n a) = jumps_looped (stmt_marks x') (rewritten_stmt counter code false x') (in_a_loop o) ∙ same_jumps_around false (in_a_loop o) a
      same_jumps_stmt home o continue = refl
      same_jumps_stmt home o break = refl
      same_jumps_stmt home o (return d) = refl
      same_jumps_stmt home o (switch d g) = same_jumps_cases (in_a_switch o) g
      same_jumps_stmt home o (labelled {n = n} {x = x} {x' = x'} d) = ap (append (repeats o n))
          (ap (λ b. jumps_stmt (rewritten_stmt counter code false x') (in_a_label n.name b o)) (same_loop d) ∙ same_jumps_stmt false (in_a_label n.name (is_loop x) o) d)
      same_jumps_stmt home o (throw d) = refl
      same_jumps_stmt home o (try_catch d c) = two append (same_jumps true o d) (same_jumps_catch o c)
      same_jumps_stmt home o (try_finally d g) = two append (same_jumps true o d) (same_jumps true o g)
      same_jumps_stmt home o (try_catch_finally d c g) = two append (two append (same_jumps true o d) (same_jumps_catch o c)) (same_jumps true o g)
      same_jumps_stmt home o debugger = refl
      same_jumps_stmt home o (function_declaration d) = refl

      same_jumps_around : {x t : Stmt} (home : Bool) (o : labels.Around) → Around x t → jumps_stmt (rewritten_stmt counter code home t) o ≡ jumps_stmt x o
      same_jumps_around home o (bare d) = same_jumps_stmt home o d
      same_jumps_around home o (around m _ _ a) = same_jumps_around home o a

      same_jumps_branch : {x t : Stmt} (o : labels.Around) → Branched x t → jumps_stmt (rewritten_stmt counter code false t) o ≡ jumps_stmt x o
      same_jumps_branch o (unbranched _ a) = same_jumps_around false o a
      same_jumps_branch o (branched m _ a) = same_jumps_around false o a

      same_jumps_listed : {x t : Stmt} (home : Bool) (o : labels.Around) → Listed x t → jumps_stmt (rewritten_stmt counter code home t) o ≡ jumps_stmt x o
      same_jumps_listed home o a_directive = refl
      same_jumps_listed home o (a_stmt a) = same_jumps_around home o a

      same_jumps_arm : {x t : MaybeStmt} (b : Bool) (o : labels.Around) → MarkedArm x t → jumps_stmt_if (rewritten_arm counter code b t) o ≡ jumps_stmt_if x o
      same_jumps_arm b o none = refl
      same_jumps_arm b o (missing m) = refl
      same_jumps_arm b o (some {x' = x'} a) = jumps_arm b (stmt_marks x') (rewritten_stmt counter code false x') o ∙ same_jumps_branch o a

      pub same_jumps : {x t : Stmts} (home : Bool) (o : labels.Around) → MarkedStmts x t → jumps_stmts (rewritten_stmts counter code home t) o ≡ jumps_stmts x o
      same_jumps home o no_stmts = refl
      same_jumps home o (more_stmts {x' = t} {y' = ts} a d) =
          jumps_counts (stmt_marks t ++ hoisted_marks home t) (more_stmt (rewritten_stmt counter code home t) (rewritten_stmts counter code home ts)) o
          ∙ two append (same_jumps_listed home o a) (same_jumps home o d)

      same_jumps_catch : {x t : Catch} (o : labels.Around) → MarkedCatch x t → jumps_catch (rewritten_catch counter code t) o ≡ jumps_catch x o
      same_jumps_catch o (catching d) = same_jumps true o d

      same_jumps_case : {x t : Case} (o : labels.Around) → MarkedCase x t → jumps_case (rewritten_case counter code t) o ≡ jumps_case x o
      same_jumps_case o (clause e d) = same_jumps false o d
      same_jumps_case o (entered_clause m e d) = same_jumps false o d

      same_jumps_cases : {x t : Cases} (o : labels.Around) → MarkedCases x t → jumps_cases (rewritten_cases counter code t) o ≡ jumps_cases x o
      same_jumps_cases o no_cases = refl
      same_jumps_cases o (more_cases c d) = two append (same_jumps_case o c) (same_jumps_cases o d)
