-- `this` stands outside functions in a rewritten tree only where it does in the source.
use Rattle.std.proofs.Common.{◌≡◌, ◌++◌, ◌∷◌, [], ℕ, Bool, true, false, List, Option, None, refl}
use Rattle.js_terms.specs.Mark.{Mark}
use Rattle.js_terms.specs.declared.place.Loc.{Loc}
use Rattle.js_tree.specs.Plain.{Expr}
use Rattle.js_tree.specs.Plain.{Stmt, Directive, Block, Return}
use Rattle.js_tree.specs.Plain.{Property}
use Rattle.js_tree.specs.Plain.{PropertyKey}
use Rattle.js_tree.specs.Plain.{ConciseBody}
use Rattle.js_tree.specs.Plain.{ForInit}
use Rattle.js_tree.specs.Plain.{ForTarget}
use Rattle.js_tree.specs.Plain.{TemplatePart}
use Rattle.js_tree.specs.Plain.{FunctionBody}
use Rattle.js_tree.specs.Plain.{Param}
use Rattle.js_tree.specs.Plain.{Declarator}
use Rattle.js_tree.specs.Plain.{Case}
use Rattle.js_tree.specs.Plain.{Catch}
use Rattle.js_tree.specs.Plain.{MaybeExpr, some_expr}
use Rattle.js_tree.specs.Plain.{MaybeStmt}
use Rattle.js_tree.specs.Plain.{Exprs}
use Rattle.js_tree.specs.Plain.{TemplateParts}
use Rattle.js_tree.specs.Plain.{Properties}
use Rattle.js_tree.specs.Plain.{Params}
use Rattle.js_tree.specs.Plain.{Stmts, no_stmt, more_stmt}
use Rattle.js_tree.specs.Plain.{Declarators}
use Rattle.js_tree.specs.Plain.{Cases}
use Rattle.js_walk.specs.Part.{AnExpr, AStmt}
use Rattle.js_walk.specs.Walk.{visit, within_expr, within_stmt, within_property, within_property_key, within_concise_body, within_for_init, within_for_target, within_template_part, within_function_body, within_param, within_declarator, within_case, within_catch, within_pattern_if, within_expr_if, within_stmt_if, within_template_parts, within_properties, within_params, within_exprs, within_stmts, within_declarators, within_cases}
use Rattle.js_reading.specs.Outside.{own_this, outside_functions}
use Rattle.cov_rewritten.specs.Counters.{with_name}
use Rattle.cov_rewritten.proofs.Quiet.{none_of, nothing_both}
use Rattle.cov_rewritten.specs.Rewritten.{expr_marks, stmt_marks, arm_marks, is_any, hoisted_marks, joined, after_directives, inside, counts, looped, arm, counted, held, initial, rewritten_expr, rewritten_stmt, rewritten_arm, rewritten_stmts, rewritten_property, rewritten_property_key, rewritten_concise_body, rewritten_for_init, rewritten_for_target, rewritten_template_part, rewritten_param, rewritten_declarator, rewritten_declarators, rewritten_case, rewritten_catch, rewritten_expr_if, rewritten_exprs, rewritten_template_parts, rewritten_properties, rewritten_params, rewritten_cases}
use Rattle.cov_rewritten.specs.Rewritten as r
use Rattle.js_marked.specs.MarkedTree.{MarkedExpr, identifier, this, null, boolean, numeric, string, array, object, function, arrow, regular, template, parenthesized, named_member, computed_member, new, call, postfix, prefix, unary, binary, logical, conditional, assignment, comma, MarkedValue, unentered, entered, MarkedLeaf, a_leaf, grouped, MarkedStmt, block, declaration, empty, expression, if_, do_, while, for_, for_in, for_of, continue, break, return, switch, labelled, throw, try_catch, try_finally, try_catch_finally, debugger, function_declaration, Around, bare, around, MarkedArm, none, missing, some, Branched, unbranched, branched, Listed, a_directive, a_stmt, MarkedStmts, no_stmts, more_stmts, MarkedProperty, shorthand, key_value, method, MarkedKey, name_key, string_key, number_key, computed_key, MarkedConcise, concise, concise_one, concise_two, braced, MarkedInit, no_init, init_declaration, init_expression, MarkedTarget, target_declaration, target_expression, MarkedPart, a_part, plain_body, entered_body, MarkedParam, plain_param, defaulted, MarkedDeclarator, declarator, initialized, MarkedCase, clause, entered_clause, MarkedCatch, catching, MarkedMaybe, no_value, some_value, MarkedExprs, no_exprs, more_exprs, MarkedParts, no_parts, more_parts, MarkedProperties, no_properties, more_properties, MarkedParams, no_params, more_params, MarkedDeclarators, no_declarators, more_declarators, MarkedCases, no_cases, more_cases}

abbrev pub te : Expr → List (Option Loc)
te e = visit own_this outside_functions tt (AnExpr e) (within_expr own_this outside_functions e)

abbrev ts : Stmt → List (Option Loc)
ts x = visit own_this outside_functions tt (AStmt x) (within_stmt own_this outside_functions x)

abbrev pub t_exprs : Exprs → List (Option Loc)
t_exprs x = within_exprs own_this outside_functions x tt

abbrev pub t_properties : Properties → List (Option Loc)
t_properties x = within_properties own_this outside_functions x tt

abbrev pub t_template_parts : TemplateParts → List (Option Loc)
t_template_parts x = within_template_parts own_this outside_functions x tt

abbrev pub t_params : Params → List (Option Loc)
t_params x = within_params own_this outside_functions x tt

abbrev pub t_stmts : Stmts → List (Option Loc)
t_stmts x = within_stmts own_this outside_functions x tt

abbrev pub t_declarators : Declarators → List (Option Loc)
t_declarators x = within_declarators own_this outside_functions x tt

abbrev pub t_cases : Cases → List (Option Loc)
t_cases x = within_cases own_this outside_functions x tt

abbrev pub t_expr_if : MaybeExpr → List (Option Loc)
t_expr_if x = within_expr_if own_this outside_functions x tt

abbrev pub t_stmt_if : MaybeStmt → List (Option Loc)
t_stmt_if x = within_stmt_if own_this outside_functions x tt

abbrev pub t_for_init : ForInit → List (Option Loc)
t_for_init x = within_for_init own_this outside_functions x tt

abbrev pub t_for_target : ForTarget → List (Option Loc)
t_for_target x = within_for_target own_this outside_functions x tt

abbrev pub t_concise_body : ConciseBody → List (Option Loc)
t_concise_body x = within_concise_body own_this outside_functions x tt

abbrev pub t_function_body : FunctionBody → List (Option Loc)
t_function_body x = within_function_body own_this outside_functions x tt

abbrev pub t_template_part : TemplatePart → List (Option Loc)
t_template_part x = within_template_part own_this outside_functions x tt

abbrev pub t_param : Param → List (Option Loc)
t_param x = within_param own_this outside_functions x tt

abbrev pub t_declarator : Declarator → List (Option Loc)
t_declarator x = within_declarator own_this outside_functions x tt

abbrev pub t_case : Case → List (Option Loc)
t_case x = within_case own_this outside_functions x tt

abbrev pub t_catch : Catch → List (Option Loc)
t_catch x = within_catch own_this outside_functions x tt

abbrev pub t_property : Property → List (Option Loc)
t_property x = within_property own_this outside_functions x tt

abbrev pub t_property_key : PropertyKey → List (Option Loc)
t_property_key x = within_property_key own_this outside_functions x tt

empty_joined : (zs xs : Stmts) → t_stmts zs ≡ [] → t_stmts xs ≡ [] → t_stmts (joined zs xs) ≡ []
empty_joined no_stmt xs p q = q
empty_joined (more_stmt z zs) xs p q = let s = none_of (ts z) (t_stmts zs) p in nothing_both s.0 (empty_joined zs xs s.1 q)

pub empty_after : (zs xs : Stmts) → t_stmts zs ≡ [] → t_stmts xs ≡ [] → t_stmts (after_directives zs xs) ≡ []
empty_after zs no_stmt p q = empty_joined zs no_stmt p q
empty_after zs (more_stmt (Directive l s) xs) p q = empty_after zs xs p q
empty_after zs (more_stmt x xs) p q = empty_joined zs (more_stmt x xs) p q

empty_inside : (x : Stmt) → ts x ≡ [] → t_stmts (inside x) ≡ []
empty_inside (Block l xs) q = q
empty_inside x q = nothing_both q refl

module _ (counter : Mark → Expr) (empty_counter : (m : Mark) → te (counter m) ≡ []) where
  empty_counts : (ms : List Mark) → t_stmts (counts counter ms) ≡ []
  empty_counts [] = refl
  empty_counts (m ∷ ms) = nothing_both (empty_counter m) (empty_counts ms)

  empty_first : (ms : List Mark) (xs : Stmts) → t_stmts xs ≡ [] → t_stmts (joined (counts counter ms) xs) ≡ []
  empty_first ms xs q = empty_joined (counts counter ms) xs (empty_counts ms) q

  empty_looped : (ms : List Mark) (x : Stmt) → ts x ≡ [] → ts (looped counter ms x) ≡ []
  empty_looped [] x q = q
  empty_looped (m ∷ ms) x q = empty_first (m ∷ ms) (inside x) (empty_inside x q)

  empty_arm : (b : Bool) (ms : List Mark) (x : Stmt) → ts x ≡ [] → ts (arm counter b ms x) ≡ []
  empty_arm false ms x q = q
  empty_arm true ms x q = empty_first ms (inside x) (empty_inside x q)

  empty_counted : (ms : List Mark) (e : Expr) → te e ≡ [] → te (counted counter ms e) ≡ []
  empty_counted [] e q = q
  empty_counted (m ∷ ms) e q = nothing_both (empty_counter m) (empty_counted ms e q)

  empty_named : (f : List ℕ) (e : Expr) → te e ≡ [] → te (with_name f e) ≡ []
  empty_named f e q = nothing_both (nothing_both q refl) refl

  empty_held : (b : Bool) (f : List ℕ) (ms : List Mark) (e : Expr) → te e ≡ [] → te (held counter b f ms e) ≡ []
  empty_held b f [] e q = q
  empty_held false f (m ∷ ms) e q = empty_counted (m ∷ ms) e q
  empty_held true f (m ∷ ms) e q = empty_counted (m ∷ ms) (with_name f e) (empty_named f e q)

  empty_initial : (i b : Bool) (f : List ℕ) (ms : List Mark) (e : Expr) → te e ≡ [] → te (initial counter i b f ms e) ≡ []
  empty_initial false b f ms e q = empty_held b f ms e q
  empty_initial true false f ms e q = empty_held false f ms e q
  empty_initial true true f ms e q = q

  empty_concise : (ms : List Mark) (e : Expr) → te e ≡ [] → t_concise_body (r.concise counter ms e) ≡ []
  empty_concise [] e q = q
  empty_concise (m ∷ ms) e q = empty_first (m ∷ ms) (more_stmt (Return None (some_expr e)) no_stmt) (nothing_both q refl)

  module _ (code : ℕ → ℕ) where
    mutual
      still_expr : {e t : Expr} → MarkedExpr e t → te e ≡ [] → te (rewritten_expr counter code t) ≡ []
      still_expr identifier h = refl
      still_expr null h = refl
      still_expr boolean h = refl
      still_expr numeric h = refl
      still_expr string h = refl
      still_expr regular h = refl
      still_expr this h = h
      still_expr (function d) h = refl
      still_expr (array d) h = (still_exprs d h)
      still_expr (object d) h = (still_properties d h)
      still_expr (arrow {p = p} {b = b} d g) h =
          let s1 = none_of (t_params p) (t_concise_body b) h in
          nothing_both ((still_params d s1.0)) (still_concise_body g s1.1)
      still_expr (template d) h = (still_template_parts d h)
      still_expr (parenthesized {e' = t} d) h = empty_counted (expr_marks t) (rewritten_expr counter code t) (still_expr d h)
      still_expr (named_member d) h = (still_expr d h)
      still_expr (computed_member {e = e} {f = f} d g) h =
          let s1 = none_of (te e) (te f) h in
          nothing_both ((still_expr d s1.0)) (still_expr g s1.1)
      still_expr (new {e = e} {x = x} d g) h =
          let s1 = none_of (te e) (t_exprs x) h in
          nothing_both ((still_expr d s1.0)) (still_exprs g s1.1)
      still_expr (call {e = e} {x = x} d g) h =
          let s1 = none_of (te e) (t_exprs x) h in
          nothing_both ((still_expr d s1.0)) (still_exprs g s1.1)
      still_expr (postfix d) h = (still_expr d h)
      still_expr (prefix d) h = (still_expr d h)
      still_expr (unary d) h = (still_expr d h)
      still_expr (binary {e = e} {f = f} d g) h =
          let s1 = none_of (te e) (te f) h in
          nothing_both ((still_expr d s1.0)) (still_expr g s1.1)
      still_expr (logical {e = e} {f = f} d g) h =
          let s1 = none_of (te e) (te f) h in
          nothing_both (still_leaf d s1.0) (still_leaf g s1.1)
      still_expr (conditional {e = e} {f = f} {g = i} d g k) h =
          let s2 = none_of ((te e) ++ (te f)) (te i) h in
          let s1 = none_of (te e) (te f) s2.0 in
          nothing_both (nothing_both ((still_expr d s1.0)) (still_value g s1.1)) (still_value k s2.1)
      still_expr (assignment {e = e} {f = f} d g) h =
          let s1 = none_of (te e) (te f) h in
          nothing_both ((still_expr d s1.0)) (still_expr g s1.1)
      still_expr (comma {e = e} {f = f} d g) h =
          let s1 = none_of (te e) (te f) h in
          nothing_both ((still_expr d s1.0)) (still_expr g s1.1)

      still_value : {e t : Expr} → MarkedValue e t → te e ≡ [] → te (counted counter (expr_marks t) (rewritten_expr counter code t)) ≡ []
      still_value (unentered {e' = t} d) h = empty_counted (expr_marks t) (rewritten_expr counter code t) (still_expr d h)
      still_value (entered {e' = t} m d) h = empty_counted (m ∷ expr_marks t) (rewritten_expr counter code t) (still_expr d h)

      still_leaf : {e t : Expr} → MarkedLeaf e t → te e ≡ [] → te (counted counter (expr_marks t) (rewritten_expr counter code t)) ≡ []
      still_leaf (a_leaf v) h = still_value v h
      still_leaf (grouped d) h = still_leaf d h

      still_held : {e t : Expr} (b : Bool) (f : List ℕ) → MarkedValue e t → te e ≡ [] → te (held counter b f (expr_marks t) (rewritten_expr counter code t)) ≡ []
      still_held b f (unentered {e' = t} d) h = empty_held b f (expr_marks t) (rewritten_expr counter code t) (still_expr d h)
      still_held b f (entered {e' = t} m d) h = empty_held b f (m ∷ expr_marks t) (rewritten_expr counter code t) (still_expr d h)

      still_initial : {e t : Expr} (i b : Bool) (f : List ℕ) → MarkedValue e t → te e ≡ [] → te (initial counter i b f (expr_marks t) (rewritten_expr counter code t)) ≡ []
      still_initial i b f (unentered {e' = t} d) h = empty_initial i b f (expr_marks t) (rewritten_expr counter code t) (still_expr d h)
      still_initial i b f (entered {e' = t} m d) h = empty_initial i b f (m ∷ expr_marks t) (rewritten_expr counter code t) (still_expr d h)

      still_stmt : {x t : Stmt} (home : Bool) → MarkedStmt x t → ts x ≡ [] → ts (rewritten_stmt counter code home t) ≡ []
      still_stmt home empty h = refl
      still_stmt home continue h = refl
      still_stmt home break h = refl
      still_stmt home debugger h = refl
      still_stmt home (function_declaration d) h = refl
      still_stmt home (block d) h = (still_stmts true d h)
      still_stmt home (declaration d) h = (still_declarators home d h)
      still_stmt home (expression d) h = (still_expr d h)
      still_stmt home (if_ {e = e} {x = x} {x' = x'} {y = y} {y' = y'} d a r) h =
          let s2 = none_of ((te e) ++ (ts x)) (t_stmt_if y) h in
          let s1 = none_of (te e) (ts x) s2.0 in
          nothing_both (nothing_both ((still_expr d s1.0)) (empty_arm (is_any (stmt_marks x' ++ arm_marks y')) (stmt_marks x') (rewritten_stmt counter code false x') (still_branch a s1.1))) (still_arm (is_any (stmt_marks x' ++ arm_marks y')) r s2.1)
      still_stmt home (do_ {x = x} {x' = x'} {e = e} n a d) h =
          let s1 = none_of (ts x) (te e) h in
          nothing_both ((empty_looped (stmt_marks x') (rewritten_stmt counter code false x') (still_around false a s1.0))) (still_expr d s1.1)
      still_stmt home (while {e = e} {x = x} {x' = x'} d n a) h =
          let s1 = none_of (te e) (ts x) h in
          nothing_both ((still_expr d s1.0)) (empty_looped (stmt_marks x') (rewritten_stmt counter code false x') (still_around false a s1.1))
      still_stmt home (for_ {i = i} {e = e} {f = f} {x = x} {x' = x'} j d g n a) h =
          let s3 = none_of ((t_for_init i) ++ (t_expr_if e) ++ (t_expr_if f)) (ts x) h in
          let s2 = none_of ((t_for_init i) ++ (t_expr_if e)) (t_expr_if f) s3.0 in
          let s1 = none_of (t_for_init i) (t_expr_if e) s2.0 in
          nothing_both (nothing_both (nothing_both ((still_for_init j s1.0)) (still_expr_if d s1.1)) (still_expr_if g s2.1)) (empty_looped (stmt_marks x') (rewritten_stmt counter code false x') (still_around false a s3.1))
      still_stmt home (for_in {i = i} {e = e} {x = x} {x' = x'} j d n a) h =
          let s2 = none_of ((t_for_target i) ++ (te e)) (ts x) h in
          let s1 = none_of (t_for_target i) (te e) s2.0 in
          nothing_both (nothing_both ((still_for_target j s1.0)) (still_expr d s1.1)) (empty_looped (stmt_marks x') (rewritten_stmt counter code false x') (still_around false a s2.1))
      still_stmt home (for_of {i = i} {e = e} {x = x} {x' = x'} j d n a) h =
          let s2 = none_of ((t_for_target i) ++ (te e)) (ts x) h in
          let s1 = none_of (t_for_target i) (te e) s2.0 in
          nothing_both (nothing_both ((still_for_target j s1.0)) (still_expr d s1.1)) (empty_looped (stmt_marks x') (rewritten_stmt counter code false x') (still_around false a s2.1))
      still_stmt home (return d) h = (still_expr_if d h)
      still_stmt home (switch {e = e} {x = x} d g) h =
          let s1 = none_of (te e) (t_cases x) h in
          nothing_both ((still_expr d s1.0)) (still_cases g s1.1)
      still_stmt home (labelled d) h = (still_stmt false d h)
      still_stmt home (throw d) h = (still_expr d h)
      still_stmt home (try_catch {x = x} {c = c} d k) h =
          let s1 = none_of (t_stmts x) (t_catch c) h in
          nothing_both ((still_stmts true d s1.0)) (still_catch k s1.1)
      still_stmt home (try_finally {x = x} {y = y} d g) h =
          let s1 = none_of (t_stmts x) (t_stmts y) h in
          nothing_both ((still_stmts true d s1.0)) (still_stmts true g s1.1)
      still_stmt home (try_catch_finally {x = x} {y = y} {c = c} d k g) h =
          let s2 = none_of ((t_stmts x) ++ (t_catch c)) (t_stmts y) h in
          let s1 = none_of (t_stmts x) (t_catch c) s2.0 in
          nothing_both (nothing_both ((still_stmts true d s1.0)) (still_catch k s1.1)) (still_stmts true g s2.1)

      still_around : {x t : Stmt} (home : Bool) → Around x t → ts x ≡ [] → ts (rewritten_stmt counter code home t) ≡ []
      still_around home (bare d) h = still_stmt home d h
      still_around home (around m _ _ a) h = still_around home a h

      still_branch : {x t : Stmt} → Branched x t → ts x ≡ [] → ts (rewritten_stmt counter code false t) ≡ []
      still_branch (unbranched _ a) h = still_around false a h
      still_branch (branched m _ a) h = still_around false a h

      still_listed : {x t : Stmt} (home : Bool) → Listed x t → ts x ≡ [] → ts (rewritten_stmt counter code home t) ≡ []
      still_listed home a_directive h = refl
      still_listed home (a_stmt a) h = still_around home a h

      still_arm : {x t : MaybeStmt} (b : Bool) → MarkedArm x t → t_stmt_if x ≡ [] → t_stmt_if (rewritten_arm counter code b t) ≡ []
      still_arm b none h = refl
      still_arm b (missing m) h = empty_counts (m ∷ [])
      still_arm b (some {x' = t} a) h = empty_arm b (stmt_marks t) (rewritten_stmt counter code false t) (still_branch a h)

      pub still_stmts : {x t : Stmts} (home : Bool) → MarkedStmts x t → t_stmts x ≡ [] → t_stmts (rewritten_stmts counter code home t) ≡ []
      still_stmts home no_stmts h = refl
      still_stmts home (more_stmts {x = x} {x' = t} {y = xs} {y' = ys} a d) h =
          let s = none_of (ts x) (t_stmts xs) h in
          empty_first (stmt_marks t ++ hoisted_marks home t) (more_stmt (rewritten_stmt counter code home t) (rewritten_stmts counter code home ys)) (nothing_both (still_listed home a s.0) (still_stmts home d s.1))

      still_property : {x t : Property} → MarkedProperty x t → t_property x ≡ [] → t_property (rewritten_property counter code t) ≡ []
      still_property shorthand h = refl
      still_property (key_value {k = k} {e = e} c d) h = let s = none_of (t_property_key k) (te e) h in nothing_both (still_property_key c s.0) (still_expr d s.1)
      still_property (method {k = k} c d) h = let s = none_of (t_property_key k) [] h in nothing_both (still_property_key c s.0) refl

      still_property_key : {x t : PropertyKey} → MarkedKey x t → t_property_key x ≡ [] → t_property_key (rewritten_property_key counter code t) ≡ []
      still_property_key name_key h = refl
      still_property_key string_key h = refl
      still_property_key number_key h = refl
      still_property_key (computed_key d) h = still_expr d h

      still_concise_body : {x t : ConciseBody} → MarkedConcise x t → t_concise_body x ≡ [] → t_concise_body (rewritten_concise_body counter code t) ≡ []
      still_concise_body (concise {e' = t} d) h = empty_concise (expr_marks t) (rewritten_expr counter code t) (still_expr d h)
      still_concise_body (concise_one {e' = t} m d) h = empty_concise (m ∷ expr_marks t) (rewritten_expr counter code t) (still_expr d h)
      still_concise_body (concise_two {e' = t} m n d) h = empty_concise (m ∷ (n ∷ expr_marks t)) (rewritten_expr counter code t) (still_expr d h)
      still_concise_body (braced (plain_body d)) h = still_stmts true d h
      still_concise_body (braced (entered_body {x' = t} m d)) h = empty_after (counts counter (m ∷ [])) (rewritten_stmts counter code true t) (empty_counts (m ∷ [])) (still_stmts true d h)

      still_for_init : {x t : ForInit} → MarkedInit x t → t_for_init x ≡ [] → t_for_init (rewritten_for_init counter code t) ≡ []
      still_for_init no_init h = refl
      still_for_init (init_declaration {x = x} {y = y} d g) h = let s = none_of (t_declarator x) (t_declarators y) h in nothing_both (still_declarator false d s.0) (still_declarators false g s.1)
      still_for_init (init_expression d) h = still_expr d h

      still_for_target : {x t : ForTarget} → MarkedTarget x t → t_for_target x ≡ [] → t_for_target (rewritten_for_target counter code t) ≡ []
      still_for_target target_declaration h = refl
      still_for_target (target_expression d) h = still_expr d h

      still_template_part : {x t : TemplatePart} → MarkedPart x t → t_template_part x ≡ [] → t_template_part (rewritten_template_part counter code t) ≡ []
      still_template_part (a_part d) h = still_expr d h

      still_param : {x t : Param} → MarkedParam x t → t_param x ≡ [] → t_param (rewritten_param counter code t) ≡ []
      still_param plain_param h = refl
      still_param (defaulted {w = w} _ d) h = still_held _ w d h

      still_declarator : {x t : Declarator} (i : Bool) → MarkedDeclarator x t → t_declarator x ≡ [] → t_declarator (rewritten_declarator counter code i t) ≡ []
      still_declarator i declarator h = refl
      still_declarator i (initialized {w = w} _ d) h = still_initial i _ w d h

      still_declarators : {x t : Declarators} (i : Bool) → MarkedDeclarators x t → t_declarators x ≡ [] → t_declarators (rewritten_declarators counter code i t) ≡ []
      still_declarators i no_declarators h = refl
      still_declarators i (more_declarators {x = x} {y = y} d g) h = let s = none_of (t_declarator x) (t_declarators y) h in nothing_both (still_declarator i d s.0) (still_declarators false g s.1)

      still_case : {x t : Case} → MarkedCase x t → t_case x ≡ [] → t_case (rewritten_case counter code t) ≡ []
      still_case (clause {e = e} {x = x} d g) h = let s = none_of (t_expr_if e) (t_stmts x) h in nothing_both (still_expr_if d s.0) (still_stmts false g s.1)
      still_case (entered_clause {e = e} {x = x} {x' = t} m d g) h = let s = none_of (t_expr_if e) (t_stmts x) h in nothing_both (still_expr_if d s.0) (empty_first (m ∷ []) (rewritten_stmts counter code false t) (still_stmts false g s.1))

      still_catch : {x t : Catch} → MarkedCatch x t → t_catch x ≡ [] → t_catch (rewritten_catch counter code t) ≡ []
      still_catch (catching {p = p} {x = x} d) h = let s = none_of (within_pattern_if own_this outside_functions p tt) (t_stmts x) h in nothing_both s.0 (still_stmts true d s.1)

      still_expr_if : {x t : MaybeExpr} → MarkedMaybe x t → t_expr_if x ≡ [] → t_expr_if (rewritten_expr_if counter code t) ≡ []
      still_expr_if no_value h = refl
      still_expr_if (some_value d) h = still_expr d h

      still_exprs : {x t : Exprs} → MarkedExprs x t → t_exprs x ≡ [] → t_exprs (rewritten_exprs counter code t) ≡ []
      still_exprs no_exprs h = refl
      still_exprs (more_exprs {x = x} {y = y} d g) h = let s = none_of (te x) (t_exprs y) h in nothing_both (still_expr d s.0) (still_exprs g s.1)

      still_template_parts : {x t : TemplateParts} → MarkedParts x t → t_template_parts x ≡ [] → t_template_parts (rewritten_template_parts counter code t) ≡ []
      still_template_parts no_parts h = refl
      still_template_parts (more_parts {x = x} {y = y} d g) h = let s = none_of (t_template_part x) (t_template_parts y) h in nothing_both (still_template_part d s.0) (still_template_parts g s.1)

      still_properties : {x t : Properties} → MarkedProperties x t → t_properties x ≡ [] → t_properties (rewritten_properties counter code t) ≡ []
      still_properties no_properties h = refl
      still_properties (more_properties {x = x} {y = y} d g) h = let s = none_of (t_property x) (t_properties y) h in nothing_both (still_property d s.0) (still_properties g s.1)

      still_params : {x t : Params} → MarkedParams x t → t_params x ≡ [] → t_params (rewritten_params counter code t) ≡ []
      still_params no_params h = refl
      still_params (more_params {x = x} {y = y} d g) h = let s = none_of (t_param x) (t_params y) h in nothing_both (still_param d s.0) (still_params g s.1)

      still_cases : {x t : Cases} → MarkedCases x t → t_cases x ≡ [] → t_cases (rewritten_cases counter code t) ≡ []
      still_cases no_cases h = refl
      still_cases (more_cases {x = x} {y = y} d g) h = let s = none_of (t_case x) (t_cases y) h in nothing_both (still_case d s.0) (still_cases g s.1)
