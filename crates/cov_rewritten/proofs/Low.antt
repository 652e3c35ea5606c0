-- How high a rewritten tree is: eight levels at most for each of the source.
use Rattle.std.proofs.Common.{◌≡◌, ◌≤◌, ◌*◌, ◌+◌, ◌++◌, max, ℕ, Bool, true, false, List, [], ◌∷◌, None, refl, arith}
use Rattle.js_terms.specs.Mark.{Mark}
use Rattle.js_tree.specs.Plain.{Expr, FunctionExpression, Entered}
use Rattle.js_tree.specs.Plain.{Stmt, Directive, Block, Return, FunctionDeclaration, EnteredStmt}
use Rattle.js_tree.specs.Plain.{Property}
use Rattle.js_tree.specs.Plain.{PropertyKey}
use Rattle.js_tree.specs.Plain.{ConciseBody}
use Rattle.js_tree.specs.Plain.{ForInit}
use Rattle.js_tree.specs.Plain.{ForTarget}
use Rattle.js_tree.specs.Plain.{TemplatePart}
use Rattle.js_tree.specs.Plain.{Function, MakeFunction}
use Rattle.js_tree.specs.Plain.{FunctionBody}
use Rattle.js_tree.specs.Plain.{Param}
use Rattle.js_tree.specs.Plain.{Declarator}
use Rattle.js_tree.specs.Plain.{Case}
use Rattle.js_tree.specs.Plain.{Catch}
use Rattle.js_tree.specs.Plain.{MaybeExpr, some_expr}
use Rattle.js_tree.specs.Plain.{MaybeStmt}
use Rattle.js_tree.specs.Plain.{Exprs}
use Rattle.js_tree.specs.Plain.{TemplateParts}
use Rattle.js_tree.specs.Plain.{Properties}
use Rattle.js_tree.specs.Plain.{Params}
use Rattle.js_tree.specs.Plain.{Stmts, no_stmt, more_stmt}
use Rattle.js_tree.specs.Plain.{Declarators}
use Rattle.js_tree.specs.Plain.{Cases}
use Rattle.js_tree.specs.Height.{height_expr, height_stmt, height_property, height_property_key, height_concise_body, height_for_init, height_for_target, height_template_part, height_function, height_function_body, height_param, height_declarator, height_case, height_catch, height_expr_if, height_stmt_if, height_template_parts, height_properties, height_params, height_exprs, height_stmts, height_declarators, height_cases}
use Rattle.cov_rewritten.specs.Counters.{with_name}
use Rattle.cov_rewritten.specs.Rewritten.{expr_marks, stmt_marks, arm_marks, is_any, is_anonymous, hoisted_marks, joined, after_directives, inside, counts, in_block, looped, arm, counted, held, initial, rewritten_expr, rewritten_stmt, rewritten_arm, rewritten_stmts, rewritten_property, rewritten_property_key, rewritten_concise_body, rewritten_for_init, rewritten_for_target, rewritten_template_part, rewritten_function, rewritten_function_body, rewritten_param, rewritten_declarator, rewritten_declarators, rewritten_case, rewritten_catch, rewritten_expr_if, rewritten_exprs, rewritten_template_parts, rewritten_properties, rewritten_params, rewritten_cases}
use Rattle.cov_rewritten.specs.Rewritten as r
use Rattle.js_marked.specs.MarkedTree.{MarkedExpr, identifier, this, null, boolean, numeric, string, array, object, function, arrow, regular, template, parenthesized, named_member, computed_member, new, call, postfix, prefix, unary, binary, logical, conditional, assignment, comma, MarkedValue, unentered, entered, MarkedLeaf, a_leaf, grouped, MarkedStmt, block, declaration, empty, expression, if_, do_, while, for_, for_in, for_of, continue, break, return, switch, labelled, throw, try_catch, try_finally, try_catch_finally, debugger, function_declaration, Around, bare, around, MarkedArm, none, missing, some, Branched, unbranched, branched, Listed, a_directive, a_stmt, MarkedStmts, no_stmts, more_stmts, MarkedProperty, shorthand, key_value, method, MarkedKey, name_key, string_key, number_key, computed_key, MarkedConcise, concise, concise_one, concise_two, braced, MarkedInit, no_init, init_declaration, init_expression, MarkedTarget, target_declaration, target_expression, MarkedPart, a_part, MarkedFunction, make_function, MarkedBody, plain_body, entered_body, MarkedParam, plain_param, defaulted, MarkedDeclarator, declarator, initialized, MarkedCase, clause, entered_clause, MarkedCatch, catching, MarkedMaybe, no_value, some_value, MarkedExprs, no_exprs, more_exprs, MarkedParts, no_parts, more_parts, MarkedProperties, no_properties, more_properties, MarkedParams, no_params, more_params, MarkedDeclarators, no_declarators, more_declarators, MarkedCases, no_cases, more_cases}

-- every expression and every statement has a level
abbrev positive_expr : (e : Expr) → 1 ≤ height_expr e
positive_expr (FunctionExpression l n (MakeFunction i p b)) = omega arith
positive_expr (Entered m e) = positive_expr e
positive_expr _ = omega arith

abbrev positive_stmt : (x : Stmt) → 1 ≤ height_stmt x
positive_stmt (FunctionDeclaration l n (MakeFunction i p b)) = omega arith
positive_stmt (EnteredStmt m x) = positive_stmt x
positive_stmt _ = omega arith

pub marks_none : {e t : Expr} → MarkedExpr e t → expr_marks t ≡ []
marks_none identifier = refl
marks_none _ = refl

low_joined : (zs xs : Stmts) → height_stmts (joined zs xs) ≤ max (height_stmts zs) (height_stmts xs)
low_joined no_stmt xs = omega arith
low_joined (more_stmt z zs) xs = omega (arith, low_joined zs xs)

pub low_after : (zs xs : Stmts) → height_stmts (after_directives zs xs) ≤ max (height_stmts zs) (height_stmts xs)
low_after zs no_stmt = low_joined zs no_stmt
low_after zs (more_stmt (Directive l s) xs) = omega (arith, low_after zs xs)
low_after zs (more_stmt x xs) = low_joined zs (more_stmt x xs)

low_inside : (x : Stmt) → height_stmts (inside x) ≤ height_stmt x
low_inside (Block l xs) = omega arith
low_inside _ = omega arith

module _ (counter : Mark → Expr) (low : (m : Mark) → height_expr (counter m) ≤ 6) where
  low_counts : (ms : List Mark) → height_stmts (counts counter ms) ≤ 7
  low_counts [] = omega arith
  low_counts (m ∷ ms) = omega (arith, low m, low_counts ms)

  low_in_block : (ms : List Mark) (x : Stmt) → height_stmt (in_block counter ms x) ≤ max 7 (height_stmt x) + 1
  low_in_block ms x = omega (arith, low_joined (counts counter ms) (inside x), low_counts ms, low_inside x)

  low_looped : (ms : List Mark) (x : Stmt) → height_stmt (looped counter ms x) ≤ max 7 (height_stmt x) + 1
  low_looped [] x = omega arith
  low_looped (m ∷ ms) x = low_in_block (m ∷ ms) x

  low_arm : (b : Bool) (ms : List Mark) (x : Stmt) → height_stmt (arm counter b ms x) ≤ max 7 (height_stmt x) + 1
  low_arm false ms x = omega arith
  low_arm true ms x = low_in_block ms x

  low_begun : (m : Mark) (xs : Stmts) → height_stmts (after_directives (counts counter (m ∷ [])) xs) ≤ max 7 (height_stmts xs)
  low_begun m xs = omega (arith, low_after (counts counter (m ∷ [])) xs, low_counts (m ∷ []))

  low_first : (ms : List Mark) (xs : Stmts) → height_stmts (joined (counts counter ms) xs) ≤ max 7 (height_stmts xs)
  low_first ms xs = omega (arith, low_joined (counts counter ms) xs, low_counts ms)

  low_concise : (ms : List Mark) (e : Expr) → height_concise_body (r.concise counter ms e) ≤ max 7 (height_expr e + 1)
  low_concise [] e = omega arith
  low_concise (m ∷ ms) e = omega (arith, low_first (m ∷ ms) (more_stmt (Return None (some_expr e)) no_stmt))

  -- one mark at most
  abbrev low_counted : (m : Mark) (e : Expr) → height_expr (counted counter (m ∷ []) e) ≤ max 6 (height_expr e) + 2
  low_counted m e = omega (arith, low m)

  low_held_one : (b : Bool) (f : List ℕ) (m : Mark) (e : Expr) → height_expr (held counter b f (m ∷ []) e) ≤ max 3 (height_expr e) + 5
  low_held_one false f m e = omega (arith, low_counted m e)
  low_held_one true f m e = omega (arith, low_counted m (with_name f e))

  low_initial_one : (h b : Bool) (f : List ℕ) (m : Mark) (e : Expr) → height_expr (initial counter h b f (m ∷ []) e) ≤ max 3 (height_expr e) + 5
  low_initial_one false b f m e = low_held_one b f m e
  low_initial_one true false f m e = low_held_one false f m e
  low_initial_one true true f m e = omega arith

  initial_none : (h b : Bool) (f : List ℕ) (e : Expr) → initial counter h b f [] e ≡ e
  initial_none false b f e = refl
  initial_none true false f e = refl
  initial_none true true f e = refl

  module _ (code : ℕ → ℕ) where
    mutual
      low_expr : {e t : Expr} → MarkedExpr e t → height_expr (rewritten_expr counter code t) ≤ 8 * height_expr e
      low_expr identifier = omega arith
      low_expr this = omega arith
      low_expr null = omega arith
      low_expr boolean = omega arith
      low_expr numeric = omega arith
      low_expr string = omega arith
      low_expr (array d) = omega (arith, low_exprs d)
      low_expr (object d) = omega (arith, low_properties d)
      low_expr (function d) = low_function d
      low_expr (arrow p b) = omega (arith, low_params p, low_concise_body b)
      low_expr regular = omega arith
      low_expr (template d) = omega (arith, low_parts d)
      low_expr (parenthesized d) = rw (marks_none d) (omega (arith, low_expr d))
      low_expr (named_member d) = omega (arith, low_expr d)
      low_expr (computed_member d g) = omega (arith, low_expr d, low_expr g)
      low_expr (new d g) = omega (arith, low_expr d, low_exprs g)
      low_expr (call d g) = omega (arith, low_expr d, low_exprs g)
      low_expr (postfix d) = omega (arith, low_expr d)
      low_expr (prefix d) = omega (arith, low_expr d)
      low_expr (unary d) = omega (arith, low_expr d)
      low_expr (binary d g) = omega (arith, low_expr d, low_expr g)
      low_expr (logical d g) = omega (arith, low_leaf d, low_leaf g)
      low_expr (conditional d g h) = omega (arith, low_expr d, low_value g, low_value h)
      low_expr (assignment d g) = omega (arith, low_expr d, low_expr g)
      low_expr (comma d g) = omega (arith, low_expr d, low_expr g)

      low_value : {e t : Expr} → MarkedValue e t → height_expr (counted counter (expr_marks t) (rewritten_expr counter code t)) ≤ 8 * height_expr e + 2
      low_value (unentered {e' = t} d) = rw (marks_none d) (omega (arith, low_expr d))
      low_value (entered {e = e} {e' = t} m d) = rw (marks_none d) (omega (arith, low_counted m (rewritten_expr counter code t), low_expr d, positive_expr e))

      low_leaf : {e t : Expr} → MarkedLeaf e t → height_expr (counted counter (expr_marks t) (rewritten_expr counter code t)) ≤ 8 * height_expr e + 2
      low_leaf (a_leaf v) = low_value v
      low_leaf (grouped d) = omega (arith, low_leaf d)

      low_held : {e t : Expr} (b : Bool) (f : List ℕ) → MarkedValue e t → height_expr (held counter b f (expr_marks t) (rewritten_expr counter code t)) ≤ 8 * height_expr e + 5
      low_held b f (unentered {e' = t} d) = rw (marks_none d) (omega (arith, low_expr d))
      low_held b f (entered {e = e} {e' = t} m d) = rw (marks_none d) (omega (arith, low_held_one b f m (rewritten_expr counter code t), low_expr d, positive_expr e))

      low_initial : {e t : Expr} (h b : Bool) (f : List ℕ) → MarkedValue e t → height_expr (initial counter h b f (expr_marks t) (rewritten_expr counter code t)) ≤ 8 * height_expr e + 5
      low_initial h b f (unentered {e' = t} d) = rw (marks_none d) (rw (initial_none h b f (rewritten_expr counter code t)) (omega (arith, low_expr d)))
      low_initial h b f (entered {e = e} {e' = t} m d) = rw (marks_none d) (omega (arith, low_initial_one h b f m (rewritten_expr counter code t), low_expr d, positive_expr e))

      low_stmt : {x t : Stmt} (home : Bool) → MarkedStmt x t → height_stmt (rewritten_stmt counter code home t) ≤ 8 * height_stmt x
      low_stmt home (block d) = omega (arith, low_stmts true d)
      low_stmt home (declaration d) = omega (arith, low_declarators home d)
      low_stmt home empty = omega arith
      low_stmt home (expression d) = omega (arith, low_expr d)
      low_stmt home (if_ {e = e} {x' = x'} {y' = y'} d a r) =
          let b = is_any (stmt_marks x' ++ arm_marks y') in
          omega (arith, low_expr d, positive_expr e, low_branched a, low_arm b (stmt_marks x') (rewritten_stmt counter code false x'), low_else b r)
      low_stmt home (do_ {x' = x'} n a d) = omega (arith, low_around a, low_looped (stmt_marks x') (rewritten_stmt counter code false x'), low_expr d)
      low_stmt home (while {x' = x'} d n a) = omega (arith, low_around a, low_looped (stmt_marks x') (rewritten_stmt counter code false x'), low_expr d)
      low_stmt home (for_ {x' = x'} i d g n a) = omega (arith, low_init i, low_maybe d, low_maybe g, low_around a, low_looped (stmt_marks x') (rewritten_stmt counter code false x'))
      low_stmt home (for_in {x' = x'} i d n a) = omega (arith, low_target i, low_expr d, low_around a, low_looped (stmt_marks x') (rewritten_stmt counter code false x'))
      low_stmt home (for_of {x' = x'} i d n a) = omega (arith, low_target i, low_expr d, low_around a, low_looped (stmt_marks x') (rewritten_stmt counter code false x'))
      low_stmt home continue = omega arith
      low_stmt home break = omega arith
      low_stmt home (return d) = omega (arith, low_maybe d)
      low_stmt home (switch d g) = omega (arith, low_expr d, low_cases g)
      low_stmt home (labelled d) = omega (arith, low_stmt false d)
      low_stmt home (throw d) = omega (arith, low_expr d)
      low_stmt home (try_catch d c) = omega (arith, low_stmts true d, low_catch c)
      low_stmt home (try_finally d g) = omega (arith, low_stmts true d, low_stmts true g)
      low_stmt home (try_catch_finally d c g) = omega (arith, low_stmts true d, low_catch c, low_stmts true g)
      low_stmt home debugger = omega arith
      low_stmt home (function_declaration d) = low_function d

      low_around : {x t : Stmt} → Around x t → (height_stmt (rewritten_stmt counter code false t) ≤ 8 * height_stmt x) × (1 ≤ height_stmt x)
      low_around (bare {x = x} d) = (low_stmt false d, positive_stmt x)
      low_around (around m _ _ a) = low_around a

      low_branched : {x t : Stmt} → Branched x t → (height_stmt (rewritten_stmt counter code false t) ≤ 8 * height_stmt x) × (1 ≤ height_stmt x)
      low_branched (unbranched _ a) = low_around a
      low_branched (branched m _ a) = low_around a

      low_else : {y t : MaybeStmt} (b : Bool) → MarkedArm y t → height_stmt_if (rewritten_arm counter code b t) ≤ max 8 (8 * height_stmt_if y + 1)
      low_else b none = omega arith
      low_else b (missing m) = omega (arith, low_counts (m ∷ []))
      low_else b (some {x' = x'} a) = omega (arith, low_branched a, low_arm b (stmt_marks x') (rewritten_stmt counter code false x'))

      low_at : {x t : Stmt} (home : Bool) → Around x t → (height_stmt (rewritten_stmt counter code home t) ≤ 8 * height_stmt x) × (1 ≤ height_stmt x)
      low_at home (bare {x = x} d) = (low_stmt home d, positive_stmt x)
      low_at home (around m _ _ a) = low_at home a

      low_listed : {x t : Stmt} (home : Bool) → Listed x t → (height_stmt (rewritten_stmt counter code home t) ≤ 8 * height_stmt x) × (1 ≤ height_stmt x)
      low_listed home a_directive = (omega arith, omega arith)
      low_listed home (a_stmt a) = low_at home a

      pub low_stmts : {x t : Stmts} (home : Bool) → MarkedStmts x t → height_stmts (rewritten_stmts counter code home t) ≤ 8 * height_stmts x
      low_stmts home no_stmts = omega arith
      low_stmts home (more_stmts {x' = t} {y' = ts} a d) =
          omega (arith, low_listed home a, low_stmts home d, low_first (stmt_marks t ++ hoisted_marks home t) (more_stmt (rewritten_stmt counter code home t) (rewritten_stmts counter code home ts)))

      low_property : {x t : Property} → MarkedProperty x t → height_property (rewritten_property counter code t) ≤ 8 * height_property x
      low_property shorthand = omega arith
      low_property (key_value k d) = omega (arith, low_key k, low_expr d)
      low_property (method k d) = omega (arith, low_key k, low_function d)

      low_key : {x t : PropertyKey} → MarkedKey x t → height_property_key (rewritten_property_key counter code t) ≤ 8 * height_property_key x
      low_key name_key = omega arith
      low_key string_key = omega arith
      low_key number_key = omega arith
      low_key (computed_key d) = low_expr d

      low_concise_body : {x t : ConciseBody} → MarkedConcise x t → height_concise_body (rewritten_concise_body counter code t) ≤ 8 * height_concise_body x + 7
      low_concise_body (concise {e' = t} d) = omega (arith, low_concise (expr_marks t) (rewritten_expr counter code t), low_expr d)
      low_concise_body (concise_one {e' = t} m d) = omega (arith, low_concise (m ∷ expr_marks t) (rewritten_expr counter code t), low_expr d)
      low_concise_body (concise_two {e' = t} m n d) = omega (arith, low_concise (m ∷ (n ∷ expr_marks t)) (rewritten_expr counter code t), low_expr d)
      low_concise_body (braced b) = low_body b

      low_init : {x t : ForInit} → MarkedInit x t → height_for_init (rewritten_for_init counter code t) ≤ 8 * height_for_init x
      low_init no_init = omega arith
      low_init (init_declaration d g) = omega (arith, low_declarator false d, low_declarators false g)
      low_init (init_expression d) = low_expr d

      low_target : {x t : ForTarget} → MarkedTarget x t → height_for_target (rewritten_for_target counter code t) ≤ 8 * height_for_target x
      low_target target_declaration = omega arith
      low_target (target_expression d) = low_expr d

      low_part : {x t : TemplatePart} → MarkedPart x t → height_template_part (rewritten_template_part counter code t) ≤ 8 * height_template_part x
      low_part (a_part d) = low_expr d

      low_function : {x t : Function} → MarkedFunction x t → height_function (rewritten_function counter code t) ≤ 8 * height_function x
      low_function (make_function p b) = omega (arith, low_params p, low_body b)

      low_body : {x t : FunctionBody} → MarkedBody x t → height_function_body (rewritten_function_body counter code t) ≤ 8 * height_function_body x + 7
      low_body (plain_body d) = omega (arith, low_stmts true d)
      low_body (entered_body {x' = t} m d) = omega (arith, low_stmts true d, low_begun m (rewritten_stmts counter code true t))

      low_param : {x t : Param} → MarkedParam x t → height_param (rewritten_param counter code t) ≤ 8 * height_param x
      low_param plain_param = omega arith
      low_param (defaulted {w = w} {e' = t} _ d) = omega (arith, low_held (is_anonymous t) w d)

      low_declarator : {x t : Declarator} (hoists : Bool) → MarkedDeclarator x t → height_declarator (rewritten_declarator counter code hoists t) ≤ 8 * height_declarator x
      low_declarator hoists declarator = omega arith
      low_declarator hoists (initialized {w = w} {e' = t} _ d) = omega (arith, low_initial hoists (is_anonymous t) w d)

      low_case : {x t : Case} → MarkedCase x t → height_case (rewritten_case counter code t) ≤ 8 * height_case x
      low_case (clause e d) = omega (arith, low_maybe e, low_stmts false d)
      low_case (entered_clause {x' = t} m e d) = omega (arith, low_maybe e, low_stmts false d, low_first (m ∷ []) (rewritten_stmts counter code false t))

      low_catch : {x t : Catch} → MarkedCatch x t → height_catch (rewritten_catch counter code t) ≤ 8 * height_catch x
      low_catch (catching d) = omega (arith, low_stmts true d)

      low_maybe : {x t : MaybeExpr} → MarkedMaybe x t → height_expr_if (rewritten_expr_if counter code t) ≤ 8 * height_expr_if x
      low_maybe no_value = omega arith
      low_maybe (some_value d) = low_expr d

      low_exprs : {x t : Exprs} → MarkedExprs x t → height_exprs (rewritten_exprs counter code t) ≤ 8 * height_exprs x
      low_exprs no_exprs = omega arith
      low_exprs (more_exprs d g) = omega (arith, low_expr d, low_exprs g)

      low_parts : {x t : TemplateParts} → MarkedParts x t → height_template_parts (rewritten_template_parts counter code t) ≤ 8 * height_template_parts x
      low_parts no_parts = omega arith
      low_parts (more_parts d g) = omega (arith, low_part d, low_parts g)

      low_properties : {x t : Properties} → MarkedProperties x t → height_properties (rewritten_properties counter code t) ≤ 8 * height_properties x
      low_properties no_properties = omega arith
      low_properties (more_properties d g) = omega (arith, low_property d, low_properties g)

      low_params : {x t : Params} → MarkedParams x t → height_params (rewritten_params counter code t) ≤ 8 * height_params x
      low_params no_params = omega arith
      low_params (more_params d g) = omega (arith, low_param d, low_params g)

      low_declarators : {x t : Declarators} (hoists : Bool) → MarkedDeclarators x t → height_declarators (rewritten_declarators counter code hoists t) ≤ 8 * height_declarators x
      low_declarators hoists no_declarators = omega arith
      low_declarators hoists (more_declarators d g) = omega (arith, low_declarator hoists d, low_declarators false g)

      low_cases : {x t : Cases} → MarkedCases x t → height_cases (rewritten_cases counter code t) ≤ 8 * height_cases x
      low_cases no_cases = omega arith
      low_cases (more_cases d g) = omega (arith, low_case d, low_cases g)
