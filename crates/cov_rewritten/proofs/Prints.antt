-- A rewritten file can be printed where the source can, if what is put in is spelt as tokens are.
use Rattle.std.proofs.Common.{Option, ◌≡◌, ◌++◌, ◌∷◌, [], ℕ, Bool, true, false, List, None, refl, ap, ◌∙◌}
use Rattle.js_terms.specs.declared.construct.ConstructKind.{ConstructKind}
use Rattle.js_terms.specs.declared.construct.ConstructKind.TheVariants as construct_kind
use Rattle.js_terms.specs.declared.operators.UpdateOperator.TheVariants as update
use Rattle.js_terms.specs.declared.operators.VariableKind.TheVariants as variable
use Rattle.js_terms.specs.Mark.{Mark}
use Rattle.js_terms.specs.declared.place.Loc.{Loc}
use Rattle.js_tree.specs.Plain.{Expr, Call, PostfixUpdate}
use Rattle.js_tree.specs.Plain.{Stmt, Directive, Block, Return}
use Rattle.js_tree.specs.Plain.{Property}
use Rattle.js_tree.specs.Plain.{PropertyKey}
use Rattle.js_tree.specs.Plain.{ConciseBody}
use Rattle.js_tree.specs.Plain.{ForInit}
use Rattle.js_tree.specs.Plain.{ForTarget}
use Rattle.js_tree.specs.Plain.{Function}
use Rattle.js_tree.specs.Plain.{FunctionBody}
use Rattle.js_tree.specs.Plain.{Param}
use Rattle.js_tree.specs.Plain.{Declarator}
use Rattle.js_tree.specs.Plain.{Case, MakeCase}
use Rattle.js_tree.specs.Plain.{Catch}
use Rattle.js_tree.specs.Plain.{Pattern, BindingIdentifier}
use Rattle.js_tree.specs.Plain.{MaybeExpr, some_expr}
use Rattle.js_tree.specs.Plain.{Exprs, no_expr}
use Rattle.js_tree.specs.Plain.{TemplateParts}
use Rattle.js_tree.specs.Plain.{Properties}
use Rattle.js_tree.specs.Plain.{Params, more_param}
use Rattle.js_tree.specs.Plain.{Stmts, no_stmt, more_stmt}
use Rattle.js_tree.specs.Plain.{Declarators}
use Rattle.js_tree.specs.Plain.{Cases, more_case}
use Rattle.js_reading.specs.Makes.{is_target, is_async, is_declaration, is_const, is_proto}
use Rattle.js_layout.specs.Printable.{IsName, Refers, Binds, ends_open, IsExpr, AreExprs, AreParts, AreProperties, IsProperty, IsKey, IsFunction, IsBody, IsConcise, AreParams, IsMaybe, AreStmts, IsStmt, HasDeclarators, AreDeclarators, IsDeclarator, IsInit, IsTarget, IsNoAsync, AreCases, IsCatch}
use Rattle.cov_rewritten.specs.Counters.{name, counter, counted_in, with_name}
use Rattle.cov_rewritten.proofs.Numerals.{spelt_token}
use Rattle.cov_rewritten.proofs.Quoted.{quoted_string}
use Rattle.cov_rewritten.proofs.Words.{word_s, word_f, word_b}
use Rattle.cov_rewritten.specs.Rewritten.{expr_marks, stmt_marks, is_any, bound_name, hoisted_marks, joined, after_directives, inside, counts, in_block, looped, arm, counted, held, initial, rewritten_expr, rewritten_stmt, rewritten_stmts, rewritten_property, rewritten_property_key, rewritten_concise_body, rewritten_for_init, rewritten_for_target, rewritten_function, rewritten_function_body, rewritten_param, rewritten_declarator, rewritten_declarators, rewritten_case, rewritten_catch, rewritten_expr_if, rewritten_exprs, rewritten_template_parts, rewritten_properties, rewritten_params, rewritten_cases}
use Rattle.cov_rewritten.specs.Rewritten as r
use Rattle.js_marked.specs.MarkedTree.{MarkedExpr, identifier, this, null, boolean, numeric, string, array, object, function, arrow, regular, template, parenthesized, named_member, computed_member, new, call, postfix, prefix, unary, binary, logical, conditional, assignment, comma, MarkedValue, unentered, entered, MarkedLeaf, a_leaf, grouped, MarkedStmt, block, declaration, empty, expression, if_, do_, while, for_, for_in, for_of, continue, break, return, switch, labelled, throw, try_catch, try_finally, try_catch_finally, debugger, function_declaration, Around, bare, around, none, missing, some, Branched, unbranched, branched, a_directive, a_stmt, MarkedStmts, no_stmts, more_stmts, MarkedProperty, shorthand, key_value, method, MarkedKey, name_key, string_key, number_key, computed_key, MarkedConcise, concise, concise_one, concise_two, braced, MarkedInit, no_init, init_declaration, init_expression, MarkedTarget, target_declaration, target_expression, a_part, MarkedFunction, make_function, MarkedBody, plain_body, entered_body, MarkedParam, plain_param, defaulted, MarkedDeclarator, declarator, initialized, MarkedCase, clause, entered_clause, MarkedCatch, catching, MarkedMaybe, no_value, some_value, MarkedExprs, no_exprs, more_exprs, MarkedParts, no_parts, more_parts, MarkedProperties, no_properties, more_properties, MarkedParams, no_params, more_params, MarkedDeclarators, no_declarators, more_declarators, MarkedCases, no_cases, more_cases}

-- ---- statements put together

-- one that is no directive may stand in a list
stands : (b : Bool) (x : Stmt) (xs : Stmts) → IsStmt x → AreStmts false xs → AreStmts b (more_stmt x xs)
stands b (Directive l s) xs q r = absurd q
stands true x xs q r = (q, r)
stands false x xs q r = (q, r)

-- and what a list says of one
stood : {x t : Stmt} (b : Bool) (xs : Stmts) → Around x t → AreStmts b (more_stmt x xs) → IsStmt x × AreStmts false xs
stood true xs (bare empty) q = (q.0, q.1)
stood true xs (bare d) q = (q.0, q.1)
stood false xs (bare empty) q = (q.0, q.1)
stood false xs (bare d) q = (q.0, q.1)
stood b xs (around m _ _ a) q = stood b xs a q

-- after a statement that is no directive none stands
are_later : (b : Bool) (xs : Stmts) → AreStmts false xs → AreStmts b xs
are_later b no_stmt q = tt
are_later b (more_stmt (Directive l s) xs) q = absurd q.0
are_later true (more_stmt x xs) q = (q.0, q.1)
are_later false (more_stmt x xs) q = (q.0, q.1)

-- statements of which none is a directive, before others
are_joined : (b : Bool) (zs xs : Stmts) → AreStmts false zs → AreStmts false xs → AreStmts b (joined zs xs)
are_joined b no_stmt xs q r = are_later b xs r
are_joined b (more_stmt (Directive l s) zs) xs q r = absurd q.0
are_joined true (more_stmt z zs) xs q r = (q.0, are_joined false zs xs q.1 r)
are_joined false (more_stmt z zs) xs q r = (q.0, are_joined false zs xs q.1 r)

pub are_after : (zs xs : Stmts) → AreStmts false zs → AreStmts true xs → AreStmts true (after_directives zs xs)
are_after zs no_stmt q r = are_joined true zs no_stmt q tt
are_after zs (more_stmt (Directive l s) xs) q r = (r.0, are_after zs xs q r.1)
are_after zs (more_stmt x xs) q r = are_joined true zs (more_stmt x xs) q (r.0, r.1)

are_inside : (x : Stmt) → IsStmt x → AreStmts false (inside x)
are_inside (Block l xs) q = q
are_inside (Directive l s) q = absurd q
are_inside x q = (q, tt)

is_any_more : (xs : List Mark) (m : Mark) → is_any (xs ++ m ∷ []) ≡ true
is_any_more [] m = refl
is_any_more (x ∷ xs) m = refl

module _ (n : List ℕ) (s : Refers n) where
  abbrev c : Mark → Expr
  c = counter n

  abbrev zero_code : ℕ → ℕ
  zero_code i = 0

  is_counter : (m : Mark) → IsExpr (counter n m)
  is_counter m = by m.kind
    where
      by : (k : ConstructKind) → IsExpr (PostfixUpdate None update.Increment (counted_in (Call None (name n) no_expr) m k))
      by construct_kind.Statement = ((((s, tt), word_s), spelt_token m.number), refl)
      by construct_kind.Function = ((((s, tt), word_f), spelt_token m.number), refl)
      by construct_kind.Branch = (((((s, tt), word_b), spelt_token m.number), spelt_token m.path), refl)

  are_counts : (ms : List Mark) → AreStmts false (counts c ms)
  are_counts [] = tt
  are_counts (m ∷ ms) = (is_counter m, are_counts ms)

  is_block : (ms : List Mark) (x : Stmt) → IsStmt x → IsStmt (in_block c ms x)
  is_block ms x q = are_joined false (counts c ms) (inside x) (are_counts ms) (are_inside x q)

  is_looped : (ms : List Mark) (x : Stmt) → IsStmt x → IsStmt (looped c ms x)
  is_looped [] x q = q
  is_looped (m ∷ ms) x q = is_block (m ∷ ms) x q

  no_looped : (ms : List Mark) (x : Stmt) → is_declaration x ≡ false → is_declaration (looped c ms x) ≡ false
  no_looped [] x h = h
  no_looped (m ∷ ms) x h = refl

  is_arm : (b : Bool) (ms : List Mark) (x : Stmt) → IsStmt x → IsStmt (arm c b ms x)
  is_arm false ms x q = q
  is_arm true ms x q = is_block ms x q

  no_arm : (b : Bool) (ms : List Mark) (x : Stmt) → is_declaration x ≡ false → is_declaration (arm c b ms x) ≡ false
  no_arm false ms x h = h
  no_arm true ms x h = refl

  closed_looped : (ms : List Mark) (x : Stmt) → ends_open x ≡ false → ends_open (looped c ms x) ≡ false
  closed_looped [] x h = h
  closed_looped (m ∷ ms) x h = refl

  closed_arm : (b : Bool) (ms : List Mark) (x : Stmt) → ends_open x ≡ false → ends_open (arm c b ms x) ≡ false
  closed_arm false ms x h = h
  closed_arm true ms x h = refl

  is_counted : (ms : List Mark) (e : Expr) → IsExpr e → IsExpr (counted c ms e)
  is_counted [] e q = q
  is_counted (m ∷ ms) e q = (is_counter m, is_counted ms e q)

  is_named : (f : List ℕ) (e : Expr) → IsName f → IsExpr e → IsExpr (with_name f e)
  is_named f e h q = (((quoted_string f h, refl, q), tt), quoted_string f h)

  is_held : (b : Bool) (f : List ℕ) (ms : List Mark) (e : Expr) → IsName f → IsExpr e → IsExpr (held c b f ms e)
  is_held b f [] e h q = q
  is_held false f (m ∷ ms) e h q = is_counted (m ∷ ms) e q
  is_held true f (m ∷ ms) e h q = is_counted (m ∷ ms) (with_name f e) (is_named f e h q)

  is_initial : (i b : Bool) (f : List ℕ) (ms : List Mark) (e : Expr) → IsName f → IsExpr e → IsExpr (initial c i b f ms e)
  is_initial false b f ms e h q = is_held b f ms e h q
  is_initial true false f ms e h q = is_held false f ms e h q
  is_initial true true f ms e h q = q

  is_concise : (ms : List Mark) (e : Expr) → IsExpr e → IsConcise (r.concise c ms e)
  is_concise [] e q = q
  is_concise (m ∷ ms) e q = are_joined true (counts c (m ∷ ms)) (more_stmt (Return None (some_expr e)) no_stmt) (are_counts (m ∷ ms)) (q, tt)

  bound_is : (p : Pattern) → Binds p → IsName (bound_name p)
  bound_is (BindingIdentifier l w) h = h

  -- ---- what stays of a form

  same_target : {e t : Expr} → MarkedExpr e t → is_target (rewritten_expr c zero_code t) ≡ is_target e
  same_target identifier = refl
  same_target _ = refl

  same_async : {e t : Expr} → MarkedExpr e t → is_async (rewritten_expr c zero_code t) ≡ is_async e
  same_async identifier = refl
  same_async _ = refl

  same_proto : {k t : PropertyKey} → MarkedKey k t → is_proto (rewritten_property_key c zero_code t) ≡ is_proto k
  same_proto name_key = refl
  same_proto string_key = refl
  same_proto number_key = refl
  same_proto (computed_key d) = refl

  no_declaration : {x t : Stmt} → Around x t → is_declaration x ≡ false → is_declaration (rewritten_stmt c zero_code false t) ≡ false
  no_declaration (bare (declaration {k = variable.Var} d)) h = refl
  no_declaration (bare (declaration {k = variable.Let} d)) h = h
  no_declaration (bare (declaration {k = variable.Const} d)) h = h
  no_declaration (bare (function_declaration d)) h = h
  no_declaration (bare _) h = refl
  no_declaration (around m _ _ a) h = no_declaration a h

  branch_declares : {x t : Stmt} → Branched x t → is_declaration (rewritten_stmt c zero_code false t) ≡ false
  branch_declares (unbranched n a) = no_declaration a n
  branch_declares (branched m n a) = no_declaration a n

  mutual
    closed_stmt : {x t : Stmt} → MarkedStmt x t → ends_open x ≡ false → ends_open (rewritten_stmt c zero_code false t) ≡ false
    closed_stmt (if_ {x' = x'} d a none) h = absurd cc
    closed_stmt (if_ {x' = x'} d a (missing m)) h = absurd cc
    closed_stmt (if_ {x' = x'} d a (some {x' = y'} b)) h =
        closed_arm (is_any (stmt_marks x' ++ stmt_marks y')) (stmt_marks y') (rewritten_stmt c zero_code false y') (closed_branch b h)
    closed_stmt (while {x' = x'} d o a) h = closed_looped (stmt_marks x') (rewritten_stmt c zero_code false x') (closed_around a h)
    closed_stmt (for_ {x' = x'} i d g o a) h = closed_looped (stmt_marks x') (rewritten_stmt c zero_code false x') (closed_around a h)
    closed_stmt (for_in {x' = x'} i d o a) h = closed_looped (stmt_marks x') (rewritten_stmt c zero_code false x') (closed_around a h)
    closed_stmt (for_of {x' = x'} i d o a) h = closed_looped (stmt_marks x') (rewritten_stmt c zero_code false x') (closed_around a h)
    closed_stmt (labelled d) h = closed_stmt d h
    closed_stmt empty h = refl
    closed_stmt _ h = refl

    closed_around : {x t : Stmt} → Around x t → ends_open x ≡ false → ends_open (rewritten_stmt c zero_code false t) ≡ false
    closed_around (bare d) h = closed_stmt d h
    closed_around (around m _ _ a) h = closed_around a h

    closed_branch : {x t : Stmt} → Branched x t → ends_open x ≡ false → ends_open (rewritten_stmt c zero_code false t) ≡ false
    closed_branch (unbranched _ a) h = closed_around a h
    closed_branch (branched m _ a) h = closed_around a h

  -- ---- the forms

  mutual
    prints_expr : {e t : Expr} → MarkedExpr e t → IsExpr e → IsExpr (rewritten_expr c zero_code t)
    prints_expr identifier q = q
    prints_expr this q = tt
    prints_expr null q = tt
    prints_expr boolean q = tt
    prints_expr numeric q = q
    prints_expr string q = q
    prints_expr (array d) q = prints_exprs d q
    prints_expr (object d) q = prints_properties d q
    prints_expr (function d) q = (q.0, prints_function d q.1)
    prints_expr (arrow p b) q = (refl, prints_params p q.1, prints_concise b q.2)
    prints_expr regular q = q
    prints_expr (template no_parts) q = q
    prints_expr (template (more_parts p d)) q = (q.0, prints_parts (more_parts p d) q.1)
    prints_expr (parenthesized {e' = t} d) q = is_counted (expr_marks t) (rewritten_expr c zero_code t) (prints_expr d q)
    prints_expr (named_member d) q = (prints_expr d q.0, q.1)
    prints_expr (computed_member d g) q = (prints_expr d q.0, prints_expr g q.1)
    prints_expr (new d g) q = (prints_expr d q.0, prints_exprs g q.1)
    prints_expr (call d g) q = (prints_expr d q.0, prints_exprs g q.1)
    prints_expr (postfix d) q = (prints_expr d q.0, same_target d ∙ q.1)
    prints_expr (prefix d) q = (prints_expr d q.0, same_target d ∙ q.1)
    prints_expr (unary d) q = prints_expr d q
    prints_expr (binary d g) q = (prints_expr d q.0, prints_expr g q.1)
    prints_expr (logical d g) q = (prints_leaf d q.0, prints_leaf g q.1)
    prints_expr (conditional d g k) q = (prints_expr d q.0, prints_value g q.1, prints_value k q.2)
    prints_expr (assignment d g) q = (prints_expr d q.0, same_target d ∙ q.1, prints_expr g q.2)
    prints_expr (comma d g) q = (prints_expr d q.0, prints_expr g q.1)

    prints_value : {e t : Expr} → MarkedValue e t → IsExpr e → IsExpr (counted c (expr_marks t) (rewritten_expr c zero_code t))
    prints_value (unentered {e' = t} d) q = is_counted (expr_marks t) (rewritten_expr c zero_code t) (prints_expr d q)
    prints_value (entered {e' = t} m d) q = is_counted (m ∷ expr_marks t) (rewritten_expr c zero_code t) (prints_expr d q)

    prints_leaf : {e t : Expr} → MarkedLeaf e t → IsExpr e → IsExpr (counted c (expr_marks t) (rewritten_expr c zero_code t))
    prints_leaf (a_leaf v) q = prints_value v q
    prints_leaf (grouped d) q = prints_leaf d q

    prints_held : {e t : Expr} (b : Bool) (f : List ℕ) → IsName f → MarkedValue e t → IsExpr e → IsExpr (held c b f (expr_marks t) (rewritten_expr c zero_code t))
    prints_held b f h (unentered {e' = t} d) q = is_held b f (expr_marks t) (rewritten_expr c zero_code t) h (prints_expr d q)
    prints_held b f h (entered {e' = t} m d) q = is_held b f (m ∷ expr_marks t) (rewritten_expr c zero_code t) h (prints_expr d q)

    prints_initial : {e t : Expr} (i b : Bool) (f : List ℕ) → IsName f → MarkedValue e t → IsExpr e → IsExpr (initial c i b f (expr_marks t) (rewritten_expr c zero_code t))
    prints_initial i b f h (unentered {e' = t} d) q = is_initial i b f (expr_marks t) (rewritten_expr c zero_code t) h (prints_expr d q)
    prints_initial i b f h (entered {e' = t} m d) q = is_initial i b f (m ∷ expr_marks t) (rewritten_expr c zero_code t) h (prints_expr d q)

    prints_exprs : {x t : Exprs} → MarkedExprs x t → AreExprs x → AreExprs (rewritten_exprs c zero_code t)
    prints_exprs no_exprs q = tt
    prints_exprs (more_exprs d g) q = (prints_expr d q.0, prints_exprs g q.1)

    prints_parts : {x t : TemplateParts} → MarkedParts x t → AreParts x → AreParts (rewritten_template_parts c zero_code t)
    prints_parts no_parts q = tt
    prints_parts (more_parts (a_part d) no_parts) q = (prints_expr d q.0, q.1, tt)
    prints_parts (more_parts (a_part d) (more_parts p g)) q = (prints_expr d q.0, q.1, prints_parts (more_parts p g) q.2)

    prints_properties : {x t : Properties} → MarkedProperties x t → AreProperties x → AreProperties (rewritten_properties c zero_code t)
    prints_properties no_properties q = tt
    prints_properties (more_properties d g) q = (prints_property d q.0, prints_properties g q.1)

    prints_property : {x t : Property} → MarkedProperty x t → IsProperty x → IsProperty (rewritten_property c zero_code t)
    prints_property shorthand q = q
    prints_property (key_value k d) q = (prints_key k q.0, same_proto k ∙ q.1, prints_expr d q.2)
    prints_property (method k d) q = (prints_key k q.0, prints_function d q.1)

    prints_key : {x t : PropertyKey} → MarkedKey x t → IsKey x → IsKey (rewritten_property_key c zero_code t)
    prints_key name_key q = q
    prints_key string_key q = q
    prints_key number_key q = q
    prints_key (computed_key d) q = prints_expr d q

    prints_function : {x t : Function} → MarkedFunction x t → IsFunction x → IsFunction (rewritten_function c zero_code t)
    prints_function (make_function p b) q = (refl, prints_params p q.1, prints_body b q.2)

    prints_body : {x t : FunctionBody} → MarkedBody x t → IsBody x → IsBody (rewritten_function_body c zero_code t)
    prints_body (plain_body d) q = prints_stmts true true d q
    prints_body (entered_body {x' = t} m d) q = are_after (counts c (m ∷ [])) (rewritten_stmts c zero_code true t) (are_counts (m ∷ [])) (prints_stmts true true d q)

    prints_concise : {x t : ConciseBody} → MarkedConcise x t → IsConcise x → IsConcise (rewritten_concise_body c zero_code t)
    prints_concise (concise {e' = t} d) q = is_concise (expr_marks t) (rewritten_expr c zero_code t) (prints_expr d q)
    prints_concise (concise_one {e' = t} m d) q = is_concise (m ∷ expr_marks t) (rewritten_expr c zero_code t) (prints_expr d q)
    prints_concise (concise_two {e' = t} m k d) q = is_concise (m ∷ (k ∷ expr_marks t)) (rewritten_expr c zero_code t) (prints_expr d q)
    prints_concise (braced b) q = prints_body b q

    prints_params : {x t : Params} → MarkedParams x t → AreParams x → AreParams (rewritten_params c zero_code t)
    prints_params no_params q = tt
    prints_params (more_params p d) q = prints_param _ _ p q (λ q. prints_params d q)

    prints_param : {x t : Param} (y s : Params) → MarkedParam x t → AreParams (more_param x y) → (AreParams y → AreParams s) → AreParams (more_param (rewritten_param c zero_code t) s)
    prints_param y s plain_param q f = (q.0, tt, f q.2)
    prints_param y s (defaulted {w = w} n v) q f = (q.0, prints_held _ w n v q.1, f q.2)

    prints_maybe : {x t : MaybeExpr} → MarkedMaybe x t → IsMaybe x → IsMaybe (rewritten_expr_if c zero_code t)
    prints_maybe no_value q = tt
    prints_maybe (some_value d) q = prints_expr d q

    pub prints_stmts : {x t : Stmts} (b home : Bool) → MarkedStmts x t → AreStmts b x → AreStmts b (rewritten_stmts c zero_code home t)
    prints_stmts b home no_stmts q = tt
    prints_stmts true home (more_stmts a_directive d) q = (q.0, prints_stmts true home d q.1)
    prints_stmts false home (more_stmts a_directive d) q = absurd q.0
    prints_stmts b home (more_stmts {x' = t} {y = xs} {y' = ts} (a_stmt a) d) q =
        let p = stood b xs a q in
        are_joined b (counts c (stmt_marks t ++ hoisted_marks home t)) (more_stmt (rewritten_stmt c zero_code home t) (rewritten_stmts c zero_code home ts))
        (are_counts (stmt_marks t ++ hoisted_marks home t))
        (stands false (rewritten_stmt c zero_code home t) (rewritten_stmts c zero_code home ts) (prints_around home a p.0) (prints_stmts false home d p.1))

    prints_around : {x t : Stmt} (home : Bool) → Around x t → IsStmt x → IsStmt (rewritten_stmt c zero_code home t)
    prints_around home (bare d) q = prints_stmt home d q
    prints_around home (around m _ _ a) q = prints_around home a q

    prints_branch : {x t : Stmt} → Branched x t → IsStmt x → IsStmt (rewritten_stmt c zero_code false t)
    prints_branch (unbranched _ a) q = prints_around false a q
    prints_branch (branched m _ a) q = prints_around false a q

    prints_stmt : {x t : Stmt} (home : Bool) → MarkedStmt x t → IsStmt x → IsStmt (rewritten_stmt c zero_code home t)
    prints_stmt home (block d) q = prints_stmts false true d q
    prints_stmt home (declaration {k = k} d) q = prints_declarators home (is_const k) d q
    prints_stmt home empty q = tt
    prints_stmt home (expression d) q = prints_expr d q
    prints_stmt home (if_ {x' = x'} d a none) q =
        let b = is_any (stmt_marks x' ++ []) in
        (prints_expr d q.0, is_arm b (stmt_marks x') (rewritten_stmt c zero_code false x') (prints_branch a q.1), no_arm b (stmt_marks x') (rewritten_stmt c zero_code false x') (branch_declares a), tt)
    prints_stmt home (if_ {x' = x'} d a (missing m)) q =
        let b = is_any (stmt_marks x' ++ m ∷ []) in (
          prints_expr d q.0,
          is_arm b (stmt_marks x') (rewritten_stmt c zero_code false x') (prints_branch a q.1),
          no_arm b (stmt_marks x') (rewritten_stmt c zero_code false x') (branch_declares a),
          (are_counts (m ∷ []), refl, ap (λ b. ends_open (arm c b (stmt_marks x') (rewritten_stmt c zero_code false x'))) (is_any_more (stmt_marks x') m)),
        )
    prints_stmt home (if_ {x' = x'} d a (some {x' = y'} k)) q =
        let b = is_any (stmt_marks x' ++ stmt_marks y') in (
          prints_expr d q.0,
          is_arm b (stmt_marks x') (rewritten_stmt c zero_code false x') (prints_branch a q.1),
          no_arm b (stmt_marks x') (rewritten_stmt c zero_code false x') (branch_declares a),
          (
            is_arm b (stmt_marks y') (rewritten_stmt c zero_code false y') (prints_branch k q.3.0),
            no_arm b (stmt_marks y') (rewritten_stmt c zero_code false y') (branch_declares k),
            closed_arm b (stmt_marks x') (rewritten_stmt c zero_code false x') (closed_branch a q.3.2),
          ),
        )
    prints_stmt home (do_ {x' = x'} o a d) q = (is_looped (stmt_marks x') (rewritten_stmt c zero_code false x') (prints_around false a q.0), no_looped (stmt_marks x') (rewritten_stmt c zero_code false x') (no_declaration a o), prints_expr d q.2)
    prints_stmt home (while {x' = x'} d o a) q = (prints_expr d q.0, is_looped (stmt_marks x') (rewritten_stmt c zero_code false x') (prints_around false a q.1), no_looped (stmt_marks x') (rewritten_stmt c zero_code false x') (no_declaration a o))
    prints_stmt home (for_ {x' = x'} i d g o a) q = (prints_init i q.0, prints_maybe d q.1, prints_maybe g q.2, is_looped (stmt_marks x') (rewritten_stmt c zero_code false x') (prints_around false a q.3), no_looped (stmt_marks x') (rewritten_stmt c zero_code false x') (no_declaration a o))
    prints_stmt home (for_in {x' = x'} i d o a) q = (prints_target i q.0, prints_expr d q.1, is_looped (stmt_marks x') (rewritten_stmt c zero_code false x') (prints_around false a q.2), no_looped (stmt_marks x') (rewritten_stmt c zero_code false x') (no_declaration a o))
    prints_stmt home (for_of {x' = x'} i d o a) q = (prints_target i q.0, prints_no_async i q.1, prints_expr d q.2, is_looped (stmt_marks x') (rewritten_stmt c zero_code false x') (prints_around false a q.3), no_looped (stmt_marks x') (rewritten_stmt c zero_code false x') (no_declaration a o))
    prints_stmt home continue q = q
    prints_stmt home break q = q
    prints_stmt home (return d) q = prints_maybe d q
    prints_stmt home (switch d g) q = (prints_expr d q.0, prints_cases false g q.1)
    prints_stmt home (labelled d) q = (q.0, prints_stmt false d q.1, no_declaration (bare d) q.2)
    prints_stmt home (throw d) q = prints_expr d q
    prints_stmt home (try_catch d k) q = (prints_stmts false true d q.0, prints_catch k q.1)
    prints_stmt home (try_finally d g) q = (prints_stmts false true d q.0, prints_stmts false true g q.1)
    prints_stmt home (try_catch_finally d k g) q = (prints_stmts false true d q.0, prints_catch k q.1, prints_stmts false true g q.2)
    prints_stmt home debugger q = tt
    prints_stmt home (function_declaration d) q = (q.0, prints_function d q.1)

    prints_declarators : {x t : Declarators} (i due : Bool) → MarkedDeclarators x t → HasDeclarators due x → HasDeclarators due (rewritten_declarators c zero_code i t)
    prints_declarators i due no_declarators q = q
    prints_declarators i due (more_declarators d g) q = (prints_declarator i due d q.0, prints_more due g q.1)

    prints_more : {x t : Declarators} (due : Bool) → MarkedDeclarators x t → AreDeclarators due x → AreDeclarators due (rewritten_declarators c zero_code false t)
    prints_more due no_declarators q = tt
    prints_more due (more_declarators d g) q = (prints_declarator false due d q.0, prints_more due g q.1)

    prints_declarator : {x t : Declarator} (i due : Bool) → MarkedDeclarator x t → IsDeclarator due x → IsDeclarator due (rewritten_declarator c zero_code i t)
    prints_declarator i true declarator q = q
    prints_declarator i false declarator q = q
    prints_declarator i true (initialized {w = w} n d) q = (q.0, prints_initial i _ w n d q.1)
    prints_declarator i false (initialized {w = w} n d) q = (q.0, prints_initial i _ w n d q.1)

    prints_init : {x t : ForInit} → MarkedInit x t → IsInit x → IsInit (rewritten_for_init c zero_code t)
    prints_init no_init q = tt
    prints_init (init_declaration {k = k} d g) q = (prints_declarator false (is_const k) d q.0, prints_more (is_const k) g q.1)
    prints_init (init_expression d) q = prints_expr d q

    prints_target : {x t : ForTarget} → MarkedTarget x t → IsTarget x → IsTarget (rewritten_for_target c zero_code t)
    prints_target target_declaration q = q
    prints_target (target_expression d) q = (prints_expr d q.0, same_target d ∙ q.1)

    prints_no_async : {x t : ForTarget} → MarkedTarget x t → IsNoAsync x → IsNoAsync (rewritten_for_target c zero_code t)
    prints_no_async target_declaration q = tt
    prints_no_async (target_expression d) q = same_async d ∙ q

    prints_cases : {x t : Cases} (b : Bool) → MarkedCases x t → AreCases b x → AreCases b (rewritten_cases c zero_code t)
    prints_cases b no_cases q = tt
    prints_cases b (more_cases x d) q = prints_case b _ _ x q (λ b q. prints_cases b d q)

    prints_case : {x t : Case} (b : Bool) (y s : Cases) → MarkedCase x t → AreCases b (more_case x y) → ((b : Bool) → AreCases b y → AreCases b s) → AreCases b (more_case (rewritten_case c zero_code t) s)
    prints_case b y s (clause {l = l} {x = x} {x' = t} e d) q f = prints_clause l x (rewritten_stmts c zero_code false t) b y s e q f (λ q. prints_stmts false false d q)
    prints_case b y s (entered_clause {l = l} {x = x} {x' = t} m e d) q f = prints_clause l x (joined (counts c (m ∷ [])) (rewritten_stmts c zero_code false t)) b y s e q f (λ q. (is_counter m, prints_stmts false false d q))

    prints_clause : (l : Option Loc) {e v : MaybeExpr} (x t : Stmts) (b : Bool) (y s : Cases) → MarkedMaybe e v → AreCases b (more_case (MakeCase l e x) y) → ((b : Bool) → AreCases b y → AreCases b s) →
        (AreStmts false x → AreStmts false t) → AreCases b (more_case (MakeCase l (rewritten_expr_if c zero_code v) t) s)
    prints_clause l x t true y s no_value q f g = absurd q
    prints_clause l x t false y s no_value q f g = (g q.0, f true q.1)
    prints_clause l x t true y s (some_value e) q f g = (prints_expr e q.0, g q.1, f true q.2)
    prints_clause l x t false y s (some_value e) q f g = (prints_expr e q.0, g q.1, f false q.2)

    prints_catch : {x t : Catch} → MarkedCatch x t → IsCatch x → IsCatch (rewritten_catch c zero_code t)
    prints_catch (catching d) q = (q.0, prints_stmts false true d q.1)
