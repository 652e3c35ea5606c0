-- A rewritten tree is the same but for the numbers of its functions, whatever the numbers and the marks in the linked tree are, if the marks' code is.
use Rattle.std.proofs.Common.{◌≡◌, ℕ, Bool, true, false, List, [], ◌∷◌, ◌++◌, map, Some, None, refl, sym, ap, ◌∙◌}
use Rattle.std.proofs.lemmas.List.{map-append}
use Rattle.js_terms.specs.Mark.{Mark}
use Rattle.js_tree.specs.Plain.{Expr, IdentifierReference, This, NullLiteral, BooleanLiteral, NumericLiteral, StringLiteral, ArrayLiteral, ObjectLiteral, FunctionExpression, ArrowFunction, RegularExpressionLiteral, TemplateLiteral, Parenthesized, NamedMember, ComputedMember, New, Call, PostfixUpdate, PrefixUpdate, Unary, Binary, Logical, Conditional, Assignment, Comma, Entered}
use Rattle.js_tree.specs.Plain.{Stmt, Directive, Block, VariableDeclaration, Empty, Expression, If, DoWhile, While, For, ForIn, ForOf, Continue, Break, Return, Switch, Labelled, Throw, TryCatch, TryFinally, TryCatchFinally, Debugger, FunctionDeclaration, EnteredStmt}
use Rattle.js_tree.specs.Plain.{Property, Shorthand, KeyValue, Method}
use Rattle.js_tree.specs.Plain.{PropertyKey, NameKey, StringKey, NumberKey, ComputedKey}
use Rattle.js_tree.specs.Plain.{ConciseBody, ExpressionBody, BlockBody}
use Rattle.js_tree.specs.Plain.{ForInit, NoInit, InitDeclaration, InitExpression}
use Rattle.js_tree.specs.Plain.{ForTarget, TargetDeclaration, TargetExpression}
use Rattle.js_tree.specs.Plain.{TemplatePart, MakeTemplatePart}
use Rattle.js_tree.specs.Plain.{Function, MakeFunction}
use Rattle.js_tree.specs.Plain.{FunctionBody, MakeFunctionBody, EnteredBody}
use Rattle.js_tree.specs.Plain.{Param, MakeParam}
use Rattle.js_tree.specs.Plain.{Declarator, MakeDeclarator}
use Rattle.js_tree.specs.Plain.{Case, MakeCase, EnteredCase}
use Rattle.js_tree.specs.Plain.{Catch, MakeCatch}
use Rattle.js_tree.specs.Plain.{MaybeExpr, none_expr, some_expr}
use Rattle.js_tree.specs.Plain.{MaybeStmt, none_stmt, some_stmt, entered_none}
use Rattle.js_tree.specs.Plain.{Exprs, no_expr, more_expr}
use Rattle.js_tree.specs.Plain.{TemplateParts, no_template_part, more_template_part}
use Rattle.js_tree.specs.Plain.{Properties, no_property, more_property}
use Rattle.js_tree.specs.Plain.{Params, no_param, more_param}
use Rattle.js_tree.specs.Plain.{Stmts, no_stmt, more_stmt}
use Rattle.js_tree.specs.Plain.{Declarators, no_declarator, more_declarator}
use Rattle.js_tree.specs.Plain.{Cases, no_case, more_case}
use Rattle.cov_rewritten.specs.Counters.{after_counter, with_name}
use Rattle.cov_rewritten.specs.Rewritten as R
use Rattle.cov_rewritten.specs.Rewritten.{expr_marks, stmt_marks, arm_marks, is_any, is_anonymous, bound_name, of_function, first_marks, hoisted_marks, joined, after_directives, block_place, inside}
use Rattle.cov_linked.proofs.Renamed as U

pub pair : {A B T : Type 0} (f : A → B → T) {a a' : A} {b b' : B} → a ≡ a' → b ≡ b' → f a b ≡ f a' b'
pair f {a' = a'} {b = b} p q = ap (λ x. f x b) p ∙ ap (f a') q

pub triple : {A B D T : Type 0} (f : A → B → D → T) {a a' : A} {b b' : B} {d d' : D} → a ≡ a' → b ≡ b' → d ≡ d' → f a b d ≡ f a' b' d'
triple f {a' = a'} {b = b} {d = d} p q r = ap (λ x. f x b d) p ∙ pair (f a') q r

pub four_fold : {A B D E T : Type 0} (f : A → B → D → E → T) {a a' : A} {b b' : B} {d d' : D} {e e' : E} → a ≡ a' → b ≡ b' → d ≡ d' → e ≡ e' → f a b d e ≡ f a' b' d' e'
four_fold f {a' = a'} {b = b} {d = d} {e = e} p q r s = ap (λ x. f x b d e) p ∙ triple (f a') q r s

-- a block without numbers is one still

place_kept : (x : Stmt) → block_place (U.renamed_stmt (λ m. m) x) ≡ block_place x
place_kept (Block loc xs) = refl
place_kept _ = refl

inside_kept : (x : Stmt) → U.renamed_stmts (λ m. m) (inside x) ≡ inside (U.renamed_stmt (λ m. m) x)
inside_kept (Block loc xs) = refl
inside_kept _ = refl

-- after directives

joined_kept : (xs ys : Stmts) → U.renamed_stmts (λ m. m) (joined xs ys) ≡ joined (U.renamed_stmts (λ m. m) xs) (U.renamed_stmts (λ m. m) ys)
joined_kept no_stmt ys = refl
joined_kept (more_stmt x xs) ys = ap (more_stmt (U.renamed_stmt (λ m. m) x)) (joined_kept xs ys)

pub after_kept : (first xs : Stmts) → U.renamed_stmts (λ m. m) (after_directives first xs) ≡ after_directives (U.renamed_stmts (λ m. m) first) (U.renamed_stmts (λ m. m) xs)
after_kept first no_stmt = joined_kept first no_stmt
after_kept first (more_stmt (Directive loc spelled) xs) = ap (more_stmt (Directive loc spelled)) (after_kept first xs)
after_kept first (more_stmt x xs) = joined_kept first (more_stmt x xs)

any_mapped : (g : Mark → Mark) (ms : List Mark) → is_any (map g ms) ≡ is_any ms
any_mapped g [] = refl
any_mapped g (m ∷ ms) = refl

module _ (code : Mark → Expr) (g : Mark → Mark) (f : ℕ → ℕ) where
  abbrev C : Mark → Expr
  C m = code (g m)

  abbrev BareExpr : Expr → Expr
  BareExpr = U.renamed_expr (λ m. m)

  abbrev BareStmts : Stmts → Stmts
  BareStmts = U.renamed_stmts (λ m. m)

  -- marks, and anonymous functions

  expr_mapped : (e : Expr) → expr_marks (U.renamed_expr g e) ≡ map g (expr_marks e)
  expr_mapped (Entered mark e) = ap (λ ms. g mark ∷ ms) (expr_mapped e)
  expr_mapped _ = refl

  stmt_mapped : (x : Stmt) → stmt_marks (U.renamed_stmt g x) ≡ map g (stmt_marks x)
  stmt_mapped (EnteredStmt mark x) = ap (λ ms. g mark ∷ ms) (stmt_mapped x)
  stmt_mapped _ = refl

  arm_mapped : (y : MaybeStmt) → arm_marks (U.renamed_stmt_if g y) ≡ map g (arm_marks y)
  arm_mapped none_stmt = refl
  arm_mapped (some_stmt x) = stmt_mapped x
  arm_mapped (entered_none mark) = refl

  anonymous_kept : (e : Expr) → is_anonymous (U.renamed_expr g e) ≡ is_anonymous e
  anonymous_kept (FunctionExpression loc None function) = refl
  anonymous_kept (FunctionExpression loc (Some name) function) = refl
  anonymous_kept (Parenthesized loc e) = anonymous_kept e
  anonymous_kept (Entered mark e) = anonymous_kept e
  anonymous_kept _ = refl

  of_mapped : (b : Bool) (e : Expr) → of_function b (U.renamed_expr g e) ≡ map g (of_function b e)
  of_mapped false e = refl
  of_mapped true e = expr_mapped e

  first_mapped : (ds : Declarators) → first_marks (U.renamed_declarators g ds) ≡ map g (first_marks ds)
  first_mapped no_declarator = refl
  first_mapped (more_declarator (MakeDeclarator loc pattern none_expr) ds) = refl
  first_mapped (more_declarator (MakeDeclarator loc pattern (some_expr e)) ds) = ap (λ b. of_function b (U.renamed_expr g e)) (anonymous_kept e) ∙ of_mapped (is_anonymous e) e

  hoisted_mapped : (home : Bool) (x : Stmt) → hoisted_marks home (U.renamed_stmt g x) ≡ map g (hoisted_marks home x)
  hoisted_mapped true (VariableDeclaration loc kind ds) = first_mapped ds
  hoisted_mapped false (VariableDeclaration loc kind ds) = refl
  hoisted_mapped home (EnteredStmt mark x) = hoisted_mapped home x
  hoisted_mapped home _ = refl

  -- where counters stand

  joined_same : (ms : List Mark) (xs ys : Stmts) → BareStmts xs ≡ BareStmts ys → BareStmts (joined (R.counts C ms) xs) ≡ BareStmts (joined (R.counts code (map g ms)) ys)
  joined_same [] xs ys h = h
  joined_same (m ∷ ms) xs ys h = ap (more_stmt (Expression None (BareExpr (code (g m))))) (joined_same ms xs ys h)

  counted_same : (ms : List Mark) (x y : Expr) → BareExpr x ≡ BareExpr y → BareExpr (R.counted C ms x) ≡ BareExpr (R.counted code (map g ms) y)
  counted_same [] x y h = h
  counted_same (m ∷ ms) x y h = ap (after_counter (BareExpr (code (g m)))) (counted_same ms x y h)

  held_same : (b : Bool) (n : List ℕ) (ms : List Mark) (x y : Expr) → BareExpr x ≡ BareExpr y → BareExpr (R.held C b n ms x) ≡ BareExpr (R.held code b n (map g ms) y)
  held_same b n [] x y h = h
  held_same false n (m ∷ ms) x y h = counted_same (m ∷ ms) x y h
  held_same true n (m ∷ ms) x y h = counted_same (m ∷ ms) (with_name n x) (with_name n y) (ap (with_name n) h)

  initial_same : (home b : Bool) (n : List ℕ) (ms : List Mark) (x y : Expr) → BareExpr x ≡ BareExpr y → BareExpr (R.initial C home b n ms x) ≡ BareExpr (R.initial code home b n (map g ms) y)
  initial_same false b n ms x y h = held_same b n ms x y h
  initial_same true false n ms x y h = held_same false n ms x y h
  initial_same true true n ms x y h = h

  concise_same : (ms : List Mark) (x y : Expr) → BareExpr x ≡ BareExpr y → U.renamed_concise_body (λ m. m) (R.concise C ms x) ≡ U.renamed_concise_body (λ m. m) (R.concise code (map g ms) y)
  concise_same [] x y h = ap ExpressionBody h
  concise_same (m ∷ ms) x y h = ap (λ xs. BlockBody (MakeFunctionBody None xs))
      (joined_same (m ∷ ms) (more_stmt (Return None (some_expr x)) no_stmt) (more_stmt (Return None (some_expr y)) no_stmt) (ap (λ z. more_stmt (Return None (some_expr z)) no_stmt) h))

  block_same : (ms : List Mark) (x y : Stmt) → U.renamed_stmt (λ m. m) x ≡ U.renamed_stmt (λ m. m) y → U.renamed_stmt (λ m. m) (R.in_block C ms x) ≡ U.renamed_stmt (λ m. m) (R.in_block code (map g ms) y)
  block_same ms x y h = pair Block (sym (place_kept x) ∙ ap block_place h ∙ place_kept y) (joined_same ms (inside x) (inside y) (inside_kept x ∙ ap inside h ∙ sym (inside_kept y)))

  looped_same : (ms : List Mark) (x y : Stmt) → U.renamed_stmt (λ m. m) x ≡ U.renamed_stmt (λ m. m) y → U.renamed_stmt (λ m. m) (R.looped C ms x) ≡ U.renamed_stmt (λ m. m) (R.looped code (map g ms) y)
  looped_same [] x y h = h
  looped_same (m ∷ ms) x y h = block_same (m ∷ ms) x y h

  arm_same : (b : Bool) (ms : List Mark) (x y : Stmt) → U.renamed_stmt (λ m. m) x ≡ U.renamed_stmt (λ m. m) y → U.renamed_stmt (λ m. m) (R.arm C b ms x) ≡ U.renamed_stmt (λ m. m) (R.arm code b (map g ms) y)
  arm_same false ms x y h = h
  arm_same true ms x y h = block_same ms x y h

  body_kept : (c : Mark → Expr) (m : Mark) (x : FunctionBody) → U.renamed_function_body (λ m. m) (R.begun_body c m x) ≡ R.begun_body (λ n. BareExpr (c n)) m (U.renamed_function_body (λ m. m) x)
  body_kept c m (MakeFunctionBody loc xs) = ap (MakeFunctionBody loc) (after_kept (R.counts c (m ∷ [])) xs)
  body_kept c m (EnteredBody other x) = ap (EnteredBody other) (body_kept c m x)

  body_mapped : (m : Mark) (x : FunctionBody) → R.begun_body (λ n. BareExpr (C n)) m x ≡ R.begun_body (λ n. BareExpr (code n)) (g m) x
  body_mapped m (MakeFunctionBody loc xs) = refl
  body_mapped m (EnteredBody other x) = ap (EnteredBody other) (body_mapped m x)

  begun_by : (m : Mark) (x y : FunctionBody) → U.renamed_function_body (λ m. m) x ≡ U.renamed_function_body (λ m. m) y →
      U.renamed_function_body (λ m. m) (R.begun_body C m x) ≡ U.renamed_function_body (λ m. m) (R.begun_body code (g m) y)
  begun_by m x y h = body_kept C m x ∙ ap (R.begun_body (λ n. BareExpr (C n)) m) h ∙ body_mapped m (U.renamed_function_body (λ m. m) y) ∙ sym (body_kept code (g m) y)

  clause_kept : (c : Mark → Expr) (m : Mark) (x : Case) → U.renamed_case (λ m. m) (R.begun_case c m x) ≡ R.begun_case (λ n. BareExpr (c n)) m (U.renamed_case (λ m. m) x)
  clause_kept c m (MakeCase loc e xs) = refl
  clause_kept c m (EnteredCase other x) = ap (EnteredCase other) (clause_kept c m x)

  clause_mapped : (m : Mark) (x : Case) → R.begun_case (λ n. BareExpr (C n)) m x ≡ R.begun_case (λ n. BareExpr (code n)) (g m) x
  clause_mapped m (MakeCase loc e xs) = refl
  clause_mapped m (EnteredCase other x) = ap (EnteredCase other) (clause_mapped m x)

  case_by : (m : Mark) (x y : Case) → U.renamed_case (λ m. m) x ≡ U.renamed_case (λ m. m) y →
      U.renamed_case (λ m. m) (R.begun_case C m x) ≡ U.renamed_case (λ m. m) (R.begun_case code (g m) y)
  case_by m x y h = clause_kept C m x ∙ ap (R.begun_case (λ n. BareExpr (C n)) m) h ∙ clause_mapped m (U.renamed_case (λ m. m) y) ∙ sym (clause_kept code (g m) y)

  -- the same with the marks of a node

  abbrev Expr' : Expr → Type 0
  Expr' e = BareExpr (R.rewritten_expr C f e) ≡ BareExpr (R.rewritten_expr code (λ n. 0) (U.renamed_expr g e))

  abbrev Stmt' : Bool → Stmt → Type 0
  Stmt' home x = U.renamed_stmt (λ m. m) (R.rewritten_stmt C f home x) ≡ U.renamed_stmt (λ m. m) (R.rewritten_stmt code (λ n. 0) home (U.renamed_stmt g x))

  counted_by : (e : Expr) → Expr' e → BareExpr (R.counted C (expr_marks e) (R.rewritten_expr C f e)) ≡ BareExpr (R.counted code (expr_marks (U.renamed_expr g e)) (R.rewritten_expr code (λ n. 0) (U.renamed_expr g e)))
  counted_by e h = counted_same (expr_marks e) (R.rewritten_expr C f e) (R.rewritten_expr code (λ n. 0) (U.renamed_expr g e)) h
      ∙ ap (λ ms. BareExpr (R.counted code ms (R.rewritten_expr code (λ n. 0) (U.renamed_expr g e)))) (sym (expr_mapped e))

  held_by : (n : List ℕ) (e : Expr) → Expr' e → BareExpr (R.held C (is_anonymous e) n (expr_marks e) (R.rewritten_expr C f e))
      ≡ BareExpr (R.held code (is_anonymous (U.renamed_expr g e)) n (expr_marks (U.renamed_expr g e)) (R.rewritten_expr code (λ n. 0) (U.renamed_expr g e)))
  held_by n e h = held_same (is_anonymous e) n (expr_marks e) (R.rewritten_expr C f e) (R.rewritten_expr code (λ n. 0) (U.renamed_expr g e)) h
      ∙ ap (λ ms. BareExpr (R.held code (is_anonymous e) n ms (R.rewritten_expr code (λ n. 0) (U.renamed_expr g e)))) (sym (expr_mapped e))
      ∙ ap (λ b. BareExpr (R.held code b n (expr_marks (U.renamed_expr g e)) (R.rewritten_expr code (λ n. 0) (U.renamed_expr g e)))) (sym (anonymous_kept e))

  initial_by : (home : Bool) (n : List ℕ) (e : Expr) → Expr' e → BareExpr (R.initial C home (is_anonymous e) n (expr_marks e) (R.rewritten_expr C f e))
      ≡ BareExpr (R.initial code home (is_anonymous (U.renamed_expr g e)) n (expr_marks (U.renamed_expr g e)) (R.rewritten_expr code (λ n. 0) (U.renamed_expr g e)))
  initial_by home n e h = initial_same home (is_anonymous e) n (expr_marks e) (R.rewritten_expr C f e) (R.rewritten_expr code (λ n. 0) (U.renamed_expr g e)) h
      ∙ ap (λ ms. BareExpr (R.initial code home (is_anonymous e) n ms (R.rewritten_expr code (λ n. 0) (U.renamed_expr g e)))) (sym (expr_mapped e))
      ∙ ap (λ b. BareExpr (R.initial code home b n (expr_marks (U.renamed_expr g e)) (R.rewritten_expr code (λ n. 0) (U.renamed_expr g e)))) (sym (anonymous_kept e))

  concise_by : (e : Expr) → Expr' e → U.renamed_concise_body (λ m. m) (R.concise C (expr_marks e) (R.rewritten_expr C f e))
      ≡ U.renamed_concise_body (λ m. m) (R.concise code (expr_marks (U.renamed_expr g e)) (R.rewritten_expr code (λ n. 0) (U.renamed_expr g e)))
  concise_by e h = concise_same (expr_marks e) (R.rewritten_expr C f e) (R.rewritten_expr code (λ n. 0) (U.renamed_expr g e)) h
      ∙ ap (λ ms. U.renamed_concise_body (λ m. m) (R.concise code ms (R.rewritten_expr code (λ n. 0) (U.renamed_expr g e)))) (sym (expr_mapped e))

  looped_by : (x : Stmt) → Stmt' false x → U.renamed_stmt (λ m. m) (R.looped C (stmt_marks x) (R.rewritten_stmt C f false x))
      ≡ U.renamed_stmt (λ m. m) (R.looped code (stmt_marks (U.renamed_stmt g x)) (R.rewritten_stmt code (λ n. 0) false (U.renamed_stmt g x)))
  looped_by x h = looped_same (stmt_marks x) (R.rewritten_stmt C f false x) (R.rewritten_stmt code (λ n. 0) false (U.renamed_stmt g x)) h
      ∙ ap (λ ms. U.renamed_stmt (λ m. m) (R.looped code ms (R.rewritten_stmt code (λ n. 0) false (U.renamed_stmt g x)))) (sym (stmt_mapped x))

  -- whether one of two arms counts

  abbrev any_of : Stmt → MaybeStmt → Bool
  any_of x y = is_any (stmt_marks x ++ arm_marks y)

  any_marks : (x : Stmt) (y : MaybeStmt) → any_of (U.renamed_stmt g x) (U.renamed_stmt_if g y) ≡ any_of x y
  any_marks x y = ap (λ ms. is_any (ms ++ arm_marks (U.renamed_stmt_if g y))) (stmt_mapped x) ∙ ap (λ ms. is_any (map g (stmt_marks x) ++ ms)) (arm_mapped y)
      ∙ ap is_any (sym (map-append g (stmt_marks x) (arm_marks y))) ∙ any_mapped g (stmt_marks x ++ arm_marks y)

  arm_by : (b : Bool) {c : Bool} (x : Stmt) → c ≡ b → Stmt' false x → U.renamed_stmt (λ m. m) (R.arm C b (stmt_marks x) (R.rewritten_stmt C f false x))
      ≡ U.renamed_stmt (λ m. m) (R.arm code c (stmt_marks (U.renamed_stmt g x)) (R.rewritten_stmt code (λ n. 0) false (U.renamed_stmt g x)))
  arm_by b x e h = arm_same b (stmt_marks x) (R.rewritten_stmt C f false x) (R.rewritten_stmt code (λ n. 0) false (U.renamed_stmt g x)) h
      ∙ ap (λ ms. U.renamed_stmt (λ m. m) (R.arm code b ms (R.rewritten_stmt code (λ n. 0) false (U.renamed_stmt g x)))) (sym (stmt_mapped x))
      ∙ ap (λ a. U.renamed_stmt (λ m. m) (R.arm code a (stmt_marks (U.renamed_stmt g x)) (R.rewritten_stmt code (λ n. 0) false (U.renamed_stmt g x)))) (sym e)

  missing_by : (x : Stmt) (y : MaybeStmt) → U.renamed_stmt_if (λ m. m) (R.rewritten_arm code (λ n. 0) (any_of x y) (U.renamed_stmt_if g y))
      ≡ U.renamed_stmt_if (λ m. m) (R.rewritten_arm code (λ n. 0) (any_of (U.renamed_stmt g x) (U.renamed_stmt_if g y)) (U.renamed_stmt_if g y))
  missing_by x y = ap (λ b. U.renamed_stmt_if (λ m. m) (R.rewritten_arm code (λ n. 0) b (U.renamed_stmt_if g y))) (sym (any_marks x y))

  before_mapped : (home : Bool) (x : Stmt) → stmt_marks (U.renamed_stmt g x) ++ hoisted_marks home (U.renamed_stmt g x) ≡ map g (stmt_marks x ++ hoisted_marks home x)
  before_mapped home x = ap (λ ms. ms ++ hoisted_marks home (U.renamed_stmt g x)) (stmt_mapped x) ∙ ap (λ ms. map g (stmt_marks x) ++ ms) (hoisted_mapped home x)
      ∙ sym (map-append g (stmt_marks x) (hoisted_marks home x))

  joined_by : (home : Bool) (x : Stmt) (xs ys : Stmts) → Stmt' home x → BareStmts xs ≡ BareStmts ys →
      BareStmts (joined (R.counts C (stmt_marks x ++ hoisted_marks home x)) (more_stmt (R.rewritten_stmt C f home x) xs))
      ≡ BareStmts (joined (R.counts code (stmt_marks (U.renamed_stmt g x) ++ hoisted_marks home (U.renamed_stmt g x))) (more_stmt (R.rewritten_stmt code (λ n. 0) home (U.renamed_stmt g x)) ys))
  joined_by home x xs ys h t = joined_same (stmt_marks x ++ hoisted_marks home x) (more_stmt (R.rewritten_stmt C f home x) xs) (more_stmt (R.rewritten_stmt code (λ n. 0) home (U.renamed_stmt g x)) ys) (pair more_stmt h t)
      ∙ ap (λ ms. BareStmts (joined (R.counts code ms) (more_stmt (R.rewritten_stmt code (λ n. 0) home (U.renamed_stmt g x)) ys))) (sym (before_mapped home x))

  -- the forms

  mutual
    alike_expr : (t : Expr) → U.renamed_expr (λ m. m) (R.rewritten_expr C f t) ≡ U.renamed_expr (λ m. m) (R.rewritten_expr code (λ n. 0) (U.renamed_expr g t))
    alike_expr (IdentifierReference loc text) = refl
    alike_expr (This loc) = refl
    alike_expr (NullLiteral loc) = refl
    alike_expr (BooleanLiteral loc value) = refl
    alike_expr (NumericLiteral loc text) = refl
    alike_expr (StringLiteral loc spelled) = refl
    alike_expr (ArrayLiteral loc es) = ap (ArrayLiteral loc) (alike_exprs es)
    alike_expr (ObjectLiteral loc properties) = ap (ObjectLiteral loc) (alike_properties properties)
    alike_expr (FunctionExpression loc name function) = ap (FunctionExpression loc name) (alike_function function)
    alike_expr (ArrowFunction loc number params body) = pair (ArrowFunction loc 0) (alike_params params) (alike_concise_body body)
    alike_expr (RegularExpressionLiteral loc text flags) = refl
    alike_expr (TemplateLiteral loc spelled parts) = ap (TemplateLiteral loc spelled) (alike_template_parts parts)
    alike_expr (Parenthesized loc e) = ap (Parenthesized loc) (counted_by e (alike_expr e))
    alike_expr (NamedMember loc e text) = ap (λ x. NamedMember loc x text) (alike_expr e)
    alike_expr (ComputedMember loc e h) = pair (ComputedMember loc) (alike_expr e) (alike_expr h)
    alike_expr (New loc e es) = pair (New loc) (alike_expr e) (alike_exprs es)
    alike_expr (Call loc e es) = pair (Call loc) (alike_expr e) (alike_exprs es)
    alike_expr (PostfixUpdate loc operator e) = ap (PostfixUpdate loc operator) (alike_expr e)
    alike_expr (PrefixUpdate loc operator e) = ap (PrefixUpdate loc operator) (alike_expr e)
    alike_expr (Unary loc operator e) = ap (Unary loc operator) (alike_expr e)
    alike_expr (Binary loc operator e h) = pair (Binary loc operator) (alike_expr e) (alike_expr h)
    alike_expr (Logical loc operator e h) = pair (Logical loc operator) (counted_by e (alike_expr e)) (counted_by h (alike_expr h))
    alike_expr (Conditional loc e i h) = triple (Conditional loc) (alike_expr e) (counted_by i (alike_expr i)) (counted_by h (alike_expr h))
    alike_expr (Assignment loc operator e h) = pair (Assignment loc operator) (alike_expr e) (alike_expr h)
    alike_expr (Comma loc e h) = pair (Comma loc) (alike_expr e) (alike_expr h)
    alike_expr (Entered mark e) = alike_expr e

    alike_stmt : (home : Bool) (t : Stmt) → U.renamed_stmt (λ m. m) (R.rewritten_stmt C f home t) ≡ U.renamed_stmt (λ m. m) (R.rewritten_stmt code (λ n. 0) home (U.renamed_stmt g t))
    alike_stmt home (Directive loc spelled) = refl
    alike_stmt home (Block loc xs) = ap (Block loc) (alike_stmts true xs)
    alike_stmt home (VariableDeclaration loc kind declarators) = ap (VariableDeclaration loc kind) (alike_declarators home declarators)
    alike_stmt home (Empty loc) = refl
    alike_stmt home (Expression loc e) = ap (Expression loc) (alike_expr e)
    alike_stmt home (If loc e x y) = triple (If loc) (alike_expr e) (arm_by (any_of x y) x (any_marks x y) (alike_stmt false x)) (alike_stmt_if (any_of x y) y ∙ missing_by x y)
    alike_stmt home (DoWhile loc x e) = pair (DoWhile loc) (looped_by x (alike_stmt false x)) (alike_expr e)
    alike_stmt home (While loc e x) = pair (While loc) (alike_expr e) (looped_by x (alike_stmt false x))
    alike_stmt home (For loc init e h x) = four_fold (For loc) (alike_for_init init) (alike_expr_if e) (alike_expr_if h) (looped_by x (alike_stmt false x))
    alike_stmt home (ForIn loc target e x) = triple (ForIn loc) (alike_for_target target) (alike_expr e) (looped_by x (alike_stmt false x))
    alike_stmt home (ForOf loc target e x) = triple (ForOf loc) (alike_for_target target) (alike_expr e) (looped_by x (alike_stmt false x))
    alike_stmt home (Continue loc name) = refl
    alike_stmt home (Break loc name) = refl
    alike_stmt home (Return loc e) = ap (Return loc) (alike_expr_if e)
    alike_stmt home (Switch loc e cases) = pair (Switch loc) (alike_expr e) (alike_cases cases)
    alike_stmt home (Labelled loc name x) = ap (Labelled loc name) (alike_stmt false x)
    alike_stmt home (Throw loc e) = ap (Throw loc) (alike_expr e)
    alike_stmt home (TryCatch loc xs catch) = pair (TryCatch loc) (alike_stmts true xs) (alike_catch catch)
    alike_stmt home (TryFinally loc xs ys) = pair (TryFinally loc) (alike_stmts true xs) (alike_stmts true ys)
    alike_stmt home (TryCatchFinally loc xs catch ys) = triple (TryCatchFinally loc) (alike_stmts true xs) (alike_catch catch) (alike_stmts true ys)
    alike_stmt home (Debugger loc) = refl
    alike_stmt home (FunctionDeclaration loc name function) = ap (FunctionDeclaration loc name) (alike_function function)
    alike_stmt home (EnteredStmt mark x) = alike_stmt home x

    alike_property : (t : Property) → U.renamed_property (λ m. m) (R.rewritten_property C f t) ≡ U.renamed_property (λ m. m) (R.rewritten_property code (λ n. 0) (U.renamed_property g t))
    alike_property (Shorthand loc text) = refl
    alike_property (KeyValue loc key e) = pair (KeyValue loc) (alike_property_key key) (alike_expr e)
    alike_property (Method loc key (MakeFunction number params body)) = pair (Method loc) (alike_property_key key) (pair (MakeFunction 0) (alike_params params) (alike_function_body body))

    alike_property_key : (t : PropertyKey) → U.renamed_property_key (λ m. m) (R.rewritten_property_key C f t) ≡ U.renamed_property_key (λ m. m) (R.rewritten_property_key code (λ n. 0) (U.renamed_property_key g t))
    alike_property_key (NameKey text) = refl
    alike_property_key (StringKey spelled) = refl
    alike_property_key (NumberKey text) = refl
    alike_property_key (ComputedKey e) = ap ComputedKey (alike_expr e)

    alike_concise_body : (t : ConciseBody) → U.renamed_concise_body (λ m. m) (R.rewritten_concise_body C f t) ≡ U.renamed_concise_body (λ m. m) (R.rewritten_concise_body code (λ n. 0) (U.renamed_concise_body g t))
    alike_concise_body (ExpressionBody e) = concise_by e (alike_expr e)
    alike_concise_body (BlockBody body) = ap BlockBody (alike_function_body body)

    alike_for_init : (t : ForInit) → U.renamed_for_init (λ m. m) (R.rewritten_for_init C f t) ≡ U.renamed_for_init (λ m. m) (R.rewritten_for_init code (λ n. 0) (U.renamed_for_init g t))
    alike_for_init NoInit = refl
    alike_for_init (InitDeclaration kind declarators) = ap (InitDeclaration kind) (alike_declarators false declarators)
    alike_for_init (InitExpression e) = ap InitExpression (alike_expr e)

    alike_for_target : (t : ForTarget) → U.renamed_for_target (λ m. m) (R.rewritten_for_target C f t) ≡ U.renamed_for_target (λ m. m) (R.rewritten_for_target code (λ n. 0) (U.renamed_for_target g t))
    alike_for_target (TargetDeclaration kind pattern) = refl
    alike_for_target (TargetExpression e) = ap TargetExpression (alike_expr e)

    alike_template_part : (t : TemplatePart) → U.renamed_template_part (λ m. m) (R.rewritten_template_part C f t) ≡ U.renamed_template_part (λ m. m) (R.rewritten_template_part code (λ n. 0) (U.renamed_template_part g t))
    alike_template_part (MakeTemplatePart e spelled) = ap (λ x. MakeTemplatePart x spelled) (alike_expr e)

    alike_function : (t : Function) → U.renamed_function (λ m. m) (R.rewritten_function C f t) ≡ U.renamed_function (λ m. m) (R.rewritten_function code (λ n. 0) (U.renamed_function g t))
    alike_function (MakeFunction number params body) = pair (MakeFunction 0) (alike_params params) (alike_function_body body)

    alike_function_body : (t : FunctionBody) → U.renamed_function_body (λ m. m) (R.rewritten_function_body C f t) ≡ U.renamed_function_body (λ m. m) (R.rewritten_function_body code (λ n. 0) (U.renamed_function_body g t))
    alike_function_body (MakeFunctionBody loc xs) = ap (MakeFunctionBody loc) (alike_stmts true xs)
    alike_function_body (EnteredBody mark body) = begun_by mark (R.rewritten_function_body C f body) (R.rewritten_function_body code (λ n. 0) (U.renamed_function_body g body)) (alike_function_body body)

    alike_param : (t : Param) → U.renamed_param (λ m. m) (R.rewritten_param C f t) ≡ U.renamed_param (λ m. m) (R.rewritten_param code (λ n. 0) (U.renamed_param g t))
    alike_param (MakeParam loc pattern none_expr) = refl
    alike_param (MakeParam loc pattern (some_expr e)) = ap (λ x. MakeParam loc pattern (some_expr x)) (held_by (bound_name pattern) e (alike_expr e))

    alike_declarator : (home : Bool) (t : Declarator) → U.renamed_declarator (λ m. m) (R.rewritten_declarator C f home t) ≡ U.renamed_declarator (λ m. m) (R.rewritten_declarator code (λ n. 0) home (U.renamed_declarator g t))
    alike_declarator home (MakeDeclarator loc pattern none_expr) = refl
    alike_declarator home (MakeDeclarator loc pattern (some_expr e)) = ap (λ x. MakeDeclarator loc pattern (some_expr x)) (initial_by home (bound_name pattern) e (alike_expr e))

    alike_case : (t : Case) → U.renamed_case (λ m. m) (R.rewritten_case C f t) ≡ U.renamed_case (λ m. m) (R.rewritten_case code (λ n. 0) (U.renamed_case g t))
    alike_case (MakeCase loc e xs) = pair (MakeCase loc) (alike_expr_if e) (alike_stmts false xs)
    alike_case (EnteredCase mark x) = case_by mark (R.rewritten_case C f x) (R.rewritten_case code (λ n. 0) (U.renamed_case g x)) (alike_case x)

    alike_catch : (t : Catch) → U.renamed_catch (λ m. m) (R.rewritten_catch C f t) ≡ U.renamed_catch (λ m. m) (R.rewritten_catch code (λ n. 0) (U.renamed_catch g t))
    alike_catch (MakeCatch pattern xs) = ap (MakeCatch pattern) (alike_stmts true xs)

    alike_expr_if : (t : MaybeExpr) → U.renamed_expr_if (λ m. m) (R.rewritten_expr_if C f t) ≡ U.renamed_expr_if (λ m. m) (R.rewritten_expr_if code (λ n. 0) (U.renamed_expr_if g t))
    alike_expr_if none_expr = refl
    alike_expr_if (some_expr e) = ap some_expr (alike_expr e)

    alike_stmt_if : (counts_one : Bool) (t : MaybeStmt) → U.renamed_stmt_if (λ m. m) (R.rewritten_arm C f counts_one t) ≡ U.renamed_stmt_if (λ m. m) (R.rewritten_arm code (λ n. 0) counts_one (U.renamed_stmt_if g t))
    alike_stmt_if counts_one none_stmt = refl
    alike_stmt_if counts_one (some_stmt x) = ap some_stmt (arm_by counts_one x refl (alike_stmt false x))
    alike_stmt_if counts_one (entered_none mark) = refl

    alike_exprs : (t : Exprs) → U.renamed_exprs (λ m. m) (R.rewritten_exprs C f t) ≡ U.renamed_exprs (λ m. m) (R.rewritten_exprs code (λ n. 0) (U.renamed_exprs g t))
    alike_exprs no_expr = refl
    alike_exprs (more_expr x xs) = pair more_expr (alike_expr x) (alike_exprs xs)

    alike_template_parts : (t : TemplateParts) → U.renamed_template_parts (λ m. m) (R.rewritten_template_parts C f t) ≡ U.renamed_template_parts (λ m. m) (R.rewritten_template_parts code (λ n. 0) (U.renamed_template_parts g t))
    alike_template_parts no_template_part = refl
    alike_template_parts (more_template_part x xs) = pair more_template_part (alike_template_part x) (alike_template_parts xs)

    alike_properties : (t : Properties) → U.renamed_properties (λ m. m) (R.rewritten_properties C f t) ≡ U.renamed_properties (λ m. m) (R.rewritten_properties code (λ n. 0) (U.renamed_properties g t))
    alike_properties no_property = refl
    alike_properties (more_property x xs) = pair more_property (alike_property x) (alike_properties xs)

    alike_params : (t : Params) → U.renamed_params (λ m. m) (R.rewritten_params C f t) ≡ U.renamed_params (λ m. m) (R.rewritten_params code (λ n. 0) (U.renamed_params g t))
    alike_params no_param = refl
    alike_params (more_param x xs) = pair more_param (alike_param x) (alike_params xs)

    pub alike_stmts : (home : Bool) (t : Stmts) → U.renamed_stmts (λ m. m) (R.rewritten_stmts C f home t) ≡ U.renamed_stmts (λ m. m) (R.rewritten_stmts code (λ n. 0) home (U.renamed_stmts g t))
    alike_stmts home no_stmt = refl
    alike_stmts home (more_stmt x xs) = joined_by home x (R.rewritten_stmts C f home xs) (R.rewritten_stmts code (λ n. 0) home (U.renamed_stmts g xs)) (alike_stmt home x) (alike_stmts home xs)

    alike_declarators : (home : Bool) (t : Declarators) → U.renamed_declarators (λ m. m) (R.rewritten_declarators C f home t) ≡ U.renamed_declarators (λ m. m) (R.rewritten_declarators code (λ n. 0) home (U.renamed_declarators g t))
    alike_declarators home no_declarator = refl
    alike_declarators home (more_declarator x xs) = pair more_declarator (alike_declarator home x) (alike_declarators false xs)

    alike_cases : (t : Cases) → U.renamed_cases (λ m. m) (R.rewritten_cases C f t) ≡ U.renamed_cases (λ m. m) (R.rewritten_cases code (λ n. 0) (U.renamed_cases g t))
    alike_cases no_case = refl
    alike_cases (more_case x xs) = pair more_case (alike_case x) (alike_cases xs)
