-- A tree that is linked without marks stays as it is, but for the numbers of its functions.
use Rattle.std.proofs.Common.{◌≡◌, ℕ, ◌+◌, Bool, true, false, List, [], ◌++◌, Option, Some, refl, sym, ap, ap₂, subst, ◌∙◌, arith}
use Rattle.js_terms.specs.declared.place.Loc.{Loc}
use Rattle.js_terms.specs.declared.operators.LogicalOperator.{LogicalOperator}
use Rattle.js_terms.specs.declared.words.Identifier.{Identifier}
use Rattle.js_terms.specs.Mark.{Mark}
use Rattle.js_tree.specs.Plain.{Expr, IdentifierReference, This, NullLiteral, BooleanLiteral, NumericLiteral, StringLiteral, ArrayLiteral, ObjectLiteral, FunctionExpression, ArrowFunction, RegularExpressionLiteral, TemplateLiteral, Parenthesized, NamedMember, ComputedMember, New, Call, PostfixUpdate, PrefixUpdate, Unary, Binary, Logical, Conditional, Assignment, Comma, Entered}
use Rattle.js_tree.specs.Plain.{Stmt, Directive, Block, VariableDeclaration, Empty, Expression, If, DoWhile, While, For, ForIn, ForOf, Continue, Break, Return, Switch, Labelled, Throw, TryCatch, TryFinally, TryCatchFinally, Debugger, FunctionDeclaration, EnteredStmt}
use Rattle.js_tree.specs.Plain.{Property, Shorthand, KeyValue, Method}
use Rattle.js_tree.specs.Plain.{PropertyKey, NameKey, StringKey, NumberKey, ComputedKey}
use Rattle.js_tree.specs.Plain.{ConciseBody, ExpressionBody, BlockBody}
use Rattle.js_tree.specs.Plain.{ForInit, NoInit, InitDeclaration, InitExpression}
use Rattle.js_tree.specs.Plain.{ForTarget, TargetDeclaration, TargetExpression}
use Rattle.js_tree.specs.Plain.{TemplatePart, MakeTemplatePart}
use Rattle.js_tree.specs.Plain.{Function, MakeFunction}
use Rattle.js_tree.specs.Plain.{FunctionBody, MakeFunctionBody, EnteredBody}
use Rattle.js_tree.specs.Plain.{Param, MakeParam}
use Rattle.js_tree.specs.Plain.{Declarator, MakeDeclarator}
use Rattle.js_tree.specs.Plain.{Case, MakeCase, EnteredCase}
use Rattle.js_tree.specs.Plain.{Catch, MakeCatch}
use Rattle.js_tree.specs.Plain.{MaybeExpr, none_expr, some_expr}
use Rattle.js_tree.specs.Plain.{MaybeStmt, none_stmt, some_stmt, entered_none}
use Rattle.js_tree.specs.Plain.{Exprs, no_expr, more_expr}
use Rattle.js_tree.specs.Plain.{TemplateParts, no_template_part, more_template_part}
use Rattle.js_tree.specs.Plain.{Properties, no_property, more_property}
use Rattle.js_tree.specs.Plain.{Params, no_param, more_param}
use Rattle.js_tree.specs.Plain.{Stmts, no_stmt, more_stmt}
use Rattle.js_tree.specs.Plain.{Declarators, no_declarator, more_declarator}
use Rattle.js_tree.specs.Plain.{Cases, no_case, more_case}
use Rattle.js_tree.specs.Linked.{Unmarked, Numbers, Linked, Marks, Uncounted, Chain, Alone, Operand, kept, made, operand, after_code, enter_leaf, enter_concise_body, labelled, link_expr, link_stmt, link_property, link_property_key, link_concise_body, link_for_init, link_for_target, link_template_part, link_function, link_function_body, link_param, link_declarator, link_case, link_catch, link_expr_if, link_stmt_if, link_exprs, link_template_parts, link_properties, link_params, link_stmts, link_declarators, link_cases}
use Rattle.cov_rewritten.specs.Rewritten.{expr_marks, stmt_marks, arm_marks, hoisted_marks, first_marks, of_function, is_any, is_anonymous, bound_name, joined}
use Rattle.js_suits.specs.Rewritten as L
use Rattle.js_suits.specs.Rewritten.{counts, counted, held, initial, concise, looped, arm}
use Rattle.js_suits.specs.Settings.{Setting}

ap3 : {A B C D : Type 0} (f : A → B → C → D) {a a' : A} {b b' : B} {c c' : C} → a ≡ a' → b ≡ b' → c ≡ c' → f a b c ≡ f a' b' c'
ap3 f {a' = a'} {b = b} {c = c} p q r = ap (λ x. f x b c) p ∙ ap₂ (f a') q r

ap4 : {A B C D E : Type 0} (f : A → B → C → D → E) {a a' : A} {b b' : B} {c c' : C} {d d' : D} → a ≡ a' → b ≡ b' → c ≡ c' → d ≡ d' → f a b c d ≡ f a' b' c' d'
ap4 f {a' = a'} {b = b} {c = c} {d = d} p q r s = ap (λ x. f x b c d) p ∙ ap3 (f a') q r s

leaf_same : (e : Expr) (path : ℕ) → enter_leaf Uncounted path e ≡ e
leaf_same (Logical loc operator e f) path = refl
leaf_same (Parenthesized loc e) path = refl
leaf_same _ path = refl

operand_is : (b : Chain) (a : Linked Expr) → operand Unmarked b a ≡ a
operand_is Alone a = refl
operand_is (Operand m path) a = ap (λ (t : Expr). kept t a.next) (leaf_same a.tree path)

concise_is : (body : ConciseBody) → enter_concise_body Uncounted body ≡ body
concise_is (ExpressionBody e) = refl
concise_is (BlockBody body) = refl

labelled_is : (loc : Option Loc) (name : Identifier) (x : Stmt) → stmt_marks x ≡ [] → labelled loc name x ≡ Labelled loc name x
labelled_is loc name (EnteredStmt mark x) z = absurd (let y = z in cc)
labelled_is loc name _ z = refl

-- no marks

expr_none : (b : Chain) (e : Expr) (k : Numbers) → expr_marks (link_expr Unmarked b e k).tree ≡ []
expr_none b (Entered mark e) k = expr_none b e k
expr_none (Operand m path) (Logical loc operator e f) k = refl
expr_none Alone (Logical loc operator e f) k = refl
expr_none b _ k = refl

stmt_none : (x : Stmt) (k : Numbers) → stmt_marks (link_stmt Unmarked x k).tree ≡ []
stmt_none (EnteredStmt mark x) k = stmt_none x k
stmt_none (Labelled loc name x) k = ap stmt_marks (labelled_is loc name (link_stmt Unmarked x k).tree (stmt_none x k))
stmt_none _ k = refl

arm_none : (x : MaybeStmt) (k : Numbers) → arm_marks (link_stmt_if Unmarked x k).tree ≡ []
arm_none none_stmt k = refl
arm_none (some_stmt x) k = stmt_none x k
arm_none (entered_none mark) k = refl

of_none : (b : Bool) (e : Expr) → expr_marks e ≡ [] → of_function b e ≡ []
of_none false e z = refl
of_none true e z = z

first_none : (ds : Declarators) (k : Numbers) → first_marks (link_declarators Unmarked ds k).tree ≡ []
first_none no_declarator k = refl
first_none (more_declarator (MakeDeclarator loc pattern none_expr) ds) k = refl
first_none (more_declarator (MakeDeclarator loc pattern (some_expr e)) ds) k = of_none (is_anonymous (link_expr Unmarked Alone e k).tree) (link_expr Unmarked Alone e k).tree (expr_none Alone e k)

hoisted_none : (home : Bool) (x : Stmt) (k : Numbers) → hoisted_marks home (link_stmt Unmarked x k).tree ≡ []
hoisted_none true (VariableDeclaration loc kind ds) k = first_none ds k
hoisted_none false (VariableDeclaration loc kind ds) k = refl
hoisted_none home (EnteredStmt mark x) k = hoisted_none home x k
hoisted_none home (Labelled loc name x) k = ap (hoisted_marks home) (labelled_is loc name (link_stmt Unmarked x k).tree (stmt_none x k))
hoisted_none home _ k = refl

module _ (c : Setting) (shift : ℕ) where
  record Same {T : Type 0} (f : T → T) (a b : Linked T) : Type 0 where
    pub tree : f a.tree ≡ b.tree
    pub next : b.next.code ≡ shift + a.next.code

  same : {T : Type 0} {f : T → T} {a b : Linked T} → f a.tree ≡ b.tree → b.next.code ≡ shift + a.next.code → Same f a b
  same t n = record { tree = t; next = n }

  coded : (k j : Numbers) → j.code ≡ shift + k.code → (after_code j).code ≡ shift + (after_code k).code
  coded k j e = omega (arith, e)

  held_none : (b : Bool) (f : List ℕ) (ms : List Mark) (x : Expr) → ms ≡ [] → held c b f ms x ≡ x
  held_none b f ms x z = ap (λ ns. held c b f ns x) z

  initial_none : (i b : Bool) (f : List ℕ) (ms : List Mark) (x : Expr) → ms ≡ [] → initial c i b f ms x ≡ x
  initial_none false b f ms x z = held_none b f ms x z
  initial_none true false f ms x z = held_none false f ms x z
  initial_none true true f ms x z = refl

  counted_none : (ms : List Mark) (x : Expr) → ms ≡ [] → counted c ms x ≡ x
  counted_none ms x z = ap (λ ns. counted c ns x) z

  looped_none : (ms : List Mark) (x : Stmt) → ms ≡ [] → looped c ms x ≡ x
  looped_none ms x z = ap (λ ns. looped c ns x) z

  parted : (g : Expr → Expr) (b : Chain) (a d : Linked Expr) → Same (L.rewritten_expr c shift) (made g a) (made g d) → Same (L.rewritten_expr c shift) (made g (operand Unmarked b a)) (made g (operand Unmarked b d))
  parted g b a d s =
      subst (λ x. Same (L.rewritten_expr c shift) (made g x) (made g (operand Unmarked b d))) (sym (operand_is b a))
      (subst (λ x. Same (L.rewritten_expr c shift) (made g a) (made g x)) (sym (operand_is b d)) s)

  abbrev Kept : Chain → Expr → Type 0
  Kept b x = (k j : Numbers) → j.code ≡ shift + k.code → Same (L.rewritten_expr c shift) (link_expr Unmarked b x k) (link_expr Unmarked b x j)

  -- an operand of a chain, as it is rewritten
  operand_tree : (m : Marks) (path : ℕ) (x : Expr) (k j : Numbers) → Same (L.rewritten_expr c shift) (link_expr Unmarked (Operand m path) x k) (link_expr Unmarked (Operand m path) x j) →
      counted c (expr_marks (enter_leaf Uncounted path (link_expr Unmarked (Operand m path) x k).tree)) (L.rewritten_expr c shift (enter_leaf Uncounted path (link_expr Unmarked (Operand m path) x k).tree))
      ≡ enter_leaf Uncounted path (link_expr Unmarked (Operand m path) x j).tree
  operand_tree m path x k j s =
      ap (λ z. counted c (expr_marks z) (L.rewritten_expr c shift z)) (leaf_same (link_expr Unmarked (Operand m path) x k).tree path)
      ∙ counted_none (expr_marks (link_expr Unmarked (Operand m path) x k).tree) (L.rewritten_expr c shift (link_expr Unmarked (Operand m path) x k).tree) (expr_none (Operand m path) x k)
      ∙ s.tree ∙ sym (leaf_same (link_expr Unmarked (Operand m path) x j).tree path)

  logical_kept : (m : Marks) (path : ℕ) (loc : Option Loc) (operator : LogicalOperator) (x y : Expr) → Kept (Operand m path) x → Kept (Operand m path) y → Kept (Operand m path) (Logical loc operator x y)
  logical_kept m path loc operator x y hx hy k j e =
      let a = hx k j e in
      let b = hy (link_expr Unmarked (Operand m path) x k).next (link_expr Unmarked (Operand m path) x j).next a.next in
      same (ap₂ (Logical loc operator) (operand_tree m path x k j a) (operand_tree m path y (link_expr Unmarked (Operand m path) x k).next (link_expr Unmarked (Operand m path) x j).next b)) b.next

  mutual
    expr_kept : (b : Chain) (x : Expr) (k j : Numbers) → j.code ≡ shift + k.code → Same (L.rewritten_expr c shift) (link_expr Unmarked b x k) (link_expr Unmarked b x j)
    expr_kept b (IdentifierReference loc text) k j e = same refl e
    expr_kept b (This loc) k j e = same refl e
    expr_kept b (NullLiteral loc) k j e = same refl e
    expr_kept b (BooleanLiteral loc b2) k j e = same refl e
    expr_kept b (NumericLiteral loc text) k j e = same refl e
    expr_kept b (StringLiteral loc spelled) k j e = same refl e
    expr_kept b (RegularExpressionLiteral loc text flags) k j e = same refl e
    expr_kept b (ArrayLiteral loc es) k j e = same (ap (ArrayLiteral loc) (exprs_kept es k j e).tree) (exprs_kept es k j e).next
    expr_kept b (ObjectLiteral loc ps) k j e = same (ap (ObjectLiteral loc) (properties_kept ps k j e).tree) (properties_kept ps k j e).next
    expr_kept b (TemplateLiteral loc spelled parts) k j e = same (ap (TemplateLiteral loc spelled) (parts_kept parts k j e).tree) (parts_kept parts k j e).next
    expr_kept b (PostfixUpdate loc operator x) k j e = same (ap (PostfixUpdate loc operator) (expr_kept Alone x k j e).tree) (expr_kept Alone x k j e).next
    expr_kept b (PrefixUpdate loc operator x) k j e = same (ap (PrefixUpdate loc operator) (expr_kept Alone x k j e).tree) (expr_kept Alone x k j e).next
    expr_kept b (Unary loc operator x) k j e = same (ap (Unary loc operator) (expr_kept Alone x k j e).tree) (expr_kept Alone x k j e).next
    expr_kept b (FunctionExpression loc name function) k j e = let a = function_kept loc name function k j e in same (ap (FunctionExpression loc name) a.tree) a.next
    expr_kept b (ArrowFunction loc number params body) k j e = same (ap3 (ArrowFunction loc) (sym e) (params_kept params (after_code k) (after_code j) (coded k j e)).tree (ap (L.rewritten_concise_body c shift) (concise_is (link_concise_body Unmarked body (link_params Unmarked params (after_code k)).next).tree) ∙ (concise_kept body (link_params Unmarked params (after_code k)).next (link_params Unmarked params (after_code j)).next (params_kept params (after_code k) (after_code j) (coded k j e)).next).tree ∙ sym (concise_is (link_concise_body Unmarked body (link_params Unmarked params (after_code j)).next).tree))) (concise_kept body (link_params Unmarked params (after_code k)).next (link_params Unmarked params (after_code j)).next (params_kept params (after_code k) (after_code j) (coded k j e)).next).next
    expr_kept b (Parenthesized loc x) k j e = let a = expr_kept b x k j e in
        parted (Parenthesized loc) b (link_expr Unmarked b x k) (link_expr Unmarked b x j)
        (same (ap (Parenthesized loc) (counted_none (expr_marks (link_expr Unmarked b x k).tree) (L.rewritten_expr c shift (link_expr Unmarked b x k).tree) (expr_none b x k) ∙ a.tree)) a.next)
    expr_kept b (Entered mark x) k j e = expr_kept b x k j e
    expr_kept b (NamedMember loc x text) k j e = same (ap (λ y. NamedMember loc y text) (expr_kept Alone x k j e).tree) (expr_kept Alone x k j e).next
    expr_kept b (ComputedMember loc x y) k j e = same (ap₂ (ComputedMember loc) (expr_kept Alone x k j e).tree (expr_kept Alone y (link_expr Unmarked Alone x k).next (link_expr Unmarked Alone x j).next (expr_kept Alone x k j e).next).tree) (expr_kept Alone y (link_expr Unmarked Alone x k).next (link_expr Unmarked Alone x j).next (expr_kept Alone x k j e).next).next
    expr_kept b (Binary loc operator x y) k j e = same (ap₂ (Binary loc operator) (expr_kept Alone x k j e).tree (expr_kept Alone y (link_expr Unmarked Alone x k).next (link_expr Unmarked Alone x j).next (expr_kept Alone x k j e).next).tree) (expr_kept Alone y (link_expr Unmarked Alone x k).next (link_expr Unmarked Alone x j).next (expr_kept Alone x k j e).next).next
    expr_kept b (Assignment loc operator x y) k j e = same (ap₂ (Assignment loc operator) (expr_kept Alone x k j e).tree (expr_kept Alone y (link_expr Unmarked Alone x k).next (link_expr Unmarked Alone x j).next (expr_kept Alone x k j e).next).tree) (expr_kept Alone y (link_expr Unmarked Alone x k).next (link_expr Unmarked Alone x j).next (expr_kept Alone x k j e).next).next
    expr_kept b (Comma loc x y) k j e = same (ap₂ (Comma loc) (expr_kept Alone x k j e).tree (expr_kept Alone y (link_expr Unmarked Alone x k).next (link_expr Unmarked Alone x j).next (expr_kept Alone x k j e).next).tree) (expr_kept Alone y (link_expr Unmarked Alone x k).next (link_expr Unmarked Alone x j).next (expr_kept Alone x k j e).next).next
    expr_kept b (New loc x es) k j e = same (ap₂ (New loc) (expr_kept Alone x k j e).tree (exprs_kept es (link_expr Unmarked Alone x k).next (link_expr Unmarked Alone x j).next (expr_kept Alone x k j e).next).tree) (exprs_kept es (link_expr Unmarked Alone x k).next (link_expr Unmarked Alone x j).next (expr_kept Alone x k j e).next).next
    expr_kept b (Call loc x es) k j e = same (ap₂ (Call loc) (expr_kept Alone x k j e).tree (exprs_kept es (link_expr Unmarked Alone x k).next (link_expr Unmarked Alone x j).next (expr_kept Alone x k j e).next).tree) (exprs_kept es (link_expr Unmarked Alone x k).next (link_expr Unmarked Alone x j).next (expr_kept Alone x k j e).next).next
    expr_kept Alone (Logical loc operator x y) k j e = logical_kept Uncounted 0 loc operator x y (λ k j e. expr_kept (Operand Uncounted 0) x k j e) (λ k j e. expr_kept (Operand Uncounted 0) y k j e) k j e
    expr_kept (Operand m path) (Logical loc operator x y) k j e = logical_kept m path loc operator x y (λ k j e. expr_kept (Operand m path) x k j e) (λ k j e. expr_kept (Operand m path) y k j e) k j e
    expr_kept b (Conditional loc x y z) k j e = same (ap3 (Conditional loc) (expr_kept Alone x k j e).tree (counted_none (expr_marks (link_expr Unmarked Alone y (link_expr Unmarked Alone x k).next).tree) (L.rewritten_expr c shift (link_expr Unmarked Alone y (link_expr Unmarked Alone x k).next).tree) (expr_none Alone y (link_expr Unmarked Alone x k).next) ∙ (expr_kept Alone y (link_expr Unmarked Alone x k).next (link_expr Unmarked Alone x j).next (expr_kept Alone x k j e).next).tree) (counted_none (expr_marks (link_expr Unmarked Alone z (link_expr Unmarked Alone y (link_expr Unmarked Alone x k).next).next).tree) (L.rewritten_expr c shift (link_expr Unmarked Alone z (link_expr Unmarked Alone y (link_expr Unmarked Alone x k).next).next).tree) (expr_none Alone z (link_expr Unmarked Alone y (link_expr Unmarked Alone x k).next).next) ∙ (expr_kept Alone z (link_expr Unmarked Alone y (link_expr Unmarked Alone x k).next).next (link_expr Unmarked Alone y (link_expr Unmarked Alone x j).next).next (expr_kept Alone y (link_expr Unmarked Alone x k).next (link_expr Unmarked Alone x j).next (expr_kept Alone x k j e).next).next).tree)) (expr_kept Alone z (link_expr Unmarked Alone y (link_expr Unmarked Alone x k).next).next (link_expr Unmarked Alone y (link_expr Unmarked Alone x j).next).next (expr_kept Alone y (link_expr Unmarked Alone x k).next (link_expr Unmarked Alone x j).next (expr_kept Alone x k j e).next).next).next

    stmt_kept : (home : Bool) (x : Stmt) (k j : Numbers) → j.code ≡ shift + k.code → Same (L.rewritten_stmt c shift home) (link_stmt Unmarked x k) (link_stmt Unmarked x j)
    stmt_kept home (Directive loc spelled) k j e = same refl e
    stmt_kept home (Empty loc) k j e = same refl e
    stmt_kept home (Continue loc name) k j e = same refl e
    stmt_kept home (Break loc name) k j e = same refl e
    stmt_kept home (Debugger loc) k j e = same refl e
    stmt_kept home (Block loc xs) k j e = same (ap (Block loc) (stmts_kept true xs k j e).tree) (stmts_kept true xs k j e).next
    stmt_kept home (VariableDeclaration loc kind ds) k j e = same (ap (VariableDeclaration loc kind) (declarators_kept home ds k j e).tree) (declarators_kept home ds k j e).next
    stmt_kept home (Expression loc x) k j e = same (ap (Expression loc) (expr_kept Alone x k j e).tree) (expr_kept Alone x k j e).next
    stmt_kept home (Return loc x) k j e = same (ap (Return loc) (expr_if_kept x k j e).tree) (expr_if_kept x k j e).next
    stmt_kept home (Throw loc x) k j e = same (ap (Throw loc) (expr_kept Alone x k j e).tree) (expr_kept Alone x k j e).next
    stmt_kept home (If loc z x y) k j e = same (ap (λ b. If loc (L.rewritten_expr c shift (link_expr Unmarked Alone z k).tree) (arm c b (stmt_marks (link_stmt Unmarked x (link_expr Unmarked Alone z k).next).tree) (L.rewritten_stmt c shift false (link_stmt Unmarked x (link_expr Unmarked Alone z k).next).tree)) (L.rewritten_arm c shift b (link_stmt_if Unmarked y (link_stmt Unmarked x (link_expr Unmarked Alone z k).next).next).tree)) (ap₂ (λ (a b : List Mark). is_any (a ++ b)) (stmt_none x (link_expr Unmarked Alone z k).next) (arm_none y (link_stmt Unmarked x (link_expr Unmarked Alone z k).next).next)) ∙ ap3 (If loc) (expr_kept Alone z k j e).tree (stmt_kept false x (link_expr Unmarked Alone z k).next (link_expr Unmarked Alone z j).next (expr_kept Alone z k j e).next).tree (stmt_if_kept y (link_stmt Unmarked x (link_expr Unmarked Alone z k).next).next (link_stmt Unmarked x (link_expr Unmarked Alone z j).next).next (stmt_kept false x (link_expr Unmarked Alone z k).next (link_expr Unmarked Alone z j).next (expr_kept Alone z k j e).next).next).tree) (stmt_if_kept y (link_stmt Unmarked x (link_expr Unmarked Alone z k).next).next (link_stmt Unmarked x (link_expr Unmarked Alone z j).next).next (stmt_kept false x (link_expr Unmarked Alone z k).next (link_expr Unmarked Alone z j).next (expr_kept Alone z k j e).next).next).next
    stmt_kept home (DoWhile loc x z) k j e = same (ap₂ (DoWhile loc) (looped_none (stmt_marks (link_stmt Unmarked x k).tree) (L.rewritten_stmt c shift false (link_stmt Unmarked x k).tree) (stmt_none x k) ∙ (stmt_kept false x k j e).tree) (expr_kept Alone z (link_stmt Unmarked x k).next (link_stmt Unmarked x j).next (stmt_kept false x k j e).next).tree) (expr_kept Alone z (link_stmt Unmarked x k).next (link_stmt Unmarked x j).next (stmt_kept false x k j e).next).next
    stmt_kept home (While loc z x) k j e = same (ap₂ (While loc) (expr_kept Alone z k j e).tree (looped_none (stmt_marks (link_stmt Unmarked x (link_expr Unmarked Alone z k).next).tree) (L.rewritten_stmt c shift false (link_stmt Unmarked x (link_expr Unmarked Alone z k).next).tree) (stmt_none x (link_expr Unmarked Alone z k).next) ∙ (stmt_kept false x (link_expr Unmarked Alone z k).next (link_expr Unmarked Alone z j).next (expr_kept Alone z k j e).next).tree)) (stmt_kept false x (link_expr Unmarked Alone z k).next (link_expr Unmarked Alone z j).next (expr_kept Alone z k j e).next).next
    stmt_kept home (For loc start y z x) k j e = same (ap4 (For loc) (init_kept start k j e).tree (expr_if_kept y (link_for_init Unmarked start k).next (link_for_init Unmarked start j).next (init_kept start k j e).next).tree (expr_if_kept z (link_expr_if Unmarked y (link_for_init Unmarked start k).next).next (link_expr_if Unmarked y (link_for_init Unmarked start j).next).next (expr_if_kept y (link_for_init Unmarked start k).next (link_for_init Unmarked start j).next (init_kept start k j e).next).next).tree (looped_none (stmt_marks (link_stmt Unmarked x (link_expr_if Unmarked z (link_expr_if Unmarked y (link_for_init Unmarked start k).next).next).next).tree) (L.rewritten_stmt c shift false (link_stmt Unmarked x (link_expr_if Unmarked z (link_expr_if Unmarked y (link_for_init Unmarked start k).next).next).next).tree) (stmt_none x (link_expr_if Unmarked z (link_expr_if Unmarked y (link_for_init Unmarked start k).next).next).next) ∙ (stmt_kept false x (link_expr_if Unmarked z (link_expr_if Unmarked y (link_for_init Unmarked start k).next).next).next (link_expr_if Unmarked z (link_expr_if Unmarked y (link_for_init Unmarked start j).next).next).next (expr_if_kept z (link_expr_if Unmarked y (link_for_init Unmarked start k).next).next (link_expr_if Unmarked y (link_for_init Unmarked start j).next).next (expr_if_kept y (link_for_init Unmarked start k).next (link_for_init Unmarked start j).next (init_kept start k j e).next).next).next).tree)) (stmt_kept false x (link_expr_if Unmarked z (link_expr_if Unmarked y (link_for_init Unmarked start k).next).next).next (link_expr_if Unmarked z (link_expr_if Unmarked y (link_for_init Unmarked start j).next).next).next (expr_if_kept z (link_expr_if Unmarked y (link_for_init Unmarked start k).next).next (link_expr_if Unmarked y (link_for_init Unmarked start j).next).next (expr_if_kept y (link_for_init Unmarked start k).next (link_for_init Unmarked start j).next (init_kept start k j e).next).next).next).next
    stmt_kept home (ForIn loc target z x) k j e = same (ap3 (ForIn loc) (target_kept target k j e).tree (expr_kept Alone z (link_for_target Unmarked target k).next (link_for_target Unmarked target j).next (target_kept target k j e).next).tree (looped_none (stmt_marks (link_stmt Unmarked x (link_expr Unmarked Alone z (link_for_target Unmarked target k).next).next).tree) (L.rewritten_stmt c shift false (link_stmt Unmarked x (link_expr Unmarked Alone z (link_for_target Unmarked target k).next).next).tree) (stmt_none x (link_expr Unmarked Alone z (link_for_target Unmarked target k).next).next) ∙ (stmt_kept false x (link_expr Unmarked Alone z (link_for_target Unmarked target k).next).next (link_expr Unmarked Alone z (link_for_target Unmarked target j).next).next (expr_kept Alone z (link_for_target Unmarked target k).next (link_for_target Unmarked target j).next (target_kept target k j e).next).next).tree)) (stmt_kept false x (link_expr Unmarked Alone z (link_for_target Unmarked target k).next).next (link_expr Unmarked Alone z (link_for_target Unmarked target j).next).next (expr_kept Alone z (link_for_target Unmarked target k).next (link_for_target Unmarked target j).next (target_kept target k j e).next).next).next
    stmt_kept home (ForOf loc target z x) k j e = same (ap3 (ForOf loc) (target_kept target k j e).tree (expr_kept Alone z (link_for_target Unmarked target k).next (link_for_target Unmarked target j).next (target_kept target k j e).next).tree (looped_none (stmt_marks (link_stmt Unmarked x (link_expr Unmarked Alone z (link_for_target Unmarked target k).next).next).tree) (L.rewritten_stmt c shift false (link_stmt Unmarked x (link_expr Unmarked Alone z (link_for_target Unmarked target k).next).next).tree) (stmt_none x (link_expr Unmarked Alone z (link_for_target Unmarked target k).next).next) ∙ (stmt_kept false x (link_expr Unmarked Alone z (link_for_target Unmarked target k).next).next (link_expr Unmarked Alone z (link_for_target Unmarked target j).next).next (expr_kept Alone z (link_for_target Unmarked target k).next (link_for_target Unmarked target j).next (target_kept target k j e).next).next).tree)) (stmt_kept false x (link_expr Unmarked Alone z (link_for_target Unmarked target k).next).next (link_expr Unmarked Alone z (link_for_target Unmarked target j).next).next (expr_kept Alone z (link_for_target Unmarked target k).next (link_for_target Unmarked target j).next (target_kept target k j e).next).next).next
    stmt_kept home (Switch loc z cases) k j e = same (ap₂ (Switch loc) (expr_kept Alone z k j e).tree (cases_kept 0 cases (link_expr Unmarked Alone z k).next (link_expr Unmarked Alone z j).next (expr_kept Alone z k j e).next).tree) (cases_kept 0 cases (link_expr Unmarked Alone z k).next (link_expr Unmarked Alone z j).next (expr_kept Alone z k j e).next).next
    stmt_kept home (Labelled loc name x) k j e = let a = stmt_kept false x k j e in same (ap (L.rewritten_stmt c shift home) (labelled_is loc name (link_stmt Unmarked x k).tree (stmt_none x k)) ∙ ap (Labelled loc name) a.tree ∙ sym (labelled_is loc name (link_stmt Unmarked x j).tree (stmt_none x j))) a.next
    stmt_kept home (TryCatch loc xs catch) k j e = same (ap₂ (TryCatch loc) (stmts_kept true xs k j e).tree (catch_kept catch (link_stmts Unmarked xs k).next (link_stmts Unmarked xs j).next (stmts_kept true xs k j e).next).tree) (catch_kept catch (link_stmts Unmarked xs k).next (link_stmts Unmarked xs j).next (stmts_kept true xs k j e).next).next
    stmt_kept home (TryFinally loc xs ys) k j e = same (ap₂ (TryFinally loc) (stmts_kept true xs k j e).tree (stmts_kept true ys (link_stmts Unmarked xs k).next (link_stmts Unmarked xs j).next (stmts_kept true xs k j e).next).tree) (stmts_kept true ys (link_stmts Unmarked xs k).next (link_stmts Unmarked xs j).next (stmts_kept true xs k j e).next).next
    stmt_kept home (TryCatchFinally loc xs catch ys) k j e = same (ap3 (TryCatchFinally loc) (stmts_kept true xs k j e).tree (catch_kept catch (link_stmts Unmarked xs k).next (link_stmts Unmarked xs j).next (stmts_kept true xs k j e).next).tree (stmts_kept true ys (link_catch Unmarked catch (link_stmts Unmarked xs k).next).next (link_catch Unmarked catch (link_stmts Unmarked xs j).next).next (catch_kept catch (link_stmts Unmarked xs k).next (link_stmts Unmarked xs j).next (stmts_kept true xs k j e).next).next).tree) (stmts_kept true ys (link_catch Unmarked catch (link_stmts Unmarked xs k).next).next (link_catch Unmarked catch (link_stmts Unmarked xs j).next).next (catch_kept catch (link_stmts Unmarked xs k).next (link_stmts Unmarked xs j).next (stmts_kept true xs k j e).next).next).next
    stmt_kept home (FunctionDeclaration loc name function) k j e = let a = function_kept loc (Some name) function k j e in same (ap (FunctionDeclaration loc name) a.tree) a.next
    stmt_kept home (EnteredStmt mark x) k j e = stmt_kept home x k j e

    stmt_if_kept : (x : MaybeStmt) (k j : Numbers) → j.code ≡ shift + k.code → Same (L.rewritten_arm c shift false) (link_stmt_if Unmarked x k) (link_stmt_if Unmarked x j)
    stmt_if_kept none_stmt k j e = same refl e
    stmt_if_kept (entered_none mark) k j e = same refl e
    stmt_if_kept (some_stmt x) k j e = let a = stmt_kept false x k j e in same (ap some_stmt a.tree) a.next

    property_kept : (x : Property) (k j : Numbers) → j.code ≡ shift + k.code → Same (L.rewritten_property c shift) (link_property Unmarked x k) (link_property Unmarked x j)
    property_kept (Shorthand loc text) k j e = same refl e
    property_kept (KeyValue loc key x) k j e = same (ap₂ (KeyValue loc) (key_kept key k j e).tree (expr_kept Alone x (link_property_key Unmarked key k).next (link_property_key Unmarked key j).next (key_kept key k j e).next).tree) (expr_kept Alone x (link_property_key Unmarked key k).next (link_property_key Unmarked key j).next (key_kept key k j e).next).next
    property_kept (Method loc key (MakeFunction number params body)) k j e = same (ap₂ (Method loc) (key_kept key (after_code k) (after_code j) (coded k j e)).tree (ap3 MakeFunction (sym e) (params_kept params (link_property_key Unmarked key (after_code k)).next (link_property_key Unmarked key (after_code j)).next (key_kept key (after_code k) (after_code j) (coded k j e)).next).tree (body_kept body (link_params Unmarked params (link_property_key Unmarked key (after_code k)).next).next (link_params Unmarked params (link_property_key Unmarked key (after_code j)).next).next (params_kept params (link_property_key Unmarked key (after_code k)).next (link_property_key Unmarked key (after_code j)).next (key_kept key (after_code k) (after_code j) (coded k j e)).next).next).tree)) (body_kept body (link_params Unmarked params (link_property_key Unmarked key (after_code k)).next).next (link_params Unmarked params (link_property_key Unmarked key (after_code j)).next).next (params_kept params (link_property_key Unmarked key (after_code k)).next (link_property_key Unmarked key (after_code j)).next (key_kept key (after_code k) (after_code j) (coded k j e)).next).next).next

    key_kept : (x : PropertyKey) (k j : Numbers) → j.code ≡ shift + k.code → Same (L.rewritten_property_key c shift) (link_property_key Unmarked x k) (link_property_key Unmarked x j)
    key_kept (NameKey text) k j e = same refl e
    key_kept (StringKey text) k j e = same refl e
    key_kept (NumberKey text) k j e = same refl e
    key_kept (ComputedKey x) k j e = same (ap ComputedKey (expr_kept Alone x k j e).tree) (expr_kept Alone x k j e).next

    concise_kept : (x : ConciseBody) (k j : Numbers) → j.code ≡ shift + k.code → Same (L.rewritten_concise_body c shift) (link_concise_body Unmarked x k) (link_concise_body Unmarked x j)
    concise_kept (ExpressionBody x) k j e = same (ap (λ ms. concise c ms (L.rewritten_expr c shift (link_expr Unmarked Alone x k).tree)) (expr_none Alone x k) ∙ ap ExpressionBody (expr_kept Alone x k j e).tree) (expr_kept Alone x k j e).next
    concise_kept (BlockBody body) k j e = same (ap BlockBody (body_kept body k j e).tree) (body_kept body k j e).next

    init_kept : (x : ForInit) (k j : Numbers) → j.code ≡ shift + k.code → Same (L.rewritten_for_init c shift) (link_for_init Unmarked x k) (link_for_init Unmarked x j)
    init_kept NoInit k j e = same refl e
    init_kept (InitDeclaration kind ds) k j e = same (ap (InitDeclaration kind) (declarators_kept false ds k j e).tree) (declarators_kept false ds k j e).next
    init_kept (InitExpression x) k j e = same (ap InitExpression (expr_kept Alone x k j e).tree) (expr_kept Alone x k j e).next

    target_kept : (x : ForTarget) (k j : Numbers) → j.code ≡ shift + k.code → Same (L.rewritten_for_target c shift) (link_for_target Unmarked x k) (link_for_target Unmarked x j)
    target_kept (TargetDeclaration kind pattern) k j e = same refl e
    target_kept (TargetExpression x) k j e = same (ap TargetExpression (expr_kept Alone x k j e).tree) (expr_kept Alone x k j e).next

    part_kept : (x : TemplatePart) (k j : Numbers) → j.code ≡ shift + k.code → Same (L.rewritten_template_part c shift) (link_template_part Unmarked x k) (link_template_part Unmarked x j)
    part_kept (MakeTemplatePart x spelled) k j e = same (ap (λ y. MakeTemplatePart y spelled) (expr_kept Alone x k j e).tree) (expr_kept Alone x k j e).next

    function_kept : (loc : Option Loc) (name : Option Identifier) (x : Function) (k j : Numbers) → j.code ≡ shift + k.code → Same (L.rewritten_function c shift) (link_function Unmarked loc name x k) (link_function Unmarked loc name x j)
    function_kept loc name (MakeFunction number params body) k j e = same (ap3 MakeFunction (sym e) (params_kept params (after_code k) (after_code j) (coded k j e)).tree (body_kept body (link_params Unmarked params (after_code k)).next (link_params Unmarked params (after_code j)).next (params_kept params (after_code k) (after_code j) (coded k j e)).next).tree) (body_kept body (link_params Unmarked params (after_code k)).next (link_params Unmarked params (after_code j)).next (params_kept params (after_code k) (after_code j) (coded k j e)).next).next

    body_kept : (x : FunctionBody) (k j : Numbers) → j.code ≡ shift + k.code → Same (L.rewritten_function_body c shift) (link_function_body Unmarked x k) (link_function_body Unmarked x j)
    body_kept (MakeFunctionBody loc xs) k j e = same (ap (MakeFunctionBody loc) (stmts_kept true xs k j e).tree) (stmts_kept true xs k j e).next
    body_kept (EnteredBody mark body) k j e = body_kept body k j e

    param_kept : (x : Param) (k j : Numbers) → j.code ≡ shift + k.code → Same (L.rewritten_param c shift) (link_param Unmarked x k) (link_param Unmarked x j)
    param_kept (MakeParam loc pattern none_expr) k j e = same refl e
    param_kept (MakeParam loc pattern (some_expr x)) k j e = same (ap (λ y. MakeParam loc pattern (some_expr y)) (held_none (is_anonymous (link_expr Unmarked Alone x k).tree) (bound_name pattern) (expr_marks (link_expr Unmarked Alone x k).tree) (L.rewritten_expr c shift (link_expr Unmarked Alone x k).tree) (expr_none Alone x k) ∙ (expr_kept Alone x k j e).tree)) (expr_kept Alone x k j e).next

    declarator_kept : (home : Bool) (x : Declarator) (k j : Numbers) → j.code ≡ shift + k.code → Same (L.rewritten_declarator c shift home) (link_declarator Unmarked x k) (link_declarator Unmarked x j)
    declarator_kept home (MakeDeclarator loc pattern none_expr) k j e = same refl e
    declarator_kept home (MakeDeclarator loc pattern (some_expr x)) k j e = same (ap (λ y. MakeDeclarator loc pattern (some_expr y)) (initial_none home (is_anonymous (link_expr Unmarked Alone x k).tree) (bound_name pattern) (expr_marks (link_expr Unmarked Alone x k).tree) (L.rewritten_expr c shift (link_expr Unmarked Alone x k).tree) (expr_none Alone x k) ∙ (expr_kept Alone x k j e).tree)) (expr_kept Alone x k j e).next

    case_kept : (x : Case) (k j : Numbers) → j.code ≡ shift + k.code → Same (L.rewritten_case c shift) (link_case Unmarked x k) (link_case Unmarked x j)
    case_kept (MakeCase loc x xs) k j e = same (ap₂ (MakeCase loc) (expr_if_kept x k j e).tree (stmts_kept false xs (link_expr_if Unmarked x k).next (link_expr_if Unmarked x j).next (expr_if_kept x k j e).next).tree) (stmts_kept false xs (link_expr_if Unmarked x k).next (link_expr_if Unmarked x j).next (expr_if_kept x k j e).next).next
    case_kept (EnteredCase mark x) k j e = case_kept x k j e

    catch_kept : (x : Catch) (k j : Numbers) → j.code ≡ shift + k.code → Same (L.rewritten_catch c shift) (link_catch Unmarked x k) (link_catch Unmarked x j)
    catch_kept (MakeCatch pattern xs) k j e = same (ap (MakeCatch pattern) (stmts_kept true xs k j e).tree) (stmts_kept true xs k j e).next

    expr_if_kept : (x : MaybeExpr) (k j : Numbers) → j.code ≡ shift + k.code → Same (L.rewritten_expr_if c shift) (link_expr_if Unmarked x k) (link_expr_if Unmarked x j)
    expr_if_kept none_expr k j e = same refl e
    expr_if_kept (some_expr x) k j e = same (ap some_expr (expr_kept Alone x k j e).tree) (expr_kept Alone x k j e).next

    exprs_kept : (x : Exprs) (k j : Numbers) → j.code ≡ shift + k.code → Same (L.rewritten_exprs c shift) (link_exprs Unmarked x k) (link_exprs Unmarked x j)
    exprs_kept no_expr k j e = same refl e
    exprs_kept (more_expr y ys) k j e = same (ap₂ more_expr (expr_kept Alone y k j e).tree (exprs_kept ys (link_expr Unmarked Alone y k).next (link_expr Unmarked Alone y j).next (expr_kept Alone y k j e).next).tree) (exprs_kept ys (link_expr Unmarked Alone y k).next (link_expr Unmarked Alone y j).next (expr_kept Alone y k j e).next).next

    parts_kept : (x : TemplateParts) (k j : Numbers) → j.code ≡ shift + k.code → Same (L.rewritten_template_parts c shift) (link_template_parts Unmarked x k) (link_template_parts Unmarked x j)
    parts_kept no_template_part k j e = same refl e
    parts_kept (more_template_part y ys) k j e = same (ap₂ more_template_part (part_kept y k j e).tree (parts_kept ys (link_template_part Unmarked y k).next (link_template_part Unmarked y j).next (part_kept y k j e).next).tree) (parts_kept ys (link_template_part Unmarked y k).next (link_template_part Unmarked y j).next (part_kept y k j e).next).next

    properties_kept : (x : Properties) (k j : Numbers) → j.code ≡ shift + k.code → Same (L.rewritten_properties c shift) (link_properties Unmarked x k) (link_properties Unmarked x j)
    properties_kept no_property k j e = same refl e
    properties_kept (more_property y ys) k j e = same (ap₂ more_property (property_kept y k j e).tree (properties_kept ys (link_property Unmarked y k).next (link_property Unmarked y j).next (property_kept y k j e).next).tree) (properties_kept ys (link_property Unmarked y k).next (link_property Unmarked y j).next (property_kept y k j e).next).next

    params_kept : (x : Params) (k j : Numbers) → j.code ≡ shift + k.code → Same (L.rewritten_params c shift) (link_params Unmarked x k) (link_params Unmarked x j)
    params_kept no_param k j e = same refl e
    params_kept (more_param y ys) k j e = same (ap₂ more_param (param_kept y k j e).tree (params_kept ys (link_param Unmarked y k).next (link_param Unmarked y j).next (param_kept y k j e).next).tree) (params_kept ys (link_param Unmarked y k).next (link_param Unmarked y j).next (param_kept y k j e).next).next

    declarators_kept : (home : Bool) (x : Declarators) (k j : Numbers) → j.code ≡ shift + k.code → Same (L.rewritten_declarators c shift home) (link_declarators Unmarked x k) (link_declarators Unmarked x j)
    declarators_kept home no_declarator k j e = same refl e
    declarators_kept home (more_declarator y ys) k j e = same (ap₂ more_declarator (declarator_kept home y k j e).tree (declarators_kept false ys (link_declarator Unmarked y k).next (link_declarator Unmarked y j).next (declarator_kept home y k j e).next).tree) (declarators_kept false ys (link_declarator Unmarked y k).next (link_declarator Unmarked y j).next (declarator_kept home y k j e).next).next

    cases_kept : (path : ℕ) (x : Cases) (k j : Numbers) → j.code ≡ shift + k.code → Same (L.rewritten_cases c shift) (link_cases Unmarked Uncounted path x k) (link_cases Unmarked Uncounted path x j)
    cases_kept path no_case k j e = same refl e
    cases_kept path (more_case y ys) k j e = same (ap₂ more_case (case_kept y k j e).tree (cases_kept path ys (link_case Unmarked y k).next (link_case Unmarked y j).next (case_kept y k j e).next).tree) (cases_kept path ys (link_case Unmarked y k).next (link_case Unmarked y j).next (case_kept y k j e).next).next

    stmts_kept : (home : Bool) (x : Stmts) (k j : Numbers) → j.code ≡ shift + k.code → Same (L.rewritten_stmts c shift home) (link_stmts Unmarked x k) (link_stmts Unmarked x j)
    stmts_kept home no_stmt k j e = same refl e
    stmts_kept home (more_stmt y ys) k j e = same (ap (λ ms. joined (counts c ms) (more_stmt (L.rewritten_stmt c shift home (link_stmt Unmarked y k).tree) (L.rewritten_stmts c shift home (link_stmts Unmarked ys (link_stmt Unmarked y k).next).tree))) (ap₂ (λ (a b : List Mark). a ++ b) (stmt_none y k) (hoisted_none home y k)) ∙ ap₂ more_stmt (stmt_kept home y k j e).tree (stmts_kept home ys (link_stmt Unmarked y k).next (link_stmt Unmarked y j).next (stmt_kept home y k j e).next).tree) (stmts_kept home ys (link_stmt Unmarked y k).next (link_stmt Unmarked y j).next (stmt_kept home y k j e).next).next

  pub leaves_unmarked : (home : Bool) (xs : Stmts) (k j : Numbers) → j.code ≡ shift + k.code →
      (L.rewritten_stmts c shift home (link_stmts Unmarked xs k).tree ≡ (link_stmts Unmarked xs j).tree) × ((link_stmts Unmarked xs j).next.code ≡ shift + (link_stmts Unmarked xs k).next.code)
  leaves_unmarked home xs k j e = let a = stmts_kept home xs k j e in (a.tree, a.next)
