-- A tree with its counters is linked as it is, where its functions are numbered one after another from a shift further.
use Rattle.std.proofs.Common.{◌≡◌, ℕ, suc, ◌+◌, Bool, true, false, List, [], ◌∷◌, ◌++◌, map, length, Option, Some, None, refl, sym, ap, ap₂, ◌∙◌, subst, arith}
use Rattle.std.proofs.lemmas.List.{append-nil, length-append}
use Rattle.js_terms.specs.Mark.{Mark}
use Rattle.js_terms.specs.declared.place.Loc.{Loc}
use Rattle.js_terms.specs.declared.words.Identifier.{Identifier}
use Rattle.js_tree.specs.Plain.{Expr, IdentifierReference, This, NullLiteral, BooleanLiteral, NumericLiteral, StringLiteral, ArrayLiteral, ObjectLiteral, FunctionExpression, ArrowFunction, RegularExpressionLiteral, TemplateLiteral, Parenthesized, NamedMember, ComputedMember, New, Call, PostfixUpdate, PrefixUpdate, Unary, Binary, Logical, Conditional, Assignment, Comma, Entered}
use Rattle.js_tree.specs.Plain.{Stmt, Directive, Block, VariableDeclaration, Empty, Expression, If, DoWhile, While, For, ForIn, ForOf, Continue, Break, Return, Switch, Labelled, Throw, TryCatch, TryFinally, TryCatchFinally, Debugger, FunctionDeclaration, EnteredStmt}
use Rattle.js_tree.specs.Plain.{Property, Shorthand, KeyValue, Method}
use Rattle.js_tree.specs.Plain.{PropertyKey, NameKey, StringKey, NumberKey, ComputedKey}
use Rattle.js_tree.specs.Plain.{ConciseBody, ExpressionBody, BlockBody}
use Rattle.js_tree.specs.Plain.{ForInit, NoInit, InitDeclaration, InitExpression}
use Rattle.js_tree.specs.Plain.{ForTarget, TargetDeclaration, TargetExpression}
use Rattle.js_tree.specs.Plain.{TemplatePart, MakeTemplatePart}
use Rattle.js_tree.specs.Plain.{Function, MakeFunction}
use Rattle.js_tree.specs.Plain.{FunctionBody, MakeFunctionBody, EnteredBody}
use Rattle.js_tree.specs.Plain.{Param, MakeParam}
use Rattle.js_tree.specs.Plain.{Declarator, MakeDeclarator}
use Rattle.js_tree.specs.Plain.{Case, MakeCase, EnteredCase}
use Rattle.js_tree.specs.Plain.{Catch, MakeCatch}
use Rattle.js_tree.specs.Plain.{MaybeExpr, none_expr, some_expr}
use Rattle.js_tree.specs.Plain.{MaybeStmt, none_stmt, some_stmt, entered_none}
use Rattle.js_tree.specs.Plain.{Exprs, no_expr, more_expr}
use Rattle.js_tree.specs.Plain.{TemplateParts, no_template_part, more_template_part}
use Rattle.js_tree.specs.Plain.{Properties, no_property, more_property}
use Rattle.js_tree.specs.Plain.{Params, no_param, more_param}
use Rattle.js_tree.specs.Plain.{Stmts, no_stmt, more_stmt}
use Rattle.js_tree.specs.Plain.{Declarators, no_declarator, more_declarator}
use Rattle.js_tree.specs.Plain.{Cases, no_case, more_case}
use Rattle.js_tree.specs.Codes.{Code, Ordinary, OfMethod, Arrow, number_of, from_code, functions_expr, functions_stmt, functions_property, functions_property_key, functions_concise_body, functions_for_init, functions_for_target, functions_template_part, functions_function, functions_function_body, functions_param, functions_declarator, functions_case, functions_catch, functions_expr_if, functions_stmt_if, functions_exprs, functions_template_parts, functions_properties, functions_params, functions_stmts, functions_declarators, functions_cases}
use Rattle.js_tree.specs.Linked.{Unmarked, Numbers, Linked, Uncounted, Chain, Alone, Operand, operand, enter_leaf, kept, made, two, three, four, after_code, enter_concise_body, labelled, link_expr, link_stmt, link_property, link_property_key, link_concise_body, link_for_init, link_for_target, link_template_part, link_function, link_function_body, link_param, link_declarator, link_case, link_catch, link_expr_if, link_stmt_if, link_exprs, link_template_parts, link_properties, link_params, link_stmts, link_declarators, link_cases}
use Rattle.js_terms.specs.declared.operators.LogicalOperator.{LogicalOperator}
use Rattle.cov_rewritten.specs.Counters.{text, with_name}
use Rattle.cov_rewritten.specs.Rewritten.{expr_marks, stmt_marks, arm_marks, hoisted_marks, is_any, is_anonymous, bound_name, joined, after_directives, inside, block_place}
use Rattle.js_suits.specs.Rewritten as L
use Rattle.js_suits.specs.Rewritten.{counts, counted, held, initial, concise, in_block, looped, arm}
use Rattle.js_suits.specs.Settings.{Setting}
use Rattle.js_lockstep.specs.Programs.{Ordered, after, LinksAlone}

-- Numbers in order

split : (xs ys : List Code) (m : ℕ) → Ordered (xs ++ ys) m → Ordered xs m × Ordered ys (m + length xs)
split [] ys m e = (refl, subst (Ordered ys) (let z : m ≡ m + 0 = omega arith in z) e)
split (x ∷ xs) ys m e =
    let tail : map number_of (xs ++ ys) ≡ from_code (suc m) (length (xs ++ ys)) = cc in
    let first : number_of x ≡ m = cc in
    let r = split xs ys (suc m) tail in
    (ap₂ (λ n ns. n ∷ ns) first r.0, subst (Ordered ys) (let z : suc m + length xs ≡ m + suc (length xs) = omega arith in z) r.1)

first_of : (x : Code) (xs : List Code) (m : ℕ) → Ordered (x ∷ xs) m → (number_of x ≡ m) × Ordered xs (suc m)
first_of x xs m e = (let z : number_of x ≡ m = cc in z, let z : map number_of xs ≡ from_code (suc m) (length xs) = cc in z)

after_again : (k : Numbers) (a b n : ℕ) → n ≡ a + b → after (after k a) b ≡ after k n
after_again k a b n e = ap (λ (m : ℕ). record { code = m; counts = k.counts }) (let z : k.code + a + b ≡ k.code + n = omega (arith, e) in z)

leaf_same : (e : Expr) (path : ℕ) → enter_leaf Uncounted path e ≡ e
leaf_same (Logical loc operator e f) path = refl
leaf_same (Parenthesized loc e) path = refl
leaf_same _ path = refl

module _ (c : Setting) (shift : ℕ) (alone : LinksAlone c) where
  -- what is linked is the same again
  record Again {T : Type 0} (link : Numbers → Linked T) (x : T) (codes : List Code) : Type 0 where
    pub at : (k : Numbers) (m : ℕ) → k.code ≡ shift + m → Ordered codes m → link k ≡ kept x (after k (length codes))

  none_again : {T : Type 0} (x : T) → Again (kept x) x []
  none_again x = record { at = λ k m e o. ap (λ (n : ℕ). kept x (record { code = n; counts = k.counts })) (let z : k.code ≡ k.code + 0 = omega arith in z) }

  made_again : {A T : Type 0} {link : Numbers → Linked A} {x : A} {codes : List Code} (f : A → T) → Again link x codes → Again (λ k. made f (link k)) (f x) codes
  made_again f a = record { at = λ k m e o. ap (made f) (a.at k m e o) }

  two_again : {A B T : Type 0} {la : Numbers → Linked A} {lb : Numbers → Linked B} {x : A} {y : B} {xs ys : List Code} (f : A → B → T) → Again la x xs → Again lb y ys → Again (λ k. two f (la k) lb) (f x y) (xs ++ ys)
  two_again {la = la} {lb = lb} {x = x} {y = y} {xs = xs} {ys = ys} f a b = record {
    at = λ k m e o. let s = split xs ys m o in
        ap (λ z. two f z lb) (a.at k m e s.0)
        ∙ ap (made (f x)) (b.at (after k (length xs)) (m + length xs) (let z : k.code + length xs ≡ shift + (m + length xs) = omega (arith, e) in z) s.1)
        ∙ ap (kept (f x y)) (after_again k (length xs) (length ys) (length (xs ++ ys)) (length-append xs ys));
  }

  three_again : {A B C T : Type 0} {la : Numbers → Linked A} {lb : Numbers → Linked B} {lc : Numbers → Linked C} {x : A} {y : B} {z : C} {xs ys zs : List Code} (f : A → B → C → T) →
      Again la x xs → Again lb y ys → Again lc z zs → Again (λ k. three f (la k) lb lc) (f x y z) (xs ++ ys ++ zs)
  three_again {A} {B} {C} {T} {la} {lb} {lc} {x} {y} {z} {xs} {ys} {zs} f a b d = record { at = λ k m e o. (two_again (λ (p : A × B) (w : C). f p.0 p.1 w) (two_again (λ (u : A) (v : B). (u, v)) a b) d).at k m e o }

  four_again : {A B C D T : Type 0} {la : Numbers → Linked A} {lb : Numbers → Linked B} {lc : Numbers → Linked C} {ld : Numbers → Linked D} {x : A} {y : B} {z : C} {w : D} {xs ys zs ws : List Code} (f : A → B → C → D → T) →
      Again la x xs → Again lb y ys → Again lc z zs → Again ld w ws → Again (λ k. four f (la k) lb lc ld) (f x y z w) (xs ++ ys ++ zs ++ ws)
  four_again {A} {B} {C} {D} f a b d g = record { at = λ k m e o. (three_again (λ (p : A × B) (u : C) (v : D). f p.0 p.1 u v) (two_again (λ (u : A) (v : B). (u, v)) a b) d g).at k m e o }

  -- a function has its number before what is in it
  number_again : {T : Type 0} {link : Numbers → Linked T} {codes : List Code} (code : Code) (x : ℕ → T) (rest : ℕ → Numbers → Linked T) → ((n : ℕ) → Again (rest n) (x n) codes) →
      ((k : Numbers) → link k ≡ rest k.code (after_code k)) → Again link (x (shift + number_of code)) (code ∷ codes)
  number_again {T} {link} {codes} code x rest a is = record {
    at = λ k m e o. let s = first_of code codes m o in
        is k ∙ (a k.code).at (after_code k) (suc m) (let z : suc k.code ≡ shift + suc m = omega (arith, e) in z) s.1
        ∙ ap₂ (λ n j. kept (x n) j) (let z : k.code ≡ shift + number_of code = e ∙ ap (λ n. shift + n) (sym s.0) in z)
        (ap (λ (n : ℕ). record { code = n; counts = k.counts }) (let z : suc k.code + length codes ≡ k.code + suc (length codes) = omega arith in z));
  }

  silently : {codes : List Code} (mark : Mark) (xs : Stmts) → Again (link_stmts Unmarked xs) xs codes → Again (link_stmts Unmarked (more_stmt (L.count c mark) xs)) (more_stmt (L.count c mark) xs) codes
  silently mark xs a = record { at = λ k m e o. ap (λ (z : Linked Expr). two more_stmt (made (Expression None) z) (link_stmts Unmarked xs)) (alone.code mark k) ∙ ap (made (more_stmt (L.count c mark))) (a.at k m e o) }

  with_codes : {T : Type 0} {link : Numbers → Linked T} {x : T} {xs ys : List Code} → xs ≡ ys → Again link x xs → Again link x ys
  with_codes {T} {link} {x} e a = subst (λ cs. Again link x cs) e a

  joined_again : {codes : List Code} (ms : List Mark) (xs : Stmts) → Again (link_stmts Unmarked xs) xs codes → Again (link_stmts Unmarked (joined (counts c ms) xs)) (joined (counts c ms) xs) codes
  joined_again [] xs a = a
  joined_again (m ∷ ms) xs a = silently m (joined (counts c ms) xs) (joined_again ms xs a)

  -- an operand of a chain, where none of its leaves is entered
  operand_again : {codes : List Code} (b : Chain) (x : Expr) → Again (link_expr Unmarked b x) x codes → Again (λ k. operand Unmarked b (link_expr Unmarked b x k)) x codes
  operand_again Alone x a = a
  operand_again {codes} (Operand m path) x a = record { at = λ k n e o. ap (made (enter_leaf Uncounted path)) (a.at k n e o) ∙ ap (λ y. kept y (after k (length codes))) (leaf_same x path) }

  counted_again : {codes : List Code} (ms : List Mark) (x : Expr) → ((b : Chain) → Again (link_expr Unmarked b x) x codes) → (b : Chain) → Again (link_expr Unmarked b (counted c ms x)) (counted c ms x) codes
  counted_again [] x a b = a b
  counted_again (m ∷ ms) x a b = made_again (Parenthesized None) (operand_again b (Comma None (c.code m) (counted c ms x)) (record {
    at = λ k n e o. ap (λ (z : Linked Expr). two (Comma None) z (link_expr Unmarked Alone (counted c ms x))) (alone.code m k)
        ∙ ap (λ z. made (Comma None (c.code m)) z) ((counted_again ms x a Alone).at k n e o);
  }))

  named_again : {codes : List Code} (f : List ℕ) (x : Expr) → ((b : Chain) → Again (link_expr Unmarked b x) x codes) → (b : Chain) → Again (link_expr Unmarked b (with_name f x)) (with_name f x) codes
  named_again f x a b = with_codes (append-nil _ ∙ append-nil _)
      (two_again (ComputedMember None) (made_again (ObjectLiteral None) (two_again more_property (two_again (KeyValue None) (made_again ComputedKey (none_again (text f))) (a Alone)) (none_again no_property))) (none_again (text f)))

  held_again : {codes : List Code} (t : Bool) (f : List ℕ) (ms : List Mark) (x : Expr) → ((b : Chain) → Again (link_expr Unmarked b x) x codes) → (b : Chain) → Again (link_expr Unmarked b (held c t f ms x)) (held c t f ms x) codes
  held_again t f [] x a b = a b
  held_again false f (m ∷ ms) x a b = counted_again (m ∷ ms) x a b
  held_again true f (m ∷ ms) x a b = counted_again (m ∷ ms) (with_name f x) (named_again f x a) b

  initial_again : {codes : List Code} (i t : Bool) (f : List ℕ) (ms : List Mark) (x : Expr) → ((b : Chain) → Again (link_expr Unmarked b x) x codes) → (b : Chain) → Again (link_expr Unmarked b (initial c i t f ms x)) (initial c i t f ms x) codes
  initial_again false t f ms x a b = held_again t f ms x a b
  initial_again true false f ms x a b = held_again false f ms x a b
  initial_again true true f ms x a b = a b

  inside_again : {codes : List Code} (x : Stmt) → Again (link_stmt Unmarked x) x codes → Again (link_stmts Unmarked (inside x)) (inside x) codes
  inside_again (Block loc xs) a = record { at = λ k m e o. ap (λ (z : Linked Stmt). made inside z) (a.at k m e o) }
  inside_again x a = with_codes (append-nil _) (two_again more_stmt a (none_again no_stmt))

  block_again : {codes : List Code} (ms : List Mark) (x : Stmt) → Again (link_stmt Unmarked x) x codes → Again (link_stmt Unmarked (in_block c ms x)) (in_block c ms x) codes
  block_again ms x a = made_again (Block (block_place x)) (joined_again ms (inside x) (inside_again x a))

  looped_again : {codes : List Code} (ms : List Mark) (x : Stmt) → Again (link_stmt Unmarked x) x codes → Again (link_stmt Unmarked (looped c ms x)) (looped c ms x) codes
  looped_again [] x a = a
  looped_again (m ∷ ms) x a = block_again (m ∷ ms) x a

  arm_again : {codes : List Code} (b : Bool) (ms : List Mark) (x : Stmt) → Again (link_stmt Unmarked x) x codes → Again (link_stmt Unmarked (arm c b ms x)) (arm c b ms x) codes
  arm_again false ms x a = a
  arm_again true ms x a = block_again ms x a

  abbrev rest : Stmts → Stmts
  rest no_stmt = no_stmt
  rest (more_stmt x xs) = xs

  begun_again : {codes : List Code} (mark : Mark) (xs : Stmts) → Again (link_stmts Unmarked xs) xs codes → Again (link_stmts Unmarked (after_directives (counts c (mark ∷ [])) xs)) (after_directives (counts c (mark ∷ [])) xs) codes
  begun_again mark no_stmt a = silently mark no_stmt a
  begun_again mark (more_stmt (Directive loc spelled) xs) a = made_again (more_stmt (Directive loc spelled)) (begun_again mark xs (record { at = λ k m e o. ap (λ (z : Linked Stmts). made rest z) (a.at k m e o) }))
  begun_again mark (more_stmt x xs) a = silently mark (more_stmt x xs) a

  concise_again : {codes : List Code} (ms : List Mark) (x : Expr) → Again (link_expr Unmarked Alone x) x codes → Again (link_concise_body Unmarked (concise c ms x)) (concise c ms x) codes
  concise_again [] x a = made_again ExpressionBody a
  concise_again (m ∷ ms) x a = made_again BlockBody (made_again (MakeFunctionBody None) (joined_again (m ∷ ms) (more_stmt (Return None (some_expr x)) no_stmt)
      (with_codes (append-nil _) (two_again more_stmt (made_again (Return None) (made_again some_expr a)) (none_again no_stmt)))))

  labelled_same : (loc : Option Loc) (name : Identifier) (x : Stmt) → labelled loc name (L.rewritten_stmt c shift false x) ≡ Labelled loc name (L.rewritten_stmt c shift false x)
  labelled_same loc name (EnteredStmt mark x) = labelled_same loc name x
  labelled_same loc name _ = refl

  record Bodied (x : FunctionBody) : Type 0 where
    pub loc : Option Loc
    pub stmts : Stmts
    pub is : L.rewritten_function_body c shift x ≡ MakeFunctionBody loc stmts
    pub again : Again (link_stmts Unmarked stmts) stmts (functions_function_body x)

  body_again : {x : FunctionBody} → Bodied x → Again (link_function_body Unmarked (L.rewritten_function_body c shift x)) (L.rewritten_function_body c shift x) (functions_function_body x)
  body_again {x} b = subst (λ y. Again (link_function_body Unmarked y) y (functions_function_body x)) (sym b.is) (made_again (MakeFunctionBody b.loc) b.again)

  record Cased (x : Case) : Type 0 where
    pub loc : Option Loc
    pub e : MaybeExpr
    pub stmts : Stmts
    pub codes : List Code
    pub more : List Code
    pub is : L.rewritten_case c shift x ≡ MakeCase loc e stmts
    pub test : Again (link_expr_if Unmarked e) e codes
    pub again : Again (link_stmts Unmarked stmts) stmts more
    pub are : codes ++ more ≡ functions_case x

  case_again : {x : Case} → Cased x → Again (link_case Unmarked (L.rewritten_case c shift x)) (L.rewritten_case c shift x) (functions_case x)
  case_again {x} b = subst (λ y. Again (link_case Unmarked y) y (functions_case x)) (sym b.is) (with_codes b.are (two_again (MakeCase b.loc) b.test b.again))

  logical : (loc : Option Loc) (operator : LogicalOperator) (e f : Expr) {xs ys : List Code} → ((b : Chain) → Again (link_expr Unmarked b e) e xs) → ((b : Chain) → Again (link_expr Unmarked b f) f ys) →
      (b : Chain) → Again (link_expr Unmarked b (Logical loc operator e f)) (Logical loc operator e f) (xs ++ ys)
  logical loc operator e f a b Alone = two_again (Logical loc operator) (operand_again (Operand Uncounted 0) e (a (Operand Uncounted 0))) (operand_again (Operand Uncounted 0) f (b (Operand Uncounted 0)))
  logical loc operator e f a b (Operand m path) = two_again (Logical loc operator) (operand_again (Operand m path) e (a (Operand m path))) (operand_again (Operand m path) f (b (Operand m path)))

  -- nothing is entered
  concise_is : (k : Numbers) (body : ConciseBody) → enter_concise_body Uncounted body ≡ body
  concise_is k (ExpressionBody e) = refl
  concise_is k (BlockBody body) = refl

  arrow_is : (loc : Option Loc) (number : ℕ) (ps : Params) (body : ConciseBody) (k : Numbers) → link_expr Unmarked Alone (ArrowFunction loc number ps body) k ≡ two (ArrowFunction loc k.code) (link_params Unmarked ps (after_code k)) (link_concise_body Unmarked body)
  arrow_is loc number ps body k = ap (λ b. record { tree = ArrowFunction loc k.code (link_params Unmarked ps (after_code k)).tree b; next = (link_concise_body Unmarked body (link_params Unmarked ps (after_code k)).next).next }) (concise_is k (link_concise_body Unmarked body (link_params Unmarked ps (after_code k)).next).tree)

  mutual
    expr_walk : (e : Expr) (b : Chain) → Again (link_expr Unmarked b (L.rewritten_expr c shift e)) (L.rewritten_expr c shift e) (functions_expr e)
    expr_walk (IdentifierReference loc text) b = none_again (IdentifierReference loc text)
    expr_walk (This loc) b = none_again (This loc)
    expr_walk (NullLiteral loc) b = none_again (NullLiteral loc)
    expr_walk (BooleanLiteral loc b2) b = none_again (BooleanLiteral loc b2)
    expr_walk (NumericLiteral loc text) b = none_again (NumericLiteral loc text)
    expr_walk (StringLiteral loc spelled) b = none_again (StringLiteral loc spelled)
    expr_walk (ArrayLiteral loc es) b = made_again (ArrayLiteral loc) (exprs_walk es)
    expr_walk (ObjectLiteral loc ps) b = made_again (ObjectLiteral loc) (properties_walk ps)
    expr_walk (FunctionExpression loc name f) b = made_again (FunctionExpression loc name) (function_walk loc name f)
    expr_walk (ArrowFunction loc number ps body) b = number_again (Arrow number ps body) (λ n. ArrowFunction loc n (L.rewritten_params c shift ps) (L.rewritten_concise_body c shift body)) (λ n k. two (ArrowFunction loc n) (link_params Unmarked (L.rewritten_params c shift ps) k) (link_concise_body Unmarked (L.rewritten_concise_body c shift body))) (λ n. two_again (ArrowFunction loc n) (params_walk ps) (concise_walk body)) (λ k. arrow_is loc (shift + number) (L.rewritten_params c shift ps) (L.rewritten_concise_body c shift body) k)
    expr_walk (RegularExpressionLiteral loc text flags) b = none_again (RegularExpressionLiteral loc text flags)
    expr_walk (TemplateLiteral loc spelled parts) b = made_again (TemplateLiteral loc spelled) (parts_walk parts)
    expr_walk (Parenthesized loc e) b = made_again (Parenthesized loc) (operand_again b (counted c (expr_marks e) (L.rewritten_expr c shift e)) (counted_again (expr_marks e) (L.rewritten_expr c shift e) (λ z. expr_walk e z) b))
    expr_walk (NamedMember loc e text) b = made_again (λ e'. NamedMember loc e' text) (expr_walk e Alone)
    expr_walk (ComputedMember loc e f) b = two_again (ComputedMember loc) (expr_walk e Alone) (expr_walk f Alone)
    expr_walk (New loc e es) b = two_again (New loc) (expr_walk e Alone) (exprs_walk es)
    expr_walk (Call loc e es) b = two_again (Call loc) (expr_walk e Alone) (exprs_walk es)
    expr_walk (PostfixUpdate loc operator e) b = made_again (PostfixUpdate loc operator) (expr_walk e Alone)
    expr_walk (PrefixUpdate loc operator e) b = made_again (PrefixUpdate loc operator) (expr_walk e Alone)
    expr_walk (Unary loc operator e) b = made_again (Unary loc operator) (expr_walk e Alone)
    expr_walk (Binary loc operator e f) b = two_again (Binary loc operator) (expr_walk e Alone) (expr_walk f Alone)
    expr_walk (Assignment loc operator e f) b = two_again (Assignment loc operator) (expr_walk e Alone) (expr_walk f Alone)
    expr_walk (Logical loc operator e f) b = logical loc operator (counted c (expr_marks e) (L.rewritten_expr c shift e)) (counted c (expr_marks f) (L.rewritten_expr c shift f)) (counted_again (expr_marks e) (L.rewritten_expr c shift e) (λ z. expr_walk e z)) (counted_again (expr_marks f) (L.rewritten_expr c shift f) (λ z. expr_walk f z)) b
    expr_walk (Conditional loc e f g) b = three_again (Conditional loc) (expr_walk e Alone) (counted_again (expr_marks f) (L.rewritten_expr c shift f) (λ z. expr_walk f z) Alone) (counted_again (expr_marks g) (L.rewritten_expr c shift g) (λ z. expr_walk g z) Alone)
    expr_walk (Comma loc e f) b = two_again (Comma loc) (expr_walk e Alone) (expr_walk f Alone)
    expr_walk (Entered mark e) b = expr_walk e b

    stmt_walk : (home : Bool) (x : Stmt) → Again (link_stmt Unmarked (L.rewritten_stmt c shift home x)) (L.rewritten_stmt c shift home x) (functions_stmt x)
    stmt_walk home (Directive loc spelled) = none_again (Directive loc spelled)
    stmt_walk home (Block loc xs) = made_again (Block loc) (stmts_walk true xs)
    stmt_walk home (VariableDeclaration loc kind ds) = made_again (VariableDeclaration loc kind) (declarators_walk home ds)
    stmt_walk home (Empty loc) = none_again (Empty loc)
    stmt_walk home (Expression loc e) = made_again (Expression loc) (expr_walk e Alone)
    stmt_walk home (If loc e x y) = let b = is_any (stmt_marks x ++ arm_marks y) in three_again (If loc) (expr_walk e Alone) (arm_again b (stmt_marks x) (L.rewritten_stmt c shift false x) (stmt_walk false x)) (stmt_if_walk b y)
    stmt_walk home (DoWhile loc x e) = two_again (DoWhile loc) (looped_again (stmt_marks x) (L.rewritten_stmt c shift false x) (stmt_walk false x)) (expr_walk e Alone)
    stmt_walk home (While loc e x) = two_again (While loc) (expr_walk e Alone) (looped_again (stmt_marks x) (L.rewritten_stmt c shift false x) (stmt_walk false x))
    stmt_walk home (For loc start e f x) = four_again (For loc) (init_walk start) (expr_if_walk e) (expr_if_walk f) (looped_again (stmt_marks x) (L.rewritten_stmt c shift false x) (stmt_walk false x))
    stmt_walk home (ForIn loc target e x) = three_again (ForIn loc) (target_walk target) (expr_walk e Alone) (looped_again (stmt_marks x) (L.rewritten_stmt c shift false x) (stmt_walk false x))
    stmt_walk home (ForOf loc target e x) = three_again (ForOf loc) (target_walk target) (expr_walk e Alone) (looped_again (stmt_marks x) (L.rewritten_stmt c shift false x) (stmt_walk false x))
    stmt_walk home (Continue loc name) = none_again (Continue loc name)
    stmt_walk home (Break loc name) = none_again (Break loc name)
    stmt_walk home (Return loc e) = made_again (Return loc) (expr_if_walk e)
    stmt_walk home (Switch loc e cases) = two_again (Switch loc) (expr_walk e Alone) (cases_walk cases 0)
    stmt_walk home (Labelled loc name x) = record { at = λ k m z o. ap (made (labelled loc name)) ((stmt_walk false x).at k m z o) ∙ ap (λ s. kept s (after k (length (functions_stmt x)))) (labelled_same loc name x) }
    stmt_walk home (Throw loc e) = made_again (Throw loc) (expr_walk e Alone)
    stmt_walk home (TryCatch loc xs catch) = two_again (TryCatch loc) (stmts_walk true xs) (catch_walk catch)
    stmt_walk home (TryFinally loc xs ys) = two_again (TryFinally loc) (stmts_walk true xs) (stmts_walk true ys)
    stmt_walk home (TryCatchFinally loc xs catch ys) = three_again (TryCatchFinally loc) (stmts_walk true xs) (catch_walk catch) (stmts_walk true ys)
    stmt_walk home (Debugger loc) = none_again (Debugger loc)
    stmt_walk home (FunctionDeclaration loc name f) = made_again (FunctionDeclaration loc name) (function_walk loc (Some name) f)
    stmt_walk home (EnteredStmt mark x) = stmt_walk home x

    property_walk : (x : Property) → Again (link_property Unmarked (L.rewritten_property c shift x)) (L.rewritten_property c shift x) (functions_property x)
    property_walk (Shorthand loc text) = none_again (Shorthand loc text)
    property_walk (KeyValue loc key e) = two_again (KeyValue loc) (key_walk key) (expr_walk e Alone)
    property_walk (Method loc key (MakeFunction number ps body)) = number_again (OfMethod (MakeFunction number ps body)) (λ n. Method loc (L.rewritten_property_key c shift key) (MakeFunction n (L.rewritten_params c shift ps) (L.rewritten_function_body c shift body))) (λ n k. three (λ key' ps' b. Method loc key' (MakeFunction n ps' b)) (link_property_key Unmarked (L.rewritten_property_key c shift key) k) (link_params Unmarked (L.rewritten_params c shift ps)) (link_function_body Unmarked (L.rewritten_function_body c shift body))) (λ n. three_again (λ key' ps' b. Method loc key' (MakeFunction n ps' b)) (key_walk key) (params_walk ps) (body_again (body_walk body))) (λ k. refl)

    key_walk : (x : PropertyKey) → Again (link_property_key Unmarked (L.rewritten_property_key c shift x)) (L.rewritten_property_key c shift x) (functions_property_key x)
    key_walk (NameKey text) = none_again (NameKey text)
    key_walk (StringKey text) = none_again (StringKey text)
    key_walk (NumberKey text) = none_again (NumberKey text)
    key_walk (ComputedKey e) = made_again ComputedKey (expr_walk e Alone)

    concise_walk : (x : ConciseBody) → Again (link_concise_body Unmarked (L.rewritten_concise_body c shift x)) (L.rewritten_concise_body c shift x) (functions_concise_body x)
    concise_walk (ExpressionBody e) = concise_again (expr_marks e) (L.rewritten_expr c shift e) (expr_walk e Alone)
    concise_walk (BlockBody body) = made_again BlockBody (body_again (body_walk body))

    init_walk : (x : ForInit) → Again (link_for_init Unmarked (L.rewritten_for_init c shift x)) (L.rewritten_for_init c shift x) (functions_for_init x)
    init_walk NoInit = none_again NoInit
    init_walk (InitDeclaration kind ds) = made_again (InitDeclaration kind) (declarators_walk false ds)
    init_walk (InitExpression e) = made_again InitExpression (expr_walk e Alone)

    target_walk : (x : ForTarget) → Again (link_for_target Unmarked (L.rewritten_for_target c shift x)) (L.rewritten_for_target c shift x) (functions_for_target x)
    target_walk (TargetDeclaration kind pattern) = none_again (TargetDeclaration kind pattern)
    target_walk (TargetExpression e) = made_again TargetExpression (expr_walk e Alone)

    part_walk : (x : TemplatePart) → Again (link_template_part Unmarked (L.rewritten_template_part c shift x)) (L.rewritten_template_part c shift x) (functions_template_part x)
    part_walk (MakeTemplatePart e spelled) = made_again (λ e'. MakeTemplatePart e' spelled) (expr_walk e Alone)

    function_walk : (loc : Option Loc) (name : Option Identifier) (x : Function) → Again (link_function Unmarked loc name (L.rewritten_function c shift x)) (L.rewritten_function c shift x) (functions_function x)
    function_walk loc name (MakeFunction number ps body) = number_again (Ordinary (MakeFunction number ps body)) (λ n. MakeFunction n (L.rewritten_params c shift ps) (L.rewritten_function_body c shift body)) (λ n k. two (MakeFunction n) (link_params Unmarked (L.rewritten_params c shift ps) k) (link_function_body Unmarked (L.rewritten_function_body c shift body))) (λ n. two_again (MakeFunction n) (params_walk ps) (body_again (body_walk body))) (λ k. refl)

    body_walk : (x : FunctionBody) → Bodied x
    body_walk (MakeFunctionBody loc xs) = record { loc = loc; stmts = L.rewritten_stmts c shift true xs; is = refl; again = stmts_walk true xs }
    body_walk (EnteredBody mark x) = let b = body_walk x in record { loc = b.loc; stmts = after_directives (counts c (mark ∷ [])) b.stmts; is = ap (L.begun_body c mark) b.is; again = begun_again mark b.stmts b.again }

    param_walk : (x : Param) → Again (link_param Unmarked (L.rewritten_param c shift x)) (L.rewritten_param c shift x) (functions_param x)
    param_walk (MakeParam loc pattern none_expr) = none_again (MakeParam loc pattern none_expr)
    param_walk (MakeParam loc pattern (some_expr e)) = made_again (λ e'. MakeParam loc pattern (some_expr e')) (held_again (is_anonymous e) (bound_name pattern) (expr_marks e) (L.rewritten_expr c shift e) (λ z. expr_walk e z) Alone)

    declarator_walk : (hoists : Bool) (x : Declarator) → Again (link_declarator Unmarked (L.rewritten_declarator c shift hoists x)) (L.rewritten_declarator c shift hoists x) (functions_declarator x)
    declarator_walk hoists (MakeDeclarator loc pattern none_expr) = none_again (MakeDeclarator loc pattern none_expr)
    declarator_walk hoists (MakeDeclarator loc pattern (some_expr e)) = made_again (λ e'. MakeDeclarator loc pattern (some_expr e')) (initial_again hoists (is_anonymous e) (bound_name pattern) (expr_marks e) (L.rewritten_expr c shift e) (λ z. expr_walk e z) Alone)

    case_walk : (x : Case) → Cased x
    case_walk (MakeCase loc e xs) = record { loc = loc; e = L.rewritten_expr_if c shift e; stmts = L.rewritten_stmts c shift false xs; codes = functions_expr_if e; more = functions_stmts xs; is = refl; test = expr_if_walk e; again = stmts_walk false xs; are = refl }
    case_walk (EnteredCase mark x) = let b = case_walk x in record { loc = b.loc; e = b.e; stmts = more_stmt (L.count c mark) b.stmts; codes = b.codes; more = b.more; is = ap (L.begun_case c mark) b.is; test = b.test; again = silently mark b.stmts b.again; are = b.are }

    catch_walk : (x : Catch) → Again (link_catch Unmarked (L.rewritten_catch c shift x)) (L.rewritten_catch c shift x) (functions_catch x)
    catch_walk (MakeCatch pattern xs) = made_again (MakeCatch pattern) (stmts_walk true xs)

    expr_if_walk : (x : MaybeExpr) → Again (link_expr_if Unmarked (L.rewritten_expr_if c shift x)) (L.rewritten_expr_if c shift x) (functions_expr_if x)
    expr_if_walk none_expr = none_again none_expr
    expr_if_walk (some_expr e) = made_again some_expr (expr_walk e Alone)

    stmt_if_walk : (b : Bool) (x : MaybeStmt) → Again (link_stmt_if Unmarked (L.rewritten_arm c shift b x)) (L.rewritten_arm c shift b x) (functions_stmt_if x)
    stmt_if_walk b none_stmt = none_again none_stmt
    stmt_if_walk b (some_stmt x) = made_again some_stmt (arm_again b (stmt_marks x) (L.rewritten_stmt c shift false x) (stmt_walk false x))
    stmt_if_walk b (entered_none mark) = made_again some_stmt (made_again (Block None) (silently mark no_stmt (none_again no_stmt)))

    exprs_walk : (x : Exprs) → Again (link_exprs Unmarked (L.rewritten_exprs c shift x)) (L.rewritten_exprs c shift x) (functions_exprs x)
    exprs_walk no_expr = none_again no_expr
    exprs_walk (more_expr y ys) = two_again more_expr (expr_walk y Alone) (exprs_walk ys)

    parts_walk : (x : TemplateParts) → Again (link_template_parts Unmarked (L.rewritten_template_parts c shift x)) (L.rewritten_template_parts c shift x) (functions_template_parts x)
    parts_walk no_template_part = none_again no_template_part
    parts_walk (more_template_part y ys) = two_again more_template_part (part_walk y) (parts_walk ys)

    properties_walk : (x : Properties) → Again (link_properties Unmarked (L.rewritten_properties c shift x)) (L.rewritten_properties c shift x) (functions_properties x)
    properties_walk no_property = none_again no_property
    properties_walk (more_property y ys) = two_again more_property (property_walk y) (properties_walk ys)

    params_walk : (x : Params) → Again (link_params Unmarked (L.rewritten_params c shift x)) (L.rewritten_params c shift x) (functions_params x)
    params_walk no_param = none_again no_param
    params_walk (more_param y ys) = two_again more_param (param_walk y) (params_walk ys)

    declarators_walk : (hoists : Bool) (x : Declarators) → Again (link_declarators Unmarked (L.rewritten_declarators c shift hoists x)) (L.rewritten_declarators c shift hoists x) (functions_declarators x)
    declarators_walk hoists no_declarator = none_again no_declarator
    declarators_walk hoists (more_declarator y ys) = two_again more_declarator (declarator_walk hoists y) (declarators_walk false ys)

    cases_walk : (x : Cases) (path : ℕ) → Again (link_cases Unmarked Uncounted path (L.rewritten_cases c shift x)) (L.rewritten_cases c shift x) (functions_cases x)
    cases_walk no_case path = none_again no_case
    cases_walk (more_case y ys) path = two_again more_case (case_again (case_walk y)) (cases_walk ys path)

    stmts_walk : (home : Bool) (x : Stmts) → Again (link_stmts Unmarked (L.rewritten_stmts c shift home x)) (L.rewritten_stmts c shift home x) (functions_stmts x)
    stmts_walk home no_stmt = none_again no_stmt
    stmts_walk home (more_stmt y ys) = joined_again (stmt_marks y ++ hoisted_marks home y) (more_stmt (L.rewritten_stmt c shift home y) (L.rewritten_stmts c shift home ys)) (two_again more_stmt (stmt_walk home y) (stmts_walk home ys))

  pub again_linked : (home : Bool) (xs : Stmts) (k : Numbers) (m : ℕ) → k.code ≡ shift + m → Ordered (functions_stmts xs) m →
      link_stmts Unmarked (L.rewritten_stmts c shift home xs) k ≡ kept (L.rewritten_stmts c shift home xs) (after k (length (functions_stmts xs)))
  again_linked home xs k m e o = (stmts_walk home xs).at k m e o
