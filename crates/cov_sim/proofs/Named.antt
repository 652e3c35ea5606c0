-- The functions of a tree that can be printed have names that are UTF-8: those that are written are spelt as tokens are, and those that are made are ASCII.
use Rattle.std.proofs.Common.{ℕ, ◌+◌, Bool, true, false, List, [], ◌∷◌, ◌++◌, Option, Some, None, codes, decimal, refl}
use Rattle.std.specs.Str.{IsUtf8}
use Rattle.std.proofs.lemmas.Str.{IsUtf8-nil, IsUtf8-append}
use Rattle.js_terms.specs.declared.construct.BranchKind.{BranchKind}
use Rattle.js_terms.specs.declared.construct.Construct.{Construct}
use Rattle.js_terms.specs.declared.place.Loc.{Loc}
use Rattle.js_terms.specs.declared.words.Identifier.{Identifier}
use Rattle.js_tree.specs.Hints.{Heed, heed, heed_comments, heeded_place, case_paths, leaf_paths}
use Rattle.js_tree.specs.Places.{bare_place, expr_place, stmt_place, body_place, concise_place}
use Rattle.js_tree.specs.Plain.{Expr, ArrayLiteral, ObjectLiteral, FunctionExpression, ArrowFunction, TemplateLiteral, Parenthesized, NamedMember, ComputedMember, New, Call, PostfixUpdate, PrefixUpdate, Unary, Binary, Logical, Conditional, Assignment, Comma, Entered}
use Rattle.js_tree.specs.Plain.{Stmt, Directive, Block, VariableDeclaration, Empty, Expression, If, DoWhile, While, For, ForIn, ForOf, Return, Switch, Labelled, Throw, TryCatch, TryFinally, TryCatchFinally, FunctionDeclaration, EnteredStmt}
use Rattle.js_tree.specs.Plain.{Property, Shorthand, KeyValue, Method, PropertyKey, ComputedKey, ConciseBody, ExpressionBody, BlockBody, ForInit, NoInit, InitDeclaration, InitExpression, ForTarget, TargetDeclaration, TargetExpression}
use Rattle.js_tree.specs.Plain.{MakeTemplatePart, Function, MakeFunction, FunctionBody, MakeFunctionBody, EnteredBody, Param, MakeParam, Declarator, MakeDeclarator, MakeCase, EnteredCase, Catch, MakeCatch}
use Rattle.js_tree.specs.Plain.{Pattern, none_pattern, some_pattern, MaybeExpr, none_expr, some_expr, MaybeStmt, none_stmt, some_stmt, entered_none}
use Rattle.js_tree.specs.Plain.{TemplateParts, no_template_part, more_template_part, Properties, no_property, more_property, Params, no_param, more_param, Exprs, no_expr, more_expr, Stmts, no_stmt, more_stmt, Declarators, no_declarator, more_declarator, Cases, no_case, more_case, MakeFile}
use Rattle.js_walk.specs.Part.{Part, AnExpr, AStmt, AProperty, APropertyKey, AConciseBody, AForInit, AForTarget, ATemplatePart, AFunction, AFunctionBody, AParam, ADeclarator, ACase, ACatch, AThen, AnElse}
use Rattle.js_walk.specs.Walk.{below, visit, within_expr, within_exprs, within_expr_if, within_stmt, within_stmt_if, within_stmts, within_property, within_property_key, within_properties, within_param, within_params, within_function, within_function_body, within_concise_body, within_template_part, within_template_parts, within_declarator, within_declarators, within_case, within_cases, within_for_init, within_for_target, within_catch}
use Rattle.js_walk.specs.Constructs.{counted, branch, written_name, declared_place, function_at, counted_function, Told, told, left_in, own_expr, own_stmt, own_property, own_declarator, own_param, own_concise_body, own_construct, expr_paths, if_paths, tell, anonymous, name_or_anonymous, all_named}
use Rattle.js_layout.specs.Printable.{IsNameIf, IsExpr, AreExprs, AreParts, AreProperties, IsProperty, IsKey, IsFunction, IsBody, IsConcise, AreParams, IsMaybe, AreStmts, IsStmt, IsElse, HasDeclarators, AreDeclarators, IsDeclarator, IsInit, IsTarget, AreCases, IsCatch}
use Rattle.js_reading.specs.Makes.{is_const}
use Rattle.cov_rewritten.proofs.DecimalKeys.{decimal_key}
use Rattle.cov_sim.specs.Laws.{AreNamed, NamesFunctions}
use Rattle.cov_sim.specs.Laws as all

-- ---- lists

join : {xs ys : List Construct} → AreNamed xs → AreNamed ys → AreNamed (xs ++ ys)
join all.none k = k
join (all.statement h) k = all.statement (join h k)
join (all.function utf8 h) k = all.function utf8 (join h k)
join (all.branch h) k = all.branch (join h k)

-- ---- what is counted of a node

counted_named : (l : Option Loc) → AreNamed (counted l)
counted_named None = all.none
counted_named (Some l) = all.statement all.none

branch_named : (kind : BranchKind) (l : Option Loc) (paths : List (Option Loc)) → AreNamed (branch kind l paths)
branch_named kind None paths = all.none
branch_named kind (Some l) paths = all.branch all.none

place_named : (name : List ℕ) (d b : Option Loc) → IsUtf8 name → AreNamed (function_at name d b)
place_named name None b utf8 = all.none
place_named name (Some d) None utf8 = all.none
place_named name (Some d) (Some b) utf8 = all.function utf8 all.none

-- a name that is written is spelt as a token is
written_utf8 : (x : Option Identifier) → IsNameIf x → IsUtf8 (written_name x)
written_utf8 None q = IsUtf8-nil
written_utf8 (Some x) q = q.token.utf8

function_named : (l : Option Loc) (x : Option Identifier) (b : Option Loc) → IsNameIf x → AreNamed (counted_function l x b)
function_named None x b q = all.none
function_named (Some l) x b q = place_named (written_name x) (declared_place l.start x) b (written_utf8 x q)

own_expr_named : (left : Heed) (chained : Bool) (e : Expr) → IsExpr e → AreNamed (own_expr left chained e)
own_expr_named left chained (FunctionExpression l x f) q = function_named (heeded_place left l) x (body_place f) q.0
own_expr_named left chained (ArrowFunction l n ps body) q = function_named (heeded_place left l) None (concise_place body) tt
own_expr_named left chained (Conditional l c x y) q = branch_named _ (heeded_place left l) (expr_paths left x ++ expr_paths left y)
own_expr_named left false (Logical l o x y) q = branch_named _ (heeded_place left l) (leaf_paths (heed left (expr_place x)) x ++ leaf_paths (heed left (expr_place y)) y)
own_expr_named left chained e q = all.none

own_stmt_named : (left : Heed) (s : Stmt) → IsStmt s → AreNamed (own_stmt left s)
own_stmt_named left (Directive l s) q = all.none
own_stmt_named left (Block l ss) q = all.none
own_stmt_named left (VariableDeclaration l k ds) q = all.none
own_stmt_named left (Empty l) q = all.none
own_stmt_named left (FunctionDeclaration l x f) q = function_named (heeded_place left l) (Some x) (body_place f) q.0
own_stmt_named left (If l c x y) q = join (counted_named (heeded_place left l)) (branch_named _ (heeded_place left l) (if_paths left l x y))
own_stmt_named left (Switch l e cs) q = join (counted_named (heeded_place left l)) (branch_named _ (heeded_place left l) (case_paths left cs))
own_stmt_named left s q = counted_named (heeded_place left (stmt_place s))

own_property_named : (left : Heed) (p : Property) → AreNamed (own_property left p)
own_property_named left (Method l k f) = function_named (heeded_place left l) None (body_place f) tt
own_property_named left p = all.none

own_declarator_named : (left : Heed) (d : Declarator) → AreNamed (own_declarator left d)
own_declarator_named left (MakeDeclarator l x none_expr) = all.none
own_declarator_named left (MakeDeclarator l x (some_expr e)) = counted_named (heeded_place (heed left (expr_place e)) (bare_place e))

own_param_named : (left : Heed) (p : Param) → AreNamed (own_param left p)
own_param_named left (MakeParam l x none_expr) = all.none
own_param_named left (MakeParam l x (some_expr e)) = branch_named _ (heeded_place left l) (expr_paths left e)

own_concise_named : (left : Heed) (body : ConciseBody) → AreNamed (own_concise_body left body)
own_concise_named left (ExpressionBody e) = counted_named (heeded_place (heed left (expr_place e)) (bare_place e))
own_concise_named left (BlockBody body) = all.none

-- ---- a part, and what is in it

abbrev AllIn : (Told → List Construct) → Type 0
AllIn inside = (c : Told) → AreNamed (inside c)

visited : (c : Told) (p : Part) (inside : Told → List Construct) → AreNamed (own_construct c p) → AllIn inside → AreNamed (visit own_construct tell c p inside)
visited c p inside h k = join h (by (tell c p))
  where
    by : (o : Option Told) → AreNamed (below o inside)
    by None = all.none
    by (Some b) = k b

of_expr : (e : Expr) → IsExpr e → AllIn (within_expr own_construct tell e) → (c : Told) → AreNamed (visit own_construct tell c (AnExpr e) (within_expr own_construct tell e))
of_expr e q k c = visited c (AnExpr e) (within_expr own_construct tell e) (own_expr_named (left_in c (AnExpr e)) c.chained e q) k

-- a directive gives nothing
abbrev IsItem : Stmt → Type 0
IsItem (Directive l s) = Unit {0}
IsItem s = IsStmt s

as_item : (s : Stmt) → IsStmt s → IsItem s
as_item (Directive l t) q = tt
as_item s q = q

own_item_named : (left : Heed) (s : Stmt) → IsItem s → AreNamed (own_stmt left s)
own_item_named left (Directive l s) q = all.none
own_item_named left s q = own_stmt_named left s q

of_item : (s : Stmt) → IsItem s → AllIn (within_stmt own_construct tell s) → (c : Told) → AreNamed (visit own_construct tell c (AStmt s) (within_stmt own_construct tell s))
of_item s q k c = visited c (AStmt s) (within_stmt own_construct tell s) (own_item_named (left_in c (AStmt s)) s q) k

of_stmt : (s : Stmt) → IsStmt s → AllIn (within_stmt own_construct tell s) → (c : Told) → AreNamed (visit own_construct tell c (AStmt s) (within_stmt own_construct tell s))
of_stmt s q k c = of_item s (as_item s q) k c

item : (b : Bool) (s : Stmt) (ss : Stmts) → AreStmts b (more_stmt s ss) → IsItem s
item b (Directive l s) ss q = tt
item true s ss q = q.0
item false s ss q = q.0

later : (b : Bool) (s : Stmt) (ss : Stmts) → AreStmts b (more_stmt s ss) → (d : Bool) × AreStmts d ss
later true (Directive l s) ss q = (true, q.1)
later false (Directive l s) ss q = absurd q.0
later true s ss q = (false, q.1)
later false s ss q = (false, q.1)

some_due : (due : Bool) (l : Option Loc) (x : Pattern) (e : MaybeExpr) → IsDeclarator due (MakeDeclarator l x e) → IsMaybe e
some_due true l x none_expr q = tt
some_due false l x none_expr q = tt
some_due true l x (some_expr e) q = q.1
some_due false l x (some_expr e) q = q.1

all_declare : (due : Bool) (ds : Declarators) → HasDeclarators due ds → AreDeclarators due ds
all_declare due no_declarator q = tt
all_declare due (more_declarator d ds) q = q

mutual
  in_expr : (e : Expr) → IsExpr e → AllIn (within_expr own_construct tell e)
  in_expr (ArrayLiteral l xs) q c = in_exprs xs q c
  in_expr (ObjectLiteral l ps) q c = in_properties ps q c
  in_expr (FunctionExpression l x f) q c = visited c (AFunction f) (within_function own_construct tell f) all.none (in_function f q.1)
  in_expr (ArrowFunction l n ps body) q c = join (in_params ps q.1 c) (visited c (AConciseBody body) (within_concise_body own_construct tell body) (own_concise_named c.left body) (in_concise body q.2))
  in_expr (TemplateLiteral l s parts) q c = in_parts parts q.1 c
  in_expr (Parenthesized l e) q c = of_expr e q (in_expr e q) c
  in_expr (NamedMember l o w) q c = of_expr o q.0 (in_expr o q.0) c
  in_expr (ComputedMember l o k) q c = join (of_expr o q.0 (in_expr o q.0) c) (of_expr k q.1 (in_expr k q.1) c)
  in_expr (New l f xs) q c = join (of_expr f q.0 (in_expr f q.0) c) (in_exprs xs q.1 c)
  in_expr (Call l f xs) q c = join (of_expr f q.0 (in_expr f q.0) c) (in_exprs xs q.1 c)
  in_expr (PostfixUpdate l o e) q c = of_expr e q.0 (in_expr e q.0) c
  in_expr (PrefixUpdate l o e) q c = of_expr e q.0 (in_expr e q.0) c
  in_expr (Unary l o e) q c = of_expr e q (in_expr e q) c
  in_expr (Binary l o x y) q c = join (of_expr x q.0 (in_expr x q.0) c) (of_expr y q.1 (in_expr y q.1) c)
  in_expr (Logical l o x y) q c = join (of_expr x q.0 (in_expr x q.0) c) (of_expr y q.1 (in_expr y q.1) c)
  in_expr (Conditional l z x y) q c = join (join (of_expr z q.0 (in_expr z q.0) c) (of_expr x q.1 (in_expr x q.1) c)) (of_expr y q.2 (in_expr y q.2) c)
  in_expr (Assignment l o x y) q c = join (of_expr x q.0 (in_expr x q.0) c) (of_expr y q.2 (in_expr y q.2) c)
  in_expr (Comma l x y) q c = join (of_expr x q.0 (in_expr x q.0) c) (of_expr y q.1 (in_expr y q.1) c)
  in_expr (Entered m e) q c = absurd q
  in_expr e q c = all.none

  in_exprs : (xs : Exprs) → AreExprs xs → AllIn (within_exprs own_construct tell xs)
  in_exprs no_expr q c = all.none
  in_exprs (more_expr x xs) q c = join (of_expr x q.0 (in_expr x q.0) c) (in_exprs xs q.1 c)

  in_maybe : (x : MaybeExpr) → IsMaybe x → AllIn (within_expr_if own_construct tell x)
  in_maybe none_expr q c = all.none
  in_maybe (some_expr x) q c = of_expr x q (in_expr x q) c

  in_parts : (xs : TemplateParts) → AreParts xs → AllIn (within_template_parts own_construct tell xs)
  in_parts no_template_part q c = all.none
  in_parts (more_template_part (MakeTemplatePart e s) xs) q c =
      join (visited c (ATemplatePart (MakeTemplatePart e s)) (within_template_part own_construct tell (MakeTemplatePart e s)) all.none (of_expr e q.0 (in_expr e q.0))) (in_parts xs q.2 c)

  in_properties : (ps : Properties) → AreProperties ps → AllIn (within_properties own_construct tell ps)
  in_properties no_property q c = all.none
  in_properties (more_property p ps) q c = join (visited c (AProperty p) (within_property own_construct tell p) (own_property_named (left_in c (AProperty p)) p) (in_property p q.0)) (in_properties ps q.1 c)

  in_property : (p : Property) → IsProperty p → AllIn (within_property own_construct tell p)
  in_property (Shorthand l w) q c = all.none
  in_property (KeyValue l k e) q c = join (visited c (APropertyKey k) (within_property_key own_construct tell k) all.none (in_key k q.0)) (of_expr e q.2 (in_expr e q.2) c)
  in_property (Method l k f) q c = join (visited c (APropertyKey k) (within_property_key own_construct tell k) all.none (in_key k q.0)) (visited c (AFunction f) (within_function own_construct tell f) all.none (in_function f q.1))

  in_key : (k : PropertyKey) → IsKey k → AllIn (within_property_key own_construct tell k)
  in_key (ComputedKey e) q c = of_expr e q (in_expr e q) c
  in_key k q c = all.none

  in_function : (f : Function) → IsFunction f → AllIn (within_function own_construct tell f)
  in_function (MakeFunction n ps body) q c = join (in_params ps q.1 c) (visited c (AFunctionBody body) (within_function_body own_construct tell body) all.none (in_body body q.2))

  in_body : (body : FunctionBody) → IsBody body → AllIn (within_function_body own_construct tell body)
  in_body (MakeFunctionBody l ss) q c = in_stmts true ss q c
  in_body (EnteredBody m body) q c = absurd q

  in_concise : (body : ConciseBody) → IsConcise body → AllIn (within_concise_body own_construct tell body)
  in_concise (ExpressionBody e) q c = of_expr e q (in_expr e q) c
  in_concise (BlockBody body) q c = visited c (AFunctionBody body) (within_function_body own_construct tell body) all.none (in_body body q)

  in_params : (ps : Params) → AreParams ps → AllIn (within_params own_construct tell ps)
  in_params no_param q c = all.none
  in_params (more_param (MakeParam l x e) ps) q c =
      join (visited c (AParam (MakeParam l x e)) (within_param own_construct tell (MakeParam l x e)) (own_param_named (left_in c (AParam (MakeParam l x e))) (MakeParam l x e)) (in_maybe e q.1)) (in_params ps q.2 c)

  in_stmts : (b : Bool) (ss : Stmts) → AreStmts b ss → AllIn (within_stmts own_construct tell ss)
  in_stmts b no_stmt q c = all.none
  in_stmts b (more_stmt s ss) q c =
      let rest = later b s ss q in
      join (of_item s (item b s ss q) (in_stmt s (item b s ss q)) c) (in_stmts rest.0 ss rest.1 c)

  in_stmt : (s : Stmt) → IsItem s → AllIn (within_stmt own_construct tell s)
  in_stmt (Block l ss) q c = in_stmts false ss q c
  in_stmt (VariableDeclaration l k ds) q c = in_declarators (is_const k) ds (all_declare (is_const k) ds q) c
  in_stmt (Expression l e) q c = of_expr e q (in_expr e q) c
  in_stmt (If l z x y) q c =
      join
      (join (of_expr z q.0 (in_expr z q.0) c) (visited c (AThen x) (λ b. visit own_construct tell b (AStmt x) (within_stmt own_construct tell x)) all.none (of_stmt x q.1 (in_stmt x (as_item x q.1)))))
      (visited c (AnElse y) (within_stmt_if own_construct tell y) all.none (in_else x y q.3))
  in_stmt (DoWhile l x e) q c = join (of_stmt x q.0 (in_stmt x (as_item x q.0)) c) (of_expr e q.2 (in_expr e q.2) c)
  in_stmt (While l e x) q c = join (of_expr e q.0 (in_expr e q.0) c) (of_stmt x q.1 (in_stmt x (as_item x q.1)) c)
  in_stmt (For l i e f x) q c =
      join (join (join (visited c (AForInit i) (within_for_init own_construct tell i) all.none (in_init i q.0)) (in_maybe e q.1 c)) (in_maybe f q.2 c)) (of_stmt x q.3 (in_stmt x (as_item x q.3)) c)
  in_stmt (ForIn l t e x) q c = join (join (visited c (AForTarget t) (within_for_target own_construct tell t) all.none (in_target t q.0)) (of_expr e q.1 (in_expr e q.1) c)) (of_stmt x q.2 (in_stmt x (as_item x q.2)) c)
  in_stmt (ForOf l t e x) q c = join (join (visited c (AForTarget t) (within_for_target own_construct tell t) all.none (in_target t q.0)) (of_expr e q.2 (in_expr e q.2) c)) (of_stmt x q.3 (in_stmt x (as_item x q.3)) c)
  in_stmt (Return l e) q c = in_maybe e q c
  in_stmt (Switch l e cs) q c = join (of_expr e q.0 (in_expr e q.0) c) (in_cases false cs q.1 c)
  in_stmt (Labelled l x s) q c = of_stmt s q.1 (in_stmt s (as_item s q.1)) c
  in_stmt (Throw l e) q c = of_expr e q (in_expr e q) c
  in_stmt (TryCatch l ss k) q c = join (in_stmts false ss q.0 c) (visited c (ACatch k) (within_catch own_construct tell k) all.none (in_catch k q.1))
  in_stmt (TryFinally l ss ts) q c = join (in_stmts false ss q.0 c) (in_stmts false ts q.1 c)
  in_stmt (TryCatchFinally l ss k ts) q c = join (join (in_stmts false ss q.0 c) (visited c (ACatch k) (within_catch own_construct tell k) all.none (in_catch k q.1))) (in_stmts false ts q.2 c)
  in_stmt (FunctionDeclaration l x f) q c = visited c (AFunction f) (within_function own_construct tell f) all.none (in_function f q.1)
  in_stmt (EnteredStmt m s) q c = absurd q
  in_stmt s q c = all.none

  in_else : (x : Stmt) (y : MaybeStmt) → IsElse x y → AllIn (within_stmt_if own_construct tell y)
  in_else x none_stmt q c = all.none
  in_else x (some_stmt y) q c = of_stmt y q.0 (in_stmt y (as_item y q.0)) c
  in_else x (entered_none m) q c = absurd q

  in_declarators : (due : Bool) (ds : Declarators) → AreDeclarators due ds → AllIn (within_declarators own_construct tell ds)
  in_declarators due no_declarator q c = all.none
  in_declarators due (more_declarator (MakeDeclarator l x e) ds) q c =
      join (visited c (ADeclarator (MakeDeclarator l x e)) (within_declarator own_construct tell (MakeDeclarator l x e)) (own_declarator_named (left_in c (ADeclarator (MakeDeclarator l x e))) (MakeDeclarator l x e)) (in_maybe e (some_due due l x e q.0)))
      (in_declarators due ds q.1 c)

  in_init : (i : ForInit) → IsInit i → AllIn (within_for_init own_construct tell i)
  in_init NoInit q c = all.none
  in_init (InitDeclaration k ds) q c = in_declarators (is_const k) ds (all_declare (is_const k) ds q) c
  in_init (InitExpression e) q c = of_expr e q (in_expr e q) c

  in_target : (t : ForTarget) → IsTarget t → AllIn (within_for_target own_construct tell t)
  in_target (TargetDeclaration k x) q c = all.none
  in_target (TargetExpression e) q c = of_expr e q.0 (in_expr e q.0) c

  in_cases : (b : Bool) (cs : Cases) → AreCases b cs → AllIn (within_cases own_construct tell cs)
  in_cases b no_case q c = all.none
  in_cases true (more_case (MakeCase l none_expr ss) cs) q c = absurd q
  in_cases false (more_case (MakeCase l none_expr ss) cs) q c = join (visited c (ACase (MakeCase l none_expr ss)) (within_case own_construct tell (MakeCase l none_expr ss)) all.none (in_stmts false ss q.0)) (in_cases true cs q.1 c)
  in_cases true (more_case (MakeCase l (some_expr e) ss) cs) q c =
      join (visited c (ACase (MakeCase l (some_expr e) ss)) (within_case own_construct tell (MakeCase l (some_expr e) ss)) all.none (λ b. join (of_expr e q.0 (in_expr e q.0) b) (in_stmts false ss q.1 b))) (in_cases true cs q.2 c)
  in_cases false (more_case (MakeCase l (some_expr e) ss) cs) q c =
      join (visited c (ACase (MakeCase l (some_expr e) ss)) (within_case own_construct tell (MakeCase l (some_expr e) ss)) all.none (λ b. join (of_expr e q.0 (in_expr e q.0) b) (in_stmts false ss q.1 b))) (in_cases false cs q.2 c)
  in_cases true (more_case (EnteredCase m x) cs) q c = absurd q
  in_cases false (more_case (EnteredCase m x) cs) q c = absurd q

  in_catch : (k : Catch) → IsCatch k → AllIn (within_catch own_construct tell k)
  in_catch (MakeCatch none_pattern ss) q c = in_stmts false ss q.1 c
  in_catch (MakeCatch (some_pattern x) ss) q c = in_stmts false ss q.1 c

-- ---- names that are made

made_utf8 : (number : ℕ) → IsUtf8 (anonymous number)
unfolding lib.Utf8.encode
made_utf8 number =
    IsUtf8-append (codes "(anonymous_" ++ decimal number) (codes ")") (IsUtf8-append (codes "(anonymous_") (decimal number) (codes "(anonymous_", (refl, refl)) (decimal_key number).0) (codes ")", (refl, refl))

name_utf8 : (number : ℕ) (name : List ℕ) → IsUtf8 name → IsUtf8 (name_or_anonymous number name)
name_utf8 number [] utf8 = made_utf8 number
name_utf8 number (x ∷ name) utf8 = utf8

all_have : (number : ℕ) {xs : List Construct} → AreNamed xs → AreNamed (all_named number xs)
all_have number all.none = all.none
all_have number (all.statement h) = all.statement (all_have number h)
all_have number (all.function {name = name} utf8 h) = all.function (name_utf8 number name utf8) (all_have (number + 1) h)
all_have number (all.branch h) = all.branch (all_have number h)

pub names_functions : NamesFunctions
names_functions (MakeFile body comments) prints = all_have 0 (in_stmts true body prints.body (told (heed_comments comments)))
