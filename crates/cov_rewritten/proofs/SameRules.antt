-- Trees that are the same but for places, comments and parentheses break the same rules.
use Rattle.std.proofs.Common.{◌≡◌, ◌++◌, ◌∷◌, [], ℕ, Bool, true, false, ◌&&◌, ◌||◌, List, Option, Some, None, map, refl, sym, ap, ◌∙◌, if◌then◌else◌}
use Rattle.std.specs.List.{list_any}
use Rattle.std.specs.Str.{bytes_eq}
use Rattle.js_terms.specs.declared.operators.UnaryOperator.{UnaryOperator}
use Rattle.js_terms.specs.declared.operators.UnaryOperator.TheVariants as unary_operator
use Rattle.js_terms.specs.declared.operators.VariableKind.{VariableKind}
use Rattle.js_terms.specs.declared.operators.VariableKind.TheVariants as variable
use Rattle.js_terms.specs.declared.place.Loc.{Loc}
use Rattle.js_terms.specs.declared.place.Pos.{Pos}
use Rattle.js_terms.specs.declared.words.Identifier.{Identifier}
use Rattle.js_tree.specs.Plain.{Expr, IdentifierReference, This, NullLiteral, BooleanLiteral, NumericLiteral, StringLiteral, ArrayLiteral, ObjectLiteral, FunctionExpression, ArrowFunction, RegularExpressionLiteral, TemplateLiteral, Parenthesized, NamedMember, ComputedMember, New, Call, PostfixUpdate, PrefixUpdate, Unary, Binary, Logical, Conditional, Assignment, Comma, Entered}
use Rattle.js_tree.specs.Plain.{Stmt, Directive, Block, VariableDeclaration, Empty, Expression, If, DoWhile, While, For, ForIn, ForOf, Continue, Break, Return, Switch, Labelled, Throw, TryCatch, TryFinally, TryCatchFinally, Debugger, FunctionDeclaration, EnteredStmt}
use Rattle.js_tree.specs.Plain.{Property, Shorthand, KeyValue, Method}
use Rattle.js_tree.specs.Plain.{PropertyKey, NameKey, StringKey, NumberKey, ComputedKey}
use Rattle.js_tree.specs.Plain.{ConciseBody, ExpressionBody, BlockBody}
use Rattle.js_tree.specs.Plain.{ForInit, NoInit, InitDeclaration, InitExpression}
use Rattle.js_tree.specs.Plain.{ForTarget, TargetDeclaration, TargetExpression}
use Rattle.js_tree.specs.Plain.{TemplatePart, MakeTemplatePart}
use Rattle.js_tree.specs.Plain.{Function, MakeFunction}
use Rattle.js_tree.specs.Plain.{FunctionBody, MakeFunctionBody, EnteredBody}
use Rattle.js_tree.specs.Plain.{Param, MakeParam}
use Rattle.js_tree.specs.Plain.{Declarator, MakeDeclarator}
use Rattle.js_tree.specs.Plain.{Case, MakeCase, EnteredCase}
use Rattle.js_tree.specs.Plain.{Catch, MakeCatch}
use Rattle.js_tree.specs.Plain.{Pattern, BindingIdentifier, MaybePattern, none_pattern, some_pattern}
use Rattle.js_tree.specs.Plain.{MaybeExpr, none_expr, some_expr}
use Rattle.js_tree.specs.Plain.{MaybeStmt, none_stmt, some_stmt, entered_none}
use Rattle.js_tree.specs.Plain.{Exprs, no_expr, more_expr}
use Rattle.js_tree.specs.Plain.{TemplateParts, no_template_part, more_template_part}
use Rattle.js_tree.specs.Plain.{Properties, no_property, more_property}
use Rattle.js_tree.specs.Plain.{Params, no_param, more_param}
use Rattle.js_tree.specs.Plain.{Stmts, no_stmt, more_stmt}
use Rattle.js_tree.specs.Plain.{Declarators, no_declarator, more_declarator}
use Rattle.js_tree.specs.Plain.{Cases, no_case, more_case}
use Rattle.js_tree.specs.Plain.{File, MakeFile}
use Rattle.js_tree.specs.Same.{bare_identifier, bare_identifier_if, bare_expr, bare_stmt, bare_property, bare_property_key, bare_concise_body, bare_for_init, bare_for_target, bare_template_part, bare_function, bare_function_body, bare_param, bare_declarator, bare_case, bare_catch, bare_pattern, bare_pattern_if, bare_expr_if, bare_stmt_if, bare_template_parts, bare_properties, bare_params, bare_exprs, bare_stmts, bare_declarators, bare_cases, bare_file}
use Rattle.js_walk.specs.Part.{APattern}
use Rattle.js_walk.specs.Walk.{within_pattern_if}
use Rattle.js_scopes.specs.declared.binding.Binding.{Binding}
use Rattle.js_scopes.specs.declared.binding.Binding.TheVariants as binding
use Rattle.js_scopes.specs.declared.fault.ScopeFault.{ScopeFault}
use Rattle.js_scopes.specs.declared.fault.ScopeFaultKind.{ScopeFaultKind}
use Rattle.js_scopes.specs.declared.fault.ScopeFaultKind.TheVariants as kind
use Rattle.js_scopes.specs.declared.mention.Mention.{Mention}
use Rattle.js_scopes.specs.declared.mention.Mention.TheVariants as mention
use Rattle.js_scopes.specs.Checks.{reserved_if, reserved_by, reserved_among, faults}
use Rattle.js_scopes.specs.Declarations.{Declared, bound, bound_if, declarators, parameters, var_alone, lexical_alone, var_of_init, var_of_target, var_stmt, var_stmts, var_stmt_if, var_catch, var_case, var_cases, own_of_stmt, declared_stmts, declared_case, declared_cases, head_init, head_target}
use Rattle.js_scopes.specs.Labels as labels
use Rattle.js_scopes.specs.Labels.{nothing_around, in_a_loop, in_a_switch, in_a_label, is_loop, unless, breaks, continues, has_label, jumps_stmt, jumps_stmts, jumps_stmt_if, jumps_catch, jumps_case, jumps_cases}
use Rattle.js_scopes.specs.Mentions.{own_mention, nothing_told, asked, own_name_if, label, label_if, start}
use Rattle.js_scopes.specs.Order.{first}
use Rattle.js_scopes.specs.Reserved.{is_reserved, is_strict}
use Rattle.js_scopes.specs.Scopes as scopes_
use Rattle.js_scopes.specs.Scopes.{clash, clashes, repeated, scope, module_names, own_of_part}
use Rattle.js_scopes.specs.Targets.{bare_name, deleted}
use Rattle.cov_rewritten.specs.Laws.{SameBreaksAlike}
use Rattle.cov_rewritten.proofs.Quiet.{asked_quiet, ne, fe, ns, fs, nf, ff, nc, fc, nk, fk, np, fp, n_exprs, f_exprs, n_properties, f_properties, n_template_parts, f_template_parts, n_params, f_params, n_stmts, f_stmts, n_declarators, f_declarators, n_cases, f_cases, n_expr_if, f_expr_if, n_stmt_if, f_stmt_if, n_for_init, f_for_init, n_for_target, f_for_target, n_concise_body, f_concise_body, n_function_body, f_function_body, n_template_part, f_template_part, n_param, f_param, n_declarator, f_declarator, n_case, f_case}

-- ---- faults but for where they are

abbrev kinds : List ScopeFault → List ScopeFaultKind
kinds gs = map (λ g. g.kind) gs

map_append : {A B : Type 0} (f : A → B) (xs ys : List A) → map f (xs ++ ys) ≡ map f xs ++ map f ys
map_append f [] ys = refl
map_append f (x ∷ xs) ys = ap (λ zs. f x ∷ zs) (map_append f xs ys)

-- lists of faults that are alike
record Like (gs hs : List ScopeFault) : Type 0 where
  kinds_same : kinds gs ≡ kinds hs

like_both : {gs hs us vs : List ScopeFault} → Like gs us → Like hs vs → Like (gs ++ hs) (us ++ vs)
like_both {gs = gs} {hs = hs} {us = us} {vs = vs} p q = record { kinds_same = map_append (λ g. g.kind) gs hs ∙ ap (λ ks. ks ++ kinds hs) p.kinds_same ∙ ap (λ ks. kinds us ++ ks) q.kinds_same ∙ sym (map_append (λ g. g.kind) us vs) }

like_none : Like [] []
like_none = record { kinds_same = refl }

like_if : (b : Bool) (k : ScopeFaultKind) (p q : Pos) → Like (if b then record { at = p; kind = k } ∷ [] else []) (if b then record { at = q; kind = k } ∷ [] else [])
like_if true k p q = record { kinds_same = refl }
like_if false k p q = record { kinds_same = refl }

like_unless : (b : Bool) (k : ScopeFaultKind) (p q : Option Loc) → Like (unless b p k) (unless b q k)
like_unless true k p q = record { kinds_same = refl }
like_unless false k p q = record { kinds_same = refl }

-- ---- declarations but for where they are

data Keyed : List Declared → List Declared → Type 0 where
  keyed_none : Keyed [] []
  keyed_more : {d e : Declared} {ds es : List Declared} → d.how ≡ e.how → d.name ≡ e.name → Keyed ds es → Keyed (d ∷ ds) (e ∷ es)

keyed_both : {ds es us vs : List Declared} → Keyed ds us → Keyed es vs → Keyed (ds ++ es) (us ++ vs)
keyed_both keyed_none q = q
keyed_both (keyed_more h n p) q = keyed_more h n (keyed_both p q)

keyed_same : (ds : List Declared) → Keyed ds ds
keyed_same [] = keyed_none
keyed_same (d ∷ ds) = keyed_more refl refl (keyed_same ds)

clash_same : (d e a b : Declared) → d.how ≡ e.how → d.name ≡ e.name → a.how ≡ b.how → a.name ≡ b.name → clash d a ≡ clash e b
clash_same d e a b h n i m =
    ap (λ x. bytes_eq x a.name && clashes a.how d.how) n ∙ ap (λ x. bytes_eq e.name x && clashes a.how d.how) m ∙ ap (λ x. bytes_eq e.name b.name && clashes x d.how) i ∙ ap (λ x. bytes_eq e.name b.name && clashes b.how x) h

any_same : (d e : Declared) {us vs : List Declared} → d.how ≡ e.how → d.name ≡ e.name → Keyed us vs → list_any (clash d) us ≡ list_any (clash e) vs
any_same d e h n keyed_none = refl
any_same d e h n (keyed_more {d = a} {e = b} {ds = us} {es = vs} i m p) = ap (λ x. x || list_any (clash d) us) (clash_same d e a b h n i m) ∙ ap (λ x. clash e b || x) (any_same d e h n p)

like_repeated : {us vs ds es : List Declared} → Keyed us vs → Keyed ds es → Like (repeated us ds) (repeated vs es)
like_repeated p keyed_none = like_none
like_repeated {us = us} {vs = vs} p (keyed_more {d = d} {e = e} {ds = ds} {es = es} h n q) =
    like_both (record { kinds_same = ap (λ b. kinds (if b then record { at = d.at; kind = kind.Duplicate } ∷ [] else [])) (any_same d e h n p) ∙ (like_if (list_any (clash e) vs) kind.Duplicate d.at e.at).kinds_same })
    (like_repeated {us = d ∷ us} {vs = e ∷ vs} (keyed_more h n p) q)

like_scope : {ds es : List Declared} → Keyed ds es → Like (scope ds) (scope es)
like_scope p = like_repeated keyed_none p

keyed_bound : (how : Binding) (p : Pattern) → Keyed (bound how (bare_pattern p)) (bound how p)
keyed_bound how (BindingIdentifier l v) = keyed_more refl refl keyed_none

keyed_bound_if : (how : Binding) (p : MaybePattern) → Keyed (bound_if how (bare_pattern_if p)) (bound_if how p)
keyed_bound_if how none_pattern = keyed_none
keyed_bound_if how (some_pattern p) = keyed_bound how p

keyed_declarators : (how : Binding) (xs : Declarators) → Keyed (declarators how (bare_declarators xs)) (declarators how xs)
keyed_declarators how no_declarator = keyed_none
keyed_declarators how (more_declarator (MakeDeclarator l p e) xs) = keyed_both (keyed_bound how p) (keyed_declarators how xs)

keyed_parameters : (xs : Params) → Keyed (parameters (bare_params xs)) (parameters xs)
keyed_parameters no_param = keyed_none
keyed_parameters (more_param (MakeParam l p e) xs) = keyed_both (keyed_bound binding.Parameter p) (keyed_parameters xs)

keyed_alone : (k : VariableKind) (xs : Declarators) → Keyed (var_alone k (bare_declarators xs)) (var_alone k xs)
keyed_alone variable.Var xs = keyed_declarators binding.Var xs
keyed_alone variable.Let xs = keyed_none
keyed_alone variable.Const xs = keyed_none

keyed_lexical : (k : VariableKind) (xs : Declarators) → Keyed (lexical_alone k (bare_declarators xs)) (lexical_alone k xs)
keyed_lexical variable.Var xs = keyed_none
keyed_lexical variable.Let xs = keyed_declarators binding.Lexical xs
keyed_lexical variable.Const xs = keyed_declarators binding.Lexical xs

keyed_init : (i : ForInit) → Keyed (var_of_init (bare_for_init i)) (var_of_init i)
keyed_init NoInit = keyed_none
keyed_init (InitDeclaration k xs) = keyed_alone k xs
keyed_init (InitExpression e) = keyed_none

keyed_target : (i : ForTarget) → Keyed (var_of_target (bare_for_target i)) (var_of_target i)
keyed_target (TargetDeclaration variable.Var p) = keyed_bound binding.Var p
keyed_target (TargetDeclaration variable.Let p) = keyed_none
keyed_target (TargetDeclaration variable.Const p) = keyed_none
keyed_target (TargetExpression e) = keyed_none

mutual
  keyed_var : (x : Stmt) → Keyed (var_stmt (bare_stmt x)) (var_stmt x)
  keyed_var (Block l xs) = keyed_vars xs
  keyed_var (VariableDeclaration l k xs) = keyed_alone k xs
  keyed_var (If l e x y) = keyed_both (keyed_var x) (keyed_var_if y)
  keyed_var (DoWhile l x e) = keyed_var x
  keyed_var (While l e x) = keyed_var x
  keyed_var (For l i e f x) = keyed_both (keyed_init i) (keyed_var x)
  keyed_var (ForIn l i e x) = keyed_both (keyed_target i) (keyed_var x)
  keyed_var (ForOf l i e x) = keyed_both (keyed_target i) (keyed_var x)
  keyed_var (Switch l e xs) = keyed_var_cases xs
  keyed_var (Labelled l n x) = keyed_var x
  keyed_var (TryCatch l xs c) = keyed_both (keyed_vars xs) (keyed_var_catch c)
  keyed_var (TryFinally l xs ys) = keyed_both (keyed_vars xs) (keyed_vars ys)
  keyed_var (TryCatchFinally l xs c ys) = keyed_both (keyed_both (keyed_vars xs) (keyed_var_catch c)) (keyed_vars ys)
  keyed_var (EnteredStmt m x) = keyed_var x
  keyed_var (Empty l) = keyed_none
  keyed_var _ = keyed_none

  keyed_vars : (xs : Stmts) → Keyed (var_stmts (bare_stmts xs)) (var_stmts xs)
  keyed_vars no_stmt = keyed_none
  keyed_vars (more_stmt x xs) = keyed_both (keyed_var x) (keyed_vars xs)

  keyed_var_if : (x : MaybeStmt) → Keyed (var_stmt_if (bare_stmt_if x)) (var_stmt_if x)
  keyed_var_if none_stmt = keyed_none
  keyed_var_if (some_stmt x) = keyed_var x
  keyed_var_if (entered_none m) = keyed_none

  keyed_var_catch : (c : Catch) → Keyed (var_catch (bare_catch c)) (var_catch c)
  keyed_var_catch (MakeCatch p xs) = keyed_vars xs

  keyed_var_case : (c : Case) → Keyed (var_case (bare_case c)) (var_case c)
  keyed_var_case (MakeCase l e xs) = keyed_vars xs
  keyed_var_case (EnteredCase m c) = keyed_var_case c

  keyed_var_cases : (xs : Cases) → Keyed (var_cases (bare_cases xs)) (var_cases xs)
  keyed_var_cases no_case = keyed_none
  keyed_var_cases (more_case x xs) = keyed_both (keyed_var_case x) (keyed_var_cases xs)

keyed_own : (top : Bool) (x : Stmt) → Keyed (own_of_stmt top (bare_stmt x)) (own_of_stmt top x)
keyed_own top (VariableDeclaration l k xs) = keyed_lexical k xs
keyed_own top (FunctionDeclaration l n f) = keyed_more refl refl keyed_none
keyed_own top (EnteredStmt m x) = keyed_own top x
keyed_own top (Empty l) = keyed_none
keyed_own top _ = keyed_none

keyed_stmts : (top : Bool) (xs : Stmts) → Keyed (declared_stmts top (bare_stmts xs)) (declared_stmts top xs)
keyed_stmts top no_stmt = keyed_none
keyed_stmts top (more_stmt x xs) = keyed_both (keyed_both (keyed_own top x) (keyed_var x)) (keyed_stmts top xs)

keyed_case : (c : Case) → Keyed (declared_case (bare_case c)) (declared_case c)
keyed_case (MakeCase l e xs) = keyed_stmts false xs
keyed_case (EnteredCase m c) = keyed_case c

keyed_cases : (xs : Cases) → Keyed (declared_cases (bare_cases xs)) (declared_cases xs)
keyed_cases no_case = keyed_none
keyed_cases (more_case x xs) = keyed_both (keyed_case x) (keyed_cases xs)

keyed_head : (i : ForInit) (x : Stmt) → Keyed (head_init (bare_for_init i) (bare_stmt x)) (head_init i x)
keyed_head NoInit x = keyed_none
keyed_head (InitDeclaration variable.Var xs) x = keyed_none
keyed_head (InitDeclaration variable.Let xs) x = keyed_both (keyed_declarators binding.Lexical xs) (keyed_var x)
keyed_head (InitDeclaration variable.Const xs) x = keyed_both (keyed_declarators binding.Lexical xs) (keyed_var x)
keyed_head (InitExpression e) x = keyed_none

keyed_head_target : (i : ForTarget) (x : Stmt) → Keyed (head_target (bare_for_target i) (bare_stmt x)) (head_target i x)
keyed_head_target (TargetDeclaration variable.Var p) x = keyed_none
keyed_head_target (TargetDeclaration variable.Let p) x = keyed_both (keyed_bound binding.Lexical p) (keyed_var x)
keyed_head_target (TargetDeclaration variable.Const p) x = keyed_both (keyed_bound binding.Lexical p) (keyed_var x)
keyed_head_target (TargetExpression e) x = keyed_none

-- ---- jumps

loop_same : (x : Stmt) → is_loop (bare_stmt x) ≡ is_loop x
loop_same (Labelled l n x) = loop_same x
loop_same (EnteredStmt m x) = loop_same x
loop_same (Empty l) = refl
loop_same _ = refl

like_breaks : (o : labels.Around) (l : Option Loc) (n : Option Identifier) → Like (breaks o None (bare_identifier_if n)) (breaks o l n)
like_breaks o l None = like_unless o.breakable kind.BreakOutside None l
like_breaks o l (Some n) = like_unless (has_label n.name o) kind.Label None n.loc

like_continues : (o : labels.Around) (l : Option Loc) (n : Option Identifier) → Like (continues o None (bare_identifier_if n)) (continues o l n)
like_continues o l None = like_unless o.in_loop kind.ContinueOutside None l
like_continues o l (Some n) = like_unless (labels.has_loop_label n.name o) kind.Label None n.loc

mutual
  like_jumps_stmt : (x : Stmt) (o : labels.Around) → Like (jumps_stmt (bare_stmt x) o) (jumps_stmt x o)
  like_jumps_stmt (Block l xs) o = like_jumps xs o
  like_jumps_stmt (If l e x y) o = like_both (like_jumps_stmt x o) (like_jumps_if y o)
  like_jumps_stmt (DoWhile l x e) o = like_jumps_stmt x (in_a_loop o)
  like_jumps_stmt (While l e x) o = like_jumps_stmt x (in_a_loop o)
  like_jumps_stmt (For l i e f x) o = like_jumps_stmt x (in_a_loop o)
  like_jumps_stmt (ForIn l i e x) o = like_jumps_stmt x (in_a_loop o)
  like_jumps_stmt (ForOf l i e x) o = like_jumps_stmt x (in_a_loop o)
  like_jumps_stmt (Continue l n) o = like_continues o l n
  like_jumps_stmt (Break l n) o = like_breaks o l n
  like_jumps_stmt (Switch l e xs) o = like_jumps_cases xs (in_a_switch o)
  like_jumps_stmt (Labelled l n x) o = like_both (like_if (has_label n.name o) kind.Label (start None) (start n.loc))
      (record { kinds_same = ap (λ b. kinds (jumps_stmt (bare_stmt x) (in_a_label n.name b o))) (loop_same x) ∙ (like_jumps_stmt x (in_a_label n.name (is_loop x) o)).kinds_same })
  like_jumps_stmt (TryCatch l xs c) o = like_both (like_jumps xs o) (like_jumps_catch c o)
  like_jumps_stmt (TryFinally l xs ys) o = like_both (like_jumps xs o) (like_jumps ys o)
  like_jumps_stmt (TryCatchFinally l xs c ys) o = like_both (like_both (like_jumps xs o) (like_jumps_catch c o)) (like_jumps ys o)
  like_jumps_stmt (EnteredStmt m x) o = like_jumps_stmt x o
  like_jumps_stmt (Empty l) o = like_none
  like_jumps_stmt _ o = like_none

  like_jumps : (xs : Stmts) (o : labels.Around) → Like (jumps_stmts (bare_stmts xs) o) (jumps_stmts xs o)
  like_jumps no_stmt o = like_none
  like_jumps (more_stmt x xs) o = like_both (like_jumps_stmt x o) (like_jumps xs o)

  like_jumps_if : (x : MaybeStmt) (o : labels.Around) → Like (jumps_stmt_if (bare_stmt_if x) o) (jumps_stmt_if x o)
  like_jumps_if none_stmt o = like_none
  like_jumps_if (some_stmt x) o = like_jumps_stmt x o
  like_jumps_if (entered_none m) o = like_none

  like_jumps_catch : (c : Catch) (o : labels.Around) → Like (jumps_catch (bare_catch c) o) (jumps_catch c o)
  like_jumps_catch (MakeCatch p xs) o = like_jumps xs o

  like_jumps_case : (c : Case) (o : labels.Around) → Like (jumps_case (bare_case c) o) (jumps_case c o)
  like_jumps_case (MakeCase l e xs) o = like_jumps xs o
  like_jumps_case (EnteredCase m c) o = like_jumps_case c o

  like_jumps_cases : (xs : Cases) (o : labels.Around) → Like (jumps_cases (bare_cases xs) o) (jumps_cases xs o)
  like_jumps_cases no_case o = like_none
  like_jumps_cases (more_case x xs) o = like_both (like_jumps_case x o) (like_jumps_cases xs o)

-- ---- bodies and targets

body_bare : (b : FunctionBody) → scopes_.body_of (bare_function_body b) ≡ bare_stmts (scopes_.body_of b)
body_bare (MakeFunctionBody l xs) = refl
body_bare (EnteredBody m b) = body_bare b

like_body : {us vs : List Declared} (xs : Stmts) → Keyed us vs → Like (scopes_.body us (bare_stmts xs)) (scopes_.body vs xs)
like_body xs p = like_both (like_scope (keyed_both p (keyed_stmts true xs))) (like_jumps xs nothing_around)

like_braced : {us vs : List Declared} (b : FunctionBody) → Keyed us vs → Like (scopes_.body us (scopes_.body_of (bare_function_body b))) (scopes_.body vs (scopes_.body_of b))
like_braced {us = us} b p = record { kinds_same = ap (λ xs. kinds (scopes_.body us xs)) (body_bare b) ∙ (like_body (scopes_.body_of b) p).kinds_same }

like_concise : {us vs : List Declared} (b : ConciseBody) → Keyed us vs → Like (scopes_.concise us (bare_concise_body b)) (scopes_.concise vs b)
like_concise (ExpressionBody e) p = like_scope p
like_concise (BlockBody b) p = like_braced b p

like_bare_name : (e : Expr) → Like (bare_name (bare_expr e)) (bare_name e)
like_bare_name (IdentifierReference l v) = record { kinds_same = refl }
like_bare_name (Parenthesized l e) = like_bare_name e
like_bare_name _ = like_none

like_deleted : (o : UnaryOperator) (e : Expr) → Like (deleted o (bare_expr e)) (deleted o e)
like_deleted unary_operator.Delete e = like_bare_name e
like_deleted o e = like_none

-- ---- what a part collects

module _ (again : Bool) where
  abbrev told : List Mention → List ScopeFaultKind
  told ms = kinds (reserved_among again ms)

  reserved_append : (ms ns : List Mention) → told (ms ++ ns) ≡ told ms ++ told ns
  reserved_append [] ns = refl
  reserved_append (m ∷ ms) ns = kinds_here (reserved_by again m) (reserved_among again (ms ++ ns)) (reserved_among again ms) (told ns) (reserved_append ms ns)
    where
      kinds_here : (gs hs us : List ScopeFault) (ks : List ScopeFaultKind) → kinds hs ≡ kinds us ++ ks → kinds (gs ++ hs) ≡ kinds (gs ++ us) ++ ks
      kinds_here [] hs us ks h = h
      kinds_here (g ∷ gs) hs us ks h = ap (λ zs. g.kind ∷ zs) (kinds_here gs hs us ks h)

  record Alike (ms ns : List Mention) (gs hs : List ScopeFault) : Type 0 where
    names : told ms ≡ told ns
    like : Like gs hs

  join : {ms ns us vs : List Mention} {gs hs ps qs : List ScopeFault} → Alike ms us gs ps → Alike ns vs hs qs → Alike (ms ++ ns) (us ++ vs) (gs ++ hs) (ps ++ qs)
  join {ms = ms} {ns = ns} {us = us} {vs = vs} p q = record { names = reserved_append ms ns ∙ ap (λ ks. ks ++ told ns) p.names ∙ ap (λ ks. told us ++ ks) q.names ∙ sym (reserved_append us vs); like = like_both p.like q.like }

  nothing : Alike [] [] [] []
  nothing = record { names = refl; like = like_none }

  scoped : {gs hs : List ScopeFault} → Like gs hs → Alike [] [] gs hs
  scoped h = record { names = refl; like = h }

  told_if : (b : Bool) (p q : Pos) → kinds (reserved_if b p ++ []) ≡ kinds (reserved_if b q ++ [])
  told_if true p q = refl
  told_if false p q = refl

  variables : (p q : Pos) (v : List ℕ) → Alike (mention.Variable p v ∷ []) (mention.Variable q v ∷ []) [] []
  variables p q v = record { names = told_if (is_reserved again v) p q; like = like_none }

  a_label : (n : Identifier) → Alike (label (bare_identifier n)) (label n) [] []
  a_label n = record { names = told_if (is_strict n.name) (start None) (start n.loc); like = like_none }

  a_label_if : (n : Option Identifier) → Alike (label_if (bare_identifier_if n)) (label_if n) [] []
  a_label_if None = nothing
  a_label_if (Some n) = a_label n

  a_name_if : (n : Option Identifier) → Alike (own_name_if (bare_identifier_if n)) (own_name_if n) [] []
  a_name_if None = nothing
  a_name_if (Some n) = variables (start None) (start n.loc) n.name

  asks : (e f : Expr) (xs ys : Exprs) → Alike (asked e xs) (asked f ys) [] []
  asks e f xs ys = record { names = ap kinds (asked_quiet again e xs) ∙ sym (ap kinds (asked_quiet again f ys)); like = like_none }

  a_pattern : (p : Pattern) → Alike (own_mention tt (APattern (bare_pattern p))) (own_mention tt (APattern p)) [] []
  a_pattern (BindingIdentifier l v) = variables (start None) (start l) v

  a_pattern_if : (p : MaybePattern) → Alike (within_pattern_if own_mention nothing_told (bare_pattern_if p) tt) (within_pattern_if own_mention nothing_told p tt) (within_pattern_if own_of_part nothing_told (bare_pattern_if p) tt) (within_pattern_if own_of_part nothing_told p tt)
  a_pattern_if none_pattern = nothing
  a_pattern_if (some_pattern p) = a_pattern p

  mutual
    on_expr : (e : Expr) → Alike (ne (bare_expr e)) (ne e) (fe (bare_expr e)) (fe e)
    on_expr (IdentifierReference l v) = variables (start None) (start l) v
    on_expr (This l) = nothing
    on_expr (NullLiteral l) = nothing
    on_expr (BooleanLiteral l b) = nothing
    on_expr (NumericLiteral l v) = nothing
    on_expr (StringLiteral l s) = nothing
    on_expr (RegularExpressionLiteral l v u) = nothing
    on_expr (ArrayLiteral l xs) = on_exprs xs
    on_expr (ObjectLiteral l xs) = on_properties xs
    on_expr (FunctionExpression l n f) = join (a_name_if n) (on_function f)
    on_expr (ArrowFunction l n ps b) = join (join (scoped (like_concise b (keyed_parameters ps))) nothing) (join (on_params ps) (on_concise_body b))
    on_expr (TemplateLiteral l s xs) = on_template_parts xs
    on_expr (Parenthesized l e) = on_expr e
    on_expr (NamedMember l e v) = let q = on_expr e in record { names = q.names; like = q.like }
    on_expr (ComputedMember l e f) = join (on_expr e) (on_expr f)
    on_expr (Binary l o e f) = join (on_expr e) (on_expr f)
    on_expr (Logical l o e f) = join (on_expr e) (on_expr f)
    on_expr (Assignment l o e f) = join (on_expr e) (on_expr f)
    on_expr (Comma l e f) = join (on_expr e) (on_expr f)
    on_expr (New l e xs) = join (on_expr e) (on_exprs xs)
    on_expr (Call l e xs) = join (asks (bare_expr e) e (bare_exprs xs) xs) (join (on_expr e) (on_exprs xs))
    on_expr (PostfixUpdate l o e) = on_expr e
    on_expr (PrefixUpdate l o e) = on_expr e
    on_expr (Unary l o e) = join (scoped (like_deleted o e)) (on_expr e)
    on_expr (Conditional l e f g) = join (join (on_expr e) (on_expr f)) (on_expr g)
    on_expr (Entered m e) = on_expr e

    on_stmt : (x : Stmt) → Alike (ns (bare_stmt x)) (ns x) (fs (bare_stmt x)) (fs x)
    on_stmt (Directive l s) = nothing
    on_stmt (Block l xs) = join (scoped (like_scope (keyed_stmts false xs))) (on_stmts xs)
    on_stmt (VariableDeclaration l k xs) = on_declarators xs
    on_stmt (Empty l) = nothing
    on_stmt (Expression l e) = on_expr e
    on_stmt (If l e x y) = join (join (on_expr e) (on_stmt x)) (on_stmt_if y)
    on_stmt (DoWhile l x e) = join (on_stmt x) (on_expr e)
    on_stmt (While l e x) = join (on_expr e) (on_stmt x)
    on_stmt (For l i e f x) = join (scoped (like_scope (keyed_head i x))) (join (join (join (on_for_init i) (on_expr_if e)) (on_expr_if f)) (on_stmt x))
    on_stmt (ForIn l i e x) = join (scoped (like_scope (keyed_head_target i x))) (join (join (on_for_target i) (on_expr e)) (on_stmt x))
    on_stmt (ForOf l i e x) = join (scoped (like_scope (keyed_head_target i x))) (join (join (on_for_target i) (on_expr e)) (on_stmt x))
    on_stmt (Continue l n) = join (a_label_if n) nothing
    on_stmt (Break l n) = join (a_label_if n) nothing
    on_stmt (Return l e) = on_expr_if e
    on_stmt (Switch l e xs) = join (scoped (like_scope (keyed_cases xs))) (join (on_expr e) (on_cases xs))
    on_stmt (Labelled l n x) = join (a_label n) (on_stmt x)
    on_stmt (Throw l e) = on_expr e
    on_stmt (TryCatch l xs c) = join (scoped (like_scope (keyed_stmts false xs))) (join (on_stmts xs) (on_catch c))
    on_stmt (TryFinally l xs ys) = join (scoped (like_both (like_scope (keyed_stmts false xs)) (like_scope (keyed_stmts false ys)))) (join (on_stmts xs) (on_stmts ys))
    on_stmt (TryCatchFinally l xs c ys) = join (scoped (like_both (like_scope (keyed_stmts false xs)) (like_scope (keyed_stmts false ys)))) (join (join (on_stmts xs) (on_catch c)) (on_stmts ys))
    on_stmt (Debugger l) = nothing
    on_stmt (FunctionDeclaration l n f) = join (variables (start None) (start n.loc) n.name) (on_function f)
    on_stmt (EnteredStmt m x) = on_stmt x

    on_property : (x : Property) → Alike (np (bare_property x)) (np x) (fp (bare_property x)) (fp x)
    on_property (Shorthand l v) = variables (start None) (start l) v
    on_property (KeyValue l k e) = join (on_property_key k) (on_expr e)
    on_property (Method l k f) = join (on_property_key k) (on_function f)

    on_property_key : (x : PropertyKey) → Alike (nk (bare_property_key x)) (nk x) (fk (bare_property_key x)) (fk x)
    on_property_key (NameKey v) = record { names = refl; like = like_none }
    on_property_key (StringKey s) = nothing
    on_property_key (NumberKey v) = nothing
    on_property_key (ComputedKey e) = on_expr e

    on_concise_body : (x : ConciseBody) → Alike (n_concise_body (bare_concise_body x)) (n_concise_body x) (f_concise_body (bare_concise_body x)) (f_concise_body x)
    on_concise_body (ExpressionBody e) = on_expr e
    on_concise_body (BlockBody b) = on_function_body b

    on_for_init : (x : ForInit) → Alike (n_for_init (bare_for_init x)) (n_for_init x) (f_for_init (bare_for_init x)) (f_for_init x)
    on_for_init NoInit = nothing
    on_for_init (InitDeclaration k xs) = on_declarators xs
    on_for_init (InitExpression e) = on_expr e

    on_for_target : (x : ForTarget) → Alike (n_for_target (bare_for_target x)) (n_for_target x) (f_for_target (bare_for_target x)) (f_for_target x)
    on_for_target (TargetDeclaration k p) = a_pattern p
    on_for_target (TargetExpression e) = on_expr e

    on_template_part : (x : TemplatePart) → Alike (n_template_part (bare_template_part x)) (n_template_part x) (f_template_part (bare_template_part x)) (f_template_part x)
    on_template_part (MakeTemplatePart e s) = on_expr e

    on_function : (x : Function) → Alike (nf (bare_function x)) (nf x) (ff (bare_function x)) (ff x)
    on_function (MakeFunction n ps b) = join (scoped (like_braced b (keyed_parameters ps))) (join (on_params ps) (on_function_body b))

    on_function_body : (x : FunctionBody) → Alike (n_function_body (bare_function_body x)) (n_function_body x) (f_function_body (bare_function_body x)) (f_function_body x)
    on_function_body (MakeFunctionBody l xs) = on_stmts xs
    on_function_body (EnteredBody m b) = on_function_body b

    on_param : (x : Param) → Alike (n_param (bare_param x)) (n_param x) (f_param (bare_param x)) (f_param x)
    on_param (MakeParam l p e) = join (a_pattern p) (on_expr_if e)

    on_declarator : (x : Declarator) → Alike (n_declarator (bare_declarator x)) (n_declarator x) (f_declarator (bare_declarator x)) (f_declarator x)
    on_declarator (MakeDeclarator l p e) = join (a_pattern p) (on_expr_if e)

    on_case : (x : Case) → Alike (n_case (bare_case x)) (n_case x) (f_case (bare_case x)) (f_case x)
    on_case (MakeCase l e xs) = join (on_expr_if e) (on_stmts xs)
    on_case (EnteredCase m x) = on_case x

    on_catch : (x : Catch) → Alike (nc (bare_catch x)) (nc x) (fc (bare_catch x)) (fc x)
    on_catch (MakeCatch p xs) = join (scoped (like_scope (keyed_both (keyed_bound_if binding.CatchName p) (keyed_stmts false xs)))) (join (a_pattern_if p) (on_stmts xs))

    on_expr_if : (x : MaybeExpr) → Alike (n_expr_if (bare_expr_if x)) (n_expr_if x) (f_expr_if (bare_expr_if x)) (f_expr_if x)
    on_expr_if none_expr = nothing
    on_expr_if (some_expr e) = on_expr e

    on_stmt_if : (x : MaybeStmt) → Alike (n_stmt_if (bare_stmt_if x)) (n_stmt_if x) (f_stmt_if (bare_stmt_if x)) (f_stmt_if x)
    on_stmt_if none_stmt = nothing
    on_stmt_if (some_stmt x) = on_stmt x
    on_stmt_if (entered_none m) = nothing

    on_exprs : (xs : Exprs) → Alike (n_exprs (bare_exprs xs)) (n_exprs xs) (f_exprs (bare_exprs xs)) (f_exprs xs)
    on_exprs no_expr = nothing
    on_exprs (more_expr x xs) = join (on_expr x) (on_exprs xs)

    on_template_parts : (xs : TemplateParts) → Alike (n_template_parts (bare_template_parts xs)) (n_template_parts xs) (f_template_parts (bare_template_parts xs)) (f_template_parts xs)
    on_template_parts no_template_part = nothing
    on_template_parts (more_template_part x xs) = join (on_template_part x) (on_template_parts xs)

    on_properties : (xs : Properties) → Alike (n_properties (bare_properties xs)) (n_properties xs) (f_properties (bare_properties xs)) (f_properties xs)
    on_properties no_property = nothing
    on_properties (more_property x xs) = join (on_property x) (on_properties xs)

    on_params : (xs : Params) → Alike (n_params (bare_params xs)) (n_params xs) (f_params (bare_params xs)) (f_params xs)
    on_params no_param = nothing
    on_params (more_param x xs) = join (on_param x) (on_params xs)

    on_stmts : (xs : Stmts) → Alike (n_stmts (bare_stmts xs)) (n_stmts xs) (f_stmts (bare_stmts xs)) (f_stmts xs)
    on_stmts no_stmt = nothing
    on_stmts (more_stmt x xs) = join (on_stmt x) (on_stmts xs)

    on_declarators : (xs : Declarators) → Alike (n_declarators (bare_declarators xs)) (n_declarators xs) (f_declarators (bare_declarators xs)) (f_declarators xs)
    on_declarators no_declarator = nothing
    on_declarators (more_declarator x xs) = join (on_declarator x) (on_declarators xs)

    on_cases : (xs : Cases) → Alike (n_cases (bare_cases xs)) (n_cases xs) (f_cases (bare_cases xs)) (f_cases xs)
    on_cases no_case = nothing
    on_cases (more_case x xs) = join (on_case x) (on_cases xs)

  -- ---- a file

  file_alike : (x : File) → kinds (faults again (bare_file x)) ≡ kinds (faults again x)
  unfolding faults
  file_alike (MakeFile xs comments) =
      let a = on_stmts xs in
      (like_both (like_both (record { kinds_same = a.names }) (like_body xs (keyed_same module_names))) a.like).kinds_same

none_of_kinds : (gs : List ScopeFault) → kinds gs ≡ [] → gs ≡ []
none_of_kinds [] h = refl
none_of_kinds (g ∷ gs) h = absurd cc

none_first : (gs : List ScopeFault) → first gs ≡ None → gs ≡ []
none_first [] h = refl
none_first (g ∷ gs) h = absurd cc

pub same_breaks_alike : SameBreaksAlike
same_breaks_alike again x y same unbroken =
    ap first (none_of_kinds (faults again y) (sym (file_alike again y) ∙ ap (λ z. kinds (faults again z)) (sym same) ∙ file_alike again x ∙ ap kinds (none_first (faults again x) unbroken)))
