-- What a rewritten tree collects breaks no rule where what the source collects breaks none: names that are bound or referred to, and what is
-- declared in scopes of their own.
use Rattle.std.proofs.Common.{◌≡◌, ◌++◌, ◌∷◌, [], ℕ, Bool, true, false, not, ◌&&◌, ◌||◌, List, None, refl, sym, ap, ◌∙◌, append-nil, append_assoc, if◌then◌else◌}
use Rattle.std.specs.List.{list_any}
use Rattle.std.specs.Str.{bytes_eq}
use Rattle.js_terms.specs.declared.operators.UnaryOperator.{UnaryOperator}
use Rattle.js_terms.specs.declared.operators.UnaryOperator.TheVariants as unary_operator
use Rattle.js_terms.specs.declared.operators.VariableKind.{VariableKind}
use Rattle.js_terms.specs.declared.operators.VariableKind.TheVariants as variable
use Rattle.js_terms.specs.declared.place.Pos.{Pos}
use Rattle.js_terms.specs.Mark.{Mark}
use Rattle.js_tree.specs.Plain.{Expr, StringLiteral}
use Rattle.js_tree.specs.Plain.{Stmt, Directive, Block, VariableDeclaration, If, DoWhile, While, For, ForIn, ForOf, Return, Switch, Labelled, TryCatch, TryFinally, TryCatchFinally, EnteredStmt}
use Rattle.js_tree.specs.Plain.{Property}
use Rattle.js_tree.specs.Plain.{PropertyKey}
use Rattle.js_tree.specs.Plain.{ConciseBody}
use Rattle.js_tree.specs.Plain.{ForInit, NoInit, InitDeclaration, InitExpression}
use Rattle.js_tree.specs.Plain.{ForTarget, TargetDeclaration, TargetExpression}
use Rattle.js_tree.specs.Plain.{TemplatePart}
use Rattle.js_tree.specs.Plain.{Function}
use Rattle.js_tree.specs.Plain.{FunctionBody}
use Rattle.js_tree.specs.Plain.{Param}
use Rattle.js_tree.specs.Plain.{Declarator, MakeDeclarator}
use Rattle.js_tree.specs.Plain.{Case, MakeCase, EnteredCase}
use Rattle.js_tree.specs.Plain.{Catch, MakeCatch}
use Rattle.js_tree.specs.Plain.{Pattern, BindingIdentifier, MaybePattern, none_pattern, some_pattern}
use Rattle.js_tree.specs.Plain.{MaybeExpr, some_expr}
use Rattle.js_tree.specs.Plain.{MaybeStmt, none_stmt, some_stmt, entered_none}
use Rattle.js_tree.specs.Plain.{Exprs, no_expr, more_expr}
use Rattle.js_tree.specs.Plain.{TemplateParts}
use Rattle.js_tree.specs.Plain.{Properties}
use Rattle.js_tree.specs.Plain.{Params}
use Rattle.js_tree.specs.Plain.{Stmts, no_stmt, more_stmt}
use Rattle.js_tree.specs.Plain.{Declarators, no_declarator, more_declarator}
use Rattle.js_tree.specs.Plain.{Cases, no_case, more_case}
use Rattle.js_reading.specs.Makes.{is_declaration}
use Rattle.js_walk.specs.Part.{AnExpr, AStmt, AProperty, APropertyKey, AFunction, ACatch, APattern}
use Rattle.js_walk.specs.Walk.{visit, within_expr, within_stmt, within_property, within_property_key, within_concise_body, within_for_init, within_for_target, within_template_part, within_function, within_function_body, within_param, within_declarator, within_case, within_catch, within_pattern_if, within_expr_if, within_stmt_if, within_template_parts, within_properties, within_params, within_exprs, within_stmts, within_declarators, within_cases}
use Rattle.js_scopes.specs.declared.binding.Binding.TheVariants as binding
use Rattle.js_scopes.specs.declared.fault.ScopeFault.{ScopeFault}
use Rattle.js_scopes.specs.declared.mention.Mention.{Mention}
use Rattle.js_scopes.specs.declared.mention.Mention.TheVariants as mention
use Rattle.js_scopes.specs.Checks.{reserved_if, reserved_by, reserved_among}
use Rattle.js_scopes.specs.Declarations.{Declared, bound_if, declarators, parameters, var_alone, var_of_init, var_of_target, var_stmt, var_stmts, var_stmt_if, var_catch, var_case, var_cases, own_of_stmt, declared_stmts, declared_cases, head_init, head_target}
use Rattle.js_scopes.specs.Labels.{nothing_around, jumps_stmts}
use Rattle.js_scopes.specs.Mentions.{own_mention, nothing_told, is_require, asked, asked_first, asked_expr, own_name, own_name_if, label, label_if}
use Rattle.js_scopes.specs.Reserved.{is_reserved, is_among, strict_words, refused_names}
use Rattle.js_scopes.specs.Reserved as reserved_
use Rattle.js_scopes.specs.Scopes as scopes_
use Rattle.js_scopes.specs.Scopes.{clash, clashes, repeated, scope, own_of_part, own_of_catch}
use Rattle.js_scopes.specs.Targets.{bare_name, deleted}
use Rattle.cov_rewritten.specs.Counters.{with_name}
use Rattle.cov_rewritten.proofs.Declared.{same_parameters, same_scope, same_cases, same_head_init, same_head_target, same_jumps, declared_counts, declared_after, jumps_counts, same_lexical_alone}
use Rattle.cov_rewritten.proofs.Low.{marks_none}
use Rattle.cov_rewritten.specs.Rewritten.{expr_marks, stmt_marks, arm_marks, is_any, hoisted_marks, joined, after_directives, inside, counts, in_block, looped, arm, counted, held, initial, rewritten_expr, rewritten_stmt, rewritten_arm, rewritten_stmts, rewritten_property, rewritten_property_key, rewritten_concise_body, rewritten_for_init, rewritten_for_target, rewritten_template_part, rewritten_function, rewritten_function_body, rewritten_param, rewritten_declarator, rewritten_declarators, rewritten_case, rewritten_catch, rewritten_expr_if, rewritten_exprs, rewritten_template_parts, rewritten_properties, rewritten_params, rewritten_cases}
use Rattle.cov_rewritten.specs.Rewritten as r
use Rattle.js_marked.specs.MarkedTree.{MarkedExpr, identifier, this, null, boolean, numeric, string, array, object, function, arrow, regular, template, parenthesized, named_member, computed_member, new, call, postfix, prefix, unary, binary, logical, conditional, assignment, comma, MarkedValue, unentered, entered, MarkedLeaf, a_leaf, grouped, MarkedStmt, block, declaration, empty, expression, if_, do_, while, for_, for_in, for_of, continue, break, return, switch, labelled, throw, try_catch, try_finally, try_catch_finally, debugger, function_declaration, Around, bare, around, MarkedArm, none, missing, some, Branched, unbranched, branched, Listed, a_directive, a_stmt, MarkedStmts, no_stmts, more_stmts, MarkedProperty, shorthand, key_value, method, MarkedKey, name_key, string_key, number_key, computed_key, MarkedConcise, concise, concise_one, concise_two, braced, MarkedInit, no_init, init_declaration, init_expression, MarkedTarget, target_declaration, target_expression, MarkedPart, a_part, MarkedFunction, make_function, MarkedBody, plain_body, entered_body, MarkedParam, plain_param, defaulted, MarkedDeclarator, declarator, initialized, MarkedCase, clause, entered_clause, MarkedCatch, catching, MarkedMaybe, no_value, some_value, MarkedExprs, no_exprs, more_exprs, MarkedParts, no_parts, more_parts, MarkedProperties, no_properties, more_properties, MarkedParams, no_params, more_params, MarkedDeclarators, no_declarators, more_declarators, MarkedCases, no_cases, more_cases}

-- ---- what a part collects

abbrev pub ne : Expr → List Mention
ne e = visit own_mention nothing_told tt (AnExpr e) (within_expr own_mention nothing_told e)

abbrev pub fe : Expr → List ScopeFault
fe e = visit own_of_part nothing_told tt (AnExpr e) (within_expr own_of_part nothing_told e)

abbrev pub ns : Stmt → List Mention
ns x = visit own_mention nothing_told tt (AStmt x) (within_stmt own_mention nothing_told x)

abbrev pub fs : Stmt → List ScopeFault
fs x = visit own_of_part nothing_told tt (AStmt x) (within_stmt own_of_part nothing_told x)

abbrev pub nf : Function → List Mention
nf x = visit own_mention nothing_told tt (AFunction x) (within_function own_mention nothing_told x)

abbrev pub ff : Function → List ScopeFault
ff x = visit own_of_part nothing_told tt (AFunction x) (within_function own_of_part nothing_told x)

abbrev pub nc : Catch → List Mention
nc x = visit own_mention nothing_told tt (ACatch x) (within_catch own_mention nothing_told x)

abbrev pub fc : Catch → List ScopeFault
fc x = visit own_of_part nothing_told tt (ACatch x) (within_catch own_of_part nothing_told x)

abbrev pub nk : PropertyKey → List Mention
nk x = visit own_mention nothing_told tt (APropertyKey x) (within_property_key own_mention nothing_told x)

abbrev pub fk : PropertyKey → List ScopeFault
fk x = visit own_of_part nothing_told tt (APropertyKey x) (within_property_key own_of_part nothing_told x)

abbrev pub np : Property → List Mention
np x = visit own_mention nothing_told tt (AProperty x) (within_property own_mention nothing_told x)

abbrev pub fp : Property → List ScopeFault
fp x = visit own_of_part nothing_told tt (AProperty x) (within_property own_of_part nothing_told x)

abbrev pub n_exprs : Exprs → List Mention
n_exprs x = within_exprs own_mention nothing_told x tt

abbrev pub f_exprs : Exprs → List ScopeFault
f_exprs x = within_exprs own_of_part nothing_told x tt

abbrev pub n_properties : Properties → List Mention
n_properties x = within_properties own_mention nothing_told x tt

abbrev pub f_properties : Properties → List ScopeFault
f_properties x = within_properties own_of_part nothing_told x tt

abbrev pub n_template_parts : TemplateParts → List Mention
n_template_parts x = within_template_parts own_mention nothing_told x tt

abbrev pub f_template_parts : TemplateParts → List ScopeFault
f_template_parts x = within_template_parts own_of_part nothing_told x tt

abbrev pub n_params : Params → List Mention
n_params x = within_params own_mention nothing_told x tt

abbrev pub f_params : Params → List ScopeFault
f_params x = within_params own_of_part nothing_told x tt

abbrev pub n_stmts : Stmts → List Mention
n_stmts x = within_stmts own_mention nothing_told x tt

abbrev pub f_stmts : Stmts → List ScopeFault
f_stmts x = within_stmts own_of_part nothing_told x tt

abbrev pub n_declarators : Declarators → List Mention
n_declarators x = within_declarators own_mention nothing_told x tt

abbrev pub f_declarators : Declarators → List ScopeFault
f_declarators x = within_declarators own_of_part nothing_told x tt

abbrev pub n_cases : Cases → List Mention
n_cases x = within_cases own_mention nothing_told x tt

abbrev pub f_cases : Cases → List ScopeFault
f_cases x = within_cases own_of_part nothing_told x tt

abbrev pub n_expr_if : MaybeExpr → List Mention
n_expr_if x = within_expr_if own_mention nothing_told x tt

abbrev pub f_expr_if : MaybeExpr → List ScopeFault
f_expr_if x = within_expr_if own_of_part nothing_told x tt

abbrev pub n_stmt_if : MaybeStmt → List Mention
n_stmt_if x = within_stmt_if own_mention nothing_told x tt

abbrev pub f_stmt_if : MaybeStmt → List ScopeFault
f_stmt_if x = within_stmt_if own_of_part nothing_told x tt

abbrev pub n_for_init : ForInit → List Mention
n_for_init x = within_for_init own_mention nothing_told x tt

abbrev pub f_for_init : ForInit → List ScopeFault
f_for_init x = within_for_init own_of_part nothing_told x tt

abbrev pub n_for_target : ForTarget → List Mention
n_for_target x = within_for_target own_mention nothing_told x tt

abbrev pub f_for_target : ForTarget → List ScopeFault
f_for_target x = within_for_target own_of_part nothing_told x tt

abbrev pub n_concise_body : ConciseBody → List Mention
n_concise_body x = within_concise_body own_mention nothing_told x tt

abbrev pub f_concise_body : ConciseBody → List ScopeFault
f_concise_body x = within_concise_body own_of_part nothing_told x tt

abbrev pub n_function_body : FunctionBody → List Mention
n_function_body x = within_function_body own_mention nothing_told x tt

abbrev pub f_function_body : FunctionBody → List ScopeFault
f_function_body x = within_function_body own_of_part nothing_told x tt

abbrev pub n_template_part : TemplatePart → List Mention
n_template_part x = within_template_part own_mention nothing_told x tt

abbrev pub f_template_part : TemplatePart → List ScopeFault
f_template_part x = within_template_part own_of_part nothing_told x tt

abbrev pub n_param : Param → List Mention
n_param x = within_param own_mention nothing_told x tt

abbrev pub f_param : Param → List ScopeFault
f_param x = within_param own_of_part nothing_told x tt

abbrev pub n_declarator : Declarator → List Mention
n_declarator x = within_declarator own_mention nothing_told x tt

abbrev pub f_declarator : Declarator → List ScopeFault
f_declarator x = within_declarator own_of_part nothing_told x tt

abbrev pub n_case : Case → List Mention
n_case x = within_case own_mention nothing_told x tt

abbrev pub f_case : Case → List ScopeFault
f_case x = within_case own_of_part nothing_told x tt

-- it breaks nothing
pub record Quiet (again : Bool) (ms : List Mention) (gs : List ScopeFault) : Type 0 where
  pub names : reserved_among again ms ≡ []
  pub scopes : gs ≡ []

pub none_of : {A : Type 0} (xs ys : List A) → xs ++ ys ≡ [] → (xs ≡ []) × (ys ≡ [])
none_of [] ys h = (refl, h)
none_of (x ∷ xs) ys h = absurd cc

pub reserved_append : (again : Bool) (ms ns : List Mention) → reserved_among again (ms ++ ns) ≡ reserved_among again ms ++ reserved_among again ns
reserved_append again [] ns = refl
reserved_append again (m ∷ ms) ns = ap (λ xs. reserved_by again m ++ xs) (reserved_append again ms ns) ∙ sym (append_assoc (reserved_by again m) (reserved_among again ms) (reserved_among again ns))

pub split : {again : Bool} (ms ns : List Mention) (gs hs : List ScopeFault) → Quiet again (ms ++ ns) (gs ++ hs) → Quiet again ms gs × Quiet again ns hs
split {again = again} ms ns gs hs q =
    let a = none_of (reserved_among again ms) (reserved_among again ns) (sym (reserved_append again ms ns) ∙ q.names) in
    let b = none_of gs hs q.scopes in
    (record { names = a.0; scopes = b.0 }, record { names = a.1; scopes = b.1 })

pub nothing_both : {A : Type 0} {xs ys : List A} → xs ≡ [] → ys ≡ [] → xs ++ ys ≡ []
nothing_both h g = rw h g

pub join : {again : Bool} {ms ns : List Mention} {gs hs : List ScopeFault} → Quiet again ms gs → Quiet again ns hs → Quiet again (ms ++ ns) (gs ++ hs)
join {again = again} {ms = ms} {ns = ns} p q = record { names = reserved_append again ms ns ∙ nothing_both p.names q.names; scopes = nothing_both p.scopes q.scopes }

pub scoped : {gs : List ScopeFault} → gs ≡ [] → Quiet true [] gs
scoped h = record { names = refl; scopes = h }

pub nothing : {again : Bool} → Quiet again [] []
nothing = record { names = refl; scopes = refl }

-- ---- names: those that may be none in a rewritten file may be none in a source

fewer : (a b c : Bool) → (a || b || c) ≡ false → (a || b || false) ≡ false
fewer false false c h = refl
fewer false true c h = h
fewer true b c h = h

-- a name that a source may have, a rewritten file may
less_reserved : (w : List ℕ) → is_reserved false w ≡ false → is_reserved true w ≡ false
unfolding is_reserved
less_reserved w h = fewer (is_among strict_words w) (is_among refused_names w) (not false && bytes_eq w reserved_.own_name) h

not_reserved : (holds : Bool) (at : Pos) → reserved_if holds at ≡ [] → holds ≡ false
not_reserved true at h = absurd cc
not_reserved false at h = refl

again_by : (m : Mention) → reserved_by false m ≡ [] → reserved_by true m ≡ []
again_by (mention.Variable at w) h = ap (λ b. reserved_if b at) (less_reserved w (not_reserved (is_reserved false w) at h))
again_by (mention.Label at w) h = h
again_by (mention.Member w) h = refl
again_by (mention.Required w) h = refl

again_among : (ms : List Mention) → reserved_among false ms ≡ [] → reserved_among true ms ≡ []
again_among [] h = refl
again_among (m ∷ ms) h = let a = none_of (reserved_by false m) (reserved_among false ms) h in nothing_both (again_by m a.0) (again_among ms a.1)

-- the same mentions
again_same : {ms : List Mention} → Quiet false ms [] → Quiet true ms []
again_same {ms = ms} q = record { names = again_among ms q.names; scopes = refl }

pub asked_quiet : (again : Bool) (e : Expr) (es : Exprs) → reserved_among again (asked e es) ≡ []
asked_quiet again e es = by (is_require e)
  where
    first_quiet : (e : Expr) → reserved_among again (asked_expr e) ≡ []
    first_quiet (StringLiteral l s) = refl
    first_quiet _ = refl

    quiet : (es : Exprs) → reserved_among again (asked_first es) ≡ []
    quiet no_expr = refl
    quiet (more_expr e es) = first_quiet e

    by : (b : Bool) → reserved_among again (if b then asked_first es else []) ≡ []
    by true = quiet es
    by false = refl

pub asks : {again : Bool} (e : Expr) (es : Exprs) → Quiet again (asked e es) []
asks {again = again} e es = record { names = asked_quiet again e es; scopes = refl }

-- ---- scopes of `var` names alone

abbrev pub AreVar : List Declared → Type 0
AreVar [] = Unit {0}
AreVar (d ∷ ds) = (d.how ≡ binding.Var) × AreVar ds

are_both : (xs ys : List Declared) → AreVar xs → AreVar ys → AreVar (xs ++ ys)
are_both [] ys a b = b
are_both (x ∷ xs) ys a b = (a.0, are_both xs ys a.1 b)

pub and_false : (x : Bool) → (x && false) ≡ false
and_false true = refl
and_false false = refl

no_clash : (d : Declared) (before : List Declared) → d.how ≡ binding.Var → AreVar before → list_any (clash d) before ≡ false
no_clash d [] h a = refl
no_clash d (e ∷ es) h a = or_none (ap (λ b. bytes_eq d.name e.name && b) (ap (λ how. clashes how d.how) a.0 ∙ ap (clashes binding.Var) h) ∙ and_false (bytes_eq d.name e.name)) (no_clash d es h a.1)
  where
    or_none : {x y : Bool} → x ≡ false → y ≡ false → (x || y) ≡ false
    or_none p q = rw p q

pub vars_fit : (before ds : List Declared) → AreVar before → AreVar ds → repeated before ds ≡ []
vars_fit before [] a b = refl
vars_fit before (d ∷ ds) a b = rw (no_clash d before b.0 a) (vars_fit (d ∷ before) ds (b.0, a) b.1)

are_declarators : (xs : Declarators) → AreVar (declarators binding.Var xs)
are_declarators no_declarator = tt
are_declarators (more_declarator (MakeDeclarator l (BindingIdentifier k w) e) xs) = (refl, are_declarators xs)

are_alone : (k : VariableKind) (xs : Declarators) → AreVar (var_alone k xs)
are_alone variable.Var xs = are_declarators xs
are_alone variable.Let xs = tt
are_alone variable.Const xs = tt

are_init : (i : ForInit) → AreVar (var_of_init i)
are_init NoInit = tt
are_init (InitDeclaration k xs) = are_alone k xs
are_init (InitExpression e) = tt

are_target : (i : ForTarget) → AreVar (var_of_target i)
are_target (TargetDeclaration variable.Var (BindingIdentifier l w)) = (refl, tt)
are_target (TargetDeclaration variable.Let p) = tt
are_target (TargetDeclaration variable.Const p) = tt
are_target (TargetExpression e) = tt

mutual
  are_stmt : (x : Stmt) → AreVar (var_stmt x)
  are_stmt (Block l xs) = are_stmts xs
  are_stmt (VariableDeclaration l k xs) = are_alone k xs
  are_stmt (If l e x y) = are_both (var_stmt x) (var_stmt_if y) (are_stmt x) (are_stmt_if y)
  are_stmt (DoWhile l x e) = are_stmt x
  are_stmt (While l e x) = are_stmt x
  are_stmt (For l i e f x) = are_both (var_of_init i) (var_stmt x) (are_init i) (are_stmt x)
  are_stmt (ForIn l i e x) = are_both (var_of_target i) (var_stmt x) (are_target i) (are_stmt x)
  are_stmt (ForOf l i e x) = are_both (var_of_target i) (var_stmt x) (are_target i) (are_stmt x)
  are_stmt (Switch l e xs) = are_cases xs
  are_stmt (Labelled l n x) = are_stmt x
  are_stmt (TryCatch l xs c) = are_both (var_stmts xs) (var_catch c) (are_stmts xs) (are_catch c)
  are_stmt (TryFinally l xs ys) = are_both (var_stmts xs) (var_stmts ys) (are_stmts xs) (are_stmts ys)
  are_stmt (TryCatchFinally l xs c ys) = are_both (var_stmts xs ++ var_catch c) (var_stmts ys) (are_both (var_stmts xs) (var_catch c) (are_stmts xs) (are_catch c)) (are_stmts ys)
  are_stmt (EnteredStmt m x) = are_stmt x
  are_stmt _ = tt

  are_stmts : (xs : Stmts) → AreVar (var_stmts xs)
  are_stmts no_stmt = tt
  are_stmts (more_stmt x xs) = are_both (var_stmt x) (var_stmts xs) (are_stmt x) (are_stmts xs)

  are_stmt_if : (x : MaybeStmt) → AreVar (var_stmt_if x)
  are_stmt_if none_stmt = tt
  are_stmt_if (some_stmt x) = are_stmt x
  are_stmt_if (entered_none m) = tt

  are_catch : (c : Catch) → AreVar (var_catch c)
  are_catch (MakeCatch p xs) = are_stmts xs

  are_case : (c : Case) → AreVar (var_case c)
  are_case (MakeCase l e xs) = are_stmts xs
  are_case (EnteredCase m c) = are_case c

  are_cases : (xs : Cases) → AreVar (var_cases xs)
  are_cases no_case = tt
  are_cases (more_case x xs) = are_both (var_case x) (var_cases xs) (are_case x) (are_cases xs)

-- ---- statements put together

quiet_joined : (zs xs : Stmts) → Quiet true (n_stmts zs) (f_stmts zs) → Quiet true (n_stmts xs) (f_stmts xs) → Quiet true (n_stmts (joined zs xs)) (f_stmts (joined zs xs))
quiet_joined no_stmt xs p q = q
quiet_joined (more_stmt z zs) xs p q = let s = split (ns z) (n_stmts zs) (fs z) (f_stmts zs) p in join s.0 (quiet_joined zs xs s.1 q)

pub quiet_after : (zs xs : Stmts) → Quiet true (n_stmts zs) (f_stmts zs) → Quiet true (n_stmts xs) (f_stmts xs) → Quiet true (n_stmts (after_directives zs xs)) (f_stmts (after_directives zs xs))
quiet_after zs no_stmt p q = quiet_joined zs no_stmt p q
quiet_after zs (more_stmt (Directive l s) xs) p q = let r = quiet_after zs xs p q in record { names = r.names; scopes = r.scopes }
quiet_after zs (more_stmt x xs) p q = quiet_joined zs (more_stmt x xs) p q

-- a statement that declares nothing lexical of its own can be a block
quiet_inside : (x : Stmt) → own_of_stmt false x ≡ [] → Quiet true (ns x) (fs x) → (scope (declared_stmts false (inside x)) ≡ []) × Quiet true (n_stmts (inside x)) (f_stmts (inside x))
quiet_inside (Block l xs) o q = let s = split [] (n_stmts xs) (scope (declared_stmts false xs)) (f_stmts xs) q in (s.0.scopes, s.1)
quiet_inside x o q = (
  ap (λ ds. scope ((ds ++ var_stmt x) ++ [])) o ∙ ap scope (append-nil (var_stmt x)) ∙ vars_fit [] (var_stmt x) tt (are_stmt x),
  join q nothing,
)

-- what a pattern binds stays
again_pattern : (p : Pattern) → Quiet false (own_mention tt (APattern p)) [] → Quiet true (own_mention tt (APattern p)) []
again_pattern p h = again_same h

again_pattern_if : (p : MaybePattern) → Quiet false (within_pattern_if own_mention nothing_told p tt) (within_pattern_if own_of_part nothing_told p tt) → Quiet true (within_pattern_if own_mention nothing_told p tt) (within_pattern_if own_of_part nothing_told p tt)
again_pattern_if none_pattern h = nothing
again_pattern_if (some_pattern p) h = again_same h

two_scopes : {gs hs : List ScopeFault} (us vs : List ScopeFault) → gs ≡ us → hs ≡ vs → Quiet false [] (us ++ vs) → Quiet true [] (gs ++ hs)
two_scopes us vs p q h = let s = none_of us vs h.scopes in record { names = refl; scopes = nothing_both (p ∙ s.0) (q ∙ s.1) }

module _ (counter : Mark → Expr) (quiet_counter : (m : Mark) → Quiet true (ne (counter m)) (fe (counter m))) where
  quiet_counts : (ms : List Mark) → Quiet true (n_stmts (counts counter ms)) (f_stmts (counts counter ms))
  quiet_counts [] = nothing
  quiet_counts (m ∷ ms) = join (quiet_counter m) (quiet_counts ms)

  quiet_first : (ms : List Mark) (xs : Stmts) → Quiet true (n_stmts xs) (f_stmts xs) → Quiet true (n_stmts (joined (counts counter ms) xs)) (f_stmts (joined (counts counter ms) xs))
  quiet_first ms xs q = quiet_joined (counts counter ms) xs (quiet_counts ms) q

  quiet_in_block : (ms : List Mark) (x : Stmt) → own_of_stmt false x ≡ [] → Quiet true (ns x) (fs x) → Quiet true (ns (in_block counter ms x)) (fs (in_block counter ms x))
  quiet_in_block ms x o q =
      let s = quiet_inside x o q in
      join (scoped (ap scope (declared_counts counter false ms (inside x)) ∙ s.0)) (quiet_first ms (inside x) s.1)

  quiet_looped : (ms : List Mark) (x : Stmt) → own_of_stmt false x ≡ [] → Quiet true (ns x) (fs x) → Quiet true (ns (looped counter ms x)) (fs (looped counter ms x))
  quiet_looped [] x o q = q
  quiet_looped (m ∷ ms) x o q = quiet_in_block (m ∷ ms) x o q

  quiet_arm : (b : Bool) (ms : List Mark) (x : Stmt) → own_of_stmt false x ≡ [] → Quiet true (ns x) (fs x) → Quiet true (ns (arm counter b ms x)) (fs (arm counter b ms x))
  quiet_arm false ms x o q = q
  quiet_arm true ms x o q = quiet_in_block ms x o q

  quiet_counted : (ms : List Mark) (e : Expr) → Quiet true (ne e) (fe e) → Quiet true (ne (counted counter ms e)) (fe (counted counter ms e))
  quiet_counted [] e q = q
  quiet_counted (m ∷ ms) e q = join (quiet_counter m) (quiet_counted ms e q)

  quiet_named : (f : List ℕ) (e : Expr) → Quiet true (ne e) (fe e) → Quiet true (ne (with_name f e)) (fe (with_name f e))
  quiet_named f e q = join (join q nothing) nothing

  quiet_held : (b : Bool) (f : List ℕ) (ms : List Mark) (e : Expr) → Quiet true (ne e) (fe e) → Quiet true (ne (held counter b f ms e)) (fe (held counter b f ms e))
  quiet_held b f [] e q = q
  quiet_held false f (m ∷ ms) e q = quiet_counted (m ∷ ms) e q
  quiet_held true f (m ∷ ms) e q = quiet_counted (m ∷ ms) (with_name f e) (quiet_named f e q)

  quiet_initial : (h b : Bool) (f : List ℕ) (ms : List Mark) (e : Expr) → Quiet true (ne e) (fe e) → Quiet true (ne (initial counter h b f ms e)) (fe (initial counter h b f ms e))
  quiet_initial false b f ms e q = quiet_held b f ms e q
  quiet_initial true false f ms e q = quiet_held false f ms e q
  quiet_initial true true f ms e q = q

  quiet_concise : (ms : List Mark) (e : Expr) → Quiet true (ne e) (fe e) → Quiet true (n_concise_body (r.concise counter ms e)) (f_concise_body (r.concise counter ms e))
  quiet_concise [] e q = q
  quiet_concise (m ∷ ms) e q = quiet_first (m ∷ ms) (more_stmt (Return None (some_expr e)) no_stmt) (join q nothing)

  -- an arrow's body that counts is a scope of its parameters, as its expression is
  concise_scope : (before : List Declared) (ms : List Mark) (e : Expr) → scope before ≡ [] → scopes_.concise before (r.concise counter ms e) ≡ []
  concise_scope before [] e h = h
  concise_scope before (m ∷ ms) e h = nothing_both
      (ap (λ ds. scope (before ++ ds)) (declared_counts counter true (m ∷ ms) (more_stmt (Return None (some_expr e)) no_stmt)) ∙ ap scope (append-nil before) ∙ h)
      (jumps_counts counter (m ∷ ms) (more_stmt (Return None (some_expr e)) no_stmt) nothing_around)

  jumps_after : (m : Mark) (xs : Stmts) → jumps_stmts (after_directives (counts counter (m ∷ [])) xs) nothing_around ≡ jumps_stmts xs nothing_around
  jumps_after m no_stmt = refl
  jumps_after m (more_stmt (Directive l s) xs) = jumps_after m xs
  jumps_after m (more_stmt x xs) = refl

  module _ (code : ℕ → ℕ) where
    same_bodied : {x t : Stmt} → is_declaration x ≡ false → Around x t → own_of_stmt false (rewritten_stmt counter code false t) ≡ []
    same_bodied n (bare (declaration {k = variable.Var} d)) = same_lexical_alone counter code variable.Var false d
    same_bodied n (bare (declaration {k = variable.Let} d)) = absurd cc
    same_bodied n (bare (declaration {k = variable.Const} d)) = absurd cc
    same_bodied n (bare (function_declaration d)) = absurd cc
    same_bodied n (bare _) = refl
    same_bodied n (around m _ _ a) = same_bodied n a

    same_branch : {x t : Stmt} → Branched x t → own_of_stmt false (rewritten_stmt counter code false t) ≡ []
    same_branch (unbranched n a) = same_bodied n a
    same_branch (branched m n a) = same_bodied n a

    keeps_bare_name : {e t : Expr} → MarkedExpr e t → bare_name e ≡ [] → bare_name (rewritten_expr counter code t) ≡ []
    keeps_bare_name identifier h = h
    keeps_bare_name (parenthesized {e' = t} d) h = rw (marks_none d) (keeps_bare_name d h)
    keeps_bare_name _ h = refl

    keeps_deleted : {e t : Expr} (o : UnaryOperator) → MarkedExpr e t → deleted o e ≡ [] → deleted o (rewritten_expr counter code t) ≡ []
    keeps_deleted unary_operator.Delete d h = keeps_bare_name d h
    keeps_deleted o d h = refl

    keeps_body_scope : {p p' : Params} {b t : FunctionBody} → MarkedParams p p' → MarkedBody b t → scopes_.body (parameters p) (scopes_.body_of b) ≡ [] →
        scopes_.body (parameters (rewritten_params counter code p')) (scopes_.body_of (rewritten_function_body counter code t)) ≡ []
    keeps_body_scope {p = p} d (plain_body {x = x} {x' = t} g) h =
        let s = none_of (scope (parameters p ++ declared_stmts true x)) (jumps_stmts x nothing_around) h in
        nothing_both (ap (λ ds. scope (ds ++ declared_stmts true (rewritten_stmts counter code true t))) (same_parameters counter code d) ∙ ap (λ ds. scope (parameters p ++ ds)) (same_scope counter code true true g) ∙ s.0)
        (same_jumps counter code true nothing_around g ∙ s.1)
    keeps_body_scope {p = p} d (entered_body {x = x} {x' = t} m g) h =
        let s = none_of (scope (parameters p ++ declared_stmts true x)) (jumps_stmts x nothing_around) h in
        let ys = rewritten_stmts counter code true t in
        nothing_both (ap (λ ds. scope (ds ++ declared_stmts true (after_directives (counts counter (m ∷ [])) ys))) (same_parameters counter code d)
        ∙ ap (λ ds. scope (parameters p ++ ds)) (declared_after counter true (counts counter (m ∷ [])) ys ∙ same_scope counter code true true g) ∙ s.0)
        (jumps_after m ys ∙ same_jumps counter code true nothing_around g ∙ s.1)

    keeps_concise_scope : {p p' : Params} {b t : ConciseBody} → MarkedParams p p' → MarkedConcise b t → scopes_.concise (parameters p) b ≡ [] → scopes_.concise (parameters (rewritten_params counter code p')) (rewritten_concise_body counter code t) ≡ []
    keeps_concise_scope {p' = q} d (concise {e' = t} g) h = concise_scope (parameters (rewritten_params counter code q)) (expr_marks t) (rewritten_expr counter code t) (ap scope (same_parameters counter code d) ∙ h)
    keeps_concise_scope {p' = q} d (concise_one {e' = t} m g) h = concise_scope (parameters (rewritten_params counter code q)) (m ∷ expr_marks t) (rewritten_expr counter code t) (ap scope (same_parameters counter code d) ∙ h)
    keeps_concise_scope {p' = q} d (concise_two {e' = t} m n g) h = concise_scope (parameters (rewritten_params counter code q)) (m ∷ (n ∷ expr_marks t)) (rewritten_expr counter code t) (ap scope (same_parameters counter code d) ∙ h)
    keeps_concise_scope {p' = q} d (braced b) h = keeps_body_scope d b h

    mutual
      keeps_expr : {e t : Expr} → MarkedExpr e t → Quiet false (ne e) (fe e) → Quiet true (ne (rewritten_expr counter code t)) (fe (rewritten_expr counter code t))
      keeps_expr identifier h = again_same h
      keeps_expr this h = nothing
      keeps_expr null h = nothing
      keeps_expr boolean h = nothing
      keeps_expr numeric h = nothing
      keeps_expr string h = nothing
      keeps_expr (array d) h = (keeps_exprs d h)
      keeps_expr (object d) h = (keeps_properties d h)
      keeps_expr (function {n = n} {f = f} d) h =
          let o = split (own_name_if n) (nf f) [] (ff f) h in
          join (again_same o.0) ((keeps_function d o.1))
      keeps_expr (arrow {p = p} {p' = p'} {b = b} {b' = b'} d g) h =
          let s = split [] (n_params p ++ n_concise_body b) (scopes_.concise (parameters p) b ++ []) (f_params p ++ f_concise_body b) h in
          let t = split (n_params p) (n_concise_body b) (f_params p) (f_concise_body b) s.1 in
          let u = none_of (scopes_.concise (parameters p) b) [] s.0.scopes in
          join (scoped (append-nil _ ∙ keeps_concise_scope d g u.0)) (join (keeps_params d t.0) (keeps_concise_body g t.1))
      keeps_expr regular h = nothing
      keeps_expr (template d) h = (keeps_template_parts d h)
      keeps_expr (parenthesized {e' = t} d) h = quiet_counted (expr_marks t) (rewritten_expr counter code t) (keeps_expr d h)
      keeps_expr (named_member d) h = let q = keeps_expr d (record { names = h.names; scopes = h.scopes }) in record { names = q.names; scopes = q.scopes }
      keeps_expr (computed_member {e = e} {f = f} d g) h =
          let s1 = split (ne e) (ne f) (fe e) (fe f) h in
          join ((keeps_expr d s1.0)) (keeps_expr g s1.1)
      keeps_expr (new {e = e} {x = x} d g) h =
          let s1 = split (ne e) (n_exprs x) (fe e) (f_exprs x) h in
          join ((keeps_expr d s1.0)) (keeps_exprs g s1.1)
      keeps_expr (call {e = e} {e' = e'} {x = x} {x' = x'} d g) h =
          let o = split (asked e x) ((ne e) ++ (n_exprs x)) [] ((fe e) ++ (f_exprs x)) h in
          let s1 = split (ne e) (n_exprs x) (fe e) (f_exprs x) o.1 in
          join (asks (rewritten_expr counter code e') (rewritten_exprs counter code x')) (join ((keeps_expr d s1.0)) (keeps_exprs g s1.1))
      keeps_expr (postfix d) h = (keeps_expr d h)
      keeps_expr (prefix d) h = (keeps_expr d h)
      keeps_expr (unary {o = o} {e = e} d) h =
          let s = split [] (ne e) (deleted o e) (fe e) h in
          join (scoped (keeps_deleted o d s.0.scopes)) (keeps_expr d s.1)
      keeps_expr (binary {e = e} {f = f} d g) h =
          let s1 = split (ne e) (ne f) (fe e) (fe f) h in
          join ((keeps_expr d s1.0)) (keeps_expr g s1.1)
      keeps_expr (logical {e = e} {f = f} d g) h =
          let s1 = split (ne e) (ne f) (fe e) (fe f) h in
          join (keeps_leaf d s1.0) (keeps_leaf g s1.1)
      keeps_expr (conditional {e = e} {f = f} {g = i} d g k) h =
          let s2 = split ((ne e) ++ (ne f)) (ne i) ((fe e) ++ (fe f)) (fe i) h in
          let s1 = split (ne e) (ne f) (fe e) (fe f) s2.0 in
          join (join ((keeps_expr d s1.0)) (keeps_value g s1.1)) (keeps_value k s2.1)
      keeps_expr (assignment {e = e} {f = f} d g) h =
          let s1 = split (ne e) (ne f) (fe e) (fe f) h in
          join ((keeps_expr d s1.0)) (keeps_expr g s1.1)
      keeps_expr (comma {e = e} {f = f} d g) h =
          let s1 = split (ne e) (ne f) (fe e) (fe f) h in
          join ((keeps_expr d s1.0)) (keeps_expr g s1.1)

      keeps_value : {e t : Expr} → MarkedValue e t → Quiet false (ne e) (fe e) → Quiet true (ne (counted counter (expr_marks t) (rewritten_expr counter code t))) (fe (counted counter (expr_marks t) (rewritten_expr counter code t)))
      keeps_value (unentered {e' = t} d) h = quiet_counted (expr_marks t) (rewritten_expr counter code t) (keeps_expr d h)
      keeps_value (entered {e' = t} m d) h = quiet_counted (m ∷ expr_marks t) (rewritten_expr counter code t) (keeps_expr d h)

      keeps_leaf : {e t : Expr} → MarkedLeaf e t → Quiet false (ne e) (fe e) → Quiet true (ne (counted counter (expr_marks t) (rewritten_expr counter code t))) (fe (counted counter (expr_marks t) (rewritten_expr counter code t)))
      keeps_leaf (a_leaf v) h = keeps_value v h
      keeps_leaf (grouped d) h = keeps_leaf d h

      keeps_stmt : {x t : Stmt} (home : Bool) → MarkedStmt x t → Quiet false (ns x) (fs x) → Quiet true (ns (rewritten_stmt counter code home t)) (fs (rewritten_stmt counter code home t))
      keeps_stmt home (block {x = x} d) h =
          let o = split [] (n_stmts x) (scope (declared_stmts false x)) (f_stmts x) h in
          join (scoped (ap scope (same_scope counter code false true d) ∙ (o.0).scopes)) ((keeps_stmts true d o.1))
      keeps_stmt home (declaration d) h = (keeps_declarators home d h)
      keeps_stmt home empty h = nothing
      keeps_stmt home (expression d) h = (keeps_expr d h)
      keeps_stmt home (if_ {e = e} {x = x} {x' = x'} {y = y} {y' = y'} d a r) h =
          let s2 = split ((ne e) ++ (ns x)) (n_stmt_if y) ((fe e) ++ (fs x)) (f_stmt_if y) h in
          let s1 = split (ne e) (ns x) (fe e) (fs x) s2.0 in
          join (join ((keeps_expr d s1.0)) (quiet_arm (is_any (stmt_marks x' ++ arm_marks y')) (stmt_marks x') (rewritten_stmt counter code false x') (same_branch a) (keeps_branch a s1.1))) (keeps_arm (is_any (stmt_marks x' ++ arm_marks y')) r s2.1)
      keeps_stmt home (do_ {x = x} {x' = x'} {e = e} n a d) h =
          let s1 = split (ns x) (ne e) (fs x) (fe e) h in
          join ((quiet_looped (stmt_marks x') (rewritten_stmt counter code false x') (same_bodied n a) (keeps_around false a s1.0))) (keeps_expr d s1.1)
      keeps_stmt home (while {e = e} {x = x} {x' = x'} d n a) h =
          let s1 = split (ne e) (ns x) (fe e) (fs x) h in
          join ((keeps_expr d s1.0)) (quiet_looped (stmt_marks x') (rewritten_stmt counter code false x') (same_bodied n a) (keeps_around false a s1.1))
      keeps_stmt home (for_ {i = i} {e = e} {f = f} {x = x} {x' = x'} j d g n a) h =
          let o = split [] ((n_for_init i) ++ (n_expr_if e) ++ (n_expr_if f) ++ (ns x)) (scope (head_init i x)) ((f_for_init i) ++ (f_expr_if e) ++ (f_expr_if f) ++ (fs x)) h in
          let s3 = split ((n_for_init i) ++ (n_expr_if e) ++ (n_expr_if f)) (ns x) ((f_for_init i) ++ (f_expr_if e) ++ (f_expr_if f)) (fs x) o.1 in
          let s2 = split ((n_for_init i) ++ (n_expr_if e)) (n_expr_if f) ((f_for_init i) ++ (f_expr_if e)) (f_expr_if f) s3.0 in
          let s1 = split (n_for_init i) (n_expr_if e) (f_for_init i) (f_expr_if e) s2.0 in
          join (scoped (ap scope (same_head_init counter code j a) ∙ (o.0).scopes)) (join (join (join ((keeps_for_init j s1.0)) (keeps_expr_if d s1.1)) (keeps_expr_if g s2.1)) (quiet_looped (stmt_marks x') (rewritten_stmt counter code false x') (same_bodied n a) (keeps_around false a s3.1)))
      keeps_stmt home (for_in {i = i} {e = e} {x = x} {x' = x'} j d n a) h =
          let o = split [] ((n_for_target i) ++ (ne e) ++ (ns x)) (scope (head_target i x)) ((f_for_target i) ++ (fe e) ++ (fs x)) h in
          let s2 = split ((n_for_target i) ++ (ne e)) (ns x) ((f_for_target i) ++ (fe e)) (fs x) o.1 in
          let s1 = split (n_for_target i) (ne e) (f_for_target i) (fe e) s2.0 in
          join (scoped (ap scope (same_head_target counter code j a) ∙ (o.0).scopes)) (join (join ((keeps_for_target j s1.0)) (keeps_expr d s1.1)) (quiet_looped (stmt_marks x') (rewritten_stmt counter code false x') (same_bodied n a) (keeps_around false a s2.1)))
      keeps_stmt home (for_of {i = i} {e = e} {x = x} {x' = x'} j d n a) h =
          let o = split [] ((n_for_target i) ++ (ne e) ++ (ns x)) (scope (head_target i x)) ((f_for_target i) ++ (fe e) ++ (fs x)) h in
          let s2 = split ((n_for_target i) ++ (ne e)) (ns x) ((f_for_target i) ++ (fe e)) (fs x) o.1 in
          let s1 = split (n_for_target i) (ne e) (f_for_target i) (fe e) s2.0 in
          join (scoped (ap scope (same_head_target counter code j a) ∙ (o.0).scopes)) (join (join ((keeps_for_target j s1.0)) (keeps_expr d s1.1)) (quiet_looped (stmt_marks x') (rewritten_stmt counter code false x') (same_bodied n a) (keeps_around false a s2.1)))
      keeps_stmt home (continue {n = n}) h = join (again_same (split (label_if n) [] [] [] h).0) nothing
      keeps_stmt home (break {n = n}) h = join (again_same (split (label_if n) [] [] [] h).0) nothing
      keeps_stmt home (return d) h = (keeps_expr_if d h)
      keeps_stmt home (switch {e = e} {x = x} d g) h =
          let o = split [] ((ne e) ++ (n_cases x)) (scope (declared_cases x)) ((fe e) ++ (f_cases x)) h in
          let s1 = split (ne e) (n_cases x) (fe e) (f_cases x) o.1 in
          join (scoped (ap scope (same_cases counter code g) ∙ (o.0).scopes)) (join ((keeps_expr d s1.0)) (keeps_cases g s1.1))
      keeps_stmt home (labelled {n = n} {x = x} d) h =
          let o = split (label n) (ns x) [] (fs x) h in
          join (again_same o.0) ((keeps_stmt false d o.1))
      keeps_stmt home (throw d) h = (keeps_expr d h)
      keeps_stmt home (try_catch {x = x} {c = c} d k) h =
          let o = split [] ((n_stmts x) ++ (nc c)) (scope (declared_stmts false x)) ((f_stmts x) ++ (fc c)) h in
          let s1 = split (n_stmts x) (nc c) (f_stmts x) (fc c) o.1 in
          join (scoped (ap scope (same_scope counter code false true d) ∙ (o.0).scopes)) (join ((keeps_stmts true d s1.0)) (keeps_catch k s1.1))
      keeps_stmt home (try_finally {x = x} {y = y} d g) h =
          let o = split [] ((n_stmts x) ++ (n_stmts y)) (scope (declared_stmts false x) ++ scope (declared_stmts false y)) ((f_stmts x) ++ (f_stmts y)) h in
          let s1 = split (n_stmts x) (n_stmts y) (f_stmts x) (f_stmts y) o.1 in
          join (two_scopes (scope (declared_stmts false x)) (scope (declared_stmts false y)) (ap scope (same_scope counter code false true d)) (ap scope (same_scope counter code false true g)) o.0) (join ((keeps_stmts true d s1.0)) (keeps_stmts true g s1.1))
      keeps_stmt home (try_catch_finally {x = x} {y = y} {c = c} d k g) h =
          let o = split [] ((n_stmts x) ++ (nc c) ++ (n_stmts y)) (scope (declared_stmts false x) ++ scope (declared_stmts false y)) ((f_stmts x) ++ (fc c) ++ (f_stmts y)) h in
          let s2 = split ((n_stmts x) ++ (nc c)) (n_stmts y) ((f_stmts x) ++ (fc c)) (f_stmts y) o.1 in
          let s1 = split (n_stmts x) (nc c) (f_stmts x) (fc c) s2.0 in
          join (two_scopes (scope (declared_stmts false x)) (scope (declared_stmts false y)) (ap scope (same_scope counter code false true d)) (ap scope (same_scope counter code false true g)) o.0) (join (join ((keeps_stmts true d s1.0)) (keeps_catch k s1.1)) (keeps_stmts true g s2.1))
      keeps_stmt home debugger h = nothing
      keeps_stmt home (function_declaration {n = n} {f = f} d) h =
          let o = split (own_name n) (nf f) [] (ff f) h in
          join (again_same o.0) ((keeps_function d o.1))

      keeps_around : {x t : Stmt} (home : Bool) → Around x t → Quiet false (ns x) (fs x) → Quiet true (ns (rewritten_stmt counter code home t)) (fs (rewritten_stmt counter code home t))
      keeps_around home (bare d) h = keeps_stmt home d h
      keeps_around home (around m _ _ a) h = keeps_around home a h

      keeps_branch : {x t : Stmt} → Branched x t → Quiet false (ns x) (fs x) → Quiet true (ns (rewritten_stmt counter code false t)) (fs (rewritten_stmt counter code false t))
      keeps_branch (unbranched _ a) h = keeps_around false a h
      keeps_branch (branched m _ a) h = keeps_around false a h

      keeps_listed : {x t : Stmt} (home : Bool) → Listed x t → Quiet false (ns x) (fs x) → Quiet true (ns (rewritten_stmt counter code home t)) (fs (rewritten_stmt counter code home t))
      keeps_listed home a_directive h = nothing
      keeps_listed home (a_stmt a) h = keeps_around home a h

      keeps_arm : {x t : MaybeStmt} (b : Bool) → MarkedArm x t → Quiet false (n_stmt_if x) (f_stmt_if x) → Quiet true (n_stmt_if (rewritten_arm counter code b t)) (f_stmt_if (rewritten_arm counter code b t))
      keeps_arm b none h = nothing
      keeps_arm b (missing m) h = let q = quiet_counts (m ∷ []) in record { names = q.names; scopes = q.scopes }
      keeps_arm b (some {x' = t} a) h = quiet_arm b (stmt_marks t) (rewritten_stmt counter code false t) (same_branch a) (keeps_branch a h)

      pub keeps_stmts : {x t : Stmts} (home : Bool) → MarkedStmts x t → Quiet false (n_stmts x) (f_stmts x) → Quiet true (n_stmts (rewritten_stmts counter code home t)) (f_stmts (rewritten_stmts counter code home t))
      keeps_stmts home no_stmts h = nothing
      keeps_stmts home (more_stmts {x = x} {x' = t} {y = xs} {y' = ts} a d) h =
          let s = split (ns x) (n_stmts xs) (fs x) (f_stmts xs) h in
          quiet_first (stmt_marks t ++ hoisted_marks home t) (more_stmt (rewritten_stmt counter code home t) (rewritten_stmts counter code home ts)) (join (keeps_listed home a s.0) (keeps_stmts home d s.1))

      keeps_property : {x t : Property} → MarkedProperty x t → Quiet false (np x) (fp x) → Quiet true (np (rewritten_property counter code t)) (fp (rewritten_property counter code t))
      keeps_property shorthand h = again_same h
      keeps_property (key_value {k = k} {e = e} c d) h =
          let s1 = split (nk k) (ne e) (fk k) (fe e) h in
          join ((keeps_property_key c s1.0)) (keeps_expr d s1.1)
      keeps_property (method {k = k} {f = f} c d) h =
          let s1 = split (nk k) (nf f) (fk k) (ff f) h in
          join ((keeps_property_key c s1.0)) (keeps_function d s1.1)

      keeps_property_key : {x t : PropertyKey} → MarkedKey x t → Quiet false (nk x) (fk x) → Quiet true (nk (rewritten_property_key counter code t)) (fk (rewritten_property_key counter code t))
      keeps_property_key name_key h = record { names = refl; scopes = refl }
      keeps_property_key string_key h = nothing
      keeps_property_key number_key h = nothing
      keeps_property_key (computed_key d) h = keeps_expr d h

      keeps_concise_body : {x t : ConciseBody} → MarkedConcise x t → Quiet false (n_concise_body x) (f_concise_body x) → Quiet true (n_concise_body (rewritten_concise_body counter code t)) (f_concise_body (rewritten_concise_body counter code t))
      keeps_concise_body (concise {e' = t} d) h = quiet_concise (expr_marks t) (rewritten_expr counter code t) (keeps_expr d h)
      keeps_concise_body (concise_one {e' = t} m d) h = quiet_concise (m ∷ expr_marks t) (rewritten_expr counter code t) (keeps_expr d h)
      keeps_concise_body (concise_two {e' = t} m n d) h = quiet_concise (m ∷ (n ∷ expr_marks t)) (rewritten_expr counter code t) (keeps_expr d h)
      keeps_concise_body (braced b) h = keeps_function_body b h

      keeps_for_init : {x t : ForInit} → MarkedInit x t → Quiet false (n_for_init x) (f_for_init x) → Quiet true (n_for_init (rewritten_for_init counter code t)) (f_for_init (rewritten_for_init counter code t))
      keeps_for_init no_init h = nothing
      keeps_for_init (init_declaration {x = x} {y = y} d g) h = let s = split (n_declarator x) (n_declarators y) (f_declarator x) (f_declarators y) h in join (keeps_declarator false d s.0) (keeps_declarators false g s.1)
      keeps_for_init (init_expression d) h = keeps_expr d h

      keeps_for_target : {x t : ForTarget} → MarkedTarget x t → Quiet false (n_for_target x) (f_for_target x) → Quiet true (n_for_target (rewritten_for_target counter code t)) (f_for_target (rewritten_for_target counter code t))
      keeps_for_target (target_declaration {p = p}) h = again_pattern p h
      keeps_for_target (target_expression d) h = keeps_expr d h

      keeps_template_part : {x t : TemplatePart} → MarkedPart x t → Quiet false (n_template_part x) (f_template_part x) → Quiet true (n_template_part (rewritten_template_part counter code t)) (f_template_part (rewritten_template_part counter code t))
      keeps_template_part (a_part d) h = keeps_expr d h

      keeps_function : {x t : Function} → MarkedFunction x t → Quiet false (nf x) (ff x) → Quiet true (nf (rewritten_function counter code t)) (ff (rewritten_function counter code t))
      keeps_function (make_function {p = p} {b = b} d g) h =
          let s = split [] (n_params p ++ n_function_body b) (scopes_.body (parameters p) (scopes_.body_of b)) (f_params p ++ f_function_body b) h in
          let u = split (n_params p) (n_function_body b) (f_params p) (f_function_body b) s.1 in
          join (scoped (keeps_body_scope d g s.0.scopes)) (join (keeps_params d u.0) (keeps_function_body g u.1))

      keeps_function_body : {x t : FunctionBody} → MarkedBody x t → Quiet false (n_function_body x) (f_function_body x) → Quiet true (n_function_body (rewritten_function_body counter code t)) (f_function_body (rewritten_function_body counter code t))
      keeps_function_body (plain_body d) h = keeps_stmts true d h
      keeps_function_body (entered_body {x' = t} m d) h = quiet_after (counts counter (m ∷ [])) (rewritten_stmts counter code true t) (quiet_counts (m ∷ [])) (keeps_stmts true d h)

      keeps_param : {x t : Param} → MarkedParam x t → Quiet false (n_param x) (f_param x) → Quiet true (n_param (rewritten_param counter code t)) (f_param (rewritten_param counter code t))
      keeps_param (plain_param {p = p} {w = w}) h = join (again_pattern (BindingIdentifier p w) (split (own_mention tt (APattern (BindingIdentifier p w))) [] [] [] h).0) nothing
      keeps_param (defaulted {p = p} {w = w} {e = e} _ d) h = let s = split (own_mention tt (APattern (BindingIdentifier p w))) (ne e) [] (fe e) h in join (again_pattern (BindingIdentifier p w) s.0) (keeps_held _ w d s.1)

      keeps_held : {e t : Expr} (b : Bool) (f : List ℕ) → MarkedValue e t → Quiet false (ne e) (fe e) → Quiet true (ne (held counter b f (expr_marks t) (rewritten_expr counter code t))) (fe (held counter b f (expr_marks t) (rewritten_expr counter code t)))
      keeps_held b f (unentered {e' = t} d) h = quiet_held b f (expr_marks t) (rewritten_expr counter code t) (keeps_expr d h)
      keeps_held b f (entered {e' = t} m d) h = quiet_held b f (m ∷ expr_marks t) (rewritten_expr counter code t) (keeps_expr d h)

      keeps_initial : {e t : Expr} (i b : Bool) (f : List ℕ) → MarkedValue e t → Quiet false (ne e) (fe e) → Quiet true (ne (initial counter i b f (expr_marks t) (rewritten_expr counter code t))) (fe (initial counter i b f (expr_marks t) (rewritten_expr counter code t)))
      keeps_initial i b f (unentered {e' = t} d) h = quiet_initial i b f (expr_marks t) (rewritten_expr counter code t) (keeps_expr d h)
      keeps_initial i b f (entered {e' = t} m d) h = quiet_initial i b f (m ∷ expr_marks t) (rewritten_expr counter code t) (keeps_expr d h)

      keeps_declarator : {x t : Declarator} (i : Bool) → MarkedDeclarator x t → Quiet false (n_declarator x) (f_declarator x) → Quiet true (n_declarator (rewritten_declarator counter code i t)) (f_declarator (rewritten_declarator counter code i t))
      keeps_declarator i (declarator {p = p} {w = w}) h = join (again_pattern (BindingIdentifier p w) (split (own_mention tt (APattern (BindingIdentifier p w))) [] [] [] h).0) nothing
      keeps_declarator i (initialized {p = p} {w = w} {e = e} _ d) h = let s = split (own_mention tt (APattern (BindingIdentifier p w))) (ne e) [] (fe e) h in join (again_pattern (BindingIdentifier p w) s.0) (keeps_initial i _ w d s.1)

      keeps_case : {x t : Case} → MarkedCase x t → Quiet false (n_case x) (f_case x) → Quiet true (n_case (rewritten_case counter code t)) (f_case (rewritten_case counter code t))
      keeps_case (clause {e = e} {x = x} d g) h = let s = split (n_expr_if e) (n_stmts x) (f_expr_if e) (f_stmts x) h in join (keeps_expr_if d s.0) (keeps_stmts false g s.1)
      keeps_case (entered_clause {e = e} {x = x} {x' = t} m d g) h =
          let s = split (n_expr_if e) (n_stmts x) (f_expr_if e) (f_stmts x) h in join (keeps_expr_if d s.0) (quiet_first (m ∷ []) (rewritten_stmts counter code false t) (keeps_stmts false g s.1))

      keeps_catch : {x t : Catch} → MarkedCatch x t → Quiet false (nc x) (fc x) → Quiet true (nc (rewritten_catch counter code t)) (fc (rewritten_catch counter code t))
      keeps_catch (catching {p = p} {x = x} {x' = t} d) h =
          let s = split [] (within_pattern_if own_mention nothing_told p tt ++ n_stmts x) (own_of_catch (MakeCatch p x)) (within_pattern_if own_of_part nothing_told p tt ++ f_stmts x) h in
          let u = split (within_pattern_if own_mention nothing_told p tt) (n_stmts x) (within_pattern_if own_of_part nothing_told p tt) (f_stmts x) s.1 in
          join (scoped (ap (λ ds. scope (bound_if binding.CatchName p ++ ds)) (same_scope counter code false true d) ∙ s.0.scopes)) (join (again_pattern_if p u.0) (keeps_stmts true d u.1))

      keeps_expr_if : {x t : MaybeExpr} → MarkedMaybe x t → Quiet false (n_expr_if x) (f_expr_if x) → Quiet true (n_expr_if (rewritten_expr_if counter code t)) (f_expr_if (rewritten_expr_if counter code t))
      keeps_expr_if no_value h = nothing
      keeps_expr_if (some_value d) h = keeps_expr d h

      keeps_exprs : {x t : Exprs} → MarkedExprs x t → Quiet false (n_exprs x) (f_exprs x) → Quiet true (n_exprs (rewritten_exprs counter code t)) (f_exprs (rewritten_exprs counter code t))
      keeps_exprs no_exprs h = nothing
      keeps_exprs (more_exprs {x = x} {y = y} d g) h = let s = split (ne x) (n_exprs y) (fe x) (f_exprs y) h in join (keeps_expr d s.0) (keeps_exprs g s.1)

      keeps_template_parts : {x t : TemplateParts} → MarkedParts x t → Quiet false (n_template_parts x) (f_template_parts x) → Quiet true (n_template_parts (rewritten_template_parts counter code t)) (f_template_parts (rewritten_template_parts counter code t))
      keeps_template_parts no_parts h = nothing
      keeps_template_parts (more_parts {x = x} {y = y} d g) h = let s = split (n_template_part x) (n_template_parts y) (f_template_part x) (f_template_parts y) h in join (keeps_template_part d s.0) (keeps_template_parts g s.1)

      keeps_properties : {x t : Properties} → MarkedProperties x t → Quiet false (n_properties x) (f_properties x) → Quiet true (n_properties (rewritten_properties counter code t)) (f_properties (rewritten_properties counter code t))
      keeps_properties no_properties h = nothing
      keeps_properties (more_properties {x = x} {y = y} d g) h = let s = split (np x) (n_properties y) (fp x) (f_properties y) h in join (keeps_property d s.0) (keeps_properties g s.1)

      keeps_params : {x t : Params} → MarkedParams x t → Quiet false (n_params x) (f_params x) → Quiet true (n_params (rewritten_params counter code t)) (f_params (rewritten_params counter code t))
      keeps_params no_params h = nothing
      keeps_params (more_params {x = x} {y = y} d g) h = let s = split (n_param x) (n_params y) (f_param x) (f_params y) h in join (keeps_param d s.0) (keeps_params g s.1)

      keeps_cases : {x t : Cases} → MarkedCases x t → Quiet false (n_cases x) (f_cases x) → Quiet true (n_cases (rewritten_cases counter code t)) (f_cases (rewritten_cases counter code t))
      keeps_cases no_cases h = nothing
      keeps_cases (more_cases {x = x} {y = y} d g) h = let s = split (n_case x) (n_cases y) (f_case x) (f_cases y) h in join (keeps_case d s.0) (keeps_cases g s.1)

      keeps_declarators : {x t : Declarators} (i : Bool) → MarkedDeclarators x t → Quiet false (n_declarators x) (f_declarators x) → Quiet true (n_declarators (rewritten_declarators counter code i t)) (f_declarators (rewritten_declarators counter code i t))
      keeps_declarators i no_declarators h = nothing
      keeps_declarators i (more_declarators {x = x} {y = y} d g) h = let s = split (n_declarator x) (n_declarators y) (f_declarator x) (f_declarators y) h in join (keeps_declarator i d s.0) (keeps_declarators false g s.1)
