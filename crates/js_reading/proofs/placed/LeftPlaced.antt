-- What hints leave of what is counted in a tree stands at lines from 1 where all that is counted without hints does.
use Rattle.std.proofs.Common.{Bool, true, false, List, [], ◌∷◌, ◌++◌, Option, Some, None}
use Rattle.js_terms.specs.declared.construct.BranchKind.{BranchKind}
use Rattle.js_terms.specs.declared.construct.BranchKind.TheVariants as branch_kind
use Rattle.js_terms.specs.declared.construct.Construct.{Construct}
use Rattle.js_tree.specs.declared.hint.Hint.TheVariants as hint
use Rattle.js_terms.specs.declared.place.Loc.{Loc}
use Rattle.js_terms.specs.declared.words.Identifier.{Identifier}
use Rattle.js_tree.specs.Hints.{Heed, Ignored, Heeding, heed, heed_arm, heeded_place, path_in, case_paths, leaf_paths}
use Rattle.js_tree.specs.Places.{bare_place, expr_place, stmt_place, stmt_if_place, property_place, param_place, declarator_place, case_place, body_place, concise_place}
use Rattle.js_tree.specs.Plain.{Expr, IdentifierReference, This, NullLiteral, BooleanLiteral, NumericLiteral, StringLiteral, ArrayLiteral, ObjectLiteral, FunctionExpression, ArrowFunction, RegularExpressionLiteral, TemplateLiteral, Parenthesized, NamedMember, ComputedMember, New, Call, PostfixUpdate, PrefixUpdate, Unary, Binary, Logical, Conditional, Assignment, Comma, Entered}
use Rattle.js_tree.specs.Plain.{Stmt, Directive, Block, VariableDeclaration, Empty, Expression, If, DoWhile, While, For, ForIn, ForOf, Continue, Break, Return, Switch, Labelled, Throw, TryCatch, TryFinally, TryCatchFinally, Debugger, FunctionDeclaration, EnteredStmt}
use Rattle.js_tree.specs.Plain.{Property, Shorthand, KeyValue, Method}
use Rattle.js_tree.specs.Plain.{PropertyKey, NameKey, StringKey, NumberKey, ComputedKey}
use Rattle.js_tree.specs.Plain.{ConciseBody, ExpressionBody, BlockBody}
use Rattle.js_tree.specs.Plain.{ForInit, NoInit, InitDeclaration, InitExpression}
use Rattle.js_tree.specs.Plain.{ForTarget, TargetDeclaration, TargetExpression}
use Rattle.js_tree.specs.Plain.{TemplatePart, MakeTemplatePart}
use Rattle.js_tree.specs.Plain.{Function, MakeFunction}
use Rattle.js_tree.specs.Plain.{FunctionBody, MakeFunctionBody, EnteredBody}
use Rattle.js_tree.specs.Plain.{Param, MakeParam}
use Rattle.js_tree.specs.Plain.{Declarator, MakeDeclarator}
use Rattle.js_tree.specs.Plain.{Case, MakeCase, EnteredCase}
use Rattle.js_tree.specs.Plain.{Catch, MakeCatch}
use Rattle.js_tree.specs.Plain.{none_pattern, some_pattern}
use Rattle.js_tree.specs.Plain.{MaybeExpr, none_expr, some_expr}
use Rattle.js_tree.specs.Plain.{MaybeStmt, none_stmt, some_stmt, entered_none}
use Rattle.js_tree.specs.Plain.{TemplateParts, no_template_part, more_template_part}
use Rattle.js_tree.specs.Plain.{Properties, no_property, more_property}
use Rattle.js_tree.specs.Plain.{Params, no_param, more_param}
use Rattle.js_tree.specs.Plain.{Exprs, no_expr, more_expr}
use Rattle.js_tree.specs.Plain.{Stmts, no_stmt, more_stmt}
use Rattle.js_tree.specs.Plain.{Declarators, no_declarator, more_declarator}
use Rattle.js_tree.specs.Plain.{Cases, no_case, more_case}
use Rattle.js_walk.specs.Part as part
use Rattle.js_walk.specs.Walk.{below, within_expr, within_stmt, within_property_key, within_concise_body, within_for_init, within_for_target, within_template_part, within_function, within_function_body, within_catch, within_case, within_param, within_declarator, within_property, within_expr_if, within_stmt_if, within_exprs, within_template_parts, within_properties, within_params, within_stmts, within_declarators, within_cases}
use Rattle.js_walk.specs.Constructs as left
use Rattle.js_walk.specs.Constructs.{told, tell, tell_expr, tell_stmt, counted, branch, counted_function, expr_paths, if_paths, counted_expr}
use Rattle.js_reading.specs.Placed.{IsPlacedIf, ArePathsPlaced, ArePlaced}
use Rattle.js_reading.proofs.placed.Unhinted.{own_construct, own_expr, own_stmt, chained_in, leaf_places, case_places}
use Rattle.js_reading.proofs.placed.Placed.{both, second, both_paths}

first : (xs ys : List Construct) → ArePlaced (xs ++ ys) → ArePlaced xs
first [] ys h = tt
first (x ∷ xs) ys h = (h.0, first xs ys h.1)

first_paths : (xs ys : List (Option Loc)) → ArePathsPlaced (xs ++ ys) → ArePathsPlaced xs
first_paths [] ys h = tt
first_paths (x ∷ xs) ys h = (h.0, first_paths xs ys h.1)

second_paths : (xs ys : List (Option Loc)) → ArePathsPlaced (xs ++ ys) → ArePathsPlaced ys
second_paths [] ys h = h
second_paths (x ∷ xs) ys h = second_paths xs ys h.1

-- ---- what is counted without hints, and with them

abbrev old_in_expr : Bool → Expr → List Construct
old_in_expr chained t = below (chained_in chained (part.AnExpr t)) (within_expr own_construct chained_in t)

abbrev new_in_expr : Heed → Bool → Expr → List Construct
new_in_expr h chained t = within_expr left.own_construct tell t (tell_expr h chained t)

abbrev old_expr : Bool → Expr → List Construct
old_expr chained t = own_expr chained t ++ old_in_expr chained t

abbrev new_expr : Heed → Bool → Expr → List Construct
new_expr h chained t = left.own_expr h chained t ++ new_in_expr h chained t

abbrev old_in_stmt : Stmt → List Construct
old_in_stmt t = within_stmt own_construct chained_in t false

abbrev new_in_stmt : Heed → Stmt → List Construct
new_in_stmt h t = within_stmt left.own_construct tell t (tell_stmt h t)

abbrev old_stmt : Stmt → List Construct
old_stmt t = own_construct false (part.AStmt t) ++ old_in_stmt t

abbrev new_stmt : Heed → Stmt → List Construct
new_stmt h t = left.own_stmt h t ++ new_in_stmt h t

abbrev old_in_property_key : PropertyKey → List Construct
old_in_property_key t = within_property_key own_construct chained_in t false

abbrev new_in_property_key : Heed → PropertyKey → List Construct
new_in_property_key h t = within_property_key left.own_construct tell t (told h)

abbrev old_property_key : PropertyKey → List Construct
old_property_key t = old_in_property_key t

abbrev new_property_key : Heed → PropertyKey → List Construct
new_property_key h t = new_in_property_key h t

abbrev old_in_concise_body : ConciseBody → List Construct
old_in_concise_body t = within_concise_body own_construct chained_in t false

abbrev new_in_concise_body : Heed → ConciseBody → List Construct
new_in_concise_body h t = within_concise_body left.own_construct tell t (told h)

abbrev old_concise_body : ConciseBody → List Construct
old_concise_body t = own_construct false (part.AConciseBody t) ++ old_in_concise_body t

abbrev new_concise_body : Heed → ConciseBody → List Construct
new_concise_body h t = left.own_concise_body h t ++ new_in_concise_body h t

abbrev old_in_for_init : ForInit → List Construct
old_in_for_init t = within_for_init own_construct chained_in t false

abbrev new_in_for_init : Heed → ForInit → List Construct
new_in_for_init h t = within_for_init left.own_construct tell t (told h)

abbrev old_for_init : ForInit → List Construct
old_for_init t = old_in_for_init t

abbrev new_for_init : Heed → ForInit → List Construct
new_for_init h t = new_in_for_init h t

abbrev old_in_for_target : ForTarget → List Construct
old_in_for_target t = within_for_target own_construct chained_in t false

abbrev new_in_for_target : Heed → ForTarget → List Construct
new_in_for_target h t = within_for_target left.own_construct tell t (told h)

abbrev old_for_target : ForTarget → List Construct
old_for_target t = old_in_for_target t

abbrev new_for_target : Heed → ForTarget → List Construct
new_for_target h t = new_in_for_target h t

abbrev old_in_template_part : TemplatePart → List Construct
old_in_template_part t = within_template_part own_construct chained_in t false

abbrev new_in_template_part : Heed → TemplatePart → List Construct
new_in_template_part h t = within_template_part left.own_construct tell t (told h)

abbrev old_template_part : TemplatePart → List Construct
old_template_part t = old_in_template_part t

abbrev new_template_part : Heed → TemplatePart → List Construct
new_template_part h t = new_in_template_part h t

abbrev old_in_function : Function → List Construct
old_in_function t = within_function own_construct chained_in t false

abbrev new_in_function : Heed → Function → List Construct
new_in_function h t = within_function left.own_construct tell t (told h)

abbrev old_function : Function → List Construct
old_function t = old_in_function t

abbrev new_function : Heed → Function → List Construct
new_function h t = new_in_function h t

abbrev old_in_function_body : FunctionBody → List Construct
old_in_function_body t = within_function_body own_construct chained_in t false

abbrev new_in_function_body : Heed → FunctionBody → List Construct
new_in_function_body h t = within_function_body left.own_construct tell t (told h)

abbrev old_function_body : FunctionBody → List Construct
old_function_body t = old_in_function_body t

abbrev new_function_body : Heed → FunctionBody → List Construct
new_function_body h t = new_in_function_body h t

abbrev old_in_catch : Catch → List Construct
old_in_catch t = within_catch own_construct chained_in t false

abbrev new_in_catch : Heed → Catch → List Construct
new_in_catch h t = within_catch left.own_construct tell t (told h)

abbrev old_catch : Catch → List Construct
old_catch t = old_in_catch t

abbrev new_catch : Heed → Catch → List Construct
new_catch h t = new_in_catch h t

abbrev old_in_case : Case → List Construct
old_in_case t = within_case own_construct chained_in t false

abbrev new_in_case : Heed → Case → List Construct
new_in_case h t = within_case left.own_construct tell t (told h)

abbrev old_case : Case → List Construct
old_case t = old_in_case t

abbrev new_case : Heed → Case → List Construct
new_case h t = new_in_case h t

abbrev old_in_param : Param → List Construct
old_in_param t = within_param own_construct chained_in t false

abbrev new_in_param : Heed → Param → List Construct
new_in_param h t = within_param left.own_construct tell t (told h)

abbrev old_param : Param → List Construct
old_param t = own_construct false (part.AParam t) ++ old_in_param t

abbrev new_param : Heed → Param → List Construct
new_param h t = left.own_param h t ++ new_in_param h t

abbrev old_in_declarator : Declarator → List Construct
old_in_declarator t = within_declarator own_construct chained_in t false

abbrev new_in_declarator : Heed → Declarator → List Construct
new_in_declarator h t = within_declarator left.own_construct tell t (told h)

abbrev old_declarator : Declarator → List Construct
old_declarator t = own_construct false (part.ADeclarator t) ++ old_in_declarator t

abbrev new_declarator : Heed → Declarator → List Construct
new_declarator h t = left.own_declarator h t ++ new_in_declarator h t

abbrev old_in_property : Property → List Construct
old_in_property t = within_property own_construct chained_in t false

abbrev new_in_property : Heed → Property → List Construct
new_in_property h t = within_property left.own_construct tell t (told h)

abbrev old_property : Property → List Construct
old_property t = own_construct false (part.AProperty t) ++ old_in_property t

abbrev new_property : Heed → Property → List Construct
new_property h t = left.own_property h t ++ new_in_property h t

abbrev old_in_expr_if : MaybeExpr → List Construct
old_in_expr_if t = within_expr_if own_construct chained_in t false

abbrev new_in_expr_if : Heed → MaybeExpr → List Construct
new_in_expr_if h t = within_expr_if left.own_construct tell t (told h)

abbrev old_expr_if : MaybeExpr → List Construct
old_expr_if t = old_in_expr_if t

abbrev new_expr_if : Heed → MaybeExpr → List Construct
new_expr_if h t = new_in_expr_if h t

abbrev old_in_stmt_if : MaybeStmt → List Construct
old_in_stmt_if t = within_stmt_if own_construct chained_in t false

abbrev new_in_stmt_if : Heed → MaybeStmt → List Construct
new_in_stmt_if h t = within_stmt_if left.own_construct tell t (told h)

abbrev old_stmt_if : MaybeStmt → List Construct
old_stmt_if t = old_in_stmt_if t

abbrev new_stmt_if : Heed → MaybeStmt → List Construct
new_stmt_if h t = new_in_stmt_if h t

abbrev old_in_exprs : Exprs → List Construct
old_in_exprs t = within_exprs own_construct chained_in t false

abbrev new_in_exprs : Heed → Exprs → List Construct
new_in_exprs h t = within_exprs left.own_construct tell t (told h)

abbrev old_exprs : Exprs → List Construct
old_exprs t = old_in_exprs t

abbrev new_exprs : Heed → Exprs → List Construct
new_exprs h t = new_in_exprs h t

abbrev old_in_template_parts : TemplateParts → List Construct
old_in_template_parts t = within_template_parts own_construct chained_in t false

abbrev new_in_template_parts : Heed → TemplateParts → List Construct
new_in_template_parts h t = within_template_parts left.own_construct tell t (told h)

abbrev old_template_parts : TemplateParts → List Construct
old_template_parts t = old_in_template_parts t

abbrev new_template_parts : Heed → TemplateParts → List Construct
new_template_parts h t = new_in_template_parts h t

abbrev old_in_properties : Properties → List Construct
old_in_properties t = within_properties own_construct chained_in t false

abbrev new_in_properties : Heed → Properties → List Construct
new_in_properties h t = within_properties left.own_construct tell t (told h)

abbrev old_properties : Properties → List Construct
old_properties t = old_in_properties t

abbrev new_properties : Heed → Properties → List Construct
new_properties h t = new_in_properties h t

abbrev old_in_params : Params → List Construct
old_in_params t = within_params own_construct chained_in t false

abbrev new_in_params : Heed → Params → List Construct
new_in_params h t = within_params left.own_construct tell t (told h)

abbrev old_params : Params → List Construct
old_params t = old_in_params t

abbrev new_params : Heed → Params → List Construct
new_params h t = new_in_params h t

abbrev old_in_stmts : Stmts → List Construct
old_in_stmts t = within_stmts own_construct chained_in t false

abbrev new_in_stmts : Heed → Stmts → List Construct
new_in_stmts h t = within_stmts left.own_construct tell t (told h)

abbrev old_stmts : Stmts → List Construct
old_stmts t = old_in_stmts t

abbrev new_stmts : Heed → Stmts → List Construct
new_stmts h t = new_in_stmts h t

abbrev old_in_declarators : Declarators → List Construct
old_in_declarators t = within_declarators own_construct chained_in t false

abbrev new_in_declarators : Heed → Declarators → List Construct
new_in_declarators h t = within_declarators left.own_construct tell t (told h)

abbrev old_declarators : Declarators → List Construct
old_declarators t = old_in_declarators t

abbrev new_declarators : Heed → Declarators → List Construct
new_declarators h t = new_in_declarators h t

abbrev old_in_cases : Cases → List Construct
old_in_cases t = within_cases own_construct chained_in t false

abbrev new_in_cases : Heed → Cases → List Construct
new_in_cases h t = within_cases left.own_construct tell t (told h)

abbrev old_cases : Cases → List Construct
old_cases t = old_in_cases t

abbrev new_cases : Heed → Cases → List Construct
new_cases h t = new_in_cases h t

-- ---- of a node itself

counted_left : (h : Heed) (l : Option Loc) → ArePlaced (counted l) → ArePlaced (counted (heeded_place h l))
counted_left Ignored l p = tt
counted_left (Heeding hints) l p = p

function_left : (h : Heed) (l : Option Loc) (name : Option Identifier) (body : Option Loc) → ArePlaced (counted_function l name body) → ArePlaced (counted_function (heeded_place h l) name body)
function_left Ignored l name body p = tt
function_left (Heeding hints) l name body p = p

branch_left : (h : Heed) (kind : BranchKind) (l : Option Loc) (ps qs : List (Option Loc)) → (ArePathsPlaced ps → ArePathsPlaced qs) → ArePlaced (branch kind l ps) → ArePlaced (branch kind (heeded_place h l) qs)
branch_left Ignored kind l ps qs f p = tt
branch_left (Heeding hints) kind None ps qs f p = tt
branch_left (Heeding hints) kind (Some l) ps qs f p = ((p.0.0, f p.0.1), tt)

path_left : (h : Heed) (l : Option Loc) → IsPlacedIf l → ArePathsPlaced (path_in h l)
path_left Ignored l p = tt
path_left (Heeding hints) l p = (p, tt)

cases_left : (h : Heed) (xs : Cases) → ArePathsPlaced (case_places xs) → ArePathsPlaced (case_paths h xs)
cases_left h no_case p = tt
cases_left h (more_case x xs) p = both_paths (path_in (heed h (case_place x)) (case_place x)) (case_paths h xs) (path_left (heed h (case_place x)) (case_place x) p.0) (cases_left h xs p.1)

leaves_left : (h : Heed) (e : Expr) → ArePathsPlaced (leaf_places e) → ArePathsPlaced (leaf_paths h e)
leaves_left h (Logical loc operator e f) p = both_paths (leaf_paths (heed h (expr_place e)) e) (leaf_paths (heed h (expr_place f)) f)
    (leaves_left (heed h (expr_place e)) e (first_paths (leaf_places e) (leaf_places f) p)) (leaves_left (heed h (expr_place f)) f (second_paths (leaf_places e) (leaf_places f) p))
leaves_left h (Parenthesized loc e) p = leaves_left h e p
leaves_left h (Entered n e) p = leaves_left h e p
leaves_left h e p = path_left h (bare_place e) p.0

own_expr_left : (h : Heed) (chained : Bool) (t : Expr) → ArePlaced (own_expr chained t) → ArePlaced (left.own_expr h chained t)
own_expr_left h chained (FunctionExpression loc name function) p = function_left h loc name (body_place function) p
own_expr_left h chained (ArrowFunction loc number params body) p = function_left h loc None (concise_place body) p
own_expr_left h chained (Conditional loc test x y) p = branch_left h branch_kind.Conditional loc (bare_place x ∷ bare_place y ∷ []) (expr_paths h x ++ expr_paths h y)
    (λ q. both_paths (expr_paths h x) (expr_paths h y) (path_left (heed h (expr_place x)) (bare_place x) q.0) (path_left (heed h (expr_place y)) (bare_place y) q.1.0)) p
own_expr_left h true (Logical loc operator e f) p = tt
own_expr_left h false (Logical loc operator e f) p = branch_left h branch_kind.Logical loc (leaf_places e ++ leaf_places f) (leaf_paths (heed h (expr_place e)) e ++ leaf_paths (heed h (expr_place f)) f)
    (leaves_left h (Logical loc operator e f)) p
own_expr_left h chained t p = tt

own_stmt_left : (h : Heed) (t : Stmt) → ArePlaced (own_stmt t) → ArePlaced (left.own_stmt h t)
own_stmt_left h (Directive loc spelled) p = tt
own_stmt_left h (Block loc xs) p = tt
own_stmt_left h (VariableDeclaration loc kind declarators) p = tt
own_stmt_left h (Empty loc) p = tt
own_stmt_left h (FunctionDeclaration loc name function) p = function_left h loc (Some name) (body_place function) p
own_stmt_left h (If loc e x y) p = both (counted (heeded_place h loc)) (branch branch_kind.If (heeded_place h loc) (if_paths h loc x y))
    (counted_left h loc (first (counted loc) (branch branch_kind.If loc (loc ∷ stmt_if_place y ∷ [])) p))
    (branch_left h branch_kind.If loc (loc ∷ stmt_if_place y ∷ []) (if_paths h loc x y)
    (λ q. both_paths (path_in (heed (heed_arm hint.If h loc) (stmt_place x)) loc) (path_in (heed (heed_arm hint.Else h loc) (stmt_if_place y)) (stmt_if_place y))
    (path_left (heed (heed_arm hint.If h loc) (stmt_place x)) loc q.0) (path_left (heed (heed_arm hint.Else h loc) (stmt_if_place y)) (stmt_if_place y) q.1.0))
    (second (counted loc) (branch branch_kind.If loc (loc ∷ stmt_if_place y ∷ [])) p))
own_stmt_left h (Switch loc e cases) p = both (counted (heeded_place h loc)) (branch branch_kind.Switch (heeded_place h loc) (case_paths h cases))
    (counted_left h loc (first (counted loc) (branch branch_kind.Switch loc (case_places cases)) p))
    (branch_left h branch_kind.Switch loc (case_places cases) (case_paths h cases) (cases_left h cases) (second (counted loc) (branch branch_kind.Switch loc (case_places cases)) p))
own_stmt_left h t p = counted_left h (stmt_place t) p

own_property_left : (h : Heed) (t : Property) → ArePlaced (own_construct false (part.AProperty t)) → ArePlaced (left.own_property h t)
own_property_left h (Method loc key function) p = function_left h loc None (body_place function) p
own_property_left h (Shorthand loc text) p = tt
own_property_left h (KeyValue loc key e) p = tt

counted_expr_left : (h : Heed) (e : Expr) → ArePlaced (counted (bare_place e)) → ArePlaced (counted_expr h e)
counted_expr_left h e p = counted_left (heed h (expr_place e)) (bare_place e) p

own_declarator_left : (h : Heed) (t : Declarator) → ArePlaced (own_construct false (part.ADeclarator t)) → ArePlaced (left.own_declarator h t)
own_declarator_left h (MakeDeclarator loc pattern none_expr) p = tt
own_declarator_left h (MakeDeclarator loc pattern (some_expr e)) p = counted_expr_left h e p

own_param_left : (h : Heed) (t : Param) → ArePlaced (own_construct false (part.AParam t)) → ArePlaced (left.own_param h t)
own_param_left h (MakeParam loc pattern none_expr) p = tt
own_param_left h (MakeParam loc pattern (some_expr e)) p = branch_left h branch_kind.Default loc (bare_place e ∷ []) (expr_paths h e) (λ q. path_left (heed h (expr_place e)) (bare_place e) q.0) p

own_concise_body_left : (h : Heed) (t : ConciseBody) → ArePlaced (own_construct false (part.AConciseBody t)) → ArePlaced (left.own_concise_body h t)
own_concise_body_left h (ExpressionBody e) p = counted_expr_left h e p
own_concise_body_left h (BlockBody body) p = tt

-- ---- of a node and what is in it

expr_left : (h : Heed) (chained : Bool) (t : Expr) → (ArePlaced (old_in_expr chained t) → ArePlaced (new_in_expr h chained t)) → ArePlaced (old_expr chained t) → ArePlaced (new_expr h chained t)
expr_left h chained t f p = both (left.own_expr h chained t) (new_in_expr h chained t) (own_expr_left h chained t (first (own_expr chained t) (old_in_expr chained t) p)) (f (second (own_expr chained t) (old_in_expr chained t) p))

stmt_left : (h : Heed) (t : Stmt) → (ArePlaced (old_in_stmt t) → ArePlaced (new_in_stmt h t)) → ArePlaced (old_stmt t) → ArePlaced (new_stmt h t)
stmt_left h t f p = both (left.own_stmt h t) (new_in_stmt h t) (own_stmt_left h t (first (own_construct false (part.AStmt t)) (old_in_stmt t) p)) (f (second (own_construct false (part.AStmt t)) (old_in_stmt t) p))

property_left : (h : Heed) (t : Property) → (ArePlaced (old_in_property t) → ArePlaced (new_in_property h t)) → ArePlaced (old_property t) → ArePlaced (new_property h t)
property_left h t f p = both (left.own_property h t) (new_in_property h t) (own_property_left h t (first (own_construct false (part.AProperty t)) (old_in_property t) p)) (f (second (own_construct false (part.AProperty t)) (old_in_property t) p))

param_left : (h : Heed) (t : Param) → (ArePlaced (old_in_param t) → ArePlaced (new_in_param h t)) → ArePlaced (old_param t) → ArePlaced (new_param h t)
param_left h t f p = both (left.own_param h t) (new_in_param h t) (own_param_left h t (first (own_construct false (part.AParam t)) (old_in_param t) p)) (f (second (own_construct false (part.AParam t)) (old_in_param t) p))

declarator_left : (h : Heed) (t : Declarator) → (ArePlaced (old_in_declarator t) → ArePlaced (new_in_declarator h t)) → ArePlaced (old_declarator t) → ArePlaced (new_declarator h t)
declarator_left h t f p = both (left.own_declarator h t) (new_in_declarator h t) (own_declarator_left h t (first (own_construct false (part.ADeclarator t)) (old_in_declarator t) p)) (f (second (own_construct false (part.ADeclarator t)) (old_in_declarator t) p))

concise_body_left : (h : Heed) (t : ConciseBody) → (ArePlaced (old_in_concise_body t) → ArePlaced (new_in_concise_body h t)) → ArePlaced (old_concise_body t) → ArePlaced (new_concise_body h t)
concise_body_left h t f p = both (left.own_concise_body h t) (new_in_concise_body h t) (own_concise_body_left h t (first (own_construct false (part.AConciseBody t)) (old_in_concise_body t) p)) (f (second (own_construct false (part.AConciseBody t)) (old_in_concise_body t) p))

mutual
  in_expr_left : (h : Heed) (chained : Bool) (t : Expr) → ArePlaced (old_in_expr chained t) → ArePlaced (new_in_expr h chained t)
  in_expr_left h chained (IdentifierReference _ _) p = tt
  in_expr_left h chained (This _) p = tt
  in_expr_left h chained (NullLiteral _) p = tt
  in_expr_left h chained (BooleanLiteral _ _) p = tt
  in_expr_left h chained (NumericLiteral _ _) p = tt
  in_expr_left h chained (StringLiteral _ _) p = tt
  in_expr_left h chained (ArrayLiteral _ items) p = in_exprs_left h items p
  in_expr_left h chained (ObjectLiteral _ properties) p = in_properties_left h properties p
  in_expr_left h chained (FunctionExpression _ _ function) p = in_function_left h function p
  in_expr_left h chained (ArrowFunction _ _ params body) p = both (new_params h params) (new_concise_body h body) (in_params_left h params (first (old_params params) (old_concise_body body) p)) (concise_body_left h body (in_concise_body_left h body) (second (old_params params) (old_concise_body body) p))
  in_expr_left h chained (RegularExpressionLiteral _ _ _) p = tt
  in_expr_left h chained (TemplateLiteral _ _ parts) p = in_template_parts_left h parts p
  in_expr_left h chained (Parenthesized _ inner) p = expr_left h chained inner (in_expr_left h chained inner) p
  in_expr_left h chained (NamedMember _ object _) p = expr_left (heed h (expr_place object)) false object (in_expr_left (heed h (expr_place object)) false object) p
  in_expr_left h chained (ComputedMember _ object key) p = both (new_expr (heed h (expr_place object)) false object) (new_expr (heed h (expr_place key)) false key) (expr_left (heed h (expr_place object)) false object (in_expr_left (heed h (expr_place object)) false object) (first (old_expr false object) (old_expr false key) p)) (expr_left (heed h (expr_place key)) false key (in_expr_left (heed h (expr_place key)) false key) (second (old_expr false object) (old_expr false key) p))
  in_expr_left h chained (New _ constructor arguments) p = both (new_expr (heed h (expr_place constructor)) false constructor) (new_exprs h arguments) (expr_left (heed h (expr_place constructor)) false constructor (in_expr_left (heed h (expr_place constructor)) false constructor) (first (old_expr false constructor) (old_exprs arguments) p)) (in_exprs_left h arguments (second (old_expr false constructor) (old_exprs arguments) p))
  in_expr_left h chained (Call _ callee arguments) p = both (new_expr (heed h (expr_place callee)) false callee) (new_exprs h arguments) (expr_left (heed h (expr_place callee)) false callee (in_expr_left (heed h (expr_place callee)) false callee) (first (old_expr false callee) (old_exprs arguments) p)) (in_exprs_left h arguments (second (old_expr false callee) (old_exprs arguments) p))
  in_expr_left h chained (PostfixUpdate _ _ operand) p = expr_left (heed h (expr_place operand)) false operand (in_expr_left (heed h (expr_place operand)) false operand) p
  in_expr_left h chained (PrefixUpdate _ _ operand) p = expr_left (heed h (expr_place operand)) false operand (in_expr_left (heed h (expr_place operand)) false operand) p
  in_expr_left h chained (Unary _ _ operand) p = expr_left (heed h (expr_place operand)) false operand (in_expr_left (heed h (expr_place operand)) false operand) p
  in_expr_left h chained (Binary _ _ left right) p = both (new_expr (heed h (expr_place left)) false left) (new_expr (heed h (expr_place right)) false right) (expr_left (heed h (expr_place left)) false left (in_expr_left (heed h (expr_place left)) false left) (first (old_expr false left) (old_expr false right) p)) (expr_left (heed h (expr_place right)) false right (in_expr_left (heed h (expr_place right)) false right) (second (old_expr false left) (old_expr false right) p))
  in_expr_left h chained (Logical _ _ left right) p = both (new_expr (heed h (expr_place left)) true left) (new_expr (heed h (expr_place right)) true right) (expr_left (heed h (expr_place left)) true left (in_expr_left (heed h (expr_place left)) true left) (first (old_expr true left) (old_expr true right) p)) (expr_left (heed h (expr_place right)) true right (in_expr_left (heed h (expr_place right)) true right) (second (old_expr true left) (old_expr true right) p))
  in_expr_left h chained (Conditional _ test holds fails) p = both (new_expr (heed h (expr_place test)) false test ++ new_expr (heed h (expr_place holds)) false holds) (new_expr (heed h (expr_place fails)) false fails) (both (new_expr (heed h (expr_place test)) false test) (new_expr (heed h (expr_place holds)) false holds) (expr_left (heed h (expr_place test)) false test (in_expr_left (heed h (expr_place test)) false test) (first (old_expr false test) (old_expr false holds) (first (old_expr false test ++ old_expr false holds) (old_expr false fails) p))) (expr_left (heed h (expr_place holds)) false holds (in_expr_left (heed h (expr_place holds)) false holds) (second (old_expr false test) (old_expr false holds) (first (old_expr false test ++ old_expr false holds) (old_expr false fails) p)))) (expr_left (heed h (expr_place fails)) false fails (in_expr_left (heed h (expr_place fails)) false fails) (second (old_expr false test ++ old_expr false holds) (old_expr false fails) p))
  in_expr_left h chained (Assignment _ _ target value) p = both (new_expr (heed h (expr_place target)) false target) (new_expr (heed h (expr_place value)) false value) (expr_left (heed h (expr_place target)) false target (in_expr_left (heed h (expr_place target)) false target) (first (old_expr false target) (old_expr false value) p)) (expr_left (heed h (expr_place value)) false value (in_expr_left (heed h (expr_place value)) false value) (second (old_expr false target) (old_expr false value) p))
  in_expr_left h chained (Comma _ left right) p = both (new_expr (heed h (expr_place left)) false left) (new_expr (heed h (expr_place right)) false right) (expr_left (heed h (expr_place left)) false left (in_expr_left (heed h (expr_place left)) false left) (first (old_expr false left) (old_expr false right) p)) (expr_left (heed h (expr_place right)) false right (in_expr_left (heed h (expr_place right)) false right) (second (old_expr false left) (old_expr false right) p))
  in_expr_left h chained (Entered _ inner) p = expr_left (heed h (expr_place inner)) false inner (in_expr_left (heed h (expr_place inner)) false inner) p

  in_stmt_left : (h : Heed) (t : Stmt) → ArePlaced (old_in_stmt t) → ArePlaced (new_in_stmt h t)
  in_stmt_left h (Directive _ _) p = tt
  in_stmt_left h (Block _ statements) p = in_stmts_left h statements p
  in_stmt_left h (VariableDeclaration _ _ declarators) p = in_declarators_left h declarators p
  in_stmt_left h (Empty _) p = tt
  in_stmt_left h (Expression _ expression) p = expr_left (heed h (expr_place expression)) false expression (in_expr_left (heed h (expr_place expression)) false expression) p
  in_stmt_left h (If loc test holds fails) p = both (new_expr (heed h (expr_place test)) false test ++ new_stmt (heed (heed_arm hint.If h loc) (stmt_place holds)) holds) (new_stmt_if (heed_arm hint.Else h loc) fails) (both (new_expr (heed h (expr_place test)) false test) (new_stmt (heed (heed_arm hint.If h loc) (stmt_place holds)) holds) (expr_left (heed h (expr_place test)) false test (in_expr_left (heed h (expr_place test)) false test) (first (old_expr false test) (old_stmt holds) (first (old_expr false test ++ old_stmt holds) (old_stmt_if fails) p))) (stmt_left (heed (heed_arm hint.If h loc) (stmt_place holds)) holds (in_stmt_left (heed (heed_arm hint.If h loc) (stmt_place holds)) holds) (second (old_expr false test) (old_stmt holds) (first (old_expr false test ++ old_stmt holds) (old_stmt_if fails) p)))) (in_stmt_if_left (heed_arm hint.Else h loc) fails (second (old_expr false test ++ old_stmt holds) (old_stmt_if fails) p))
  in_stmt_left h (DoWhile _ body test) p = both (new_stmt (heed h (stmt_place body)) body) (new_expr (heed h (expr_place test)) false test) (stmt_left (heed h (stmt_place body)) body (in_stmt_left (heed h (stmt_place body)) body) (first (old_stmt body) (old_expr false test) p)) (expr_left (heed h (expr_place test)) false test (in_expr_left (heed h (expr_place test)) false test) (second (old_stmt body) (old_expr false test) p))
  in_stmt_left h (While _ test body) p = both (new_expr (heed h (expr_place test)) false test) (new_stmt (heed h (stmt_place body)) body) (expr_left (heed h (expr_place test)) false test (in_expr_left (heed h (expr_place test)) false test) (first (old_expr false test) (old_stmt body) p)) (stmt_left (heed h (stmt_place body)) body (in_stmt_left (heed h (stmt_place body)) body) (second (old_expr false test) (old_stmt body) p))
  in_stmt_left h (For _ init test update body) p = both (new_for_init h init ++ new_expr_if h test ++ new_expr_if h update) (new_stmt (heed h (stmt_place body)) body) (both (new_for_init h init ++ new_expr_if h test) (new_expr_if h update) (both (new_for_init h init) (new_expr_if h test) (in_for_init_left h init (first (old_for_init init) (old_expr_if test) (first (old_for_init init ++ old_expr_if test) (old_expr_if update) (first (old_for_init init ++ old_expr_if test ++ old_expr_if update) (old_stmt body) p)))) (in_expr_if_left h test (second (old_for_init init) (old_expr_if test) (first (old_for_init init ++ old_expr_if test) (old_expr_if update) (first (old_for_init init ++ old_expr_if test ++ old_expr_if update) (old_stmt body) p))))) (in_expr_if_left h update (second (old_for_init init ++ old_expr_if test) (old_expr_if update) (first (old_for_init init ++ old_expr_if test ++ old_expr_if update) (old_stmt body) p)))) (stmt_left (heed h (stmt_place body)) body (in_stmt_left (heed h (stmt_place body)) body) (second (old_for_init init ++ old_expr_if test ++ old_expr_if update) (old_stmt body) p))
  in_stmt_left h (ForIn _ target object body) p = both (new_for_target h target ++ new_expr (heed h (expr_place object)) false object) (new_stmt (heed h (stmt_place body)) body) (both (new_for_target h target) (new_expr (heed h (expr_place object)) false object) (in_for_target_left h target (first (old_for_target target) (old_expr false object) (first (old_for_target target ++ old_expr false object) (old_stmt body) p))) (expr_left (heed h (expr_place object)) false object (in_expr_left (heed h (expr_place object)) false object) (second (old_for_target target) (old_expr false object) (first (old_for_target target ++ old_expr false object) (old_stmt body) p)))) (stmt_left (heed h (stmt_place body)) body (in_stmt_left (heed h (stmt_place body)) body) (second (old_for_target target ++ old_expr false object) (old_stmt body) p))
  in_stmt_left h (ForOf _ target iterable body) p = both (new_for_target h target ++ new_expr (heed h (expr_place iterable)) false iterable) (new_stmt (heed h (stmt_place body)) body) (both (new_for_target h target) (new_expr (heed h (expr_place iterable)) false iterable) (in_for_target_left h target (first (old_for_target target) (old_expr false iterable) (first (old_for_target target ++ old_expr false iterable) (old_stmt body) p))) (expr_left (heed h (expr_place iterable)) false iterable (in_expr_left (heed h (expr_place iterable)) false iterable) (second (old_for_target target) (old_expr false iterable) (first (old_for_target target ++ old_expr false iterable) (old_stmt body) p)))) (stmt_left (heed h (stmt_place body)) body (in_stmt_left (heed h (stmt_place body)) body) (second (old_for_target target ++ old_expr false iterable) (old_stmt body) p))
  in_stmt_left h (Continue _ _) p = tt
  in_stmt_left h (Break _ _) p = tt
  in_stmt_left h (Return _ value) p = in_expr_if_left h value p
  in_stmt_left h (Switch _ value cases) p = both (new_expr (heed h (expr_place value)) false value) (new_cases h cases) (expr_left (heed h (expr_place value)) false value (in_expr_left (heed h (expr_place value)) false value) (first (old_expr false value) (old_cases cases) p)) (in_cases_left h cases (second (old_expr false value) (old_cases cases) p))
  in_stmt_left h (Labelled _ _ body) p = stmt_left (heed h (stmt_place body)) body (in_stmt_left (heed h (stmt_place body)) body) p
  in_stmt_left h (Throw _ value) p = expr_left (heed h (expr_place value)) false value (in_expr_left (heed h (expr_place value)) false value) p
  in_stmt_left h (TryCatch _ block catch) p = both (new_stmts h block) (new_catch h catch) (in_stmts_left h block (first (old_stmts block) (old_catch catch) p)) (in_catch_left h catch (second (old_stmts block) (old_catch catch) p))
  in_stmt_left h (TryFinally _ block finally) p = both (new_stmts h block) (new_stmts h finally) (in_stmts_left h block (first (old_stmts block) (old_stmts finally) p)) (in_stmts_left h finally (second (old_stmts block) (old_stmts finally) p))
  in_stmt_left h (TryCatchFinally _ block catch finally) p = both (new_stmts h block ++ new_catch h catch) (new_stmts h finally) (both (new_stmts h block) (new_catch h catch) (in_stmts_left h block (first (old_stmts block) (old_catch catch) (first (old_stmts block ++ old_catch catch) (old_stmts finally) p))) (in_catch_left h catch (second (old_stmts block) (old_catch catch) (first (old_stmts block ++ old_catch catch) (old_stmts finally) p)))) (in_stmts_left h finally (second (old_stmts block ++ old_catch catch) (old_stmts finally) p))
  in_stmt_left h (Debugger _) p = tt
  in_stmt_left h (FunctionDeclaration _ _ function) p = in_function_left h function p
  in_stmt_left h (EnteredStmt _ inner) p = stmt_left (heed h (stmt_place inner)) inner (in_stmt_left (heed h (stmt_place inner)) inner) p

  in_property_key_left : (h : Heed) (t : PropertyKey) → ArePlaced (old_in_property_key t) → ArePlaced (new_in_property_key h t)
  in_property_key_left h (NameKey _) p = tt
  in_property_key_left h (StringKey _) p = tt
  in_property_key_left h (NumberKey _) p = tt
  in_property_key_left h (ComputedKey key) p = expr_left (heed h (expr_place key)) false key (in_expr_left (heed h (expr_place key)) false key) p

  in_concise_body_left : (h : Heed) (t : ConciseBody) → ArePlaced (old_in_concise_body t) → ArePlaced (new_in_concise_body h t)
  in_concise_body_left h (ExpressionBody value) p = expr_left (heed h (expr_place value)) false value (in_expr_left (heed h (expr_place value)) false value) p
  in_concise_body_left h (BlockBody body) p = in_function_body_left h body p

  in_for_init_left : (h : Heed) (t : ForInit) → ArePlaced (old_in_for_init t) → ArePlaced (new_in_for_init h t)
  in_for_init_left h NoInit p = tt
  in_for_init_left h (InitDeclaration _ declarators) p = in_declarators_left h declarators p
  in_for_init_left h (InitExpression expression) p = expr_left (heed h (expr_place expression)) false expression (in_expr_left (heed h (expr_place expression)) false expression) p

  in_for_target_left : (h : Heed) (t : ForTarget) → ArePlaced (old_in_for_target t) → ArePlaced (new_in_for_target h t)
  in_for_target_left h (TargetDeclaration _ pattern) p = tt
  in_for_target_left h (TargetExpression target) p = expr_left (heed h (expr_place target)) false target (in_expr_left (heed h (expr_place target)) false target) p

  in_template_part_left : (h : Heed) (t : TemplatePart) → ArePlaced (old_in_template_part t) → ArePlaced (new_in_template_part h t)
  in_template_part_left h (MakeTemplatePart value _) p = expr_left (heed h (expr_place value)) false value (in_expr_left (heed h (expr_place value)) false value) p

  in_function_left : (h : Heed) (t : Function) → ArePlaced (old_in_function t) → ArePlaced (new_in_function h t)
  in_function_left h (MakeFunction _ params body) p = both (new_params h params) (new_function_body h body) (in_params_left h params (first (old_params params) (old_function_body body) p)) (in_function_body_left h body (second (old_params params) (old_function_body body) p))

  in_function_body_left : (h : Heed) (t : FunctionBody) → ArePlaced (old_in_function_body t) → ArePlaced (new_in_function_body h t)
  in_function_body_left h (MakeFunctionBody _ statements) p = in_stmts_left h statements p
  in_function_body_left h (EnteredBody _ body) p = in_function_body_left h body p

  in_catch_left : (h : Heed) (t : Catch) → ArePlaced (old_in_catch t) → ArePlaced (new_in_catch h t)
  in_catch_left h (MakeCatch none_pattern statements) p = in_stmts_left h statements p
  in_catch_left h (MakeCatch (some_pattern x) statements) p = in_stmts_left h statements p

  in_case_left : (h : Heed) (t : Case) → ArePlaced (old_in_case t) → ArePlaced (new_in_case h t)
  in_case_left h (MakeCase _ test statements) p = both (new_expr_if h test) (new_stmts h statements) (in_expr_if_left h test (first (old_expr_if test) (old_stmts statements) p)) (in_stmts_left h statements (second (old_expr_if test) (old_stmts statements) p))
  in_case_left h (EnteredCase _ x) p = in_case_left (heed h (case_place x)) x p

  in_param_left : (h : Heed) (t : Param) → ArePlaced (old_in_param t) → ArePlaced (new_in_param h t)
  in_param_left h (MakeParam _ pattern default) p = in_expr_if_left h default p

  in_declarator_left : (h : Heed) (t : Declarator) → ArePlaced (old_in_declarator t) → ArePlaced (new_in_declarator h t)
  in_declarator_left h (MakeDeclarator _ pattern initializer) p = in_expr_if_left h initializer p

  in_property_left : (h : Heed) (t : Property) → ArePlaced (old_in_property t) → ArePlaced (new_in_property h t)
  in_property_left h (Shorthand _ _) p = tt
  in_property_left h (KeyValue _ key value) p = both (new_property_key h key) (new_expr (heed h (expr_place value)) false value) (in_property_key_left h key (first (old_property_key key) (old_expr false value) p)) (expr_left (heed h (expr_place value)) false value (in_expr_left (heed h (expr_place value)) false value) (second (old_property_key key) (old_expr false value) p))
  in_property_left h (Method _ key function) p = both (new_property_key h key) (new_function h function) (in_property_key_left h key (first (old_property_key key) (old_function function) p)) (in_function_left h function (second (old_property_key key) (old_function function) p))

  in_expr_if_left : (h : Heed) (t : MaybeExpr) → ArePlaced (old_in_expr_if t) → ArePlaced (new_in_expr_if h t)
  in_expr_if_left h none_expr p = tt
  in_expr_if_left h (some_expr x) p = expr_left (heed h (expr_place x)) false x (in_expr_left (heed h (expr_place x)) false x) p

  in_stmt_if_left : (h : Heed) (t : MaybeStmt) → ArePlaced (old_in_stmt_if t) → ArePlaced (new_in_stmt_if h t)
  in_stmt_if_left h none_stmt p = tt
  in_stmt_if_left h (some_stmt x) p = stmt_left (heed h (stmt_place x)) x (in_stmt_left (heed h (stmt_place x)) x) p
  in_stmt_if_left h (entered_none _) p = tt

  in_exprs_left : (h : Heed) (t : Exprs) → ArePlaced (old_in_exprs t) → ArePlaced (new_in_exprs h t)
  in_exprs_left h no_expr p = tt
  in_exprs_left h (more_expr x xs) p = both (new_expr (heed h (expr_place x)) false x) (new_exprs h xs) (expr_left (heed h (expr_place x)) false x (in_expr_left (heed h (expr_place x)) false x) (first (old_expr false x) (old_exprs xs) p)) (in_exprs_left h xs (second (old_expr false x) (old_exprs xs) p))

  in_template_parts_left : (h : Heed) (t : TemplateParts) → ArePlaced (old_in_template_parts t) → ArePlaced (new_in_template_parts h t)
  in_template_parts_left h no_template_part p = tt
  in_template_parts_left h (more_template_part x xs) p = both (new_template_part h x) (new_template_parts h xs) (in_template_part_left h x (first (old_template_part x) (old_template_parts xs) p)) (in_template_parts_left h xs (second (old_template_part x) (old_template_parts xs) p))

  in_properties_left : (h : Heed) (t : Properties) → ArePlaced (old_in_properties t) → ArePlaced (new_in_properties h t)
  in_properties_left h no_property p = tt
  in_properties_left h (more_property x xs) p = both (new_property (heed h (property_place x)) x) (new_properties h xs) (property_left (heed h (property_place x)) x (in_property_left (heed h (property_place x)) x) (first (old_property x) (old_properties xs) p)) (in_properties_left h xs (second (old_property x) (old_properties xs) p))

  in_params_left : (h : Heed) (t : Params) → ArePlaced (old_in_params t) → ArePlaced (new_in_params h t)
  in_params_left h no_param p = tt
  in_params_left h (more_param x xs) p = both (new_param (heed h (param_place x)) x) (new_params h xs) (param_left (heed h (param_place x)) x (in_param_left (heed h (param_place x)) x) (first (old_param x) (old_params xs) p)) (in_params_left h xs (second (old_param x) (old_params xs) p))

  pub in_stmts_left : (h : Heed) (t : Stmts) → ArePlaced (old_in_stmts t) → ArePlaced (new_in_stmts h t)
  in_stmts_left h no_stmt p = tt
  in_stmts_left h (more_stmt x xs) p = both (new_stmt (heed h (stmt_place x)) x) (new_stmts h xs) (stmt_left (heed h (stmt_place x)) x (in_stmt_left (heed h (stmt_place x)) x) (first (old_stmt x) (old_stmts xs) p)) (in_stmts_left h xs (second (old_stmt x) (old_stmts xs) p))

  in_declarators_left : (h : Heed) (t : Declarators) → ArePlaced (old_in_declarators t) → ArePlaced (new_in_declarators h t)
  in_declarators_left h no_declarator p = tt
  in_declarators_left h (more_declarator x xs) p = both (new_declarator (heed h (declarator_place x)) x) (new_declarators h xs) (declarator_left (heed h (declarator_place x)) x (in_declarator_left (heed h (declarator_place x)) x) (first (old_declarator x) (old_declarators xs) p)) (in_declarators_left h xs (second (old_declarator x) (old_declarators xs) p))

  in_cases_left : (h : Heed) (t : Cases) → ArePlaced (old_in_cases t) → ArePlaced (new_in_cases h t)
  in_cases_left h no_case p = tt
  in_cases_left h (more_case x xs) p = both (new_case (heed h (case_place x)) x) (new_cases h xs) (in_case_left (heed h (case_place x)) x (first (old_case x) (old_cases xs) p)) (in_cases_left h xs (second (old_case x) (old_cases xs) p))
