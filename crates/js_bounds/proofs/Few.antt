-- The counts in a tree are no more than it is charged for its text; and the names of its functions are texts.
use Rattle.std.proofs.Common.{◌≡◌, ℕ, suc, ◌+◌, ◌≤◌, Bool, true, false, List, [], ◌∷◌, ◌++◌, length, Option, Some, None, arith}
use Rattle.std.specs.Str.{IsUtf8}
use Rattle.std.proofs.lemmas.Str.{IsUtf8-nil}
use Rattle.js_terms.specs.declared.construct.BranchKind.{BranchKind}
use Rattle.js_terms.specs.declared.construct.BranchKind.TheVariants as branch_kind
use Rattle.js_terms.specs.declared.construct.Construct.{Construct}
use Rattle.js_tree.specs.declared.hint.Hint.TheVariants as hint
use Rattle.js_terms.specs.declared.place.Loc.{Loc}
use Rattle.js_terms.specs.declared.words.Identifier.{Identifier}
use Rattle.js_tree.specs.Hints.{Heed, Ignored, Heeding, heed, heed_arm, heeded_place, path_in, case_paths, leaf_paths}
use Rattle.js_tree.specs.Places.{bare_place, expr_place, stmt_place, stmt_if_place, property_place, declarator_place, case_place, body_place, concise_place}
use Rattle.js_tree.specs.Plain.{Expr, IdentifierReference, This, NullLiteral, BooleanLiteral, NumericLiteral, StringLiteral, ArrayLiteral, ObjectLiteral, FunctionExpression, ArrowFunction, RegularExpressionLiteral, TemplateLiteral, Parenthesized, NamedMember, ComputedMember, New, Call, PostfixUpdate, PrefixUpdate, Unary, Binary, Logical, Conditional, Assignment, Comma, Entered}
use Rattle.js_tree.specs.Plain.{Stmt, Directive, Block, VariableDeclaration, Empty, Expression, If, DoWhile, While, For, ForIn, ForOf, Continue, Break, Return, Switch, Labelled, Throw, TryCatch, TryFinally, TryCatchFinally, Debugger, FunctionDeclaration, EnteredStmt}
use Rattle.js_tree.specs.Plain.{Property, Shorthand, KeyValue, Method}
use Rattle.js_tree.specs.Plain.{PropertyKey, NameKey, StringKey, NumberKey, ComputedKey}
use Rattle.js_tree.specs.Plain.{ConciseBody, ExpressionBody, BlockBody}
use Rattle.js_tree.specs.Plain.{ForInit, NoInit, InitDeclaration, InitExpression}
use Rattle.js_tree.specs.Plain.{ForTarget, TargetDeclaration, TargetExpression}
use Rattle.js_tree.specs.Plain.{MakeTemplatePart}
use Rattle.js_tree.specs.Plain.{Function, MakeFunction}
use Rattle.js_tree.specs.Plain.{FunctionBody, MakeFunctionBody, EnteredBody}
use Rattle.js_tree.specs.Plain.{MakeParam}
use Rattle.js_tree.specs.Plain.{Declarator, MakeDeclarator}
use Rattle.js_tree.specs.Plain.{MakeCase, EnteredCase}
use Rattle.js_tree.specs.Plain.{Catch, MakeCatch}
use Rattle.js_tree.specs.Plain.{none_pattern, some_pattern}
use Rattle.js_tree.specs.Plain.{MaybeExpr, none_expr, some_expr}
use Rattle.js_tree.specs.Plain.{MaybeStmt, none_stmt, some_stmt, entered_none}
use Rattle.js_tree.specs.Plain.{TemplateParts, no_template_part, more_template_part}
use Rattle.js_tree.specs.Plain.{Properties, no_property, more_property}
use Rattle.js_tree.specs.Plain.{Params, no_param, more_param}
use Rattle.js_tree.specs.Plain.{Exprs, no_expr, more_expr}
use Rattle.js_tree.specs.Plain.{Stmts, no_stmt, more_stmt}
use Rattle.js_tree.specs.Plain.{Declarators, no_declarator, more_declarator}
use Rattle.js_tree.specs.Plain.{Cases, no_case, more_case}
use Rattle.js_walk.specs.Walk.{within_expr, within_stmt, within_property_key, within_concise_body, within_for_init, within_for_target, within_function, within_function_body, within_catch, within_declarator, within_property, within_expr_if, within_stmt_if, within_exprs, within_template_parts, within_properties, within_params, within_stmts, within_declarators, within_cases}
use Rattle.js_walk.specs.Constructs.{told, tell, tell_expr, tell_stmt, own_construct, own_stmt, own_expr, own_property, own_declarator, own_concise_body, counted, branch, written_name, declared_place, function_at, counted_function, expr_paths, if_paths}
use Rattle.js_reading.specs.Makes.{is_const}
use Rattle.js_layout.specs.Printable.{IsNameIf, IsExpr, AreExprs, AreParts, AreProperties, IsProperty, IsKey, IsFunction, IsBody, IsConcise, AreParams, IsMaybe, AreStmts, IsStmt, IsElse, HasDeclarators, AreDeclarators, IsDeclarator, IsInit, IsTarget, AreCases, IsCatch}
use Rattle.js_layout.proofs.ShortSizes.{size_expr, sizes, size_parts, size_properties, size_property, size_key, size_function, size_body, size_concise, size_params, size_stmt, size_stmts, size_maybe, size_else, size_declarators, size_declarator, size_init, size_target, size_cases, size_catch}
use Rattle.js_bounds.specs.Bounds.{weights, AreNamed}

-- ---- lists

weights_both : (xs ys : List Construct) → weights (xs ++ ys) ≡ weights xs + weights ys
weights_both [] ys = omega arith
weights_both (x ∷ xs) ys = omega (arith, weights_both xs ys)

length_both : {T : Type 0} (xs ys : List T) → length (xs ++ ys) ≡ length xs + length ys
length_both [] ys = omega arith
length_both (x ∷ xs) ys = omega (arith, length_both xs ys)

named_both : (xs ys : List Construct) → AreNamed xs → AreNamed ys → AreNamed (xs ++ ys)
named_both [] ys h k = k
named_both (x ∷ xs) ys h k = (h.0, named_both xs ys h.1 k)

-- constructs have at most so many counts, and there is room for more; and names are texts
pub record Fits (more most : ℕ) (xs : List Construct) : Type 0 where
  pub few : weights xs + more ≤ most
  pub named : AreNamed xs

both : {i j m n : ℕ} {xs ys : List Construct} → Fits i m xs → Fits j n ys → Fits (i + j) (m + n) (xs ++ ys)
both {xs = xs} {ys = ys} a b = record { few = omega (arith, weights_both xs ys, a.few, b.few); named = named_both xs ys a.named b.named }

grown : {i j m n : ℕ} {xs : List Construct} → Fits i m xs → m + j ≤ n + i → Fits j n xs
grown a le = record { few = omega (arith, le, a.few); named = a.named }

none : {n : ℕ} → Fits 0 n []
none = record { few = omega arith; named = tt }

-- ---- what is counted of a node

counted_fits : (l : Option Loc) → Fits 0 1 (counted l)
counted_fits None = none
counted_fits (Some l) = record { few = omega arith; named = (tt, tt) }

function_at_fits : (name : List ℕ) (d b : Option Loc) → IsUtf8 name → Fits 0 1 (function_at name d b)
function_at_fits name None b h = none
function_at_fits name (Some d) None h = none
function_at_fits name (Some d) (Some b) h = record { few = omega arith; named = (h, tt) }

-- a name is none, or a text
abbrev IsText : Option Identifier → Type 0
IsText None = Unit {0}
IsText (Some x) = IsUtf8 x.name

name_text : (x : Option Identifier) → IsText x → IsUtf8 (written_name x)
name_text None h = IsUtf8-nil
name_text (Some x) h = h

name_if : (x : Option Identifier) → IsNameIf x → IsText x
name_if None h = tt
name_if (Some x) h = h.token.utf8

function_fits : (l : Option Loc) (x : Option Identifier) (b : Option Loc) → IsText x → Fits 0 1 (counted_function l x b)
function_fits None x b h = none
function_fits (Some l) x b h = function_at_fits (written_name x) (declared_place l.start x) b (name_text x h)

branch_fits : (kind : BranchKind) (l : Option Loc) (paths : List (Option Loc)) (n : ℕ) → length paths ≤ n → Fits 0 (1 + n) (branch kind l paths)
branch_fits kind None paths n h = none
branch_fits kind (Some l) paths n h = record { few = omega (arith, h); named = (tt, tt) }

path_one : (h : Heed) (l : Option Loc) → length (path_in h l) ≤ 1
path_one Ignored l = omega arith
path_one (Heeding hints) l = omega arith

if_two : (h : Heed) (l : Option Loc) (s : Stmt) (r : MaybeStmt) → length (if_paths h l s r) ≤ 2
if_two h l s r =
    let x : Heed = heed (heed_arm hint.If h l) (stmt_place s) in
    let y : Heed = heed (heed_arm hint.Else h l) (stmt_if_place r) in
    omega (arith, length_both (path_in x l) (path_in y (stmt_if_place r)), path_one x l, path_one y (stmt_if_place r))

abbrev how_many : Cases → ℕ
how_many no_case = 0
how_many (more_case c cs) = suc (how_many cs)

cases_few : (h : Heed) (cs : Cases) → length (case_paths h cs) ≤ how_many cs
cases_few h no_case = omega arith
cases_few h (more_case c cs) =
    omega (arith, length_both (path_in (heed h (case_place c)) (case_place c)) (case_paths h cs), path_one (heed h (case_place c)) (case_place c), cases_few h cs)

-- the leaves of a chain of logical operators
abbrev leaves : Expr → ℕ
leaves (Logical l o e f) = leaves e + leaves f
leaves (Parenthesized l e) = leaves e
leaves (Entered m e) = leaves e
leaves e = 1

leaves_few : (h : Heed) (e : Expr) → length (leaf_paths h e) ≤ leaves e
leaves_few h (Logical l o e f) =
    let x : Heed = heed h (expr_place e) in
    let y : Heed = heed h (expr_place f) in
    omega (arith, length_both (leaf_paths x e) (leaf_paths y f), leaves_few x e, leaves_few y f)
leaves_few h (Parenthesized l e) = leaves_few h e
leaves_few h (Entered m e) = leaves_few h e
leaves_few h e = path_one h (bare_place e)

-- an operand of a chain leaves room for its leaves
abbrev owed : Bool → ℕ → ℕ
owed true n = n
owed false n = 0

owed_most : (chained : Bool) (n : ℕ) → owed chained n ≤ n
owed_most true n = omega arith
owed_most false n = omega arith

two_paths : (h : Heed) (x y : Expr) → length (expr_paths h x ++ expr_paths h y) ≤ 2
two_paths h x y =
    omega (arith, length_both (expr_paths h x) (expr_paths h y), path_one (heed h (expr_place x)) (bare_place x), path_one (heed h (expr_place y)) (bare_place y))

-- ---- the tree

mutual
  expr : (h : Heed) (chained : Bool) (e : Expr) → IsExpr e → Fits (owed chained (leaves e)) (size_expr e) (own_expr h chained e ++ within_expr own_construct tell e (tell_expr h chained e))
  expr h chained (IdentifierReference l w) p = grown (none {n = 0}) (omega (arith, owed_most chained 1))
  expr h chained (This l) p = grown (none {n = 0}) (omega (arith, owed_most chained 1))
  expr h chained (NullLiteral l) p = grown (none {n = 0}) (omega (arith, owed_most chained 1))
  expr h chained (BooleanLiteral l b) p = grown (none {n = 0}) (omega (arith, owed_most chained 1))
  expr h chained (NumericLiteral l w) p = grown (none {n = 0}) (omega (arith, owed_most chained 1))
  expr h chained (StringLiteral l s) p = grown (none {n = 0}) (omega (arith, owed_most chained 1))
  expr h chained (ArrayLiteral l xs) p = grown (exprs h xs p) (omega (arith, owed_most chained 1))
  expr h chained (ObjectLiteral l ps) p = grown (properties h ps p) (omega (arith, owed_most chained 1))
  expr h chained (FunctionExpression l n f) p = grown (both (function_fits (heeded_place h l) n (body_place f) (name_if n p.0)) (function h f p.1)) (omega (arith, owed_most chained 1))
  expr h chained (ArrowFunction l n ps b) p = grown (both (function_fits (heeded_place h l) None (concise_place b) tt) (both (params h ps p.1) (concise h b p.2))) (omega (arith, owed_most chained 1))
  expr h chained (RegularExpressionLiteral l w flags) p = grown (none {n = 0}) (omega (arith, owed_most chained 1))
  expr h chained (TemplateLiteral l s ps) p = grown (parts h ps p.1) (omega (arith, owed_most chained 1))
  expr h chained (Parenthesized l e) p = expr h chained e p
  expr h chained (NamedMember l o w) p = grown (expr (heed h (expr_place o)) false o p.0) (omega (arith, owed_most chained 1))
  expr h chained (ComputedMember l o k) p = grown (both (expr (heed h (expr_place o)) false o p.0) (expr (heed h (expr_place k)) false k p.1)) (omega (arith, owed_most chained 1))
  expr h chained (New l c xs) p = grown (both (expr (heed h (expr_place c)) false c p.0) (exprs h xs p.1)) (omega (arith, owed_most chained 1))
  expr h chained (Call l f xs) p = grown (both (expr (heed h (expr_place f)) false f p.0) (exprs h xs p.1)) (omega (arith, owed_most chained 1))
  expr h chained (PostfixUpdate l o e) p = grown (expr (heed h (expr_place e)) false e p.0) (omega (arith, owed_most chained 1))
  expr h chained (PrefixUpdate l o e) p = grown (expr (heed h (expr_place e)) false e p.0) (omega (arith, owed_most chained 1))
  expr h chained (Unary l o e) p = grown (expr (heed h (expr_place e)) false e p) (omega (arith, owed_most chained 1))
  expr h chained (Binary l o x y) p = grown (both (expr (heed h (expr_place x)) false x p.0) (expr (heed h (expr_place y)) false y p.1)) (omega (arith, owed_most chained 1))
  expr h true (Logical l o x y) p = grown (both (expr (heed h (expr_place x)) true x p.0) (expr (heed h (expr_place y)) true y p.1)) (omega arith)
  expr h false (Logical l o x y) p = grown
      (both (branch_fits branch_kind.Logical (heeded_place h l) (leaf_paths (heed h (expr_place x)) x ++ leaf_paths (heed h (expr_place y)) y) (leaves x + leaves y) (leaves_few h (Logical l o x y)))
      (both (expr (heed h (expr_place x)) true x p.0) (expr (heed h (expr_place y)) true y p.1)))
      (omega arith)
  expr h chained (Conditional l c x y) p = grown
      (both (branch_fits branch_kind.Conditional (heeded_place h l) (expr_paths h x ++ expr_paths h y) 2 (two_paths h x y)) (both (both (expr (heed h (expr_place c)) false c p.0) (expr (heed h (expr_place x)) false x p.1)) (expr (heed h (expr_place y)) false y p.2)))
      (omega (arith, owed_most chained 1))
  expr h chained (Assignment l o x y) p = grown (both (expr (heed h (expr_place x)) false x p.0) (expr (heed h (expr_place y)) false y p.2)) (omega (arith, owed_most chained 1))
  expr h chained (Comma l x y) p = grown (both (expr (heed h (expr_place x)) false x p.0) (expr (heed h (expr_place y)) false y p.1)) (omega (arith, owed_most chained 1))
  expr h chained (Entered m e) p = absurd p

  exprs : (h : Heed) (xs : Exprs) → AreExprs xs → Fits 0 (sizes xs) (within_exprs own_construct tell xs (told h))
  exprs h no_expr p = none
  exprs h (more_expr e es) p = grown (both (expr (heed h (expr_place e)) false e p.0) (exprs h es p.1)) (omega arith)

  parts : (h : Heed) (ps : TemplateParts) → AreParts ps → Fits 0 (size_parts ps) (within_template_parts own_construct tell ps (told h))
  parts h no_template_part p = none
  parts h (more_template_part (MakeTemplatePart e s) ps) p = grown (both (expr (heed h (expr_place e)) false e p.0) (parts h ps p.2)) (omega arith)

  properties : (h : Heed) (ps : Properties) → AreProperties ps → Fits 0 (size_properties ps) (within_properties own_construct tell ps (told h))
  properties h no_property p = none
  properties h (more_property x ps) p = grown (both (property (heed h (property_place x)) x p.0) (properties h ps p.1)) (omega arith)

  property : (h : Heed) (x : Property) → IsProperty x → Fits 0 (size_property x) (own_property h x ++ within_property own_construct tell x (told h))
  property h (Shorthand l w) p = none
  property h (KeyValue l k e) p = grown (both (key h k p.0) (expr (heed h (expr_place e)) false e p.2)) (omega arith)
  property h (Method l k f) p = grown (both (function_fits (heeded_place h l) None (body_place f) tt) (both (key h k p.0) (function h f p.1))) (omega arith)

  key : (h : Heed) (k : PropertyKey) → IsKey k → Fits 0 (size_key k) (within_property_key own_construct tell k (told h))
  key h (NameKey w) p = none
  key h (StringKey s) p = none
  key h (NumberKey w) p = none
  key h (ComputedKey e) p = grown (expr (heed h (expr_place e)) false e p) (omega arith)

  -- ---- functions

  function : (h : Heed) (f : Function) → IsFunction f → Fits 1 (size_function f) (within_function own_construct tell f (told h))
  function h (MakeFunction n ps b) p = grown (both (params h ps p.1) (body h b p.2)) (omega arith)

  body : (h : Heed) (b : FunctionBody) → IsBody b → Fits 0 (size_body b) (within_function_body own_construct tell b (told h))
  body h (MakeFunctionBody l ss) p = grown (stmts h true ss p) (omega arith)
  body h (EnteredBody m b) p = absurd p

  concise : (h : Heed) (b : ConciseBody) → IsConcise b → Fits 0 (size_concise b + 1) (own_concise_body h b ++ within_concise_body own_construct tell b (told h))
  concise h (ExpressionBody e) p = grown (both (counted_fits (heeded_place (heed h (expr_place e)) (bare_place e))) (expr (heed h (expr_place e)) false e p)) (omega arith)
  concise h (BlockBody b) p = grown (body h b p) (omega arith)

  params : (h : Heed) (ps : Params) → AreParams ps → Fits 0 (size_params ps) (within_params own_construct tell ps (told h))
  params h no_param p = none
  params h (more_param (MakeParam l x none_expr) ps) p = grown (params h ps p.2) (omega arith)
  params h (more_param (MakeParam l x (some_expr e)) ps) p = grown
      (both (both (branch_fits branch_kind.Default (heeded_place (heed h l) l) (expr_paths (heed h l) e) 1 (path_one (heed (heed h l) (expr_place e)) (bare_place e))) (expr (heed (heed h l) (expr_place e)) false e p.1)) (params h ps p.2))
      (omega arith)

  -- ---- statements

  stmt : (h : Heed) (s : Stmt) → IsStmt s → Fits 0 (size_stmt s) (own_stmt h s ++ within_stmt own_construct tell s (tell_stmt h s))
  stmt h (Directive l s) p = absurd p
  stmt h (Block l ss) p = grown (stmts h false ss p) (omega arith)
  stmt h (VariableDeclaration l k ds) p = grown (variables h (is_const k) ds p) (omega arith)
  stmt h (Empty l) p = none
  stmt h (Expression l e) p = grown (both (counted_fits (heeded_place h l)) (expr (heed h (expr_place e)) false e p)) (omega arith)
  stmt h (If l c s r) p = grown
      (both (both (counted_fits (heeded_place h l)) (branch_fits branch_kind.If (heeded_place h l) (if_paths h l s r) 2 (if_two h l s r)))
      (both (both (expr (heed h (expr_place c)) false c p.0) (stmt (heed (heed_arm hint.If h l) (stmt_place s)) s p.1)) (other (heed_arm hint.Else h l) s r p.3)))
      (omega arith)
  stmt h (DoWhile l s c) p = grown (both (counted_fits (heeded_place h l)) (both (stmt (heed h (stmt_place s)) s p.0) (expr (heed h (expr_place c)) false c p.2))) (omega arith)
  stmt h (While l c s) p = grown (both (counted_fits (heeded_place h l)) (both (expr (heed h (expr_place c)) false c p.0) (stmt (heed h (stmt_place s)) s p.1))) (omega arith)
  stmt h (For l x y z s) p = grown (both (counted_fits (heeded_place h l)) (both (both (both (init h x p.0) (maybe h y p.1)) (maybe h z p.2)) (stmt (heed h (stmt_place s)) s p.3))) (omega arith)
  stmt h (ForIn l x e s) p = grown (both (counted_fits (heeded_place h l)) (both (both (target h x p.0) (expr (heed h (expr_place e)) false e p.1)) (stmt (heed h (stmt_place s)) s p.2))) (omega arith)
  stmt h (ForOf l x e s) p = grown (both (counted_fits (heeded_place h l)) (both (both (target h x p.0) (expr (heed h (expr_place e)) false e p.2)) (stmt (heed h (stmt_place s)) s p.3))) (omega arith)
  stmt h (Continue l x) p = grown (both (counted_fits (heeded_place h l)) (none {n = 0})) (omega arith)
  stmt h (Break l x) p = grown (both (counted_fits (heeded_place h l)) (none {n = 0})) (omega arith)
  stmt h (Return l e) p = grown (both (counted_fits (heeded_place h l)) (maybe h e p)) (omega arith)
  stmt h (Switch l e cs) p = grown
      (both (both (counted_fits (heeded_place h l)) (branch_fits branch_kind.Switch (heeded_place h l) (case_paths h cs) (how_many cs) (cases_few h cs))) (both (expr (heed h (expr_place e)) false e p.0) (cases h false cs p.1)))
      (omega arith)
  stmt h (Labelled l x s) p = grown (both (counted_fits (heeded_place h l)) (stmt (heed h (stmt_place s)) s p.1)) (omega arith)
  stmt h (Throw l e) p = grown (both (counted_fits (heeded_place h l)) (expr (heed h (expr_place e)) false e p)) (omega arith)
  stmt h (TryCatch l b c) p = grown (both (counted_fits (heeded_place h l)) (both (stmts h false b p.0) (catch h c p.1))) (omega arith)
  stmt h (TryFinally l b f) p = grown (both (counted_fits (heeded_place h l)) (both (stmts h false b p.0) (stmts h false f p.1))) (omega arith)
  stmt h (TryCatchFinally l b c f) p = grown (both (counted_fits (heeded_place h l)) (both (both (stmts h false b p.0) (catch h c p.1)) (stmts h false f p.2))) (omega arith)
  stmt h (Debugger l) p = grown (both (counted_fits (heeded_place h l)) (none {n = 0})) (omega arith)
  stmt h (FunctionDeclaration l x f) p = grown (both (function_fits (heeded_place h l) (Some x) (body_place f) p.0.token.utf8) (function h f p.1)) (omega arith)
  stmt h (EnteredStmt m s) p = absurd p

  pub stmts : (h : Heed) (directed : Bool) (ss : Stmts) → AreStmts directed ss → Fits 0 (size_stmts ss) (within_stmts own_construct tell ss (told h))
  stmts h directed no_stmt p = none
  stmts h true (more_stmt (Directive l s) ss) p = grown (stmts h true ss p.1) (omega arith)
  stmts h true (more_stmt s ss) p = both (stmt (heed h (stmt_place s)) s p.0) (stmts h false ss p.1)
  stmts h false (more_stmt s ss) p = both (stmt (heed h (stmt_place s)) s p.0) (stmts h false ss p.1)

  maybe : (h : Heed) (x : MaybeExpr) → IsMaybe x → Fits 0 (size_maybe x) (within_expr_if own_construct tell x (told h))
  maybe h none_expr p = none
  maybe h (some_expr e) p = expr (heed h (expr_place e)) false e p

  other : (h : Heed) (s : Stmt) (r : MaybeStmt) → IsElse s r → Fits 0 (size_else r) (within_stmt_if own_construct tell r (told h))
  other h s none_stmt p = none
  other h s (some_stmt r) p = grown (stmt (heed h (stmt_place r)) r p.0) (omega arith)
  other h s (entered_none m) p = absurd p

  variables : (h : Heed) (due : Bool) (ds : Declarators) → HasDeclarators due ds → Fits 0 (size_declarators ds) (within_declarators own_construct tell ds (told h))
  variables h due no_declarator p = absurd p
  variables h due (more_declarator d ds) p = grown (both (declarator (heed h (declarator_place d)) due d p.0) (declarators h due ds p.1)) (omega arith)

  declarators : (h : Heed) (due : Bool) (ds : Declarators) → AreDeclarators due ds → Fits 0 (size_declarators ds) (within_declarators own_construct tell ds (told h))
  declarators h due no_declarator p = none
  declarators h due (more_declarator d ds) p = grown (both (declarator (heed h (declarator_place d)) due d p.0) (declarators h due ds p.1)) (omega arith)

  declarator : (h : Heed) (due : Bool) (d : Declarator) → IsDeclarator due d → Fits 0 (size_declarator d) (own_declarator h d ++ within_declarator own_construct tell d (told h))
  declarator h true (MakeDeclarator l x none_expr) p = absurd p
  declarator h false (MakeDeclarator l x none_expr) p = none
  declarator h true (MakeDeclarator l x (some_expr e)) p = grown (both (counted_fits (heeded_place (heed h (expr_place e)) (bare_place e))) (expr (heed h (expr_place e)) false e p.1)) (omega arith)
  declarator h false (MakeDeclarator l x (some_expr e)) p = grown (both (counted_fits (heeded_place (heed h (expr_place e)) (bare_place e))) (expr (heed h (expr_place e)) false e p.1)) (omega arith)

  init : (h : Heed) (x : ForInit) → IsInit x → Fits 0 (size_init x) (within_for_init own_construct tell x (told h))
  init h NoInit p = none
  init h (InitDeclaration k ds) p = grown (variables h (is_const k) ds p) (omega arith)
  init h (InitExpression e) p = expr (heed h (expr_place e)) false e p

  target : (h : Heed) (x : ForTarget) → IsTarget x → Fits 0 (size_target x) (within_for_target own_construct tell x (told h))
  target h (TargetDeclaration k x) p = none
  target h (TargetExpression e) p = expr (heed h (expr_place e)) false e p.0

  cases : (h : Heed) (defaulted : Bool) (cs : Cases) → AreCases defaulted cs → Fits (how_many cs) (size_cases cs) (within_cases own_construct tell cs (told h))
  cases h defaulted no_case p = none
  cases h true (more_case (MakeCase l none_expr ss) cs) p = absurd p
  cases h false (more_case (MakeCase l none_expr ss) cs) p = grown (both (stmts (heed h l) false ss p.0) (cases h true cs p.1)) (omega arith)
  cases h true (more_case (MakeCase l (some_expr e) ss) cs) p = grown (both (both (expr (heed (heed h l) (expr_place e)) false e p.0) (stmts (heed h l) false ss p.1)) (cases h true cs p.2)) (omega arith)
  cases h false (more_case (MakeCase l (some_expr e) ss) cs) p = grown (both (both (expr (heed (heed h l) (expr_place e)) false e p.0) (stmts (heed h l) false ss p.1)) (cases h false cs p.2)) (omega arith)
  cases h true (more_case (EnteredCase m c) cs) p = absurd p
  cases h false (more_case (EnteredCase m c) cs) p = absurd p

  catch : (h : Heed) (c : Catch) → IsCatch c → Fits 0 (size_catch c) (within_catch own_construct tell c (told h))
  catch h (MakeCatch none_pattern ss) p = grown (stmts h false ss p.1) (omega arith)
  catch h (MakeCatch (some_pattern x) ss) p = grown (stmts h false ss p.1) (omega arith)
