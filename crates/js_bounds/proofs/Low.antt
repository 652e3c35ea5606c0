-- What a production makes of parts that stand at low lines and columns, with what is counted in them, stands so too.
use Rattle.std.proofs.Common.{arith, ℕ, zero, suc, Bool, true, false, not, ◌&&◌, List, [], ◌∷◌, ◌++◌, Option, Some, None, if◌then◌else◌}
use Rattle.js_terms.specs.declared.place.Loc.{Loc}
use Rattle.js_terms.specs.declared.words.Identifier.{Identifier}
use Rattle.js_terms.specs.declared.words.Spelled.{Spelled}
use Rattle.js_terms.specs.declared.operators.VariableKind.{VariableKind}
use Rattle.js_terms.specs.declared.operators.LogicalOperator.{LogicalOperator}
use Rattle.js_terms.specs.declared.operators.LogicalOperator.TheVariants as logic
use Rattle.js_terms.specs.declared.operators.AssignmentOperator.{AssignmentOperator}
use Rattle.js_terms.specs.declared.operators.AssignmentOperator.TheVariants as assign
use Rattle.js_terms.specs.declared.construct.Construct.{Construct}
use Rattle.js_tree.specs.Plain.{Expr, Exprs, no_expr, more_expr, Stmt, Stmts, more_stmt, MaybeExpr, some_expr}
use Rattle.js_tree.specs.Plain as tree
use Rattle.js_tree.specs.Places.{bare_place, stmt_place, case_place, braced_place, concise_place}
use Rattle.js_walk.specs.Part as part
use Rattle.js_walk.specs.Walk.{visit, within_expr, within_exprs, within_expr_if, within_stmts, within_property, within_property_key, within_properties, within_param, within_params, within_function_body, within_concise_body, within_template_part, within_template_parts, within_declarators, within_case, within_cases, within_for_init}
use Rattle.js_walk.specs.Constructs.{one_column, counted, function_at, declared_place, written_name, counted_function}
use Rattle.js_reading.proofs.placed.Unhinted.{own_construct, chained_in, case_places, leaf_places, constructs_expr, constructs_stmt, constructs_declarator}
use Rattle.js_reading.specs.Level.{assignment}
use Rattle.js_reading.specs.Spans.{through}
use Rattle.js_bounds.specs.Bounds.{IsLow, IsLowIf, ArePathsLow, AreLow}
use Rattle.js_reading.specs.Slots.{Piece, AnExpr, AStmt, TheStmts, TheExprs, AWord, AKey, AText, APlace, AKind, Missing, IsComputed, IsMethod, IsIn, IsOf}
use Rattle.js_reading.specs.declared.form.Form.{Form}
use Rattle.js_reading.specs.declared.form.Form.TheVariants as form
use Rattle.js_reading.specs.Kinds.{is_keyword}
use Rattle.js_reading.specs.Makes.{is_target, is_async, is_and_or, with_directives, comma_of, loc_of, bound, identifier, with_param, function_of, param_of, one_more_param, params_of, concise, arrow_of, expression_of, declaration_of, one_more_declarator, declarators_of, is_const, variables_of, maybe, for_with, for_of, for_declared, for_parts, is_proto, one_more_property, method_param, method_of, method_with, after_key, property_of, then_properties, properties_of, object_of, one_more_part, template_parts, template_of, one_more_case, cases_of, switch_of, length_of, build}

-- ---- lists

pub both : (xs ys : List Construct) → AreLow xs → AreLow ys → AreLow (xs ++ ys)
both [] ys h k = k
both (x ∷ xs) ys h k = (h.0, both xs ys h.1 k)

pub second : (xs ys : List Construct) → AreLow (xs ++ ys) → AreLow ys
second [] ys h = h
second (x ∷ xs) ys h = second xs ys h.1

pub both_paths : (xs ys : List (Option Loc)) → ArePathsLow xs → ArePathsLow ys → ArePathsLow (xs ++ ys)
both_paths [] ys h k = k
both_paths (x ∷ xs) ys h k = (h.0, both_paths xs ys h.1 k)

-- ---- what is counted in nodes and in lists of them

-- in an expression, where it is said whether it is an operand of a chain
abbrev pub in_expr : Bool → Expr → List Construct
in_expr chained e = visit own_construct chained_in chained (part.AnExpr e) (within_expr own_construct chained_in e)

abbrev pub in_exprs : Exprs → List Construct
in_exprs xs = within_exprs own_construct chained_in xs false

abbrev pub in_expr_if : MaybeExpr → List Construct
in_expr_if x = within_expr_if own_construct chained_in x false

abbrev pub in_stmts : Stmts → List Construct
in_stmts ss = within_stmts own_construct chained_in ss false

abbrev pub in_key : tree.PropertyKey → List Construct
in_key k = within_property_key own_construct chained_in k false

abbrev pub in_property : tree.Property → List Construct
in_property p = visit own_construct chained_in false (part.AProperty p) (within_property own_construct chained_in p)

abbrev pub in_properties : tree.Properties → List Construct
in_properties ps = within_properties own_construct chained_in ps false

abbrev pub in_param : tree.Param → List Construct
in_param p = visit own_construct chained_in false (part.AParam p) (within_param own_construct chained_in p)

abbrev pub in_params : tree.Params → List Construct
in_params ps = within_params own_construct chained_in ps false

abbrev pub in_body : tree.FunctionBody → List Construct
in_body body = within_function_body own_construct chained_in body false

abbrev pub in_concise : tree.ConciseBody → List Construct
in_concise body = visit own_construct chained_in false (part.AConciseBody body) (within_concise_body own_construct chained_in body)

abbrev pub in_part : tree.TemplatePart → List Construct
in_part p = within_template_part own_construct chained_in p false

abbrev pub in_parts : tree.TemplateParts → List Construct
in_parts ps = within_template_parts own_construct chained_in ps false

abbrev pub in_declarators : tree.Declarators → List Construct
in_declarators ds = within_declarators own_construct chained_in ds false

abbrev pub in_case : tree.Case → List Construct
in_case c = within_case own_construct chained_in c false

abbrev pub in_cases : tree.Cases → List Construct
in_cases cs = within_cases own_construct chained_in cs false

abbrev pub in_init : tree.ForInit → List Construct
in_init x = within_for_init own_construct chained_in x false

-- ---- where they are low

abbrev pub LowParam : Option tree.Param → Type 0
LowParam None = Unit {0}
LowParam (Some p) = AreLow (in_param p)

-- an expression: its places, those of the leaves of its chain, what is in it, and that as a parameter, where it may be one
pub record LowExpr (e : Expr) : Type 0 where
  pub own : IsLowIf (loc_of e)
  pub bare : IsLowIf (bare_place e)
  pub leaves : ArePathsLow (leaf_places e)
  pub inside : (chained : Bool) → AreLow (in_expr chained e)
  pub parameter : LowParam (param_of e)

abbrev pub LowExprs : Exprs → Type 0
LowExprs no_expr = Unit {0}
LowExprs (more_expr e es) = LowExpr e × LowExprs es

abbrev pub LowStmt : Stmt → Type 0
LowStmt s = IsLowIf (stmt_place s) × AreLow (constructs_stmt s)

abbrev pub LowPiece : Piece → Type 0
LowPiece (AnExpr i e) = LowExpr e
LowPiece (AStmt s) = LowStmt s
LowPiece (TheStmts ss) = AreLow (in_stmts ss)
LowPiece (TheExprs b xs) = LowExprs xs
LowPiece (AWord w l) = IsLow l
LowPiece (AKey k l) = AreLow (in_key k) × IsLow l
LowPiece (APlace l) = IsLow l
LowPiece p = Unit {0}

abbrev pub LowPieces : List Piece → Type 0
LowPieces [] = Unit {0}
LowPieces (p ∷ ps) = LowPiece p × LowPieces ps

abbrev pub LowIf : Option Piece → Type 0
LowIf None = Unit {0}
LowIf (Some p) = LowPiece p

exprs_inside : (xs : Exprs) → LowExprs xs → AreLow (in_exprs xs)
exprs_inside no_expr h = tt
exprs_inside (more_expr x xs) h = both (constructs_expr x) (in_exprs xs) (h.0.inside false) (exprs_inside xs h.1)

-- the first column of a part
column_low : (l : Loc) → IsLow l → IsLow (one_column l.start)
column_low l at = (at.0, (at.0.0, omega arith))

-- ---- what is counted of a node

counted_low : (l : Option Loc) → IsLowIf l → AreLow (counted l)
counted_low None h = tt
counted_low (Some l) h = (h, tt)

function_low : (name : List ℕ) (d b : Option Loc) → IsLowIf d → IsLowIf b → AreLow (function_at name d b)
function_low name None b h k = tt
function_low name (Some d) None h k = tt
function_low name (Some d) (Some b) h k = ((h, k), tt)

-- ---- expressions

pub node : {e : Expr} → IsLowIf (loc_of e) → IsLowIf (bare_place e) → ArePathsLow (leaf_places e) → LowParam (param_of e) → ((chained : Bool) → AreLow (in_expr chained e)) → LowExpr e
node own bare leaves parameter inside = record { own = own; bare = bare; leaves = leaves; inside = inside; parameter = parameter }

assigned_parameter : (l : Loc) (o : AssignmentOperator) (x v : Expr) → IsLow l → LowExpr v → LowParam (param_of (tree.Assignment (Some l) o x v))
assigned_parameter l assign.Assign (tree.IdentifierReference m w) v at h = ((at, (h.bare, tt)), h.inside false)
assigned_parameter l o x v at h = tt

logical_inside : (l : Loc) (o : LogicalOperator) (x y : Expr) → IsLow l → LowExpr x → LowExpr y → (chained : Bool) → AreLow (in_expr chained (tree.Logical (Some l) o x y))
logical_inside l o x y at hx hy true = both (in_expr true x) (in_expr true y) (hx.inside true) (hy.inside true)
logical_inside l o x y at hx hy false = ((at, both_paths (leaf_places x) (leaf_places y) hx.leaves hy.leaves), both (in_expr true x) (in_expr true y) (hx.inside true) (hy.inside true))

logical_made : (l : Loc) (o : LogicalOperator) (x y : Expr) → IsLow l → LowExpr x → LowExpr y → LowExpr (tree.Logical (Some l) o x y)
logical_made l o x y at hx hy = node at at (both_paths (leaf_places x) (leaf_places y) hx.leaves hy.leaves) tt (logical_inside l o x y at hx hy)

-- two operands
two : (x y : Expr) → LowExpr x → LowExpr y → AreLow (constructs_expr x ++ constructs_expr y)
two x y hx hy = both (constructs_expr x) (constructs_expr y) (hx.inside false) (hy.inside false)

comma_made : (l : Option Loc) (x y : Expr) → IsLowIf l → LowExpr x → LowExpr y → LowExpr (tree.Comma l x y)
comma_made l x y at hx hy = node at at (at, tt) tt (λ chained. two x y hx hy)

conditional_made : (l : Loc) (c x y : Expr) → IsLow l → LowExpr c → LowExpr x → LowExpr y → LowExpr (tree.Conditional (Some l) c x y)
conditional_made l c x y at hc hx hy = node at at (at, tt) tt (λ chained. ((at, (hx.bare, (hy.bare, tt))), both (constructs_expr c ++ constructs_expr x) (constructs_expr y) (two c x hc hx) (hy.inside false)))

-- what stands in parentheses: a comma that joins two stands from the first to the second
pair_place : (a b : Option Loc) → IsLowIf a → IsLowIf b → IsLowIf (loc_of (comma_of loc_of (tree.This a) (more_expr (tree.This b) no_expr)))
pair_place None b h k = tt
pair_place (Some l) None h k = tt
pair_place (Some l) (Some m) h k = (h.0, k.1)

commas_made : (e : Expr) (es : Exprs) → LowExpr e → LowExprs es → LowExpr (comma_of loc_of e es)
commas_made e no_expr h hs = h
commas_made e (more_expr x xs) h hs = commas_made _ xs (comma_made _ e x (pair_place (loc_of e) (loc_of x) h.own hs.0.own) h hs.0) hs.1

-- ---- parameters and functions

pub directives_low : (ss : Stmts) → AreLow (in_stmts ss) → AreLow (in_stmts (with_directives ss))
directives_low (more_stmt (tree.Expression l (tree.StringLiteral m s)) ss) h = directives_low ss (second (constructs_stmt (tree.Expression l (tree.StringLiteral m s))) (in_stmts ss) h)
directives_low ss h = h

abbrev pub LowFunction : Option tree.Function → Type 0
LowFunction None = Unit {0}
LowFunction (Some (tree.MakeFunction n ps body)) = IsLowIf (braced_place body) × (AreLow (in_params ps) × AreLow (in_body body))

param_low : (p : tree.Param) (o : Option tree.Function) → AreLow (in_param p) → LowFunction o → LowFunction (with_param p o)
param_low p None h is = tt
param_low p (Some (tree.MakeFunction n ps body)) h is = (is.0, (both (in_param p) (in_params ps) h is.1.0, is.1.1))

-- a parameter with a default
default_low : (l : Loc) (x : tree.Pattern) (e : Expr) → IsLow l → LowExpr e → AreLow (in_param (tree.MakeParam (Some l) x (some_expr e)))
default_low l x e at h = ((at, (h.bare, tt)), h.inside false)

function_made : (ps : List Piece) → LowPieces ps → LowFunction (function_of ps)
function_made (APlace l ∷ TheStmts ss ∷ APlace m ∷ []) h = ((h.0.0, h.1.1.0.1), (tt, directives_low ss h.1.0))
function_made (AWord w l ∷ Missing ∷ ps) h = param_low _ (function_of ps) tt (function_made ps h.1.1)
function_made (AWord w l ∷ AnExpr i e ∷ APlace m ∷ ps) h = param_low _ (function_of ps) (default_low (through l m) (bound w l) e (h.0.0, h.1.1.0.1) h.1.0) (function_made ps h.1.1.1)
function_made ps h = tt

abbrev pub LowParams : Option tree.Params → Type 0
LowParams None = Unit {0}
LowParams (Some ps) = AreLow (in_params ps)

more_params : (x : Option tree.Param) (o : Option tree.Params) → LowParam x → LowParams o → LowParams (one_more_param x o)
more_params (Some p) (Some ps) h is = both (in_param p) (in_params ps) h is
more_params x o h is = tt

params_made : (es : Exprs) → LowExprs es → LowParams (params_of es)
params_made no_expr h = tt
params_made (more_expr e es) h = more_params (param_of e) (params_of es) h.0.parameter (params_made es h.1)

abbrev pub LowConcise : Option tree.ConciseBody → Type 0
LowConcise None = Unit {0}
LowConcise (Some body) = IsLowIf (concise_place body) × AreLow (in_concise body)

concise_made : (ps : List Piece) → LowPieces ps → LowConcise (concise ps)
concise_made (AnExpr i e ∷ []) h = (h.0.bare, both (counted (bare_place e)) (constructs_expr e) (counted_low (bare_place e) h.0.bare) (h.0.inside false))
concise_made (APlace l ∷ TheStmts ss ∷ APlace m ∷ []) h = ((h.0.0, h.1.1.0.1), directives_low ss h.1.0)
concise_made ps h = tt

arrow_low : (l : Loc) (xs : Option tree.Params) (o : Option tree.ConciseBody) → IsLow l → LowParams xs → LowConcise o → LowIf (arrow_of l xs o)
arrow_low l (Some ps) (Some body) at h is = node at at (at, tt) tt (λ chained. both (counted_function (Some l) None (concise_place body)) (in_params ps ++ in_concise body) (function_low [] (declared_place l.start None) (concise_place body) (column_low l at) is.0) (both (in_params ps) (in_concise body) h is.1))
arrow_low l xs o at h is = tt

-- the name of a function
abbrev pub LowName : Option Identifier → Type 0
LowName None = Unit {0}
LowName (Some name) = IsLowIf name.loc

declared_low : (l : Loc) (name : Option Identifier) → IsLow l → LowName name → IsLowIf (declared_place l.start name)
declared_low l None at h = column_low l at
declared_low l (Some name) at h = h

-- a function, with what is counted of it itself
whole_low : (l : Loc) (name : Option Identifier) (n : ℕ) (ps : tree.Params) (body : tree.FunctionBody) → IsLow l → LowName name → LowFunction (Some (tree.MakeFunction n ps body)) →
    AreLow (counted_function (Some l) name (braced_place body) ++ (in_params ps ++ in_body body))
whole_low l name n ps body at h is =
    both (counted_function (Some l) name (braced_place body)) (in_params ps ++ in_body body) (function_low (written_name name) (declared_place l.start name) (braced_place body) (declared_low l name at h) is.0)
    (both (in_params ps) (in_body body) is.1.0 is.1.1)

expression_low : (l : Loc) (name : Option Identifier) (o : Option tree.Function) → IsLow l → LowName name → LowFunction o → LowIf (expression_of (λ f. tree.FunctionExpression (Some l) name f) o)
expression_low l name None at h is = tt
expression_low l name (Some (tree.MakeFunction n ps body)) at h is = node at at (at, tt) tt (λ chained. whole_low l name n ps body at h is)

declaration_low : (l : Loc) (name : Identifier) (o : Option tree.Function) → IsLow l → IsLowIf name.loc → LowFunction o → LowIf (declaration_of (λ f. tree.FunctionDeclaration (Some l) name f) o)
declaration_low l name None at h is = tt
declaration_low l name (Some (tree.MakeFunction n ps body)) at h is = (at, whole_low l (Some name) n ps body at h is)

-- ---- properties

abbrev pub LowMethod : Option (tree.Function × Loc × List Piece) → Type 0
LowMethod None = Unit {0}
LowMethod (Some (f, m, rest)) = LowFunction (Some f) × (IsLow m × LowPieces rest)

method_param_low : (p : tree.Param) (o : Option (tree.Function × Loc × List Piece)) → AreLow (in_param p) → LowMethod o → LowMethod (method_param p o)
method_param_low p None h is = tt
method_param_low p (Some (tree.MakeFunction n ps body, m, rest)) h is = ((is.0.0, (both (in_param p) (in_params ps) h is.0.1.0, is.0.1.1)), is.1)

method_made : (ps : List Piece) → LowPieces ps → LowMethod (method_of ps)
method_made (APlace l ∷ TheStmts ss ∷ APlace m ∷ ps) h = (((h.0.0, h.1.1.0.1), (tt, directives_low ss h.1.0)), (h.1.1.0, h.1.1.1))
method_made (AWord w l ∷ Missing ∷ ps) h = method_param_low _ (method_of ps) tt (method_made ps h.1.1)
method_made (AWord w l ∷ AnExpr i e ∷ APlace m ∷ ps) h = method_param_low _ (method_of ps) (default_low (through l m) (bound w l) e (h.0.0, h.1.1.0.1) h.1.0) (method_made ps h.1.1.1)
method_made ps h = tt

abbrev pub LowProperty : Option (tree.Property × List Piece) → Type 0
LowProperty None = Unit {0}
LowProperty (Some (p, rest)) = AreLow (in_property p) × LowPieces rest

with_low : (k : tree.PropertyKey) (l : Loc) (o : Option (tree.Function × Loc × List Piece)) → AreLow (in_key k) → IsLow l → LowMethod o → LowProperty (method_with k l o)
with_low k l None hk at is = tt
with_low k l (Some (tree.MakeFunction n ps body, m, rest)) hk at is = (
  both (counted_function (Some (through l m)) None (braced_place body)) (in_key k ++ (in_params ps ++ in_body body)) (function_low [] (declared_place l.start None) (braced_place body) (column_low l at) is.0.0)
      (both (in_key k) (in_params ps ++ in_body body) hk (both (in_params ps) (in_body body) is.0.1.0 is.0.1.1)),
  is.1.1,
)

unless_property : (b : Bool) (o : Option (tree.Property × List Piece)) → LowProperty o → LowProperty (if b then None else o)
unless_property true o is = tt
unless_property false o is = is

value_low : (k : tree.PropertyKey) (l m : Loc) (e : Expr) → AreLow (in_key k) → LowExpr e → AreLow (in_property (tree.KeyValue (Some (through l m)) k e))
value_low k l m e hk h = both (in_key k) (constructs_expr e) hk (h.inside false)

after_key_made : (k : tree.PropertyKey) (l : Loc) (ps : List Piece) → AreLow (in_key k) → IsLow l → LowPieces ps → LowProperty (after_key k l ps)
after_key_made (tree.NameKey w) l (Missing ∷ ps) hk at h = unless_property (is_keyword w) (Some (tree.Shorthand (Some l) w, ps)) (tt, h.1)
after_key_made (tree.NameKey w) l (AnExpr i v ∷ APlace m ∷ ps) hk at h = unless_property (is_proto (tree.NameKey w)) (Some (tree.KeyValue (Some (through l m)) (tree.NameKey w) v, ps)) (value_low (tree.NameKey w) l m v hk h.0, h.1.1)
after_key_made (tree.StringKey w) l (AnExpr i v ∷ APlace m ∷ ps) hk at h = unless_property (is_proto (tree.StringKey w)) (Some (tree.KeyValue (Some (through l m)) (tree.StringKey w) v, ps)) (value_low (tree.StringKey w) l m v hk h.0, h.1.1)
after_key_made (tree.NumberKey w) l (AnExpr i v ∷ APlace m ∷ ps) hk at h = (value_low (tree.NumberKey w) l m v hk h.0, h.1.1)
after_key_made (tree.ComputedKey e) l (AnExpr i v ∷ APlace m ∷ ps) hk at h = (value_low (tree.ComputedKey e) l m v hk h.0, h.1.1)
after_key_made (tree.NameKey w) l (IsMethod ∷ ps) hk at h = with_low (tree.NameKey w) l (method_of ps) hk at (method_made ps h.1)
after_key_made (tree.StringKey w) l (IsMethod ∷ ps) hk at h = with_low (tree.StringKey w) l (method_of ps) hk at (method_made ps h.1)
after_key_made (tree.NumberKey w) l (IsMethod ∷ ps) hk at h = with_low (tree.NumberKey w) l (method_of ps) hk at (method_made ps h.1)
after_key_made (tree.ComputedKey e) l (IsMethod ∷ ps) hk at h = with_low (tree.ComputedKey e) l (method_of ps) hk at (method_made ps h.1)
after_key_made k l ps hk at h = tt

property_made : (ps : List Piece) → LowPieces ps → LowProperty (property_of ps)
property_made (IsComputed ∷ APlace l ∷ AnExpr i e ∷ ps) h = after_key_made (tree.ComputedKey e) l ps (h.1.1.0.inside false) h.1.0 h.1.1.1
property_made (AKey k l ∷ ps) h = after_key_made k l ps h.0.0 h.0.1 h.1
property_made ps h = tt

abbrev pub LowProperties : Option tree.Properties → Type 0
LowProperties None = Unit {0}
LowProperties (Some ps) = AreLow (in_properties ps)

more_properties : (p : tree.Property) (o : Option tree.Properties) → AreLow (in_property p) → LowProperties o → LowProperties (one_more_property p o)
more_properties p None h is = tt
more_properties p (Some ps) h is = both (in_property p) (in_properties ps) h is

then_low : (o : Option (tree.Property × List Piece)) (more : List Piece → Option tree.Properties) → LowProperty o → ((rest : List Piece) → LowPieces rest → LowProperties (more rest)) → LowProperties (then_properties o more)
then_low None more is go = tt
then_low (Some (p, ps)) more is go = more_properties p (more ps) is.0 (go ps is.1)

properties_made : (n : ℕ) (ps : List Piece) → LowPieces ps → LowProperties (properties_of n ps)
properties_made zero [] h = tt
properties_made (suc n) [] h = tt
properties_made (suc n) (p ∷ ps) h = then_low (property_of (p ∷ ps)) (λ rest. properties_of n rest) (property_made (p ∷ ps) h) (λ rest is. properties_made n rest is)
properties_made zero (p ∷ ps) h = tt

object_low : (l : Loc) (o : Option tree.Properties) → IsLow l → LowProperties o → LowIf (object_of l o)
object_low l None at is = tt
object_low l (Some ps) at is = node at at (at, tt) tt (λ chained. is)

-- ---- templates, declarators, clauses

abbrev pub LowParts : Option tree.TemplateParts → Type 0
LowParts None = Unit {0}
LowParts (Some ps) = AreLow (in_parts ps)

more_parts : (p : tree.TemplatePart) (o : Option tree.TemplateParts) → AreLow (in_part p) → LowParts o → LowParts (one_more_part p o)
more_parts p None h is = tt
more_parts p (Some ps) h is = both (in_part p) (in_parts ps) h is

parts_made : (ps : List Piece) → LowPieces ps → LowParts (template_parts ps)
parts_made [] h = tt
parts_made (AnExpr i e ∷ AText s ∷ ps) h = more_parts (tree.MakeTemplatePart e s) (template_parts ps) (h.0.inside false) (parts_made ps h.1.1)
parts_made ps h = tt

template_low : (l : Loc) (s : Spelled) (o : Option tree.TemplateParts) → IsLow l → LowParts o → LowIf (template_of l s o)
template_low l s None at is = tt
template_low l s (Some ps) at is = node at at (at, tt) tt (λ chained. is)

abbrev pub LowDeclarators : Option (tree.Declarators × List Piece) → Type 0
LowDeclarators None = Unit {0}
LowDeclarators (Some (ds, rest)) = AreLow (in_declarators ds) × LowPieces rest

more_declarators : (d : tree.Declarator) (o : Option (tree.Declarators × List Piece)) → AreLow (constructs_declarator d) → LowDeclarators o → LowDeclarators (one_more_declarator d o)
more_declarators d None h is = tt
more_declarators d (Some (ds, rest)) h is = (both (constructs_declarator d) (in_declarators ds) h is.0, is.1)

initializer_low : (l : Option Loc) (x : tree.Pattern) (e : Expr) → LowExpr e → AreLow (constructs_declarator (tree.MakeDeclarator l x (some_expr e)))
initializer_low l x e h = both (counted (bare_place e)) (constructs_expr e) (counted_low (bare_place e) h.bare) (h.inside false)

declarators_made : (strict : Bool) (ps : List Piece) → LowPieces ps → LowDeclarators (declarators_of strict ps)
declarators_made true (AWord w l ∷ Missing ∷ ps) h = tt
declarators_made false (AWord w l ∷ Missing ∷ ps) h = more_declarators _ (declarators_of false ps) tt (declarators_made false ps h.1.1)
declarators_made true (AWord w l ∷ AnExpr i e ∷ APlace m ∷ ps) h = more_declarators _ (declarators_of true ps) (initializer_low (Some (through l m)) (bound w l) e h.1.0) (declarators_made true ps h.1.1.1)
declarators_made false (AWord w l ∷ AnExpr i e ∷ APlace m ∷ ps) h = more_declarators _ (declarators_of false ps) (initializer_low (Some (through l m)) (bound w l) e h.1.0) (declarators_made false ps h.1.1.1)
declarators_made true ps h = (tt, h)
declarators_made false ps h = (tt, h)

variables_low : (l : Loc) (k : VariableKind) (o : Option (tree.Declarators × List Piece)) → IsLow l → LowDeclarators o → LowIf (variables_of l k o)
variables_low l k None at is = tt
variables_low l k (Some (ds, [])) at is = (at, is.0)
variables_low l k (Some (ds, r ∷ rest)) at is = tt

abbrev pub LowCases : Option tree.Cases → Type 0
LowCases None = Unit {0}
LowCases (Some cs) = ArePathsLow (case_places cs) × AreLow (in_cases cs)

more_cases : (c : tree.Case) (o : Option tree.Cases) → IsLowIf (case_place c) → AreLow (in_case c) → LowCases o → LowCases (one_more_case c o)
more_cases c None at h is = tt
more_cases c (Some cs) at h is = ((at, is.0), both (in_case c) (in_cases cs) h is.1)

cases_made : (defaulted : Bool) (ps : List Piece) → LowPieces ps → LowCases (cases_of defaulted ps)
cases_made true [] h = (tt, tt)
cases_made false [] h = (tt, tt)
cases_made true (APlace l ∷ AnExpr i e ∷ TheStmts ss ∷ APlace m ∷ ps) h = more_cases _ (cases_of true ps) (h.0.0, h.1.1.1.0.1) (both (constructs_expr e) (in_stmts ss) (h.1.0.inside false) h.1.1.0) (cases_made true ps h.1.1.1.1)
cases_made false (APlace l ∷ AnExpr i e ∷ TheStmts ss ∷ APlace m ∷ ps) h = more_cases _ (cases_of false ps) (h.0.0, h.1.1.1.0.1) (both (constructs_expr e) (in_stmts ss) (h.1.0.inside false) h.1.1.0) (cases_made false ps h.1.1.1.1)
cases_made false (APlace l ∷ TheStmts ss ∷ APlace m ∷ ps) h = more_cases _ (cases_of true ps) (h.0.0, h.1.1.0.1) h.1.0 (cases_made true ps h.1.1.1)
cases_made true ps h = tt
cases_made false ps h = tt

switch_low : (l : Loc) (e : Expr) (o : Option tree.Cases) → IsLow l → LowExpr e → LowCases o → LowIf (switch_of l e o)
switch_low l e None at h is = tt
switch_low l e (Some cs) at h is = (at, (at, ((at, is.0), both (constructs_expr e) (in_cases cs) (h.inside false) is.1)))

-- ---- heads of `for`

abbrev pub LowMaybe : Option MaybeExpr → Type 0
LowMaybe None = Unit {0}
LowMaybe (Some x) = AreLow (in_expr_if x)

maybe_made : (p : Piece) → LowPiece p → LowMaybe (maybe p)
maybe_made Missing h = tt
maybe_made (AnExpr i e) h = h.inside false
maybe_made p h = tt

for_with_low : (l : Loc) (x : tree.ForInit) (s : Stmt) (y z : Option MaybeExpr) → IsLow l → AreLow (in_init x) → LowStmt s → LowMaybe y → LowMaybe z → LowIf (for_with l x s y z)
for_with_low l x s (Some y) (Some z) at hx hs hy hz =
    (at, (at, both (in_init x ++ in_expr_if y ++ in_expr_if z) (constructs_stmt s) (both (in_init x ++ in_expr_if y) (in_expr_if z) (both (in_init x) (in_expr_if y) hx hy) hz) hs.1))
for_with_low l x s None z at hx hs hy hz = tt
for_with_low l x s (Some y) None at hx hs hy hz = tt

for_of_made : (l : Loc) (x : tree.ForInit) (ps : List Piece) → IsLow l → AreLow (in_init x) → LowPieces ps → LowIf (for_of l x ps)
for_of_made l x (p ∷ q ∷ AStmt s ∷ []) at hx h = for_with_low l x s (maybe p) (maybe q) at hx h.1.1.0 (maybe_made p h.0) (maybe_made q h.1.0)
for_of_made l x ps at hx h = tt

for_declared_low : (l : Loc) (k : VariableKind) (o : Option (tree.Declarators × List Piece)) → IsLow l → LowDeclarators o → LowIf (for_declared l k o)
for_declared_low l k None at is = tt
for_declared_low l k (Some (ds, rest)) at is = for_of_made l (tree.InitDeclaration k ds) rest at is.0 is.1

if_low : (b : Bool) (o : Option Piece) → LowIf o → LowIf (if b then o else None)
if_low true o is = is
if_low false o is = tt

unless_low : (b : Bool) (o : Option Piece) → LowIf o → LowIf (if b then None else o)
unless_low true o is = tt
unless_low false o is = is

-- an expression, and a statement after it
then_stmt : (e : Expr) (s : Stmt) → LowExpr e → LowStmt s → AreLow (constructs_expr e ++ constructs_stmt s)
then_stmt e s he hs = both (constructs_expr e) (constructs_stmt s) (he.inside false) hs.1

each_low : (x e : Expr) (s : Stmt) → LowExpr x → LowExpr e → LowStmt s → AreLow (constructs_expr x ++ constructs_expr e ++ constructs_stmt s)
each_low x e s hx he hs = both (constructs_expr x ++ constructs_expr e) (constructs_stmt s) (two x e hx he) hs.1

for_made : (l : Loc) (ps : List Piece) → IsLow l → LowPieces ps → LowIf (for_parts l ps)
for_made l (AKind k ∷ AWord w m ∷ IsIn ∷ AnExpr i e ∷ AStmt s ∷ []) at h = (at, (at, then_stmt e s h.1.1.1.0 h.1.1.1.1.0))
for_made l (AKind k ∷ AWord w m ∷ IsOf ∷ AnExpr i e ∷ AStmt s ∷ []) at h = (at, (at, then_stmt e s h.1.1.1.0 h.1.1.1.1.0))
for_made l (AnExpr j x ∷ IsIn ∷ AnExpr i e ∷ AStmt s ∷ []) at h = if_low (is_target x) (Some (AStmt (tree.ForIn (Some l) (tree.TargetExpression x) e s))) (at, (at, each_low x e s h.0 h.1.1.0 h.1.1.1.0))
for_made l (AnExpr j x ∷ IsOf ∷ AnExpr i e ∷ AStmt s ∷ []) at h = if_low (is_target x && not (is_async x)) (Some (AStmt (tree.ForOf (Some l) (tree.TargetExpression x) e s))) (at, (at, each_low x e s h.0 h.1.1.0 h.1.1.1.0))
for_made l (AKind k ∷ ps) at h = for_declared_low l k (declarators_of (is_const k) ps) at (declarators_made (is_const k) ps h.1)
for_made l (AnExpr j x ∷ ps) at h = for_of_made l (tree.InitExpression x) ps at (h.0.inside false) h.1
for_made l (Missing ∷ ps) at h = for_of_made l tree.NoInit ps at tt h.1
for_made l ps at h = tt

-- ---- all productions

pub low_made : (f : Form) (l : Loc) (ps : List Piece) → IsLow l → LowPieces ps → LowIf (build f l ps)
low_made form.Parentheses l (TheExprs false (more_expr e es) ∷ Missing ∷ []) at h =
    let inner = commas_made e es h.0.0 h.0.1 in node at inner.bare inner.leaves tt (λ chained. inner.inside chained)
low_made form.Parentheses l (TheExprs b xs ∷ p ∷ ps) at h = arrow_low l (params_of xs) (concise (p ∷ ps)) at (params_made xs h.0) (concise_made (p ∷ ps) h.1)
low_made form.Parentheses l ps at h = tt
low_made form.ArrayLiteral l (TheExprs b xs ∷ []) at h = node at at (at, tt) tt (λ chained. exprs_inside xs h.0)
low_made form.ArrayLiteral l ps at h = tt
low_made form.ObjectLiteral l ps at h = object_low l (properties_of (length_of ps) ps) at (properties_made (length_of ps) ps h)
low_made form.Template l (AText s ∷ ps) at h = template_low l s (template_parts ps) at (parts_made ps h.1)
low_made form.Template l ps at h = tt
low_made form.FunctionExpression l (Missing ∷ ps) at h = expression_low l None (function_of ps) at tt (function_made ps h.1)
low_made form.FunctionExpression l (AWord w m ∷ ps) at h = expression_low l (Some (identifier w m)) (function_of ps) at h.0 (function_made ps h.1)
low_made form.FunctionExpression l ps at h = tt
low_made form.New l (AnExpr i c ∷ TheExprs b xs ∷ []) at h = node at at (at, tt) tt (λ chained. both (constructs_expr c) (in_exprs xs) (h.0.inside false) (exprs_inside xs h.1.0))
low_made form.New l (AnExpr i c ∷ Missing ∷ []) at h = node at at (at, tt) tt (λ chained. both (constructs_expr c) [] (h.0.inside false) tt)
low_made form.New l ps at h = tt
low_made form.Call l (AnExpr i f ∷ TheExprs b xs ∷ []) at h = node at at (at, tt) tt (λ chained. both (constructs_expr f) (in_exprs xs) (h.0.inside false) (exprs_inside xs h.1.0))
low_made form.Call l ps at h = tt
low_made form.Dot l (AnExpr i o ∷ AWord w m ∷ []) at h = node at at (at, tt) tt (λ chained. h.0.inside false)
low_made form.Dot l ps at h = tt
low_made form.Member l (AnExpr i o ∷ AnExpr j k ∷ []) at h = node at at (at, tt) tt (λ chained. two o k h.0 h.1.0)
low_made form.Member l ps at h = tt
low_made (form.Postfix o) l (AnExpr i e ∷ []) at h =
    if_low (is_target e) (Some (AnExpr 17 (tree.PostfixUpdate (Some l) o e))) (node at at (at, tt) tt (λ chained. h.0.inside false))
low_made (form.Postfix o) l ps at h = tt
low_made (form.PrefixUpdate o) l (AnExpr i e ∷ []) at h =
    if_low (is_target e) (Some (AnExpr 17 (tree.PrefixUpdate (Some l) o e))) (node at at (at, tt) tt (λ chained. h.0.inside false))
low_made (form.PrefixUpdate o) l ps at h = tt
low_made (form.Unary o) l (AnExpr i e ∷ []) at h = node at at (at, tt) tt (λ chained. h.0.inside false)
low_made (form.Unary o) l ps at h = tt
low_made (form.Binary o) l (AnExpr i x ∷ AnExpr j y ∷ []) at h = node at at (at, tt) tt (λ chained. two x y h.0 h.1.0)
low_made (form.Binary o) l ps at h = tt
low_made (form.Logical logic.Coalesce) l (AnExpr i x ∷ AnExpr j y ∷ []) at h = unless_low (is_and_or x) (Some (AnExpr 4 (tree.Logical (Some l) logic.Coalesce x y))) (logical_made l logic.Coalesce x y at h.0 h.1.0)
low_made (form.Logical logic.And) l (AnExpr i x ∷ AnExpr j y ∷ []) at h = logical_made l logic.And x y at h.0 h.1.0
low_made (form.Logical logic.Or) l (AnExpr i x ∷ AnExpr j y ∷ []) at h = logical_made l logic.Or x y at h.0 h.1.0
low_made (form.Logical logic.Coalesce) l ps at h = tt
low_made (form.Logical o) l ps at h = tt
low_made form.Conditional l (AnExpr h c ∷ AnExpr i x ∷ AnExpr j y ∷ []) at parts = conditional_made l c x y at parts.0 parts.1.0 parts.1.1.0
low_made form.Conditional l ps at h = tt
low_made (form.Assignment o) l (AnExpr i x ∷ AnExpr j v ∷ []) at h =
    if_low (is_target x) (Some (AnExpr assignment (tree.Assignment (Some l) o x v))) (node at at (at, tt) (assigned_parameter l o x v at h.1.0) (λ chained. two x v h.0 h.1.0))
low_made (form.Assignment o) l ps at h = tt
low_made form.ArrowOfName l (AnExpr i (tree.IdentifierReference m w) ∷ ps) at h = arrow_low l (params_of (more_expr (tree.IdentifierReference m w) no_expr)) (concise ps) at tt (concise_made ps h.1)
low_made form.ArrowOfName l ps at h = tt
low_made form.Comma l (AnExpr i x ∷ AnExpr j y ∷ []) at h = comma_made (Some l) x y at h.0 h.1.0
low_made form.Comma l ps at h = tt
low_made form.Expression l (AnExpr i e ∷ []) at h = (at, (at, h.0.inside false))
low_made form.Expression l ps at h = tt
low_made form.Labelled l (AnExpr i (tree.IdentifierReference m w) ∷ AStmt s ∷ []) at h = (at, (at, h.1.0.1))
low_made form.Labelled l ps at h = tt
low_made form.Block l (TheStmts ss ∷ []) at h = (at, h.0)
low_made form.Block l ps at h = tt
low_made (form.Variables k) l ps at h = variables_low l k (declarators_of (is_const k) ps) at (declarators_made (is_const k) ps h)
low_made form.FunctionDeclaration l (AWord w m ∷ ps) at h = declaration_low l (identifier w m) (function_of ps) at h.0 (function_made ps h.1)
low_made form.FunctionDeclaration l ps at h = tt
low_made form.Empty l [] at h = (at, tt)
low_made form.Empty l ps at h = tt
low_made form.If l (AnExpr i c ∷ AStmt s ∷ Missing ∷ []) at h = (at, (at, ((at, (at, (tt, tt))), both (constructs_expr c ++ constructs_stmt s) [] (then_stmt c s h.0 h.1.0) tt)))
low_made form.If l (AnExpr i c ∷ AStmt s ∷ AStmt r ∷ []) at h =
    (at, (at, ((at, (at, (h.1.1.0.0, tt))), both (constructs_expr c ++ constructs_stmt s) (constructs_stmt r) (then_stmt c s h.0 h.1.0) h.1.1.0.1)))
low_made form.If l ps at h = tt
low_made form.For l ps at h = for_made l ps at h
low_made form.While l (AnExpr i c ∷ AStmt s ∷ []) at h = (at, (at, then_stmt c s h.0 h.1.0))
low_made form.While l ps at h = tt
low_made form.DoWhile l (AStmt s ∷ AnExpr i c ∷ []) at h = (at, (at, both (constructs_stmt s) (constructs_expr c) h.0.1 (h.1.0.inside false)))
low_made form.DoWhile l ps at h = tt
low_made form.Continue l (Missing ∷ []) at h = (at, (at, tt))
low_made form.Continue l (AWord w m ∷ []) at h = (at, (at, tt))
low_made form.Continue l ps at h = tt
low_made form.Break l (Missing ∷ []) at h = (at, (at, tt))
low_made form.Break l (AWord w m ∷ []) at h = (at, (at, tt))
low_made form.Break l ps at h = tt
low_made form.Return l (Missing ∷ []) at h = (at, (at, tt))
low_made form.Return l (AnExpr i e ∷ []) at h = (at, (at, h.0.inside false))
low_made form.Return l ps at h = tt
low_made form.Switch l (AnExpr i e ∷ ps) at h = switch_low l e (cases_of false ps) at h.0 (cases_made false ps h.1)
low_made form.Switch l ps at h = tt
low_made form.Throw l (AnExpr i e ∷ []) at h = (at, (at, h.0.inside false))
low_made form.Throw l ps at h = tt
low_made form.Try l (TheStmts b ∷ TheStmts f ∷ []) at h = (at, (at, both (in_stmts b) (in_stmts f) h.0 h.1.0))
low_made form.Try l (TheStmts b ∷ Missing ∷ TheStmts c ∷ Missing ∷ []) at h = (at, (at, both (in_stmts b) (in_stmts c) h.0 h.1.1.0))
low_made form.Try l (TheStmts b ∷ AWord w m ∷ TheStmts c ∷ Missing ∷ []) at h = (at, (at, both (in_stmts b) (in_stmts c) h.0 h.1.1.0))
low_made form.Try l (TheStmts b ∷ Missing ∷ TheStmts c ∷ TheStmts f ∷ []) at h = (at, (at, both (in_stmts b ++ in_stmts c) (in_stmts f) (both (in_stmts b) (in_stmts c) h.0 h.1.1.0) h.1.1.1.0))
low_made form.Try l (TheStmts b ∷ AWord w m ∷ TheStmts c ∷ TheStmts f ∷ []) at h = (at, (at, both (in_stmts b ++ in_stmts c) (in_stmts f) (both (in_stmts b) (in_stmts c) h.0 h.1.1.0) h.1.1.1.0))
low_made form.Try l ps at h = tt
low_made form.Debugger l [] at h = (at, (at, tt))
low_made form.Debugger l ps at h = tt
