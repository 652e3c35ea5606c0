-- What a production makes is higher than its parts.
use Rattle.std.proofs.Common.{◌≡◌, ℕ, zero, suc, ◌+◌, ◌≤◌, max, Bool, true, false, not, ◌&&◌, List, [], ◌∷◌, Option, Some, None, if◌then◌else◌, refl, ap, arith}
use Rattle.js_terms.specs.declared.place.Loc.{Loc}
use Rattle.js_terms.specs.declared.words.Spelled.{Spelled}
use Rattle.js_terms.specs.declared.operators.VariableKind.{VariableKind}
use Rattle.js_terms.specs.declared.operators.LogicalOperator.TheVariants as logic
use Rattle.js_terms.specs.declared.operators.AssignmentOperator.TheVariants as assign
use Rattle.js_tree.specs.Plain.{Expr, Exprs, no_expr, more_expr, Stmt, Stmts, no_stmt, more_stmt, MaybeExpr, none_expr, some_expr}
use Rattle.js_tree.specs.Plain as tree
use Rattle.js_tree.specs.Height.{height_expr, height_exprs, height_stmt, height_stmts, height_function, height_param, height_params, height_concise_body, height_property, height_property_key, height_properties, height_template_parts, height_template_part, height_declarator, height_declarators, height_case, height_cases, height_expr_if, height_for_init}
use Rattle.js_reading.specs.Level.{assignment}
use Rattle.js_reading.specs.Spans.{through}
use Rattle.js_reading.specs.Slots.{Piece, AnExpr, AStmt, TheStmts, TheExprs, AWord, AKey, AText, APlace, AKind, Missing, IsComputed, IsMethod, IsIn, IsOf, Form}
use Rattle.js_reading.specs.Slots as slot
use Rattle.js_reading.specs.Makes.{is_target, is_async, is_and_or, with_directives, comma_of, loc_of, with_param, function_of, param_of, one_more_param, params_of, concise, arrow_of, expression_of, declaration_of, one_more_declarator, declarators_of, is_const, variables_of, maybe, for_with, for_of, for_declared, for_parts, one_more_property, method_param, method_of, method_with, after_key, property_of, then_properties, properties_of, object_of, one_more_part, template_parts, template_of, one_more_case, cases_of, switch_of, length_of, build}
use Rattle.js_reading.specs.Open.{height, heights}

-- a part is lower than the tree
abbrev pub Raises : List Piece → Option Piece → Type 0
Raises ps (Some (AnExpr i e)) = heights ps + 1 ≤ height_expr e
Raises ps (Some (AStmt s)) = heights ps + 1 ≤ height_stmt s
Raises ps o = Unit {0}

pub some_height : (s : Stmt) → 1 ≤ height_stmt s
some_height (tree.FunctionDeclaration l n (tree.MakeFunction k ps body)) = omega arith
some_height (tree.EnteredStmt m s) = some_height s
some_height s = omega arith

pub directives_same : (ss : Stmts) → height_stmts (with_directives ss) ≡ height_stmts ss
directives_same (more_stmt (tree.Expression l (tree.StringLiteral m s)) ss) = ap (λ h. max 2 h) (directives_same ss)
directives_same ss = refl

comma_height : (loc : Expr → Option Loc) (e : Expr) (es : Exprs) → max (height_expr e) (height_exprs es) ≤ height_expr (comma_of loc e es)
comma_height loc e no_expr = omega arith
comma_height loc e (more_expr x xs) =
    let r : max (max (height_expr e) (height_expr x) + 1) (height_exprs xs) ≤ height_expr (comma_of loc e (more_expr x xs)) = comma_height loc _ xs in
    omega (arith, r)

-- ---- parameters and functions

abbrev pub Functions : ℕ → Option tree.Function → Type 0
Functions h None = Unit {0}
Functions h (Some f) = h + 1 ≤ height_function f

param_more : (p : tree.Param) (h k : ℕ) (o : Option tree.Function) → Functions k o → h ≤ max (height_param p) k → Functions h (with_param p o)
param_more p h k None is le = tt
param_more p h k (Some (tree.MakeFunction n xs body)) is le = omega arith

function_made : (ps : List Piece) → Functions (heights ps) (function_of ps)
function_made (APlace l ∷ TheStmts ss ∷ APlace m ∷ []) = let e = directives_same ss in omega arith
function_made (AWord w l ∷ Missing ∷ ps) = param_more _ (heights (AWord w l ∷ Missing ∷ ps)) (heights ps) (function_of ps) (function_made ps) (omega arith)
function_made (AWord w l ∷ AnExpr i e ∷ APlace m ∷ ps) = param_more _ (heights (AWord w l ∷ AnExpr i e ∷ APlace m ∷ ps)) (heights ps) (function_of ps) (function_made ps) (omega arith)
function_made ps = tt

abbrev pub Parameters : ℕ → Option tree.Params → Type 0
Parameters h None = Unit {0}
Parameters h (Some xs) = h ≤ height_params xs

abbrev pub Parameter : ℕ → Option tree.Param → Type 0
Parameter h None = Unit {0}
Parameter h (Some x) = h ≤ height_param x

params_more : (h k : ℕ) (x : Option tree.Param) (o : Option tree.Params) → Parameter h x → Parameters k o → Parameters (max h k) (one_more_param x o)
params_more h k (Some x) (Some xs) one more = omega arith
params_more h k x o one more = tt

param_made : (e : Expr) → Parameter (height_expr e) (param_of e)
param_made (tree.IdentifierReference l w) = omega arith
param_made (tree.Assignment l assign.Assign (tree.IdentifierReference m w) e) = omega arith
param_made e = tt

params_made : (es : Exprs) → Parameters (height_exprs es) (params_of es)
params_made no_expr = omega arith
params_made (more_expr e es) = params_more (height_expr e) (height_exprs es) (param_of e) (params_of es) (param_made e) (params_made es)

abbrev pub Bodies : ℕ → Option tree.ConciseBody → Type 0
Bodies h None = Unit {0}
Bodies h (Some x) = h ≤ height_concise_body x

concise_made : (ps : List Piece) → Bodies (heights ps) (concise ps)
concise_made (AnExpr i e ∷ []) = omega arith
concise_made (APlace l ∷ TheStmts ss ∷ APlace m ∷ []) = let e = directives_same ss in omega arith
concise_made ps = tt

arrow_made : (ps : List Piece) (l : Loc) (h k : ℕ) (xs : Option tree.Params) (o : Option tree.ConciseBody) → Parameters h xs → Bodies k o → heights ps ≤ max h k → Raises ps (arrow_of l xs o)
arrow_made ps l h k (Some xs) (Some x) one more le = omega arith
arrow_made ps l h k xs o one more le = tt

expression_made : (ps : List Piece) (h : ℕ) (make : tree.Function → Expr) (o : Option tree.Function) → ((f : tree.Function) → height_expr (make f) ≡ height_function f) → Functions h o → heights ps ≤ h → Raises ps (expression_of make o)
expression_made ps h make None same is le = tt
expression_made ps h make (Some f) same is le = let e = same f in omega arith

declaration_made : (ps : List Piece) (h : ℕ) (make : tree.Function → Stmt) (o : Option tree.Function) → ((f : tree.Function) → height_stmt (make f) ≡ height_function f) → Functions h o → heights ps ≤ h → Raises ps (declaration_of make o)
declaration_made ps h make None same is le = tt
declaration_made ps h make (Some f) same is le = let e = same f in omega arith

-- ---- properties

abbrev pub Methods : ℕ → Option (tree.Function × Loc × List Piece) → Type 0
Methods h None = Unit {0}
Methods h (Some (f, m, rest)) = h ≤ max (height_function f) (heights rest)

method_more : (p : tree.Param) (h k : ℕ) (o : Option (tree.Function × Loc × List Piece)) → Methods k o → h ≤ max (height_param p) k → Methods h (method_param p o)
method_more p h k None is le = tt
method_more p h k (Some (tree.MakeFunction n xs body, m, rest)) is le = omega arith

method_made : (ps : List Piece) → Methods (heights ps) (method_of ps)
method_made (APlace l ∷ TheStmts ss ∷ APlace m ∷ ps) = let e = directives_same ss in omega arith
method_made (AWord w l ∷ Missing ∷ ps) = method_more _ (heights (AWord w l ∷ Missing ∷ ps)) (heights ps) (method_of ps) (method_made ps) (omega arith)
method_made (AWord w l ∷ AnExpr i e ∷ APlace m ∷ ps) = method_more _ (heights (AWord w l ∷ AnExpr i e ∷ APlace m ∷ ps)) (heights ps) (method_of ps) (method_made ps) (omega arith)
method_made ps = tt

abbrev pub OfProperty : ℕ → Option (tree.Property × List Piece) → Type 0
OfProperty h None = Unit {0}
OfProperty h (Some (p, rest)) = h ≤ max (height_property p) (heights rest)

with_made : (k : tree.PropertyKey) (l : Loc) (h j : ℕ) (o : Option (tree.Function × Loc × List Piece)) → Methods j o → h ≤ max (height_property_key k) j → OfProperty h (method_with k l o)
with_made k l h j None is le = tt
with_made k l h j (Some (f, m, ps)) is le = omega arith

unless : (b : Bool) (h : ℕ) (o : Option (tree.Property × List Piece)) → OfProperty h o → OfProperty h (if b then None else o)
unless true h o is = tt
unless false h o is = is

after_key_made : (k : tree.PropertyKey) (l : Loc) (ps : List Piece) → OfProperty (max (height_property_key k) (heights ps)) (after_key k l ps)
after_key_made (tree.NameKey w) l (Missing ∷ ps) = unless _ (max (height_property_key (tree.NameKey w)) (heights (Missing ∷ ps))) (Some (tree.Shorthand (Some l) w, ps)) (omega arith)
after_key_made (tree.NameKey w) l (AnExpr i v ∷ APlace m ∷ ps) = unless _ (max (height_property_key (tree.NameKey w)) (heights (AnExpr i v ∷ APlace m ∷ ps))) (Some (tree.KeyValue (Some (through l m)) (tree.NameKey w) v, ps)) (omega arith)
after_key_made (tree.StringKey w) l (AnExpr i v ∷ APlace m ∷ ps) = unless _ (max (height_property_key (tree.StringKey w)) (heights (AnExpr i v ∷ APlace m ∷ ps))) (Some (tree.KeyValue (Some (through l m)) (tree.StringKey w) v, ps)) (omega arith)
after_key_made (tree.NumberKey w) l (AnExpr i v ∷ APlace m ∷ ps) = omega arith
after_key_made (tree.ComputedKey e) l (AnExpr i v ∷ APlace m ∷ ps) = omega arith
after_key_made (tree.NameKey w) l (IsMethod ∷ ps) = with_made (tree.NameKey w) l (max (height_property_key (tree.NameKey w)) (heights (IsMethod ∷ ps))) (heights ps) (method_of ps) (method_made ps) (omega arith)
after_key_made (tree.StringKey w) l (IsMethod ∷ ps) = with_made (tree.StringKey w) l (max (height_property_key (tree.StringKey w)) (heights (IsMethod ∷ ps))) (heights ps) (method_of ps) (method_made ps) (omega arith)
after_key_made (tree.NumberKey w) l (IsMethod ∷ ps) = with_made (tree.NumberKey w) l (max (height_property_key (tree.NumberKey w)) (heights (IsMethod ∷ ps))) (heights ps) (method_of ps) (method_made ps) (omega arith)
after_key_made (tree.ComputedKey e) l (IsMethod ∷ ps) = with_made (tree.ComputedKey e) l (max (height_property_key (tree.ComputedKey e)) (heights (IsMethod ∷ ps))) (heights ps) (method_of ps) (method_made ps) (omega arith)
after_key_made k l ps = tt

weaker : (h k : ℕ) (o : Option (tree.Property × List Piece)) → OfProperty k o → h ≤ k → OfProperty h o
weaker h k None is le = tt
weaker h k (Some (p, rest)) is le = omega arith

property_made : (ps : List Piece) → OfProperty (heights ps) (property_of ps)
property_made (IsComputed ∷ APlace l ∷ AnExpr i e ∷ ps) = weaker _ _ _ (after_key_made (tree.ComputedKey e) l ps) (omega arith)
property_made (AKey k l ∷ ps) = weaker _ _ _ (after_key_made k l ps) (omega arith)
property_made ps = tt

abbrev pub OfProperties : ℕ → Option tree.Properties → Type 0
OfProperties h None = Unit {0}
OfProperties h (Some xs) = h ≤ height_properties xs

property_more : (p : tree.Property) (h k : ℕ) (o : Option tree.Properties) → OfProperties k o → h ≤ max (height_property p) k → OfProperties h (one_more_property p o)
property_more p h k None is le = tt
property_more p h k (Some xs) is le = omega arith

then_made : (h : ℕ) (o : Option (tree.Property × List Piece)) (more : List Piece → Option tree.Properties) → OfProperty h o → ((rest : List Piece) → OfProperties (heights rest) (more rest)) → OfProperties h (then_properties o more)
then_made h None more is go = tt
then_made h (Some (p, ps)) more is go = property_more p h (heights ps) (more ps) (go ps) is

properties_made : (n : ℕ) (ps : List Piece) → OfProperties (heights ps) (properties_of n ps)
properties_made zero [] = omega arith
properties_made (suc n) [] = omega arith
properties_made (suc n) (p ∷ ps) = then_made _ (property_of (p ∷ ps)) (λ rest. properties_of n rest) (property_made (p ∷ ps)) (λ rest. properties_made n rest)
properties_made zero (p ∷ ps) = tt

object_made : (ps : List Piece) (l : Loc) (h : ℕ) (o : Option tree.Properties) → OfProperties h o → heights ps ≤ h → Raises ps (object_of l o)
object_made ps l h None is le = tt
object_made ps l h (Some xs) is le = omega arith

-- ---- templates, declarators, clauses

abbrev pub OfParts : ℕ → Option tree.TemplateParts → Type 0
OfParts h None = Unit {0}
OfParts h (Some xs) = h ≤ height_template_parts xs

part_more : (p : tree.TemplatePart) (h k : ℕ) (o : Option tree.TemplateParts) → OfParts k o → h ≤ max (height_template_part p) k → OfParts h (one_more_part p o)
part_more p h k None is le = tt
part_more p h k (Some xs) is le = omega arith

parts_made : (ps : List Piece) → OfParts (heights ps) (template_parts ps)
parts_made [] = omega arith
parts_made (AnExpr i e ∷ AText s ∷ ps) = part_more (tree.MakeTemplatePart e s) _ (heights ps) (template_parts ps) (parts_made ps) (omega arith)
parts_made ps = tt

template_made : (ps : List Piece) (l : Loc) (s : Spelled) (h : ℕ) (o : Option tree.TemplateParts) → OfParts h o → heights ps ≤ h → Raises ps (template_of l s o)
template_made ps l s h None is le = tt
template_made ps l s h (Some xs) is le = omega arith

abbrev pub OfDeclarators : ℕ → Option (tree.Declarators × List Piece) → Type 0
OfDeclarators h None = Unit {0}
OfDeclarators h (Some (ds, rest)) = h ≤ max (height_declarators ds) (heights rest)

declarator_more : (d : tree.Declarator) (h k : ℕ) (o : Option (tree.Declarators × List Piece)) → OfDeclarators k o → h ≤ max (height_declarator d) k → OfDeclarators h (one_more_declarator d o)
declarator_more d h k None is le = tt
declarator_more d h k (Some (ds, rest)) is le = omega arith

declarators_made : (strict : Bool) (ps : List Piece) → OfDeclarators (heights ps) (declarators_of strict ps)
declarators_made true (AWord w l ∷ Missing ∷ ps) = tt
declarators_made false (AWord w l ∷ Missing ∷ ps) = declarator_more _ _ (heights ps) (declarators_of false ps) (declarators_made false ps) (omega arith)
declarators_made true (AWord w l ∷ AnExpr i e ∷ APlace m ∷ ps) = declarator_more _ _ (heights ps) (declarators_of true ps) (declarators_made true ps) (omega arith)
declarators_made false (AWord w l ∷ AnExpr i e ∷ APlace m ∷ ps) = declarator_more _ _ (heights ps) (declarators_of false ps) (declarators_made false ps) (omega arith)
declarators_made true ps = omega arith
declarators_made false ps = omega arith

declarators_weaker : (h k : ℕ) (o : Option (tree.Declarators × List Piece)) → OfDeclarators k o → h ≤ k → OfDeclarators h o
declarators_weaker h k None is le = tt
declarators_weaker h k (Some (ds, rest)) is le = omega arith

variables_made : (ps : List Piece) (l : Loc) (k : VariableKind) (o : Option (tree.Declarators × List Piece)) → OfDeclarators (heights ps) o → Raises ps (variables_of l k o)
variables_made ps l k None is = tt
variables_made ps l k (Some (ds, [])) is = omega arith
variables_made ps l k (Some (ds, r ∷ rest)) is = tt

abbrev pub OfCases : ℕ → Option tree.Cases → Type 0
OfCases h None = Unit {0}
OfCases h (Some cs) = h ≤ height_cases cs

case_more : (c : tree.Case) (h k : ℕ) (o : Option tree.Cases) → OfCases k o → h ≤ max (height_case c) k → OfCases h (one_more_case c o)
case_more c h k None is le = tt
case_more c h k (Some cs) is le = omega arith

cases_made : (defaulted : Bool) (ps : List Piece) → OfCases (heights ps) (cases_of defaulted ps)
cases_made true [] = omega arith
cases_made false [] = omega arith
cases_made true (APlace l ∷ AnExpr i e ∷ TheStmts ss ∷ APlace m ∷ ps) = case_more _ _ (heights ps) (cases_of true ps) (cases_made true ps) (omega arith)
cases_made false (APlace l ∷ AnExpr i e ∷ TheStmts ss ∷ APlace m ∷ ps) = case_more _ _ (heights ps) (cases_of false ps) (cases_made false ps) (omega arith)
cases_made false (APlace l ∷ TheStmts ss ∷ APlace m ∷ ps) = case_more _ _ (heights ps) (cases_of true ps) (cases_made true ps) (omega arith)
cases_made true ps = tt
cases_made false ps = tt

switch_made : (ps : List Piece) (l : Loc) (e : Expr) (h : ℕ) (o : Option tree.Cases) → OfCases h o → heights ps ≤ max (height_expr e) h → Raises ps (switch_of l e o)
switch_made ps l e h None is le = tt
switch_made ps l e h (Some cs) is le = omega arith

-- ---- heads of `for`

abbrev pub Maybes : ℕ → Option MaybeExpr → Type 0
Maybes h None = Unit {0}
Maybes h (Some x) = h ≤ height_expr_if x

maybe_made : (p : Piece) → Maybes (height p) (maybe p)
maybe_made Missing = omega arith
maybe_made (AnExpr i e) = omega arith
maybe_made p = tt

for_with_made : (ps : List Piece) (l : Loc) (x : tree.ForInit) (s : Stmt) (h k : ℕ) (y z : Option MaybeExpr) → Maybes h y → Maybes k z → heights ps ≤ max (height_for_init x) (max h (max k (height_stmt s))) → Raises ps (for_with l x s y z)
for_with_made ps l x s h k (Some y) (Some z) one two le = omega arith
for_with_made ps l x s h k None z one two le = tt
for_with_made ps l x s h k (Some y) None one two le = tt

for_of_made : (ps : List Piece) (l : Loc) (x : tree.ForInit) (rest : List Piece) → heights ps ≤ max (height_for_init x) (heights rest) → Raises ps (for_of l x rest)
for_of_made ps l x (p ∷ q ∷ AStmt s ∷ []) le = for_with_made ps l x s (height p) (height q) (maybe p) (maybe q) (maybe_made p) (maybe_made q) (omega arith)
for_of_made ps l x rest le = tt

for_declared_made : (ps : List Piece) (l : Loc) (k : VariableKind) (o : Option (tree.Declarators × List Piece)) → OfDeclarators (heights ps) o → Raises ps (for_declared l k o)
for_declared_made ps l k None is = tt
for_declared_made ps l k (Some (ds, rest)) is = for_of_made ps l (tree.InitDeclaration k ds) rest is

if_raises : (b : Bool) (ps : List Piece) (o : Option Piece) → Raises ps o → Raises ps (if b then o else None)
if_raises true ps o is = is
if_raises false ps o is = tt

unless_raises : (b : Bool) (ps : List Piece) (o : Option Piece) → Raises ps o → Raises ps (if b then None else o)
unless_raises true ps o is = tt
unless_raises false ps o is = is

for_made : (l : Loc) (ps : List Piece) → Raises ps (for_parts l ps)
for_made l (AKind k ∷ AWord w m ∷ IsIn ∷ AnExpr i e ∷ AStmt s ∷ []) = let r = some_height s in omega arith
for_made l (AKind k ∷ AWord w m ∷ IsOf ∷ AnExpr i e ∷ AStmt s ∷ []) = let r = some_height s in omega arith
for_made l (AnExpr j x ∷ IsIn ∷ AnExpr i e ∷ AStmt s ∷ []) = if_raises (is_target x) (AnExpr j x ∷ IsIn ∷ AnExpr i e ∷ AStmt s ∷ []) (Some (AStmt (tree.ForIn (Some l) (tree.TargetExpression x) e s))) (omega arith)
for_made l (AnExpr j x ∷ IsOf ∷ AnExpr i e ∷ AStmt s ∷ []) = if_raises (is_target x && not (is_async x)) (AnExpr j x ∷ IsOf ∷ AnExpr i e ∷ AStmt s ∷ []) (Some (AStmt (tree.ForOf (Some l) (tree.TargetExpression x) e s))) (omega arith)
for_made l (AKind k ∷ ps) = for_declared_made (AKind k ∷ ps) l k (declarators_of (is_const k) ps) (declarators_weaker (heights (AKind k ∷ ps)) (heights ps) (declarators_of (is_const k) ps) (declarators_made (is_const k) ps) (omega arith))
for_made l (AnExpr j x ∷ ps) = for_of_made (AnExpr j x ∷ ps) l (tree.InitExpression x) ps (omega arith)
for_made l (Missing ∷ ps) = for_of_made (Missing ∷ ps) l tree.NoInit ps (omega arith)
for_made l ps = tt

-- ---- all productions

pub height_made : (f : Form) (l : Loc) (ps : List Piece) → Raises ps (build f l ps)
height_made slot.Parentheses l (TheExprs false (more_expr e es) ∷ Missing ∷ []) = let r = comma_height loc_of e es in omega (arith, r)
height_made slot.Parentheses l (TheExprs b xs ∷ p ∷ ps) = arrow_made (TheExprs b xs ∷ p ∷ ps) l (height_exprs xs) (heights (p ∷ ps)) (params_of xs) (concise (p ∷ ps)) (params_made xs) (concise_made (p ∷ ps)) (omega arith)
height_made slot.Parentheses l ps = tt
height_made slot.ArrayLiteral l (TheExprs b xs ∷ []) = omega arith
height_made slot.ArrayLiteral l ps = tt
height_made slot.ObjectLiteral l ps = object_made ps l (heights ps) (properties_of (length_of ps) ps) (properties_made (length_of ps) ps) (omega arith)
height_made slot.Template l (AText s ∷ ps) = template_made (AText s ∷ ps) l s (heights ps) (template_parts ps) (parts_made ps) (omega arith)
height_made slot.Template l ps = tt
height_made slot.FunctionExpression l (Missing ∷ ps) = expression_made (Missing ∷ ps) (heights ps) _ (function_of ps) (λ f. refl) (function_made ps) (omega arith)
height_made slot.FunctionExpression l (AWord w m ∷ ps) = expression_made (AWord w m ∷ ps) (heights ps) _ (function_of ps) (λ f. refl) (function_made ps) (omega arith)
height_made slot.FunctionExpression l ps = tt
height_made slot.New l (AnExpr i c ∷ TheExprs b xs ∷ []) = omega arith
height_made slot.New l (AnExpr i c ∷ Missing ∷ []) = omega arith
height_made slot.New l ps = tt
height_made slot.Call l (AnExpr i f ∷ TheExprs b xs ∷ []) = omega arith
height_made slot.Call l ps = tt
height_made slot.Dot l (AnExpr i o ∷ AWord w m ∷ []) = omega arith
height_made slot.Dot l ps = tt
height_made slot.Member l (AnExpr i o ∷ AnExpr j k ∷ []) = omega arith
height_made slot.Member l ps = tt
height_made (slot.Postfix o) l (AnExpr i e ∷ []) = if_raises (is_target e) (AnExpr i e ∷ []) (Some (AnExpr 17 (tree.PostfixUpdate (Some l) o e))) (omega arith)
height_made (slot.Postfix o) l ps = tt
height_made (slot.PrefixUpdate o) l (AnExpr i e ∷ []) = if_raises (is_target e) (AnExpr i e ∷ []) (Some (AnExpr 17 (tree.PrefixUpdate (Some l) o e))) (omega arith)
height_made (slot.PrefixUpdate o) l ps = tt
height_made (slot.Unary o) l (AnExpr i e ∷ []) = omega arith
height_made (slot.Unary o) l ps = tt
height_made (slot.Binary o) l (AnExpr i x ∷ AnExpr j y ∷ []) = omega arith
height_made (slot.Binary o) l ps = tt
height_made (slot.Logical logic.Coalesce) l (AnExpr i x ∷ AnExpr j y ∷ []) = unless_raises (is_and_or x) (AnExpr i x ∷ AnExpr j y ∷ []) (Some (AnExpr 4 (tree.Logical (Some l) logic.Coalesce x y))) (omega arith)
height_made (slot.Logical logic.And) l (AnExpr i x ∷ AnExpr j y ∷ []) = omega arith
height_made (slot.Logical logic.Or) l (AnExpr i x ∷ AnExpr j y ∷ []) = omega arith
height_made (slot.Logical logic.Coalesce) l ps = tt
height_made (slot.Logical o) l ps = tt
height_made slot.Conditional l (AnExpr h c ∷ AnExpr i x ∷ AnExpr j y ∷ []) = omega arith
height_made slot.Conditional l ps = tt
height_made (slot.Assignment o) l (AnExpr i x ∷ AnExpr j v ∷ []) = if_raises (is_target x) (AnExpr i x ∷ AnExpr j v ∷ []) (Some (AnExpr assignment (tree.Assignment (Some l) o x v))) (omega arith)
height_made (slot.Assignment o) l ps = tt
height_made slot.ArrowOfName l (AnExpr i (tree.IdentifierReference m w) ∷ ps) =
    arrow_made (AnExpr i (tree.IdentifierReference m w) ∷ ps) l (height_exprs (more_expr (tree.IdentifierReference m w) no_expr)) (heights ps) (params_of (more_expr (tree.IdentifierReference m w) no_expr)) (concise ps) (params_made (more_expr (tree.IdentifierReference m w) no_expr)) (concise_made ps) (omega arith)
height_made slot.ArrowOfName l ps = tt
height_made slot.Comma l (AnExpr i x ∷ AnExpr j y ∷ []) = omega arith
height_made slot.Comma l ps = tt
height_made slot.Expression l (AnExpr i e ∷ []) = omega arith
height_made slot.Expression l ps = tt
height_made slot.Labelled l (AnExpr i (tree.IdentifierReference m w) ∷ AStmt s ∷ []) = let r = some_height s in omega arith
height_made slot.Labelled l ps = tt
height_made slot.Block l (TheStmts ss ∷ []) = omega arith
height_made slot.Block l ps = tt
height_made (slot.Variables k) l ps = variables_made ps l k (declarators_of (is_const k) ps) (declarators_made (is_const k) ps)
height_made slot.FunctionDeclaration l (AWord w m ∷ ps) = declaration_made (AWord w m ∷ ps) (heights ps) _ (function_of ps) (λ f. refl) (function_made ps) (omega arith)
height_made slot.FunctionDeclaration l ps = tt
height_made slot.Empty l [] = omega arith
height_made slot.Empty l ps = tt
height_made slot.If l (AnExpr i c ∷ AStmt s ∷ Missing ∷ []) = omega arith
height_made slot.If l (AnExpr i c ∷ AStmt s ∷ AStmt r ∷ []) = omega arith
height_made slot.If l ps = tt
height_made slot.For l ps = for_made l ps
height_made slot.While l (AnExpr i c ∷ AStmt s ∷ []) = omega arith
height_made slot.While l ps = tt
height_made slot.DoWhile l (AStmt s ∷ AnExpr i c ∷ []) = omega arith
height_made slot.DoWhile l ps = tt
height_made slot.Continue l (Missing ∷ []) = omega arith
height_made slot.Continue l (AWord w m ∷ []) = omega arith
height_made slot.Continue l ps = tt
height_made slot.Break l (Missing ∷ []) = omega arith
height_made slot.Break l (AWord w m ∷ []) = omega arith
height_made slot.Break l ps = tt
height_made slot.Return l (Missing ∷ []) = omega arith
height_made slot.Return l (AnExpr i e ∷ []) = omega arith
height_made slot.Return l ps = tt
height_made slot.Switch l (AnExpr i e ∷ ps) = switch_made (AnExpr i e ∷ ps) l e (heights ps) (cases_of false ps) (cases_made false ps) (omega arith)
height_made slot.Switch l ps = tt
height_made slot.Throw l (AnExpr i e ∷ []) = omega arith
height_made slot.Throw l ps = tt
height_made slot.Try l (TheStmts b ∷ TheStmts f ∷ []) = omega arith
height_made slot.Try l (TheStmts b ∷ Missing ∷ TheStmts c ∷ Missing ∷ []) = omega arith
height_made slot.Try l (TheStmts b ∷ AWord w m ∷ TheStmts c ∷ Missing ∷ []) = omega arith
height_made slot.Try l (TheStmts b ∷ Missing ∷ TheStmts c ∷ TheStmts f ∷ []) = omega arith
height_made slot.Try l (TheStmts b ∷ AWord w m ∷ TheStmts c ∷ TheStmts f ∷ []) = omega arith
height_made slot.Try l ps = tt
height_made slot.Debugger l [] = omega arith
height_made slot.Debugger l ps = tt
