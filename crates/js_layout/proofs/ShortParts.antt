-- What the lists of a production make is charged no more than their pieces: parameters, functions, properties, declarators, clauses.
use Rattle.std.proofs.Common.{◌≡◌, ℕ, zero, suc, ◌+◌, ◌≤◌, Bool, true, false, List, [], ◌∷◌, length, Option, Some, None, if◌then◌else◌, arith}
use Rattle.js_terms.specs.declared.place.Loc.{Loc}
use Rattle.js_terms.specs.declared.words.Spelled.{Spelled}
use Rattle.js_terms.specs.declared.operators.AssignmentOperator.TheVariants as assign
use Rattle.js_tree.specs.Plain.{Expr, Exprs, no_expr, more_expr, Stmt, Stmts, no_stmt, more_stmt, none_expr, some_expr}
use Rattle.js_tree.specs.Plain as tree
use Rattle.js_reading.specs.Spans.{through}
use Rattle.js_reading.specs.Slots.{Piece, AnExpr, TheStmts, AWord, AKey, AText, APlace, Missing, IsComputed, IsMethod}
use Rattle.js_reading.specs.Kinds.{is_keyword}
use Rattle.js_reading.specs.Makes.{with_directives, comma_of, with_param, function_of, param_of, one_more_param, params_of, concise, arrow_of, expression_of, declaration_of, one_more_declarator, declarators_of, is_proto, one_more_property, method_param, method_of, method_with, after_key, property_of, then_properties, properties_of, object_of, one_more_part, template_parts, template_of, one_more_case, cases_of, switch_of}
use Rattle.js_layout.proofs.ShortSizes.{size_expr, sizes, size_parts, size_properties, size_property, size_key, size_function, size_concise, size_params, size_param, size_stmt, size_stmts, size_declarators, size_declarator, size_cases, size_case}
use Rattle.js_layout.proofs.ShortPieces.{size_items, costs, Pays}

-- ---- lists of the tree

pub directives_size : (ss : Stmts) → size_stmts (with_directives ss) ≤ size_stmts ss
directives_size (more_stmt (tree.Expression l (tree.StringLiteral m s)) ss) = omega (arith, directives_size ss)
directives_size ss = omega arith

pub comma_size : (loc : Expr → Option Loc) (e : Expr) (es : Exprs) → size_expr (comma_of loc e es) ≤ size_expr e + sizes es
comma_size loc e no_expr = omega arith
comma_size loc e (more_expr x xs) =
    let r : size_expr (comma_of loc e (more_expr x xs)) ≤ (size_expr e + (size_expr x + 6)) + sizes xs = comma_size loc _ xs in
    omega (arith, r)

-- ---- parameters and functions

abbrev pub Functions : ℕ → Option tree.Function → Type 0
Functions h None = Unit {0}
Functions h (Some f) = size_function f + 8 ≤ h

param_more : (p : tree.Param) (h k : ℕ) (o : Option tree.Function) → Functions k o → size_param p + (2 + k) ≤ h → Functions h (with_param p o)
param_more p h k None is le = tt
param_more p h k (Some (tree.MakeFunction n xs body)) is le = omega (arith, is, le)

pub function_made : (ps : List Piece) → Functions (costs ps) (function_of ps)
function_made (APlace l ∷ TheStmts ss ∷ APlace m ∷ []) = omega (arith, directives_size ss)
function_made (AWord w l ∷ Missing ∷ ps) = param_more _ (costs (AWord w l ∷ Missing ∷ ps)) (costs ps) (function_of ps) (function_made ps) (omega arith)
function_made (AWord w l ∷ AnExpr i e ∷ APlace m ∷ ps) = param_more _ (costs (AWord w l ∷ AnExpr i e ∷ APlace m ∷ ps)) (costs ps) (function_of ps) (function_made ps) (omega arith)
function_made ps = tt

abbrev pub Parameters : ℕ → Option tree.Params → Type 0
Parameters h None = Unit {0}
Parameters h (Some xs) = size_params xs ≤ h

abbrev Parameter : ℕ → Option tree.Param → Type 0
Parameter h None = Unit {0}
Parameter h (Some x) = size_param x + 2 ≤ h

params_more : (h k : ℕ) (x : Option tree.Param) (o : Option tree.Params) → Parameter h x → Parameters k o → Parameters (h + k) (one_more_param x o)
params_more h k (Some x) (Some xs) one more = omega (arith, one, more)
params_more h k x o one more = tt

param_made : (e : Expr) → Parameter (size_expr e) (param_of e)
param_made (tree.IdentifierReference l w) = omega arith
param_made (tree.Assignment l assign.Assign (tree.IdentifierReference m w) e) = omega arith
param_made e = tt

weaker_params : (h k : ℕ) (o : Option tree.Params) → Parameters k o → k ≤ h → Parameters h o
weaker_params h k None is le = tt
weaker_params h k (Some xs) is le = omega (arith, is, le)

params_listed : (es : Exprs) → Parameters (sizes es) (params_of es)
params_listed no_expr = omega arith
params_listed (more_expr e es) = weaker_params (sizes (more_expr e es)) (size_expr e + sizes es) (params_of (more_expr e es)) (params_more (size_expr e) (sizes es) (param_of e) (params_of es) (param_made e) (params_listed es)) (omega arith)

pub params_made : (es : Exprs) → Parameters (size_items es) (params_of es)
params_made no_expr = omega arith
params_made (more_expr e es) = params_more (size_expr e) (sizes es) (param_of e) (params_of es) (param_made e) (params_listed es)

abbrev pub Bodies : ℕ → Option tree.ConciseBody → Type 0
Bodies h None = Unit {0}
Bodies h (Some x) = size_concise x + 2 ≤ h

pub concise_made : (ps : List Piece) → Bodies (costs ps) (concise ps)
concise_made (AnExpr i e ∷ []) = omega arith
concise_made (APlace l ∷ TheStmts ss ∷ APlace m ∷ []) = omega (arith, directives_size ss)
concise_made ps = tt

pub arrow_made : (n h k : ℕ) (l : Loc) (xs : Option tree.Params) (o : Option tree.ConciseBody) → Parameters h xs → Bodies k o → h + (k + 11) ≤ n → Pays n (arrow_of l xs o)
arrow_made n h k l (Some xs) (Some x) one more le = omega (arith, one, more, le)
arrow_made n h k l xs o one more le = tt

pub expression_made : (n h c : ℕ) (make : tree.Function → Expr) (o : Option tree.Function) → ((f : tree.Function) → size_expr (make f) ≡ size_function f + c) → Functions h o → h + c ≤ n → Pays n (expression_of make o)
expression_made n h c make None same is le = tt
expression_made n h c make (Some f) same is le = omega (arith, same f, is, le)

pub declaration_made : (n h c : ℕ) (make : tree.Function → Stmt) (o : Option tree.Function) → ((f : tree.Function) → size_stmt (make f) ≡ size_function f + c) → Functions h o → h + c ≤ n → Pays n (declaration_of make o)
declaration_made n h c make None same is le = tt
declaration_made n h c make (Some f) same is le = omega (arith, same f, is, le)

-- ---- properties

abbrev Methods : ℕ → Option (tree.Function × Loc × List Piece) → Type 0
Methods h None = Unit {0}
Methods h (Some (f, m, rest)) = size_function f + costs rest ≤ h

method_more : (p : tree.Param) (h k : ℕ) (o : Option (tree.Function × Loc × List Piece)) → Methods k o → size_param p + (2 + k) ≤ h → Methods h (method_param p o)
method_more p h k None is le = tt
method_more p h k (Some (tree.MakeFunction n xs body, m, rest)) is le = omega (arith, is, le)

method_made : (ps : List Piece) → Methods (costs ps) (method_of ps)
method_made (APlace l ∷ TheStmts ss ∷ APlace m ∷ ps) = omega (arith, directives_size ss)
method_made (AWord w l ∷ Missing ∷ ps) = method_more _ (costs (AWord w l ∷ Missing ∷ ps)) (costs ps) (method_of ps) (method_made ps) (omega arith)
method_made (AWord w l ∷ AnExpr i e ∷ APlace m ∷ ps) = method_more _ (costs (AWord w l ∷ AnExpr i e ∷ APlace m ∷ ps)) (costs ps) (method_of ps) (method_made ps) (omega arith)
method_made ps = tt

abbrev OfProperty : ℕ → Option (tree.Property × List Piece) → Type 0
OfProperty h None = Unit {0}
OfProperty h (Some (p, rest)) = size_property p + (2 + costs rest) ≤ h

with_made : (k : tree.PropertyKey) (l : Loc) (h j : ℕ) (o : Option (tree.Function × Loc × List Piece)) → Methods j o → size_key k + (2 + j) ≤ h → OfProperty h (method_with k l o)
with_made k l h j None is le = tt
with_made k l h j (Some (f, m, ps)) is le = omega (arith, is, le)

unless : (b : Bool) (h : ℕ) (o : Option (tree.Property × List Piece)) → OfProperty h o → OfProperty h (if b then None else o)
unless true h o is = tt
unless false h o is = is

-- a key that isn't `__proto__`, and its value
value_made : (k : tree.PropertyKey) (l : Loc) (v : Expr) (ps : List Piece) (h : ℕ) → size_key k + (size_expr v + (4 + costs ps)) ≤ h → OfProperty h (if is_proto k then None else Some (tree.KeyValue (Some l) k v, ps))
value_made k l v ps h le = unless (is_proto k) h (Some (tree.KeyValue (Some l) k v, ps)) (omega (arith, le))

method_after : (k : tree.PropertyKey) (l : Loc) (ps : List Piece) (h : ℕ) → size_key k + (2 + costs ps) ≤ h → OfProperty h (method_with k l (method_of ps))
method_after k l ps h le = with_made k l h (costs ps) (method_of ps) (method_made ps) le

after_key_made : (k : tree.PropertyKey) (l : Loc) (ps : List Piece) (h : ℕ) → size_key k + (4 + costs ps) ≤ h → OfProperty h (after_key k l ps)
after_key_made (tree.NameKey w) l (Missing ∷ ps) h le = unless (is_keyword w) h (Some (tree.Shorthand (Some l) w, ps)) (omega (arith, le))
after_key_made (tree.NameKey w) l (AnExpr i v ∷ APlace m ∷ ps) h le = value_made (tree.NameKey w) (through l m) v ps h (omega (arith, le))
after_key_made (tree.StringKey w) l (AnExpr i v ∷ APlace m ∷ ps) h le = value_made (tree.StringKey w) (through l m) v ps h (omega (arith, le))
after_key_made (tree.NumberKey w) l (AnExpr i v ∷ APlace m ∷ ps) h le = value_made (tree.NumberKey w) (through l m) v ps h (omega (arith, le))
after_key_made (tree.ComputedKey e) l (AnExpr i v ∷ APlace m ∷ ps) h le = value_made (tree.ComputedKey e) (through l m) v ps h (omega (arith, le))
after_key_made (tree.NameKey w) l (IsMethod ∷ ps) h le = method_after (tree.NameKey w) l ps h (omega (arith, le))
after_key_made (tree.StringKey w) l (IsMethod ∷ ps) h le = method_after (tree.StringKey w) l ps h (omega (arith, le))
after_key_made (tree.NumberKey w) l (IsMethod ∷ ps) h le = method_after (tree.NumberKey w) l ps h (omega (arith, le))
after_key_made (tree.ComputedKey e) l (IsMethod ∷ ps) h le = method_after (tree.ComputedKey e) l ps h (omega (arith, le))
after_key_made k l ps h le = tt

property_made : (ps : List Piece) → OfProperty (costs ps) (property_of ps)
property_made (IsComputed ∷ APlace l ∷ AnExpr i e ∷ ps) = after_key_made (tree.ComputedKey e) l ps (costs (IsComputed ∷ APlace l ∷ AnExpr i e ∷ ps)) (omega arith)
property_made (AKey k l ∷ ps) = after_key_made k l ps (costs (AKey k l ∷ ps)) (omega arith)
property_made ps = tt

abbrev OfProperties : ℕ → Option tree.Properties → Type 0
OfProperties h None = Unit {0}
OfProperties h (Some xs) = size_properties xs ≤ h

property_more : (p : tree.Property) (h k : ℕ) (o : Option tree.Properties) → OfProperties k o → size_property p + (2 + k) ≤ h → OfProperties h (one_more_property p o)
property_more p h k None is le = tt
property_more p h k (Some xs) is le = omega (arith, is, le)

then_made : (h : ℕ) (o : Option (tree.Property × List Piece)) (more : List Piece → Option tree.Properties) → OfProperty h o → ((rest : List Piece) → OfProperties (costs rest) (more rest)) → OfProperties h (then_properties o more)
then_made h None more is go = tt
then_made h (Some (p, ps)) more is go = property_more p h (costs ps) (more ps) (go ps) is

properties_made : (n : ℕ) (ps : List Piece) → OfProperties (costs ps) (properties_of n ps)
properties_made zero [] = omega arith
properties_made (suc n) [] = omega arith
properties_made (suc n) (p ∷ ps) = then_made _ (property_of (p ∷ ps)) (λ rest. properties_of n rest) (property_made (p ∷ ps)) (λ rest. properties_made n rest)
properties_made zero (p ∷ ps) = tt

object_some : (n h : ℕ) (l : Loc) (o : Option tree.Properties) → OfProperties h o → h + 10 ≤ n → Pays n (object_of l o)
object_some n h l None is le = tt
object_some n h l (Some xs) is le = omega (arith, is, le)

pub object_made : (n k : ℕ) (l : Loc) (ps : List Piece) → costs ps + 10 ≤ n → Pays n (object_of l (properties_of k ps))
object_made n k l ps le = object_some n (costs ps) l (properties_of k ps) (properties_made k ps) le

-- ---- templates

abbrev OfParts : ℕ → Option tree.TemplateParts → Type 0
OfParts h None = Unit {0}
OfParts h (Some xs) = size_parts xs ≤ h

part_more : (e : Expr) (s : Spelled) (h k : ℕ) (o : Option tree.TemplateParts) → OfParts k o → size_expr e + (length s.spelling + (1 + k)) ≤ h → OfParts h (one_more_part (tree.MakeTemplatePart e s) o)
part_more e s h k None is le = tt
part_more e s h k (Some xs) is le = omega (arith, is, le)

parts_made : (ps : List Piece) → OfParts (costs ps) (template_parts ps)
parts_made [] = omega arith
parts_made (AnExpr i e ∷ AText s ∷ ps) = part_more e s _ (costs ps) (template_parts ps) (parts_made ps) (omega arith)
parts_made ps = tt

template_some : (n h : ℕ) (l : Loc) (s : Spelled) (o : Option tree.TemplateParts) → OfParts h o → length s.spelling + (h + 7) ≤ n → Pays n (template_of l s o)
template_some n h l s None is le = tt
template_some n h l s (Some xs) is le = omega (arith, is, le)

pub template_made : (n : ℕ) (l : Loc) (s : Spelled) (ps : List Piece) → length s.spelling + (costs ps + 7) ≤ n → Pays n (template_of l s (template_parts ps))
template_made n l s ps le = template_some n (costs ps) l s (template_parts ps) (parts_made ps) le

-- ---- declarators

abbrev pub OfDeclarators : ℕ → Option (tree.Declarators × List Piece) → Type 0
OfDeclarators h None = Unit {0}
OfDeclarators h (Some (ds, rest)) = size_declarators ds + costs rest ≤ h

declarator_more : (d : tree.Declarator) (h k : ℕ) (o : Option (tree.Declarators × List Piece)) → OfDeclarators k o → size_declarator d + (2 + k) ≤ h → OfDeclarators h (one_more_declarator d o)
declarator_more d h k None is le = tt
declarator_more d h k (Some (ds, rest)) is le = omega (arith, is, le)

pub declarators_made : (strict : Bool) (ps : List Piece) → OfDeclarators (costs ps) (declarators_of strict ps)
declarators_made true (AWord w l ∷ Missing ∷ ps) = tt
declarators_made false (AWord w l ∷ Missing ∷ ps) = declarator_more _ _ (costs ps) (declarators_of false ps) (declarators_made false ps) (omega arith)
declarators_made true (AWord w l ∷ AnExpr i e ∷ APlace m ∷ ps) = declarator_more _ _ (costs ps) (declarators_of true ps) (declarators_made true ps) (omega arith)
declarators_made false (AWord w l ∷ AnExpr i e ∷ APlace m ∷ ps) = declarator_more _ _ (costs ps) (declarators_of false ps) (declarators_made false ps) (omega arith)
declarators_made true ps = omega arith
declarators_made false ps = omega arith

-- ---- clauses

abbrev OfCases : ℕ → Option tree.Cases → Type 0
OfCases h None = Unit {0}
OfCases h (Some cs) = size_cases cs ≤ h

case_more : (c : tree.Case) (h k : ℕ) (o : Option tree.Cases) → OfCases k o → size_case c + k ≤ h → OfCases h (one_more_case c o)
case_more c h k None is le = tt
case_more c h k (Some cs) is le = omega (arith, is, le)

cases_made : (defaulted : Bool) (ps : List Piece) → OfCases (costs ps) (cases_of defaulted ps)
cases_made true [] = omega arith
cases_made false [] = omega arith
cases_made true (APlace l ∷ AnExpr i e ∷ TheStmts ss ∷ APlace m ∷ ps) = case_more _ _ (costs ps) (cases_of true ps) (cases_made true ps) (omega arith)
cases_made false (APlace l ∷ AnExpr i e ∷ TheStmts ss ∷ APlace m ∷ ps) = case_more _ _ (costs ps) (cases_of false ps) (cases_made false ps) (omega arith)
cases_made false (APlace l ∷ TheStmts ss ∷ APlace m ∷ ps) = case_more _ _ (costs ps) (cases_of true ps) (cases_made true ps) (omega arith)
cases_made true ps = tt
cases_made false ps = tt

switch_some : (n h : ℕ) (l : Loc) (e : Expr) (o : Option tree.Cases) → OfCases h o → size_expr e + (h + 15) ≤ n → Pays n (switch_of l e o)
switch_some n h l e None is le = tt
switch_some n h l e (Some cs) is le = omega (arith, is, le)

pub switch_made : (n : ℕ) (l : Loc) (e : Expr) (ps : List Piece) → size_expr e + (costs ps + 15) ≤ n → Pays n (switch_of l e (cases_of false ps))
switch_made n l e ps le = switch_some n (costs ps) l e (cases_of false ps) (cases_made false ps) le
