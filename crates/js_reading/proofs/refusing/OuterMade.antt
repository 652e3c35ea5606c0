-- A `this` outside functions among the parts of a production is outside functions in what it makes, but in the parts of a function.
use Rattle.std.proofs.Common.{◌≡◌, ℕ, zero, suc, Bool, true, false, not, ◌&&◌, List, [], ◌∷◌, ◌++◌, Option, Some, None, if◌then◌else◌, refl, sym, ap, subst, ◌∙◌, append_assoc, append-nil}
use Rattle.std.specs.Prelude.{◌||◌}
use Rattle.std.proofs.lemmas.Bool.{true≢false}
use Rattle.js_terms.specs.declared.place.Loc.{Loc}
use Rattle.js_terms.specs.declared.words.Spelled.{Spelled}
use Rattle.js_terms.specs.declared.operators.VariableKind.{VariableKind}
use Rattle.js_terms.specs.declared.operators.LogicalOperator.TheVariants as logic
use Rattle.js_terms.specs.declared.operators.AssignmentOperator.TheVariants as assign
use Rattle.js_tree.specs.Plain.{Expr, Exprs, no_expr, more_expr, Stmt, Stmts, no_stmt, more_stmt, MaybeExpr, none_expr, some_expr}
use Rattle.js_tree.specs.Plain as tree
use Rattle.js_reading.specs.Level.{assignment}
use Rattle.js_reading.specs.Spans.{through}
use Rattle.js_walk.specs.Part as part
use Rattle.js_walk.specs.Walk.{visit, within_expr, within_stmt, within_exprs, within_stmts, within_params, within_param, within_concise_body, within_property, within_property_key, within_properties, within_template_part, within_template_parts, within_declarator, within_declarators, within_case, within_cases, within_for_init, within_expr_if}
use Rattle.js_reading.specs.Slots.{Piece, AnExpr, AStmt, TheStmts, TheExprs, AWord, AKey, AText, APlace, AKind, Missing, IsComputed, IsMethod, IsIn, IsOf, Form}
use Rattle.js_reading.specs.Slots as slot
use Rattle.js_reading.specs.Outside.{own_this, outside_functions, is_there}
use Rattle.js_reading.specs.Unsupported.{is_function}
use Rattle.js_reading.specs.Makes.{is_target, is_async, is_and_or, with_directives, comma_of, loc_of, with_param, function_of, param_of, one_more_param, params_of, concise, arrow_of, expression_of, declaration_of, one_more_declarator, declarators_of, is_const, variables_of, maybe, for_with, for_of, for_declared, for_parts, one_more_property, method_param, method_of, method_with, after_key, property_of, then_properties, properties_of, object_of, one_more_part, template_parts, template_of, one_more_case, cases_of, switch_of, length_of, build}
use Rattle.js_reading.proofs.sentences.Rows.{either_of}

-- ---- where it stands

abbrev pub expr_at : Expr → List (Option Loc)
expr_at e = visit own_this outside_functions tt (part.AnExpr e) (within_expr own_this outside_functions e)

abbrev pub stmt_at : Stmt → List (Option Loc)
stmt_at s = visit own_this outside_functions tt (part.AStmt s) (within_stmt own_this outside_functions s)

abbrev pub exprs_at : Exprs → List (Option Loc)
exprs_at xs = within_exprs own_this outside_functions xs tt

abbrev pub stmts_at : Stmts → List (Option Loc)
stmts_at ss = within_stmts own_this outside_functions ss tt

abbrev pub piece_at : Piece → List (Option Loc)
piece_at (AnExpr i e) = expr_at e
piece_at (AStmt s) = stmt_at s
piece_at (TheStmts ss) = stmts_at ss
piece_at (TheExprs b xs) = exprs_at xs
piece_at p = []

abbrev pub has : Piece → Bool
has p = is_there (piece_at p)

-- among pieces that stand in a function or not: after the mark of a method they do, up to its body
abbrev pub shown : Bool → List Piece → Bool
shown b [] = false
shown b (IsMethod ∷ ps) = shown true ps
shown b (TheStmts ss ∷ ps) = (not b && has (TheStmts ss)) || shown false ps
shown b (p ∷ ps) = (not b && has p) || shown b ps

abbrev pub Kept : Bool → List Piece → Option Piece → Type 0
Kept b ps None = Unit {0}
Kept b ps (Some p) = shown b ps ≡ true → has p ≡ true

-- ---- lists that aren't empty

pub one : (x : Bool) → (x || false) ≡ true → x ≡ true
one true h = refl
one false h = h

pub in_left : {A : Type 0} (xs ys : List A) → is_there xs ≡ true → is_there (xs ++ ys) ≡ true
in_left [] ys h = absurd (true≢false (sym h))
in_left (x ∷ xs) ys h = refl

pub in_right : {A : Type 0} (xs ys : List A) → is_there ys ≡ true → is_there (xs ++ ys) ≡ true
in_right [] ys h = h
in_right (x ∷ xs) ys h = refl

-- the first, or what those after it come to
joined : {A : Type 0} (xs ys : List A) (r : Bool) → (r ≡ true → is_there ys ≡ true) → (is_there xs || r) ≡ true → is_there (xs ++ ys) ≡ true
joined xs ys r go h = either_of (is_there xs) r h (λ q. in_left xs ys q) (λ q. in_right xs ys (go q))

two : {A : Type 0} (xs ys : List A) → (is_there xs || (is_there ys || false)) ≡ true → is_there (xs ++ ys) ≡ true
two xs ys = joined xs ys (is_there ys || false) (one (is_there ys))

in_first : (x y : Bool) → x ≡ true → (x || y) ≡ true
in_first x y h = ap (λ b. b || y) h

in_second : (x y : Bool) → y ≡ true → (x || y) ≡ true
in_second true y h = refl
in_second false y h = h

grouped : {A : Type 0} (xs ys : List A) (r : Bool) → (is_there xs || (is_there ys || r)) ≡ true → (is_there (xs ++ ys) || r) ≡ true
grouped xs ys r h =
    either_of (is_there xs) (is_there ys || r) h (λ q. in_first (is_there (xs ++ ys)) r (in_left xs ys q))
    (λ q. either_of (is_there ys) r q (λ k. in_first (is_there (xs ++ ys)) r (in_right xs ys k)) (λ k. in_second (is_there (xs ++ ys)) r k))

three : {A : Type 0} (xs ys zs : List A) → (is_there xs || (is_there ys || (is_there zs || false))) ≡ true → is_there ((xs ++ ys) ++ zs) ≡ true
three xs ys zs h = two (xs ++ ys) zs (grouped xs ys (is_there zs || false) h)

more_there : {A : Type 0} (xs ys : List A) (k r : Bool) → (k ≡ true → (is_there ys || r) ≡ true) → (is_there xs || k) ≡ true → (is_there (xs ++ ys) || r) ≡ true
more_there xs ys k r go h =
    either_of (is_there xs) k h (λ q. in_first (is_there (xs ++ ys)) r (in_left xs ys q))
    (λ q. either_of (is_there ys) r (go q) (λ k. in_first (is_there (xs ++ ys)) r (in_right xs ys k)) (λ k. in_second (is_there (xs ++ ys)) r k))

-- one of both, where each leads on
pub mapped : {A : Type 0} (xs ys us vs : List A) → (is_there xs ≡ true → is_there us ≡ true) → (is_there ys ≡ true → is_there vs ≡ true) → is_there (xs ++ ys) ≡ true → is_there (us ++ vs) ≡ true
mapped [] ys us vs f g h = in_right us vs (g h)
mapped (x ∷ xs) ys us vs f g h = in_left us vs (f refl)

-- ---- lists of the tree

directives_same : (ss : Stmts) → stmts_at ss ≡ stmts_at (with_directives ss)
directives_same (more_stmt (tree.Expression l (tree.StringLiteral m s)) ss) = directives_same ss
directives_same ss = refl

directives_kept : (ss : Stmts) → is_there (stmts_at ss) ≡ true → is_there (stmts_at (with_directives ss)) ≡ true
directives_kept ss h = sym (ap is_there (directives_same ss)) ∙ h

comma_kept : (loc : Expr → Option Loc) (e : Expr) (es : Exprs) → is_there (expr_at e ++ exprs_at es) ≡ true → is_there (expr_at (comma_of loc e es)) ≡ true
comma_kept loc e no_expr h = ap is_there (sym (append-nil (expr_at e))) ∙ h
comma_kept loc e (more_expr x xs) h = comma_kept loc (tree.Comma _ e x) xs (ap is_there (append_assoc (expr_at e) (expr_at x) (exprs_at xs)) ∙ h)

-- ---- parameters and functions

abbrev pub Hidden : List Piece → Option tree.Function → Type 0
Hidden ps None = Unit {0}
Hidden ps (Some f) = shown true ps ≡ false

param_hidden : (p : tree.Param) (qs ps : List Piece) (o : Option tree.Function) → Hidden ps o → shown true qs ≡ shown true ps → Hidden qs (with_param p o)
param_hidden p qs ps None is e = tt
param_hidden p qs ps (Some (tree.MakeFunction n xs body)) is e = e ∙ is

function_hidden : (ps : List Piece) → Hidden ps (function_of ps)
function_hidden (APlace l ∷ TheStmts ss ∷ APlace m ∷ []) = refl
function_hidden (AWord w l ∷ Missing ∷ ps) = param_hidden _ (AWord w l ∷ Missing ∷ ps) ps (function_of ps) (function_hidden ps) refl
function_hidden (AWord w l ∷ AnExpr i e ∷ APlace m ∷ ps) = param_hidden _ (AWord w l ∷ AnExpr i e ∷ APlace m ∷ ps) ps (function_of ps) (function_hidden ps) refl
function_hidden ps = tt

expression_kept : (ps : List Piece) (make : tree.Function → Expr) (o : Option tree.Function) → Hidden ps o → Kept true ps (expression_of make o)
expression_kept ps make None is = tt
expression_kept ps make (Some f) is = λ h. absurd (true≢false (sym h ∙ is))

declaration_kept : (ps : List Piece) (make : tree.Function → Stmt) (o : Option tree.Function) → Hidden ps o → Kept true ps (declaration_of make o)
declaration_kept ps make None is = tt
declaration_kept ps make (Some f) is = λ h. absurd (true≢false (sym h ∙ is))

abbrev pub param_at : tree.Param → List (Option Loc)
param_at x = visit own_this outside_functions tt (part.AParam x) (within_param own_this outside_functions x)

abbrev pub params_at : tree.Params → List (Option Loc)
params_at xs = within_params own_this outside_functions xs tt

abbrev pub Parameter : Expr → Option tree.Param → Type 0
Parameter e None = Unit {0}
Parameter e (Some x) = is_there (expr_at e) ≡ true → is_there (param_at x) ≡ true

abbrev pub Parameters : Exprs → Option tree.Params → Type 0
Parameters es None = Unit {0}
Parameters es (Some xs) = is_there (exprs_at es) ≡ true → is_there (params_at xs) ≡ true

param_kept : (e : Expr) → Parameter e (param_of e)
param_kept (tree.IdentifierReference l w) = λ h. h
param_kept (tree.Assignment l assign.Assign (tree.IdentifierReference m w) e) = λ h. h
param_kept e = tt

params_more : (e : Expr) (es : Exprs) (x : Option tree.Param) (o : Option tree.Params) → Parameter e x → Parameters es o → Parameters (more_expr e es) (one_more_param x o)
params_more e es (Some x) (Some xs) f g = mapped (expr_at e) (exprs_at es) (param_at x) (params_at xs) f g
params_more e es x o f g = tt

params_kept : (es : Exprs) → Parameters es (params_of es)
params_kept no_expr = λ h. h
params_kept (more_expr e es) = params_more e es (param_of e) (params_of es) (param_kept e) (params_kept es)

abbrev pub body_at : tree.ConciseBody → List (Option Loc)
body_at x = visit own_this outside_functions tt (part.AConciseBody x) (within_concise_body own_this outside_functions x)

abbrev pub Bodies : List Piece → Option tree.ConciseBody → Type 0
Bodies ps None = Unit {0}
Bodies ps (Some x) = shown false ps ≡ true → is_there (body_at x) ≡ true

concise_kept : (ps : List Piece) → Bodies ps (concise ps)
concise_kept (AnExpr i e ∷ []) = one (is_there (expr_at e))
concise_kept (APlace l ∷ TheStmts ss ∷ APlace m ∷ []) = λ h. directives_kept ss (one (is_there (stmts_at ss)) h)
concise_kept ps = tt

arrow_kept : (ps : List Piece) (l : Loc) (es : Exprs) (qs : List Piece) (xs : Option tree.Params) (o : Option tree.ConciseBody) → Parameters es xs → Bodies qs o → (shown false ps ≡ true → (is_there (exprs_at es) || shown false qs) ≡ true) → Kept false ps (arrow_of l xs o)
arrow_kept ps l es qs (Some xs) (Some x) f g go = λ h. either_of (is_there (exprs_at es)) (shown false qs) (go h) (λ q. in_left (params_at xs) (body_at x) (f q)) (λ q. in_right (params_at xs) (body_at x) (g q))
arrow_kept ps l es qs xs o f g go = tt

-- ---- properties

abbrev pub Methods : List Piece → Option (tree.Function × Loc × List Piece) → Type 0
Methods ps None = Unit {0}
Methods ps (Some (f, m, rest)) = shown true ps ≡ shown false rest

method_more : (p : tree.Param) (qs ps : List Piece) (o : Option (tree.Function × Loc × List Piece)) → Methods ps o → shown true qs ≡ shown true ps → Methods qs (method_param p o)
method_more p qs ps None is e = tt
method_more p qs ps (Some (tree.MakeFunction n xs body, m, rest)) is e = e ∙ is

method_kept : (ps : List Piece) → Methods ps (method_of ps)
method_kept (APlace l ∷ TheStmts ss ∷ APlace m ∷ ps) = refl
method_kept (AWord w l ∷ Missing ∷ ps) = method_more _ (AWord w l ∷ Missing ∷ ps) ps (method_of ps) (method_kept ps) refl
method_kept (AWord w l ∷ AnExpr i e ∷ APlace m ∷ ps) = method_more _ (AWord w l ∷ AnExpr i e ∷ APlace m ∷ ps) ps (method_of ps) (method_kept ps) refl
method_kept ps = tt

abbrev pub property_at : tree.Property → List (Option Loc)
property_at p = visit own_this outside_functions tt (part.AProperty p) (within_property own_this outside_functions p)

abbrev pub properties_at : tree.Properties → List (Option Loc)
properties_at xs = within_properties own_this outside_functions xs tt

abbrev pub key_at : tree.PropertyKey → List (Option Loc)
key_at k = visit own_this outside_functions tt (part.APropertyKey k) (within_property_key own_this outside_functions k)

abbrev pub OfProperty : Bool → Option (tree.Property × List Piece) → Type 0
OfProperty b None = Unit {0}
OfProperty b (Some (p, rest)) = b ≡ true → (is_there (property_at p) || shown false rest) ≡ true

with_kept : (k : tree.PropertyKey) (l : Loc) (ps : List Piece) (o : Option (tree.Function × Loc × List Piece)) → Methods ps o → OfProperty (is_there (key_at k) || shown true ps) (method_with k l o)
with_kept k l ps None is = tt
with_kept k l ps (Some (f, m, rest)) is = λ h. subst (λ xs. (is_there xs || shown false rest) ≡ true) (sym (append-nil (key_at k))) (subst (λ b. (is_there (key_at k) || b) ≡ true) is h)

unless : (b c : Bool) (o : Option (tree.Property × List Piece)) → OfProperty c o → OfProperty c (if b then None else o)
unless true c o is = tt
unless false c o is = is

after_key_kept : (k : tree.PropertyKey) (l : Loc) (ps : List Piece) → OfProperty (is_there (key_at k) || shown false ps) (after_key k l ps)
after_key_kept (tree.NameKey w) l (Missing ∷ ps) = unless _ (shown false ps) (Some (tree.Shorthand (Some l) w, ps)) (λ h. h)
after_key_kept (tree.NameKey w) l (AnExpr i v ∷ APlace m ∷ ps) = unless _ (is_there (expr_at v) || shown false ps) (Some (tree.KeyValue (Some (through l m)) (tree.NameKey w) v, ps)) (λ h. h)
after_key_kept (tree.StringKey w) l (AnExpr i v ∷ APlace m ∷ ps) = unless _ (is_there (expr_at v) || shown false ps) (Some (tree.KeyValue (Some (through l m)) (tree.StringKey w) v, ps)) (λ h. h)
after_key_kept (tree.NumberKey w) l (AnExpr i v ∷ APlace m ∷ ps) = λ h. h
after_key_kept (tree.ComputedKey e) l (AnExpr i v ∷ APlace m ∷ ps) = grouped (expr_at e) (expr_at v) (shown false ps)
after_key_kept (tree.NameKey w) l (IsMethod ∷ ps) = with_kept (tree.NameKey w) l ps (method_of ps) (method_kept ps)
after_key_kept (tree.StringKey w) l (IsMethod ∷ ps) = with_kept (tree.StringKey w) l ps (method_of ps) (method_kept ps)
after_key_kept (tree.NumberKey w) l (IsMethod ∷ ps) = with_kept (tree.NumberKey w) l ps (method_of ps) (method_kept ps)
after_key_kept (tree.ComputedKey e) l (IsMethod ∷ ps) = with_kept (tree.ComputedKey e) l ps (method_of ps) (method_kept ps)
after_key_kept k l ps = tt

weaker : (b c : Bool) (o : Option (tree.Property × List Piece)) → OfProperty c o → (b ≡ true → c ≡ true) → OfProperty b o
weaker b c None is go = tt
weaker b c (Some (p, rest)) is go = λ h. is (go h)

property_kept : (ps : List Piece) → OfProperty (shown false ps) (property_of ps)
property_kept (IsComputed ∷ APlace l ∷ AnExpr i e ∷ ps) = after_key_kept (tree.ComputedKey e) l ps
property_kept (AKey k l ∷ ps) = weaker (shown false ps) (is_there (key_at k) || shown false ps) (after_key k l ps) (after_key_kept k l ps) (in_second (is_there (key_at k)) (shown false ps))
property_kept ps = tt

abbrev pub OfProperties : Bool → Option tree.Properties → Type 0
OfProperties b None = Unit {0}
OfProperties b (Some xs) = b ≡ true → is_there (properties_at xs) ≡ true

property_more : (p : tree.Property) (b k : Bool) (o : Option tree.Properties) → OfProperties k o → (b ≡ true → (is_there (property_at p) || k) ≡ true) → OfProperties b (one_more_property p o)
property_more p b k None is go = tt
property_more p b k (Some xs) is go = λ h. joined (property_at p) (properties_at xs) k is (go h)

then_kept : (b : Bool) (o : Option (tree.Property × List Piece)) (more : List Piece → Option tree.Properties) → OfProperty b o → ((rest : List Piece) → OfProperties (shown false rest) (more rest)) → OfProperties b (then_properties o more)
then_kept b None more is go = tt
then_kept b (Some (p, ps)) more is go = property_more p b (shown false ps) (more ps) (go ps) is

properties_kept : (n : ℕ) (ps : List Piece) → OfProperties (shown false ps) (properties_of n ps)
properties_kept zero [] = λ h. h
properties_kept (suc n) [] = λ h. h
properties_kept (suc n) (p ∷ ps) = then_kept _ (property_of (p ∷ ps)) (λ rest. properties_of n rest) (property_kept (p ∷ ps)) (λ rest. properties_kept n rest)
properties_kept zero (p ∷ ps) = tt

object_kept : (ps : List Piece) (l : Loc) (o : Option tree.Properties) → OfProperties (shown false ps) o → Kept false ps (object_of l o)
object_kept ps l None is = tt
object_kept ps l (Some xs) is = is

-- ---- templates, declarators, clauses

abbrev pub part_at : tree.TemplatePart → List (Option Loc)
part_at x = visit own_this outside_functions tt (part.ATemplatePart x) (within_template_part own_this outside_functions x)

abbrev pub parts_at : tree.TemplateParts → List (Option Loc)
parts_at xs = within_template_parts own_this outside_functions xs tt

abbrev pub OfParts : Bool → Option tree.TemplateParts → Type 0
OfParts b None = Unit {0}
OfParts b (Some xs) = b ≡ true → is_there (parts_at xs) ≡ true

part_more : (p : tree.TemplatePart) (b k : Bool) (o : Option tree.TemplateParts) → OfParts k o → (b ≡ true → (is_there (part_at p) || k) ≡ true) → OfParts b (one_more_part p o)
part_more p b k None is go = tt
part_more p b k (Some xs) is go = λ h. joined (part_at p) (parts_at xs) k is (go h)

parts_kept : (ps : List Piece) → OfParts (shown false ps) (template_parts ps)
parts_kept [] = λ h. h
parts_kept (AnExpr i e ∷ AText s ∷ ps) = part_more (tree.MakeTemplatePart e s) _ (shown false ps) (template_parts ps) (parts_kept ps) (λ h. h)
parts_kept ps = tt

template_kept : (ps : List Piece) (l : Loc) (s : Spelled) (o : Option tree.TemplateParts) → OfParts (shown false ps) o → Kept false ps (template_of l s o)
template_kept ps l s None is = tt
template_kept ps l s (Some xs) is = is

abbrev pub declarator_at : tree.Declarator → List (Option Loc)
declarator_at d = visit own_this outside_functions tt (part.ADeclarator d) (within_declarator own_this outside_functions d)

abbrev pub declarators_at : tree.Declarators → List (Option Loc)
declarators_at ds = within_declarators own_this outside_functions ds tt

abbrev pub OfDeclarators : Bool → Option (tree.Declarators × List Piece) → Type 0
OfDeclarators b None = Unit {0}
OfDeclarators b (Some (ds, rest)) = b ≡ true → (is_there (declarators_at ds) || shown false rest) ≡ true

declarator_more : (d : tree.Declarator) (b k : Bool) (o : Option (tree.Declarators × List Piece)) → OfDeclarators k o → (b ≡ true → (is_there (declarator_at d) || k) ≡ true) → OfDeclarators b (one_more_declarator d o)
declarator_more d b k None is go = tt
declarator_more d b k (Some (ds, rest)) is go = λ h. more_there (declarator_at d) (declarators_at ds) k (shown false rest) is (go h)

declarators_kept : (strict : Bool) (ps : List Piece) → OfDeclarators (shown false ps) (declarators_of strict ps)
declarators_kept true (AWord w l ∷ Missing ∷ ps) = tt
declarators_kept false (AWord w l ∷ Missing ∷ ps) = declarator_more _ _ (shown false ps) (declarators_of false ps) (declarators_kept false ps) (λ h. h)
declarators_kept true (AWord w l ∷ AnExpr i e ∷ APlace m ∷ ps) = declarator_more _ _ (shown false ps) (declarators_of true ps) (declarators_kept true ps) (λ h. h)
declarators_kept false (AWord w l ∷ AnExpr i e ∷ APlace m ∷ ps) = declarator_more _ _ (shown false ps) (declarators_of false ps) (declarators_kept false ps) (λ h. h)
declarators_kept true ps = λ h. h
declarators_kept false ps = λ h. h

variables_kept : (ps : List Piece) (l : Loc) (k : VariableKind) (o : Option (tree.Declarators × List Piece)) → OfDeclarators (shown false ps) o → Kept false ps (variables_of l k o)
variables_kept ps l k None is = tt
variables_kept ps l k (Some (ds, [])) is = λ h. one (is_there (declarators_at ds)) (is h)
variables_kept ps l k (Some (ds, r ∷ rest)) is = tt

abbrev pub case_at : tree.Case → List (Option Loc)
case_at c = visit own_this outside_functions tt (part.ACase c) (within_case own_this outside_functions c)

abbrev pub cases_at : tree.Cases → List (Option Loc)
cases_at cs = within_cases own_this outside_functions cs tt

abbrev pub OfCases : Bool → Option tree.Cases → Type 0
OfCases b None = Unit {0}
OfCases b (Some cs) = b ≡ true → is_there (cases_at cs) ≡ true

case_more : (c : tree.Case) (b k : Bool) (o : Option tree.Cases) → OfCases k o → (b ≡ true → (is_there (case_at c) || k) ≡ true) → OfCases b (one_more_case c o)
case_more c b k None is go = tt
case_more c b k (Some cs) is go = λ h. joined (case_at c) (cases_at cs) k is (go h)

cases_kept : (defaulted : Bool) (ps : List Piece) → OfCases (shown false ps) (cases_of defaulted ps)
cases_kept true [] = λ h. h
cases_kept false [] = λ h. h
cases_kept true (APlace l ∷ AnExpr i e ∷ TheStmts ss ∷ APlace m ∷ ps) = case_more _ _ (shown false ps) (cases_of true ps) (cases_kept true ps) (grouped (expr_at e) (stmts_at ss) (shown false ps))
cases_kept false (APlace l ∷ AnExpr i e ∷ TheStmts ss ∷ APlace m ∷ ps) = case_more _ _ (shown false ps) (cases_of false ps) (cases_kept false ps) (grouped (expr_at e) (stmts_at ss) (shown false ps))
cases_kept false (APlace l ∷ TheStmts ss ∷ APlace m ∷ ps) = case_more _ _ (shown false ps) (cases_of true ps) (cases_kept true ps) (λ h. h)
cases_kept true ps = tt
cases_kept false ps = tt

switch_kept : (i : ℕ) (ps : List Piece) (l : Loc) (e : Expr) (o : Option tree.Cases) → OfCases (shown false ps) o → Kept false (AnExpr i e ∷ ps) (switch_of l e o)
switch_kept i ps l e None is = tt
switch_kept i ps l e (Some cs) is = joined (expr_at e) (cases_at cs) (shown false ps) is

-- ---- heads of `for`

abbrev pub maybe_at : MaybeExpr → List (Option Loc)
maybe_at x = within_expr_if own_this outside_functions x tt

abbrev pub init_at : tree.ForInit → List (Option Loc)
init_at x = visit own_this outside_functions tt (part.AForInit x) (within_for_init own_this outside_functions x)

abbrev pub Maybes : Piece → List Piece → Option MaybeExpr → Type 0
Maybes p ps None = Unit {0}
Maybes p ps (Some x) = shown false (p ∷ ps) ≡ true → (is_there (maybe_at x) || shown false ps) ≡ true

maybe_kept : (p : Piece) (ps : List Piece) → Maybes p ps (maybe p)
maybe_kept Missing ps = λ h. h
maybe_kept (AnExpr i e) ps = λ h. h
maybe_kept p ps = tt

abbrev pub KeptFrom : Bool → Option Piece → Type 0
KeptFrom b None = Unit {0}
KeptFrom b (Some p) = b ≡ true → has p ≡ true

for_with_kept : (l : Loc) (x : tree.ForInit) (s : Stmt) (p q : Piece) (y z : Option MaybeExpr) → Maybes p (q ∷ AStmt s ∷ []) y → Maybes q (AStmt s ∷ []) z → KeptFrom (is_there (init_at x) || shown false (p ∷ q ∷ AStmt s ∷ [])) (for_with l x s y z)
for_with_kept l x s p q (Some y) (Some z) f g =
    λ h. two ((init_at x ++ maybe_at y) ++ maybe_at z) (stmt_at s)
    (more_there (init_at x ++ maybe_at y) (maybe_at z) (shown false (q ∷ AStmt s ∷ [])) (shown false (AStmt s ∷ [])) g (more_there (init_at x) (maybe_at y) (shown false (p ∷ q ∷ AStmt s ∷ [])) (shown false (q ∷ AStmt s ∷ [])) f h))
for_with_kept l x s p q None z f g = tt
for_with_kept l x s p q (Some y) None f g = tt

for_of_kept : (l : Loc) (x : tree.ForInit) (ps : List Piece) → KeptFrom (is_there (init_at x) || shown false ps) (for_of l x ps)
for_of_kept l x (p ∷ q ∷ AStmt s ∷ []) = for_with_kept l x s p q (maybe p) (maybe q) (maybe_kept p (q ∷ AStmt s ∷ [])) (maybe_kept q (AStmt s ∷ []))
for_of_kept l x ps = tt

from_weaker : (b c : Bool) (o : Option Piece) → KeptFrom c o → (b ≡ true → c ≡ true) → KeptFrom b o
from_weaker b c None is go = tt
from_weaker b c (Some p) is go = λ h. is (go h)

kept_from : (ps : List Piece) (o : Option Piece) → KeptFrom (shown false ps) o → Kept false ps o
kept_from ps None is = tt
kept_from ps (Some p) is = is

for_declared_kept : (b : Bool) (l : Loc) (k : VariableKind) (o : Option (tree.Declarators × List Piece)) → OfDeclarators b o → KeptFrom b (for_declared l k o)
for_declared_kept b l k None is = tt
for_declared_kept b l k (Some (ds, rest)) is = from_weaker b (is_there (declarators_at ds) || shown false rest) (for_of l (tree.InitDeclaration k ds) rest) (for_of_kept l (tree.InitDeclaration k ds) rest) is

if_kept : (b : Bool) (ps : List Piece) (o : Option Piece) → Kept false ps o → Kept false ps (if b then o else None)
if_kept true ps o is = is
if_kept false ps o is = tt

unless_kept : (b : Bool) (ps : List Piece) (o : Option Piece) → Kept false ps o → Kept false ps (if b then None else o)
unless_kept true ps o is = tt
unless_kept false ps o is = is

for_kept : (l : Loc) (ps : List Piece) → Kept false ps (for_parts l ps)
for_kept l (AKind k ∷ AWord w m ∷ IsIn ∷ AnExpr i e ∷ AStmt s ∷ []) = two (expr_at e) (stmt_at s)
for_kept l (AKind k ∷ AWord w m ∷ IsOf ∷ AnExpr i e ∷ AStmt s ∷ []) = two (expr_at e) (stmt_at s)
for_kept l (AnExpr j x ∷ IsIn ∷ AnExpr i e ∷ AStmt s ∷ []) = if_kept (is_target x) (AnExpr j x ∷ IsIn ∷ AnExpr i e ∷ AStmt s ∷ []) (Some (AStmt (tree.ForIn (Some l) (tree.TargetExpression x) e s))) (three (expr_at x) (expr_at e) (stmt_at s))
for_kept l (AnExpr j x ∷ IsOf ∷ AnExpr i e ∷ AStmt s ∷ []) = if_kept (is_target x && not (is_async x)) (AnExpr j x ∷ IsOf ∷ AnExpr i e ∷ AStmt s ∷ []) (Some (AStmt (tree.ForOf (Some l) (tree.TargetExpression x) e s))) (three (expr_at x) (expr_at e) (stmt_at s))
for_kept l (AKind k ∷ ps) = kept_from (AKind k ∷ ps) (for_declared l k (declarators_of (is_const k) ps)) (for_declared_kept (shown false ps) l k (declarators_of (is_const k) ps) (declarators_kept (is_const k) ps))
for_kept l (AnExpr j x ∷ ps) = kept_from (AnExpr j x ∷ ps) (for_of l (tree.InitExpression x) ps) (for_of_kept l (tree.InitExpression x) ps)
for_kept l (Missing ∷ ps) = kept_from (Missing ∷ ps) (for_of l tree.NoInit ps) (for_of_kept l tree.NoInit ps)
for_kept l ps = tt

-- ---- all productions

pub kept : (f : Form) (l : Loc) (ps : List Piece) → Kept (is_function f) ps (build f l ps)
kept slot.Parentheses l (TheExprs false (more_expr e es) ∷ Missing ∷ []) = λ h. comma_kept loc_of e es (one (is_there (exprs_at (more_expr e es))) h)
kept slot.Parentheses l (TheExprs b xs ∷ p ∷ ps) = arrow_kept (TheExprs b xs ∷ p ∷ ps) l xs (p ∷ ps) (params_of xs) (concise (p ∷ ps)) (params_kept xs) (concise_kept (p ∷ ps)) (λ h. h)
kept slot.Parentheses l ps = tt
kept slot.ArrayLiteral l (TheExprs b xs ∷ []) = one (is_there (exprs_at xs))
kept slot.ArrayLiteral l ps = tt
kept slot.ObjectLiteral l ps = object_kept ps l (properties_of (length_of ps) ps) (properties_kept (length_of ps) ps)
kept slot.Template l (AText s ∷ ps) = template_kept ps l s (template_parts ps) (parts_kept ps)
kept slot.Template l ps = tt
kept slot.FunctionExpression l (Missing ∷ ps) = expression_kept ps _ (function_of ps) (function_hidden ps)
kept slot.FunctionExpression l (AWord w m ∷ ps) = expression_kept ps _ (function_of ps) (function_hidden ps)
kept slot.FunctionExpression l ps = tt
kept slot.New l (AnExpr i c ∷ TheExprs b xs ∷ []) = two (expr_at c) (exprs_at xs)
kept slot.New l (AnExpr i c ∷ Missing ∷ []) = λ h. in_left (expr_at c) [] (one (is_there (expr_at c)) h)
kept slot.New l ps = tt
kept slot.Call l (AnExpr i f ∷ TheExprs b xs ∷ []) = two (expr_at f) (exprs_at xs)
kept slot.Call l ps = tt
kept slot.Dot l (AnExpr i o ∷ AWord w m ∷ []) = one (is_there (expr_at o))
kept slot.Dot l ps = tt
kept slot.Member l (AnExpr i o ∷ AnExpr j k ∷ []) = two (expr_at o) (expr_at k)
kept slot.Member l ps = tt
kept (slot.Postfix o) l (AnExpr i e ∷ []) = if_kept (is_target e) (AnExpr i e ∷ []) (Some (AnExpr 17 (tree.PostfixUpdate (Some l) o e))) (one (is_there (expr_at e)))
kept (slot.Postfix o) l ps = tt
kept (slot.PrefixUpdate o) l (AnExpr i e ∷ []) = if_kept (is_target e) (AnExpr i e ∷ []) (Some (AnExpr 17 (tree.PrefixUpdate (Some l) o e))) (one (is_there (expr_at e)))
kept (slot.PrefixUpdate o) l ps = tt
kept (slot.Unary o) l (AnExpr i e ∷ []) = one (is_there (expr_at e))
kept (slot.Unary o) l ps = tt
kept (slot.Binary o) l (AnExpr i x ∷ AnExpr j y ∷ []) = two (expr_at x) (expr_at y)
kept (slot.Binary o) l ps = tt
kept (slot.Logical logic.Coalesce) l (AnExpr i x ∷ AnExpr j y ∷ []) = unless_kept (is_and_or x) (AnExpr i x ∷ AnExpr j y ∷ []) (Some (AnExpr 4 (tree.Logical (Some l) logic.Coalesce x y))) (two (expr_at x) (expr_at y))
kept (slot.Logical logic.And) l (AnExpr i x ∷ AnExpr j y ∷ []) = two (expr_at x) (expr_at y)
kept (slot.Logical logic.Or) l (AnExpr i x ∷ AnExpr j y ∷ []) = two (expr_at x) (expr_at y)
kept (slot.Logical logic.Coalesce) l ps = tt
kept (slot.Logical o) l ps = tt
kept slot.Conditional l (AnExpr h c ∷ AnExpr i x ∷ AnExpr j y ∷ []) = three (expr_at c) (expr_at x) (expr_at y)
kept slot.Conditional l ps = tt
kept (slot.Assignment o) l (AnExpr i x ∷ AnExpr j v ∷ []) = if_kept (is_target x) (AnExpr i x ∷ AnExpr j v ∷ []) (Some (AnExpr assignment (tree.Assignment (Some l) o x v))) (two (expr_at x) (expr_at v))
kept (slot.Assignment o) l ps = tt
kept slot.ArrowOfName l (AnExpr i (tree.IdentifierReference m w) ∷ ps) =
    arrow_kept (AnExpr i (tree.IdentifierReference m w) ∷ ps) l (more_expr (tree.IdentifierReference m w) no_expr) ps (params_of (more_expr (tree.IdentifierReference m w) no_expr)) (concise ps) (params_kept (more_expr (tree.IdentifierReference m w) no_expr)) (concise_kept ps) (λ h. h)
kept slot.ArrowOfName l ps = tt
kept slot.Comma l (AnExpr i x ∷ AnExpr j y ∷ []) = two (expr_at x) (expr_at y)
kept slot.Comma l ps = tt
kept slot.Expression l (AnExpr i e ∷ []) = one (is_there (expr_at e))
kept slot.Expression l ps = tt
kept slot.Labelled l (AnExpr i (tree.IdentifierReference m w) ∷ AStmt s ∷ []) = one (is_there (stmt_at s))
kept slot.Labelled l ps = tt
kept slot.Block l (TheStmts ss ∷ []) = one (is_there (stmts_at ss))
kept slot.Block l ps = tt
kept (slot.Variables k) l ps = variables_kept ps l k (declarators_of (is_const k) ps) (declarators_kept (is_const k) ps)
kept slot.FunctionDeclaration l (AWord w m ∷ ps) = declaration_kept ps _ (function_of ps) (function_hidden ps)
kept slot.FunctionDeclaration l ps = tt
kept slot.Empty l [] = λ h. h
kept slot.Empty l ps = tt
kept slot.If l (AnExpr i c ∷ AStmt s ∷ Missing ∷ []) = three (expr_at c) (stmt_at s) []
kept slot.If l (AnExpr i c ∷ AStmt s ∷ AStmt r ∷ []) = three (expr_at c) (stmt_at s) (stmt_at r)
kept slot.If l ps = tt
kept slot.For l ps = for_kept l ps
kept slot.While l (AnExpr i c ∷ AStmt s ∷ []) = two (expr_at c) (stmt_at s)
kept slot.While l ps = tt
kept slot.DoWhile l (AStmt s ∷ AnExpr i c ∷ []) = two (stmt_at s) (expr_at c)
kept slot.DoWhile l ps = tt
kept slot.Continue l (Missing ∷ []) = λ h. h
kept slot.Continue l (AWord w m ∷ []) = λ h. h
kept slot.Continue l ps = tt
kept slot.Break l (Missing ∷ []) = λ h. h
kept slot.Break l (AWord w m ∷ []) = λ h. h
kept slot.Break l ps = tt
kept slot.Return l (Missing ∷ []) = λ h. h
kept slot.Return l (AnExpr i e ∷ []) = one (is_there (expr_at e))
kept slot.Return l ps = tt
kept slot.Switch l (AnExpr i e ∷ ps) = switch_kept i ps l e (cases_of false ps) (cases_kept false ps)
kept slot.Switch l ps = tt
kept slot.Throw l (AnExpr i e ∷ []) = one (is_there (expr_at e))
kept slot.Throw l ps = tt
kept slot.Try l (TheStmts b ∷ TheStmts f ∷ []) = two (stmts_at b) (stmts_at f)
kept slot.Try l (TheStmts b ∷ Missing ∷ TheStmts c ∷ Missing ∷ []) = two (stmts_at b) (stmts_at c)
kept slot.Try l (TheStmts b ∷ AWord w m ∷ TheStmts c ∷ Missing ∷ []) = two (stmts_at b) (stmts_at c)
kept slot.Try l (TheStmts b ∷ Missing ∷ TheStmts c ∷ TheStmts f ∷ []) = three (stmts_at b) (stmts_at c) (stmts_at f)
kept slot.Try l (TheStmts b ∷ AWord w m ∷ TheStmts c ∷ TheStmts f ∷ []) = three (stmts_at b) (stmts_at c) (stmts_at f)
kept slot.Try l ps = tt
kept slot.Debugger l [] = λ h. h
kept slot.Debugger l ps = tt
