-- What the lists of a production make of parts that can be printed: parameters, functions, properties, declarators, clauses.
use Rattle.std.proofs.Common.{◌≡◌, ℕ, zero, suc, Bool, true, false, List, [], ◌∷◌, Option, Some, None, if◌then◌else◌, refl, sym, ◌∙◌}
use Rattle.std.proofs.lemmas.Bool.{true≢false}
use Rattle.js_terms.specs.declared.place.Loc.{Loc}
use Rattle.js_terms.specs.declared.words.Spelled.{Spelled}
use Rattle.js_terms.specs.declared.operators.AssignmentOperator.TheVariants as assign
use Rattle.js_tree.specs.Plain.{Expr, Exprs, no_expr, more_expr, Stmt, Stmts, no_stmt, more_stmt, MaybeExpr, none_expr, some_expr}
use Rattle.js_tree.specs.Plain as tree
use Rattle.js_text.specs.Token.{TemplateHead, TemplateMiddle, TemplateTail}
use Rattle.js_reading.specs.Spans.{through}
use Rattle.js_reading.specs.Slots.{Piece, AnExpr, TheStmts, AWord, AKey, AText, APlace, Missing, IsComputed, IsMethod}
use Rattle.js_reading.specs.Kinds.{is_keyword}
use Rattle.js_reading.specs.Makes.{with_directives, comma_of, bound, with_param, function_of, param_of, one_more_param, params_of, concise, arrow_of, expression_of, declaration_of, one_more_declarator, declarators_of, is_proto, one_more_property, method_param, method_of, method_with, after_key, property_of, then_properties, properties_of, object_of, one_more_part, template_parts, template_of, one_more_case, cases_of, switch_of}
use Rattle.js_layout.specs.Printable.{IsName, IsPart, Binds}
use Rattle.js_layout.proofs.Fine.{FineExpr, FineExprs, FineParts, FineProperties, FineProperty, FineKey, FineFunction, FineConcise, FineParams, FineMaybe, FineStmts, FineStmt, FineSome, FineDeclarators, FineDeclarator, FineCases, FinePieces, FineMade}

-- ---- lists of the tree

pub directives_fine : (ss : Stmts) → FineStmts false ss → FineStmts true (with_directives ss)
directives_fine no_stmt h = tt
directives_fine (more_stmt (tree.Expression l (tree.StringLiteral m s)) ss) h = (h.0, directives_fine ss h.1)
directives_fine (more_stmt (tree.Directive l s) ss) h = absurd h.0
directives_fine (more_stmt s ss) h = h

pub commas_fine : (loc : Expr → Option Loc) (e : Expr) (es : Exprs) → FineExpr e → FineExprs es → FineExpr (comma_of loc e es)
commas_fine loc e no_expr h hs = h
commas_fine loc e (more_expr x xs) h hs = commas_fine loc (tree.Comma _ e x) xs (h, hs.0) hs.1

-- ---- parameters and functions

abbrev pub FineFunctionIf : Option tree.Function → Type 0
FineFunctionIf None = Unit {0}
FineFunctionIf (Some f) = FineFunction f

-- one more parameter: its name, and what it is where nothing stands for it
param_fine : (l : Option Loc) (w : List ℕ) (m : Loc) (e : MaybeExpr) (o : Option tree.Function) → IsName w → FineMaybe e → FineFunctionIf o → FineFunctionIf (with_param (tree.MakeParam l (bound w m) e) o)
param_fine l w m e None h he is = tt
param_fine l w m e (Some (tree.MakeFunction n ps body)) h he is = (is.0, (h, he, is.1), is.2)

pub function_made : (ps : List Piece) → FinePieces false ps → FineFunctionIf (function_of ps)
function_made (APlace l ∷ TheStmts ss ∷ APlace m ∷ []) h = (refl, tt, directives_fine ss h.1.0)
function_made (AWord w l ∷ Missing ∷ ps) h = param_fine (Some l) w l none_expr (function_of ps) h.0 tt (function_made ps h.1.1)
function_made (AWord w l ∷ AnExpr i e ∷ APlace m ∷ ps) h = param_fine (Some (through l m)) w l (some_expr e) (function_of ps) h.0 h.1.0 (function_made ps h.1.1.1)
function_made ps h = tt

abbrev pub FineParamsIf : Option tree.Params → Type 0
FineParamsIf None = Unit {0}
FineParamsIf (Some ps) = FineParams ps

abbrev pub FineParamIf : Option tree.Param → Type 0
FineParamIf None = Unit {0}
FineParamIf (Some (tree.MakeParam l x e)) = Binds x × FineMaybe e

more_params : (x : Option tree.Param) (o : Option tree.Params) → FineParamIf x → FineParamsIf o → FineParamsIf (one_more_param x o)
more_params (Some (tree.MakeParam l x e)) (Some ps) h is = (h.0, h.1, is)
more_params None o h is = tt
more_params (Some p) None h is = tt

param_made : (e : Expr) → FineExpr e → FineParamIf (param_of e)
param_made (tree.IdentifierReference l w) h = (h, tt)
param_made (tree.Assignment l assign.Assign (tree.IdentifierReference m w) e) h = (h.0, h.2)
param_made e h = tt

pub params_made : (es : Exprs) → FineExprs es → FineParamsIf (params_of es)
params_made no_expr h = tt
params_made (more_expr e es) h = more_params (param_of e) (params_of es) (param_made e h.0) (params_made es h.1)

abbrev pub FineConciseIf : Option tree.ConciseBody → Type 0
FineConciseIf None = Unit {0}
FineConciseIf (Some body) = FineConcise body

pub concise_made : (ps : List Piece) → FinePieces false ps → FineConciseIf (concise ps)
concise_made (AnExpr i e ∷ []) h = h.0
concise_made (APlace l ∷ TheStmts ss ∷ APlace m ∷ []) h = directives_fine ss h.1.0
concise_made ps h = tt

pub arrow_fine : (l : Loc) (xs : Option tree.Params) (o : Option tree.ConciseBody) → FineParamsIf xs → FineConciseIf o → FineMade (arrow_of l xs o)
arrow_fine l (Some ps) (Some body) h is = (refl, h, is)
arrow_fine l None o h is = tt
arrow_fine l (Some ps) None h is = tt

pub expression_fine : (make : tree.Function → Expr) (o : Option tree.Function) → ((f : tree.Function) → FineFunction f → FineExpr (make f)) → FineFunctionIf o → FineMade (expression_of make o)
expression_fine make None go is = tt
expression_fine make (Some f) go is = go f is

pub declaration_fine : (make : tree.Function → Stmt) (o : Option tree.Function) → ((f : tree.Function) → FineFunction f → FineStmt (make f)) → FineFunctionIf o → FineMade (declaration_of make o)
declaration_fine make None go is = tt
declaration_fine make (Some f) go is = go f is

-- ---- properties

abbrev pub FineMethod : Option (tree.Function × Loc × List Piece) → Type 0
FineMethod None = Unit {0}
FineMethod (Some (f, m, rest)) = FineFunction f × FinePieces false rest

method_param_fine : (l : Option Loc) (w : List ℕ) (m : Loc) (e : MaybeExpr) (o : Option (tree.Function × Loc × List Piece)) → IsName w → FineMaybe e → FineMethod o → FineMethod (method_param (tree.MakeParam l (bound w m) e) o)
method_param_fine l w m e None h he is = tt
method_param_fine l w m e (Some (tree.MakeFunction n ps body, k, rest)) h he is = ((is.0.0, (h, he, is.0.1), is.0.2), is.1)

method_made : (ps : List Piece) → FinePieces false ps → FineMethod (method_of ps)
method_made (APlace l ∷ TheStmts ss ∷ APlace m ∷ ps) h = ((refl, tt, directives_fine ss h.1.0), h.1.1.1)
method_made (AWord w l ∷ Missing ∷ ps) h = method_param_fine (Some l) w l none_expr (method_of ps) h.0 tt (method_made ps h.1.1)
method_made (AWord w l ∷ AnExpr i e ∷ APlace m ∷ ps) h = method_param_fine (Some (through l m)) w l (some_expr e) (method_of ps) h.0 h.1.0 (method_made ps h.1.1.1)
method_made ps h = tt

abbrev pub FinePropertyIf : Option (tree.Property × List Piece) → Type 0
FinePropertyIf None = Unit {0}
FinePropertyIf (Some (p, rest)) = FineProperty p × FinePieces false rest

with_fine : (k : tree.PropertyKey) (l : Loc) (o : Option (tree.Function × Loc × List Piece)) → FineKey k → FineMethod o → FinePropertyIf (method_with k l o)
with_fine k l None hk is = tt
with_fine k l (Some (f, m, rest)) hk is = ((hk, is.0), is.1)

-- a key that isn't `__proto__`, and its value
value_fine : (k : tree.PropertyKey) (l : Loc) (v : Expr) (ps : List Piece) → FineKey k → FineExpr v → FinePieces false ps → FinePropertyIf (if is_proto k then None else Some (tree.KeyValue (Some l) k v, ps))
value_fine k l v ps hk hv h = by_test (is_proto k) refl
  where
    by_test : (b : Bool) → is_proto k ≡ b → FinePropertyIf (if b then None else Some (tree.KeyValue (Some l) k v, ps))
    by_test true e = tt
    by_test false e = ((hk, e, hv), h)

shorthand_fine : (w : List ℕ) (l : Loc) (ps : List Piece) → FineKey (tree.NameKey w) → FinePieces false ps → FinePropertyIf (if is_keyword w then None else Some (tree.Shorthand (Some l) w, ps))
shorthand_fine w l ps hk h = by_test (is_keyword w) refl
  where
    by_test : (b : Bool) → is_keyword w ≡ b → FinePropertyIf (if b then None else Some (tree.Shorthand (Some l) w, ps))
    by_test true e = tt
    by_test false e = (record { token = hk; free = e }, h)

after_key_made : (k : tree.PropertyKey) (l : Loc) (ps : List Piece) → FineKey k → FinePieces false ps → FinePropertyIf (after_key k l ps)
after_key_made (tree.NameKey w) l (Missing ∷ ps) hk h = shorthand_fine w l ps hk h.1
after_key_made (tree.NameKey w) l (AnExpr i v ∷ APlace m ∷ ps) hk h = value_fine (tree.NameKey w) (through l m) v ps hk h.0 h.1.1
after_key_made (tree.StringKey w) l (AnExpr i v ∷ APlace m ∷ ps) hk h = value_fine (tree.StringKey w) (through l m) v ps hk h.0 h.1.1
after_key_made (tree.NumberKey w) l (AnExpr i v ∷ APlace m ∷ ps) hk h = value_fine (tree.NumberKey w) (through l m) v ps hk h.0 h.1.1
after_key_made (tree.ComputedKey e) l (AnExpr i v ∷ APlace m ∷ ps) hk h = value_fine (tree.ComputedKey e) (through l m) v ps hk h.0 h.1.1
after_key_made (tree.NameKey w) l (IsMethod ∷ ps) hk h = with_fine (tree.NameKey w) l (method_of ps) hk (method_made ps h.1)
after_key_made (tree.StringKey w) l (IsMethod ∷ ps) hk h = with_fine (tree.StringKey w) l (method_of ps) hk (method_made ps h.1)
after_key_made (tree.NumberKey w) l (IsMethod ∷ ps) hk h = with_fine (tree.NumberKey w) l (method_of ps) hk (method_made ps h.1)
after_key_made (tree.ComputedKey e) l (IsMethod ∷ ps) hk h = with_fine (tree.ComputedKey e) l (method_of ps) hk (method_made ps h.1)
after_key_made k l ps hk h = tt

property_made : (ps : List Piece) → FinePieces false ps → FinePropertyIf (property_of ps)
property_made (IsComputed ∷ APlace l ∷ AnExpr i e ∷ ps) h = after_key_made (tree.ComputedKey e) l ps h.1.1.0 h.1.1.1
property_made (AKey k l ∷ ps) h = after_key_made k l ps h.0 h.1
property_made ps h = tt

abbrev pub FinePropertiesIf : Option tree.Properties → Type 0
FinePropertiesIf None = Unit {0}
FinePropertiesIf (Some ps) = FineProperties ps

more_properties : (p : tree.Property) (o : Option tree.Properties) → FineProperty p → FinePropertiesIf o → FinePropertiesIf (one_more_property p o)
more_properties p None h is = tt
more_properties p (Some ps) h is = (h, is)

then_fine : (o : Option (tree.Property × List Piece)) (more : List Piece → Option tree.Properties) → FinePropertyIf o → ((rest : List Piece) → FinePieces false rest → FinePropertiesIf (more rest)) → FinePropertiesIf (then_properties o more)
then_fine None more is go = tt
then_fine (Some (p, ps)) more is go = more_properties p (more ps) is.0 (go ps is.1)

pub properties_made : (n : ℕ) (ps : List Piece) → FinePieces false ps → FinePropertiesIf (properties_of n ps)
properties_made zero [] h = tt
properties_made (suc n) [] h = tt
properties_made (suc n) (p ∷ ps) h = then_fine (property_of (p ∷ ps)) (λ rest. properties_of n rest) (property_made (p ∷ ps) h) (λ rest is. properties_made n rest is)
properties_made zero (p ∷ ps) h = tt

pub object_fine : (l : Loc) (o : Option tree.Properties) → FinePropertiesIf o → FineMade (object_of l o)
object_fine l None is = tt
object_fine l (Some ps) is = is

-- ---- templates

-- each text after a substitution is the last part, or one in the middle
abbrev pub RightTexts : List Piece → Type 0
RightTexts [] = Unit {0}
RightTexts (AText s ∷ []) = IsPart (TemplateTail s.spelling) s
RightTexts (AText s ∷ p ∷ ps) = IsPart (TemplateMiddle s.spelling) s × RightTexts (p ∷ ps)
RightTexts (p ∷ ps) = RightTexts ps

-- the first is the head of a template, after which something stands
abbrev pub TemplateTexts : List Piece → Type 0
TemplateTexts (AText s ∷ []) = ⊥
TemplateTexts (AText s ∷ p ∷ ps) = IsPart (TemplateHead s.spelling) s × RightTexts (p ∷ ps)
TemplateTexts ps = Unit {0}

-- parts that can be printed: some, where there are pieces
abbrev FinePartsOf : List Piece → Option tree.TemplateParts → Type 0
FinePartsOf ps None = Unit {0}
FinePartsOf [] (Some xs) = FineParts xs
FinePartsOf (p ∷ ps) (Some tree.no_template_part) = ⊥
FinePartsOf (p ∷ ps) (Some (tree.more_template_part x xs)) = FineParts (tree.more_template_part x xs)

middle_fine : (i : ℕ) (e : Expr) (s : Spelled) (p : Piece) (ps : List Piece) (o : Option tree.TemplateParts) → FineExpr e → IsPart (TemplateMiddle s.spelling) s → FinePartsOf (p ∷ ps) o →
    FinePartsOf (AnExpr i e ∷ AText s ∷ p ∷ ps) (one_more_part (tree.MakeTemplatePart e s) o)
middle_fine i e s p ps None h hs is = tt
middle_fine i e s p ps (Some tree.no_template_part) h hs is = absurd is
middle_fine i e s p ps (Some (tree.more_template_part x xs)) h hs is = (h, hs, is)

parts_made : (ps : List Piece) → FinePieces false ps → RightTexts ps → FinePartsOf ps (template_parts ps)
parts_made [] h texts = tt
parts_made (AnExpr i e ∷ AText s ∷ []) h texts = (h.0, texts, tt)
parts_made (AnExpr i e ∷ AText s ∷ p ∷ ps) h texts = middle_fine i e s p ps (template_parts (p ∷ ps)) h.0 texts.0 (parts_made (p ∷ ps) h.1.1 texts.1)
parts_made ps h texts = tt

whole_fine : (l : Loc) (s : Spelled) (p : Piece) (ps : List Piece) (o : Option tree.TemplateParts) → IsPart (TemplateHead s.spelling) s → FinePartsOf (p ∷ ps) o → FineMade (template_of l s o)
whole_fine l s p ps None h is = tt
whole_fine l s p ps (Some tree.no_template_part) h is = absurd is
whole_fine l s p ps (Some (tree.more_template_part x xs)) h is = (h, is)

pub template_fine : (l : Loc) (s : Spelled) (ps : List Piece) → FinePieces false ps → TemplateTexts (AText s ∷ ps) → FineMade (template_of l s (template_parts ps))
template_fine l s [] h texts = absurd texts
template_fine l s (p ∷ ps) h texts = whole_fine l s p ps (template_parts (p ∷ ps)) texts.0 (parts_made (p ∷ ps) h texts.1)

-- ---- declarators

abbrev pub begins_word : List Piece → Bool
begins_word (AWord w l ∷ ps) = true
begins_word ps = false

-- the declarators that a list of pieces begins with, and the pieces after them: one declarator at least, where a word was taken
abbrev pub FineFound : Bool → Bool → Option (tree.Declarators × List Piece) → Type 0
FineFound given due None = Unit {0}
FineFound given due (Some (ds, rest)) = FineDeclarators due ds × FinePieces false rest × (given ≡ true → begins_word rest ≡ false → FineSome due ds)

more_declarators : (given due : Bool) (d : tree.Declarator) (o : Option (tree.Declarators × List Piece)) → FineDeclarator due d → FineFound given due o → FineFound true due (one_more_declarator d o)
more_declarators given due d None h is = tt
more_declarators given due d (Some (ds, rest)) h is = ((h, is.0), is.1, λ e f. (h, is.0))

none_found : (due : Bool) (ps : List Piece) → FinePieces false ps → FineFound (begins_word ps) due (Some (tree.no_declarator, ps))
none_found due ps h = (tt, h, λ e f. absurd (true≢false (sym e ∙ f)))

pub declarators_made : (due : Bool) (ps : List Piece) → FinePieces false ps → FineFound (begins_word ps) due (declarators_of due ps)
declarators_made true (AWord w l ∷ Missing ∷ ps) h = tt
declarators_made false (AWord w l ∷ Missing ∷ ps) h = more_declarators (begins_word ps) false _ (declarators_of false ps) (h.0, tt) (declarators_made false ps h.1.1)
declarators_made true (AWord w l ∷ AnExpr i e ∷ APlace m ∷ ps) h = more_declarators (begins_word ps) true _ (declarators_of true ps) (h.0, h.1.0) (declarators_made true ps h.1.1.1)
declarators_made false (AWord w l ∷ AnExpr i e ∷ APlace m ∷ ps) h = more_declarators (begins_word ps) false _ (declarators_of false ps) (h.0, h.1.0) (declarators_made false ps h.1.1.1)
declarators_made true ps h = none_found true ps h
declarators_made false ps h = none_found false ps h

-- ---- clauses

abbrev pub FineCasesIf : Bool → Option tree.Cases → Type 0
FineCasesIf defaulted None = Unit {0}
FineCasesIf defaulted (Some cs) = FineCases defaulted cs

case_fine : (defaulted : Bool) (l : Option Loc) (e : Expr) (ss : Stmts) (o : Option tree.Cases) → FineExpr e → FineStmts false ss → FineCasesIf defaulted o → FineCasesIf defaulted (one_more_case (tree.MakeCase l (some_expr e) ss) o)
case_fine defaulted l e ss None h hs is = tt
case_fine true l e ss (Some cs) h hs is = (h, hs, is)
case_fine false l e ss (Some cs) h hs is = (h, hs, is)

default_fine : (l : Option Loc) (ss : Stmts) (o : Option tree.Cases) → FineStmts false ss → FineCasesIf true o → FineCasesIf false (one_more_case (tree.MakeCase l none_expr ss) o)
default_fine l ss None hs is = tt
default_fine l ss (Some cs) hs is = (hs, is)

pub cases_made : (defaulted : Bool) (ps : List Piece) → FinePieces false ps → FineCasesIf defaulted (cases_of defaulted ps)
cases_made true [] h = tt
cases_made false [] h = tt
cases_made true (APlace l ∷ AnExpr i e ∷ TheStmts ss ∷ APlace m ∷ ps) h = case_fine true _ e ss (cases_of true ps) h.1.0 h.1.1.0 (cases_made true ps h.1.1.1.1)
cases_made false (APlace l ∷ AnExpr i e ∷ TheStmts ss ∷ APlace m ∷ ps) h = case_fine false _ e ss (cases_of false ps) h.1.0 h.1.1.0 (cases_made false ps h.1.1.1.1)
cases_made false (APlace l ∷ TheStmts ss ∷ APlace m ∷ ps) h = default_fine _ ss (cases_of true ps) h.1.0 (cases_made true ps h.1.1.1)
cases_made true ps h = tt
cases_made false ps h = tt

pub switch_fine : (l : Loc) (e : Expr) (o : Option tree.Cases) → FineExpr e → FineCasesIf false o → FineMade (switch_of l e o)
switch_fine l e None h is = tt
switch_fine l e (Some cs) h is = (h, is)
