-- Parameters and bodies of arrow functions.
use Rattle.std.proofs.Common.{◌≡◌, ℕ, max, Bool, List, [], ◌∷◌, Option, Some, None, refl, ap, sym, ◌∙◌, arith}
use Rattle.js_terms.specs.declared.operators.AssignmentOperator.TheVariants as assign
use Rattle.js_terms.specs.declared.place.Loc.{Loc}
use Rattle.js_tree.specs.Plain.{Expr, Exprs, no_expr, more_expr, Param, Params, no_param, more_param, push_params}
use Rattle.js_tree.specs.Plain as tree
use Rattle.js_tree.specs.Height.{height_expr, height_exprs, height_param, height_params}
use Rattle.js_reading.specs.Spans.{through}
use Rattle.js_reading.specs.Slots.{Piece, AnExpr, APlace, TheStmts}
use Rattle.js_reading.specs.Makes.{arrow_of, bare_in, concise, last_level, one_more_param, param_of, params_of, with_directives}
use Rattle.js_build.specs.Arrows.{default_of}
use Rattle.js_build.specs.Callables.{braces_of}
use Rattle.js_build.specs.Concise.{bare_of, last_of}
use Rattle.js_build.specs.Shapes.{if_over, none_left}

-- an assignment by `=` is a name with a default
pub assigned_default : (l : Option Loc) (e v : Expr) → param_of (tree.Assignment l assign.Assign e v) ≡ default_of l e v
assigned_default l (tree.IdentifierReference m w) v = refl
assigned_default l e v = refl

-- parameters before others
abbrev pub with_front : Params → Option Params → Option Params
with_front no_param o = o
with_front (more_param p ps) o = one_more_param (Some p) (with_front ps o)

pub front_push : (ps : Params) (p : Param) (o : Option Params) → with_front (push_params ps p) o ≡ with_front ps (one_more_param (Some p) o)
front_push no_param p o = refl
front_push (more_param q ps) p o = ap (one_more_param (Some q)) (front_push ps p o)

pub front_none : (ps : Params) → with_front ps None ≡ None
front_none no_param = refl
front_none (more_param q ps) = ap (one_more_param (Some q)) (front_none ps)

pub front_all : (ps : Params) → with_front ps (Some no_param) ≡ Some ps
front_all no_param = refl
front_all (more_param q ps) = ap (one_more_param (Some q)) (front_all ps)

pub params_more : (e : Expr) (es : Exprs) → params_of (more_expr e es) ≡ one_more_param (param_of e) (params_of es)
params_more e es = refl

pub none_more : (o : Option Params) → one_more_param None o ≡ None
none_more None = refl
none_more (Some ps) = refl

pub param_turn : (ps : Params) (p : Param) (e : Expr) (es : Exprs) (whole : Option Params) → Some p ≡ param_of e → with_front ps (params_of (more_expr e es)) ≡ whole → with_front (push_params ps p) (params_of es) ≡ whole
param_turn ps p e es whole read so = front_push ps p (params_of es) ∙ ap (λ o. with_front ps (one_more_param o (params_of es))) read ∙ so

pub param_none : (ps : Params) (e : Expr) (es : Exprs) (whole : Option Params) → None ≡ param_of e → with_front ps (params_of (more_expr e es)) ≡ whole → None ≡ whole
param_none ps e es whole read so = sym (front_none ps) ∙ ap (with_front ps) (sym (none_more (params_of es))) ∙ ap (λ o. with_front ps (one_more_param o (params_of es))) read ∙ so

pub params_end : (ps : Params) (es : Exprs) (whole : Option Params) → es ≡ no_expr → with_front ps (params_of es) ≡ whole → Some ps ≡ whole
params_end ps es whole over so = sym (front_all ps) ∙ ap (λ x. with_front ps (params_of x)) (sym over) ∙ so

-- they are as high as what was read
abbrev SameParam : ℕ → Option Param → Type 0
SameParam h None = Unit {0}
SameParam h (Some p) = height_param p ≡ h

abbrev SameParams : ℕ → Option Params → Type 0
SameParams h None = Unit {0}
SameParams h (Some ps) = height_params ps ≡ h

param_same : (e : Expr) → SameParam (height_expr e) (param_of e)
param_same (tree.IdentifierReference l w) = refl
param_same (tree.Assignment l assign.Assign (tree.IdentifierReference m w) e) = refl
param_same e = tt

one_more_same : (h k : ℕ) (p : Option Param) (o : Option Params) → SameParam h p → SameParams k o → SameParams (max h k) (one_more_param p o)
one_more_same h k None None a b = tt
one_more_same h k None (Some ps) a b = tt
one_more_same h k (Some p) None a b = tt
one_more_same h k (Some p) (Some ps) a b = omega arith

params_all_same : (es : Exprs) → SameParams (height_exprs es) (params_of es)
params_all_same no_expr = refl
params_all_same (more_expr e es) = one_more_same (height_expr e) (height_exprs es) (param_of e) (params_of es) (param_same e) (params_all_same es)

same_if : (h : ℕ) (o : Option Params) (ps : Params) → SameParams h o → o ≡ Some ps → height_params ps ≡ h
same_if h None ps s e = cc
same_if h (Some qs) ps s e = let k : qs ≡ ps = cc in cc

pub params_same : (es : Exprs) (ps : Params) → params_of es ≡ Some ps → height_params ps ≡ height_exprs es
params_same es ps e = same_if (height_exprs es) (params_of es) ps (params_all_same es) e

pub ruleset params_rules = (front_push, front_none, front_all, params_more, none_more, params_same)

-- ---- what an arrow function says of itself

pub last_arrow : (l : Option Loc) (n : ℕ) (ps : Params) (b : tree.ConciseBody) → last_level (tree.ArrowFunction l n ps b) ≡ last_of b
last_arrow l n ps (tree.ExpressionBody x) = refl
last_arrow l n ps (tree.BlockBody b) = refl

pub bare_arrow : (l : Option Loc) (n : ℕ) (ps : Params) (b : tree.ConciseBody) → bare_in (tree.ArrowFunction l n ps b) ≡ bare_of b
bare_arrow l n ps (tree.ExpressionBody x) = refl
bare_arrow l n ps (tree.BlockBody b) = refl

pub ruleset arrow_measures = (last_arrow, bare_arrow)

pub arrow_without : (l : Loc) (o : Option Params) → arrow_of l o None ≡ None
arrow_without l None = refl
arrow_without l (Some ps) = refl

-- a body in braces, after the place of the `{`
abbrev pub block_alone : Loc → Option ((tree.Stmts × Loc) × List Piece) → Option tree.ConciseBody
block_alone l None = None
block_alone l (Some ((ss, m), ps)) = if_over (none_left ps) (tree.BlockBody (tree.MakeFunctionBody (Some (through l m)) (with_directives ss)))

pub concise_place : (l : Loc) (ps : List Piece) → concise (APlace l ∷ ps) ≡ block_alone l (braces_of ps)
concise_place l [] = refl
concise_place l (TheStmts ss ∷ []) = refl
concise_place l (TheStmts ss ∷ APlace m ∷ []) = refl
concise_place l (TheStmts ss ∷ APlace m ∷ p ∷ ps) = refl
concise_place l (TheStmts ss ∷ p ∷ ps) = refl
concise_place l (p ∷ ps) = refl

pub block_missing : (l : Loc) (ps : List Piece) → None ≡ braces_of ps → concise (APlace l ∷ ps) ≡ None
block_missing l ps read = concise_place l ps ∙ ap (block_alone l) (sym read)

pub block_over : (l : Loc) (ps rest : List Piece) (ss : tree.Stmts) (m : Loc) (b : Bool) → Some ((ss, m), rest) ≡ braces_of ps → b ≡ none_left rest → concise (APlace l ∷ ps) ≡ if_over b (tree.BlockBody (tree.MakeFunctionBody (Some (through l m)) (with_directives ss)))
block_over l ps rest ss m b read over = concise_place l ps ∙ ap (block_alone l) (sym read) ∙ ap (λ x. if_over x (tree.BlockBody (tree.MakeFunctionBody (Some (through l m)) (with_directives ss)))) (sym over)

-- a body that is an expression
pub concise_expression : (i : ℕ) (e : Expr) (ps : List Piece) → concise (AnExpr i e ∷ ps) ≡ if_over (none_left ps) (tree.ExpressionBody e)
concise_expression i e [] = refl
concise_expression i e (p ∷ ps) = refl

pub concise_over : (i : ℕ) (e : Expr) (ps : List Piece) (b : Bool) → b ≡ none_left ps → concise (AnExpr i e ∷ ps) ≡ if_over b (tree.ExpressionBody e)
concise_over i e ps b over = concise_expression i e ps ∙ ap (λ x. if_over x (tree.ExpressionBody e)) (sym over)
