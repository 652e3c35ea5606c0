-- Lists that are read from the front, one by one.
use Rattle.std.proofs.Common.{◌≡◌, ℕ, max, Bool, true, false, List, [], ◌∷◌, Option, Some, None, refl, ap, arith}
use Rattle.js_terms.specs.declared.place.Loc.{Loc}
use Rattle.js_tree.specs.Plain.{Expr, MaybeExpr, none_expr, some_expr, Stmts, TemplatePart, TemplateParts, no_template_part, more_template_part, push_template_parts, Case, Cases, no_case, more_case, push_cases}
use Rattle.js_tree.specs.Height.{height_case, height_cases, height_template_part, height_template_parts}
use Rattle.js_reading.specs.Slots.{Piece, AnExpr, TheStmts, APlace}
use Rattle.js_reading.specs.declared.form.Form.TheVariants as form
use Rattle.js_reading.specs.Makes.{build, cases_of, one_more_case, one_more_part, switch_of}
use Rattle.js_build.specs.Callables.{braces_of}
use Rattle.js_build.specs.Lists.{case_read, clause_of, place_of}
use Rattle.js_build.specs.Objects.{first_place}
use Rattle.js_build.specs.Shapes.{first_expr}

-- ---- parts of a template

abbrev pub front_parts : TemplateParts → Option TemplateParts → Option TemplateParts
front_parts no_template_part o = o
front_parts (more_template_part p ps) o = one_more_part p (front_parts ps o)

pub parts_push : (ps : TemplateParts) (p : TemplatePart) (o : Option TemplateParts) → front_parts (push_template_parts ps p) o ≡ front_parts ps (one_more_part p o)
parts_push no_template_part p o = refl
parts_push (more_template_part q ps) p o = ap (one_more_part q) (parts_push ps p o)

pub parts_none : (ps : TemplateParts) → front_parts ps None ≡ None
parts_none no_template_part = refl
parts_none (more_template_part q ps) = ap (one_more_part q) (parts_none ps)

pub parts_all : (ps : TemplateParts) → front_parts ps (Some no_template_part) ≡ Some ps
parts_all no_template_part = refl
parts_all (more_template_part q ps) = ap (one_more_part q) (parts_all ps)

pub max_push_parts : (xs : TemplateParts) (a : TemplatePart) → height_template_parts (push_template_parts xs a) ≡ max (height_template_part a) (height_template_parts xs)
max_push_parts no_template_part a = omega arith
max_push_parts (more_template_part x xs) a = let e = max_push_parts xs a in omega arith

pub ruleset part_rules = (parts_push, parts_none, parts_all, max_push_parts)

-- ---- clauses of a `switch`

abbrev pub front_cases : Cases → Option Cases → Option Cases
front_cases no_case o = o
front_cases (more_case p ps) o = one_more_case p (front_cases ps o)

pub cases_push : (ps : Cases) (p : Case) (o : Option Cases) → front_cases (push_cases ps p) o ≡ front_cases ps (one_more_case p o)
cases_push no_case p o = refl
cases_push (more_case q ps) p o = ap (one_more_case q) (cases_push ps p o)

pub cases_none : (ps : Cases) → front_cases ps None ≡ None
cases_none no_case = refl
cases_none (more_case q ps) = ap (one_more_case q) (cases_none ps)

pub cases_all : (ps : Cases) → front_cases ps (Some no_case) ≡ Some ps
cases_all no_case = refl
cases_all (more_case q ps) = ap (one_more_case q) (cases_all ps)

pub max_push_cases : (xs : Cases) (a : Case) → height_cases (push_cases xs a) ≡ max (height_case a) (height_cases xs)
max_push_cases no_case a = omega arith
max_push_cases (more_case x xs) a = let e = max_push_cases xs a in omega arith

-- a clause with a test
abbrev pub tested : Expr → Option ((Stmts × Loc) × List Piece) → Option ((MaybeExpr × (Stmts × Loc)) × List Piece)
tested e None = None
tested e (Some x) = Some ((some_expr e, x.0), x.1)

pub clause_tested : (i : ℕ) (e : Expr) (ps : List Piece) → clause_of (AnExpr i e ∷ ps) ≡ tested e (braces_of ps)
clause_tested i e [] = refl
clause_tested i e (TheStmts ss ∷ []) = refl
clause_tested i e (TheStmts ss ∷ APlace m ∷ ps) = refl
clause_tested i e (TheStmts ss ∷ p ∷ ps) = refl
clause_tested i e (p ∷ ps) = refl

-- a clause without one
abbrev pub untested : Stmts → Option (Loc × List Piece) → Option ((MaybeExpr × (Stmts × Loc)) × List Piece)
untested ss None = None
untested ss (Some x) = Some ((none_expr, (ss, x.0)), x.1)

pub clause_untested : (ss : Stmts) (ps : List Piece) → clause_of (TheStmts ss ∷ ps) ≡ untested ss (first_place ps)
clause_untested ss [] = refl
clause_untested ss (APlace m ∷ ps) = refl
clause_untested ss (p ∷ ps) = refl

pub ruleset clause_rules = (clause_tested, clause_untested)

-- with a clause before the others
abbrev pub more_cases : Option ((Case × Bool) × List Piece) → Option Cases
more_cases None = None
more_cases (Some x) = one_more_case x.0.0 (cases_of x.0.1 x.1)

cases_place : (d : Bool) (l : Loc) (ps : List Piece) → cases_of d (APlace l ∷ ps) ≡ more_cases (case_read d l (clause_of ps))
cases_place true l [] = refl
cases_place true l (AnExpr i e ∷ []) = refl
cases_place true l (AnExpr i e ∷ TheStmts ss ∷ []) = refl
cases_place true l (AnExpr i e ∷ TheStmts ss ∷ APlace m ∷ ps) = refl
cases_place true l (AnExpr i e ∷ TheStmts ss ∷ p ∷ ps) = refl
cases_place true l (AnExpr i e ∷ p ∷ ps) = refl
cases_place true l (TheStmts ss ∷ []) = refl
cases_place true l (TheStmts ss ∷ APlace m ∷ ps) = refl
cases_place true l (TheStmts ss ∷ p ∷ ps) = refl
cases_place true l (p ∷ ps) = refl
cases_place false l [] = refl
cases_place false l (AnExpr i e ∷ []) = refl
cases_place false l (AnExpr i e ∷ TheStmts ss ∷ []) = refl
cases_place false l (AnExpr i e ∷ TheStmts ss ∷ APlace m ∷ ps) = refl
cases_place false l (AnExpr i e ∷ TheStmts ss ∷ p ∷ ps) = refl
cases_place false l (AnExpr i e ∷ p ∷ ps) = refl
cases_place false l (TheStmts ss ∷ []) = refl
cases_place false l (TheStmts ss ∷ APlace m ∷ ps) = refl
cases_place false l (TheStmts ss ∷ p ∷ ps) = refl
cases_place false l (p ∷ ps) = refl

pub cases_end : (d : Bool) → cases_of d [] ≡ Some no_case
cases_end true = refl
cases_end false = refl

-- what begins with no place is no clause
abbrev pub from_place : Bool → Option Loc → List Piece → Option Cases
from_place d None ps = None
from_place d (Some l) ps = more_cases (case_read d l (clause_of ps))

pub cases_first : (d : Bool) (p : Piece) (ps : List Piece) → cases_of d (p ∷ ps) ≡ from_place d (place_of p) ps
cases_first d (APlace l) ps = cases_place d l ps
cases_first true p ps = refl
cases_first false p ps = refl

pub ruleset case_rules = (cases_push, cases_none, cases_all, max_push_cases, cases_first, cases_end)

abbrev pub switch_after : Loc → Option ((ℕ × Expr) × List Piece) → Option Piece
switch_after l None = None
switch_after l (Some (x, ps)) = switch_of l x.1 (cases_of false ps)

pub switch_form : (l : Loc) (ps : List Piece) → build form.Switch l ps ≡ switch_after l (first_expr ps)
switch_form l [] = refl
switch_form l (AnExpr i x ∷ ps) = refl
switch_form l (p ∷ ps) = refl
