-- Lists that are the same are of one length.
use Rattle.std.proofs.Common.{◌≡◌, ℕ, List, [], ◌∷◌, length, refl, ap, arith, ◌+◌}
use Rattle.js_tree.proofs.Equations.{tree_rules}
use Rattle.js_tree.specs.Tree.{plain_template_parts, plain_properties, plain_params, plain_exprs, plain_stmts, plain_declarators, plain_cases}
use Rattle.js_tree.specs.declared.tree.TemplatePart.{TemplatePart}
use Rattle.js_tree.specs.declared.tree.Property.{Property}
use Rattle.js_tree.specs.declared.tree.Param.{Param}
use Rattle.js_tree.specs.declared.tree.Expr.{Expr}
use Rattle.js_tree.specs.declared.tree.Stmt.{Stmt}
use Rattle.js_tree.specs.declared.tree.Declarator.{Declarator}
use Rattle.js_tree.specs.declared.tree.Case.{Case}
use Rattle.js_tree.specs.Plain.{TemplateParts, no_template_part, more_template_part}
use Rattle.js_tree.specs.Plain.{Properties, no_property, more_property}
use Rattle.js_tree.specs.Plain.{Params, no_param, more_param}
use Rattle.js_tree.specs.Plain.{Exprs, no_expr, more_expr}
use Rattle.js_tree.specs.Plain.{Stmts, no_stmt, more_stmt}
use Rattle.js_tree.specs.Plain.{Declarators, no_declarator, more_declarator}
use Rattle.js_tree.specs.Plain.{Cases, no_case, more_case}
use Rattle.js_tree.specs.Same.{bare_template_parts, bare_properties, bare_params, bare_exprs, bare_stmts, bare_declarators, bare_cases}

abbrev count_template_parts : TemplateParts → ℕ
count_template_parts no_template_part = 0
count_template_parts (more_template_part x xs) = count_template_parts xs + 1

count_bare_template_parts : (xs : List TemplatePart) → count_template_parts (bare_template_parts (plain_template_parts xs)) ≡ length xs
count_bare_template_parts [] = refl
count_bare_template_parts (x ∷ xs) = omega (arith, count_bare_template_parts xs)

pub template_parts_length : (xs ys : List TemplatePart) → bare_template_parts (plain_template_parts xs) ≡ bare_template_parts (plain_template_parts ys) → length xs ≡ length ys
template_parts_length xs ys e = omega (arith, count_bare_template_parts xs, count_bare_template_parts ys, ap count_template_parts e)

abbrev count_properties : Properties → ℕ
count_properties no_property = 0
count_properties (more_property x xs) = count_properties xs + 1

count_bare_properties : (xs : List Property) → count_properties (bare_properties (plain_properties xs)) ≡ length xs
count_bare_properties [] = refl
count_bare_properties (x ∷ xs) = omega (arith, count_bare_properties xs)

pub properties_length : (xs ys : List Property) → bare_properties (plain_properties xs) ≡ bare_properties (plain_properties ys) → length xs ≡ length ys
properties_length xs ys e = omega (arith, count_bare_properties xs, count_bare_properties ys, ap count_properties e)

abbrev count_params : Params → ℕ
count_params no_param = 0
count_params (more_param x xs) = count_params xs + 1

count_bare_params : (xs : List Param) → count_params (bare_params (plain_params xs)) ≡ length xs
count_bare_params [] = refl
count_bare_params (x ∷ xs) = omega (arith, count_bare_params xs)

pub params_length : (xs ys : List Param) → bare_params (plain_params xs) ≡ bare_params (plain_params ys) → length xs ≡ length ys
params_length xs ys e = omega (arith, count_bare_params xs, count_bare_params ys, ap count_params e)

abbrev count_exprs : Exprs → ℕ
count_exprs no_expr = 0
count_exprs (more_expr x xs) = count_exprs xs + 1

count_bare_exprs : (xs : List Expr) → count_exprs (bare_exprs (plain_exprs xs)) ≡ length xs
count_bare_exprs [] = refl
count_bare_exprs (x ∷ xs) = omega (arith, count_bare_exprs xs)

pub exprs_length : (xs ys : List Expr) → bare_exprs (plain_exprs xs) ≡ bare_exprs (plain_exprs ys) → length xs ≡ length ys
exprs_length xs ys e = omega (arith, count_bare_exprs xs, count_bare_exprs ys, ap count_exprs e)

abbrev count_stmts : Stmts → ℕ
count_stmts no_stmt = 0
count_stmts (more_stmt x xs) = count_stmts xs + 1

count_bare_stmts : (xs : List Stmt) → count_stmts (bare_stmts (plain_stmts xs)) ≡ length xs
count_bare_stmts [] = refl
count_bare_stmts (x ∷ xs) = omega (arith, count_bare_stmts xs)

pub stmts_length : (xs ys : List Stmt) → bare_stmts (plain_stmts xs) ≡ bare_stmts (plain_stmts ys) → length xs ≡ length ys
stmts_length xs ys e = omega (arith, count_bare_stmts xs, count_bare_stmts ys, ap count_stmts e)

abbrev count_declarators : Declarators → ℕ
count_declarators no_declarator = 0
count_declarators (more_declarator x xs) = count_declarators xs + 1

count_bare_declarators : (xs : List Declarator) → count_declarators (bare_declarators (plain_declarators xs)) ≡ length xs
count_bare_declarators [] = refl
count_bare_declarators (x ∷ xs) = omega (arith, count_bare_declarators xs)

pub declarators_length : (xs ys : List Declarator) → bare_declarators (plain_declarators xs) ≡ bare_declarators (plain_declarators ys) → length xs ≡ length ys
declarators_length xs ys e = omega (arith, count_bare_declarators xs, count_bare_declarators ys, ap count_declarators e)

abbrev count_cases : Cases → ℕ
count_cases no_case = 0
count_cases (more_case x xs) = count_cases xs + 1

count_bare_cases : (xs : List Case) → count_cases (bare_cases (plain_cases xs)) ≡ length xs
count_bare_cases [] = refl
count_bare_cases (x ∷ xs) = omega (arith, count_bare_cases xs)

pub cases_length : (xs ys : List Case) → bare_cases (plain_cases xs) ≡ bare_cases (plain_cases ys) → length xs ≡ length ys
cases_length xs ys e = omega (arith, count_bare_cases xs, count_bare_cases ys, ap count_cases e)

pub ruleset same_rules = (tree_rules, template_parts_length, properties_length, params_length, exprs_length, stmts_length, declarators_length, cases_length)
