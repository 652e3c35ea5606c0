-- Statements whose first strings are directives, read one by one.
use Rattle.std.proofs.Common.{◌≡◌, Bool, true, false, ◌&&◌, Option, refl, ap, sym, ◌∙◌}
use Rattle.js_terms.specs.declared.place.Loc.{Loc}
use Rattle.js_tree.specs.Plain.{Expr, Stmt, Stmts, no_stmt, more_stmt, push_stmts}
use Rattle.js_tree.specs.Plain as tree
use Rattle.js_reading.specs.Makes.{with_directives}
use Rattle.js_reading.proofs.heights.Heights.{directives_same}
use Rattle.js_build.specs.Prologue.{directed_of, directive_of, is_string, is_string_statement}

pub no_directive : (l : Option Loc) (e : Expr) → is_string e ≡ false → directive_of (tree.Expression l e) ≡ tree.Expression l e
no_directive l (tree.StringLiteral m s) h = cc
no_directive l e h = refl

-- what is made so far, and the rest
abbrev pub joined : Stmts → Stmts → Stmts
joined no_stmt ys = ys
joined (more_stmt x xs) ys = more_stmt x (joined xs ys)

pub joined_push : (xs : Stmts) (x : Stmt) (ys : Stmts) → joined (push_stmts xs x) ys ≡ joined xs (more_stmt x ys)
joined_push no_stmt x ys = refl
joined_push (more_stmt y xs) x ys = ap (more_stmt y) (joined_push xs x ys)

pub joined_end : (xs : Stmts) → joined xs no_stmt ≡ xs
joined_end no_stmt = refl
joined_end (more_stmt y xs) = ap (more_stmt y) (joined_end xs)

-- the rest as it will be
abbrev pub rest : Bool → Stmts → Stmts
rest true ss = with_directives ss
rest false ss = ss

pub rest_next : (s : Stmt) (ss : Stmts) → rest true (more_stmt s ss) ≡ more_stmt (directed_of (is_string_statement s) s) (rest (is_string_statement s) ss)
rest_next (tree.Expression l (tree.StringLiteral m s)) ss = refl
rest_next s ss = refl

pub and_true : (b p s : Bool) → b ≡ true → p ≡ s → p ≡ b && s
and_true b p s q r = rw q r

pub and_false : (b p s : Bool) → b ≡ false → p ≡ false → p ≡ b && s
and_false b p s q r = rw q r

pub directive_turn : (b : Bool) (xs : Stmts) (x s : Stmt) (ss whole : Stmts) → x ≡ directed_of (b && is_string_statement s) s → joined xs (rest b (more_stmt s ss)) ≡ whole → joined (push_stmts xs x) (rest (b && is_string_statement s) ss) ≡ whole
directive_turn true xs x s ss whole is so = joined_push xs x (rest (is_string_statement s) ss) ∙ ap (λ y. joined xs (more_stmt y (rest (is_string_statement s) ss))) is ∙ ap (joined xs) (sym (rest_next s ss)) ∙ so
directive_turn false xs x s ss whole is so = joined_push xs x ss ∙ ap (λ y. joined xs (more_stmt y ss)) is ∙ so

pub directives_end : (b : Bool) (xs ss whole : Stmts) → ss ≡ no_stmt → joined xs (rest b ss) ≡ whole → xs ≡ whole
directives_end true xs ss whole over so = sym (joined_end xs) ∙ ap (λ y. joined xs (rest true y)) (sym over) ∙ so
directives_end false xs ss whole over so = sym (joined_end xs) ∙ ap (joined xs) (sym over) ∙ so

pub ruleset prologue_rules = (joined_push, joined_end, rest_next, directives_same)
